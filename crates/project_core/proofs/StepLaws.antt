-- What a reading by steps is, one step at a time, and what is returned where a step fails.
use Rattle.std.proofs.Common.{◌≡◌, Result, Ok, Err, IsErrAnd, refl}
use Rattle.project_core.specs.declared.fault.ProjectFault.{ProjectFault}
use Rattle.project_core.specs.declared.fault.ProjectFault.TheVariants.{Memory}
use Rattle.project_core.specs.Steps.{◌>>=◌, Fails, Gives}

-- after a step with a value
pub then_fails : {A B : Type 0} (e : ProjectFault) (s : Result A ProjectFault) (f : A → Result B ProjectFault) (x : A) → s ≡ Ok x → Fails e (f x) → Fails e (s >>= f)
then_fails e s f x is h = rw is h

pub then_is : {A B : Type 0} (s : Result A ProjectFault) (f : A → Result B ProjectFault) (x : A) (r : Result B ProjectFault) → s ≡ Ok x → f x ≡ r → s >>= f ≡ r
then_is s f x r is h = rw is h

-- at a step that fails
pub step_fails : {A B : Type 0} (e : ProjectFault) (s : Result A ProjectFault) (f : A → Result B ProjectFault) → Fails e s → Fails e (s >>= f)
step_fails Memory s f h = tt
step_fails e s f h = rw h refl

pub gives_fault : {X Y : Type 0} (view : X → Y) (r : Result X ProjectFault) (e : ProjectFault) (reading : Result Y ProjectFault) → IsErrAnd r (λ x. x ≡ e) → Fails e reading → Gives view r reading
gives_fault view (Ok x) e reading h fails = absurd h
gives_fault view (Err x) e reading h fails = rw h fails
