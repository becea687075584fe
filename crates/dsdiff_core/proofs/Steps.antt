-- Steps that may fail, taken apart.
use Rattle.std.proofs.Common.{◌≡◌, Bool, true, false, cond, not, Option, Some, None, Result, Ok, Err, refl}
use Rattle.chunk_core.specs.Steps.{◌>>=◌}
use Rattle.dsdiff_core.specs.declared.fault.DsdiffFault.{DsdiffFault}
use Rattle.dsdiff_core.specs.declared.fault.DsdiffFault.TheVariants as faults
use Rattle.dsdiff_core.specs.Steps.{Fails, some_or, walked}

-- a fault of the first step is that of both
pub step_fails : {A B : Type 0} (e : DsdiffFault) (r : Result A DsdiffFault) (f : A → Result B DsdiffFault) → Fails e r → Fails e (r >>= f)
step_fails faults.Memory r f h = tt
step_fails e r f h = rw h refl

-- a walk that found its chunks
pub walked_ok : {A : Type 0} (r : Result A _) (x : A) → walked r ≡ Ok x → r ≡ Ok x
walked_ok (Ok y) x e = cc
walked_ok (Err f) x e = absurd cc

-- the value that was there
pub some_ok : {A : Type 0} (e : DsdiffFault) (o : Option A) (x : A) → some_or e o ≡ Ok x → o ≡ Some x
some_ok e None x h = absurd cc
some_ok e (Some y) x h = cc

-- a value under a test, with a fault after it
pub under_ok : {A : Type 0} (b : Bool) (x y : A) (e : DsdiffFault) → cond b (Ok x) (Err e) ≡ Ok y → (b ≡ true) × (x ≡ y)
under_ok true x y e h = (refl, cc)
under_ok false x y e h = absurd cc

pub not_false : (b : Bool) → not b ≡ false → b ≡ true
not_false true e = refl
not_false false e = absurd cc
