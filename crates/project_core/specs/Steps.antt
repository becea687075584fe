-- Steps of reading that may fail.
use Rattle.std.specs.Prelude.{◌≡◌, ℕ, ◌+◌, List, [], ◌∷◌, Option, Some, None, Result, Ok, Err}
use Rattle.project_core.specs.declared.fault.ProjectFault.{ProjectFault}
use Rattle.project_core.specs.declared.fault.ProjectFault.TheVariants.{Memory}

infixl 10 ◌>>=◌
-- what follows a value, if there is one
abbrev pub ◌>>=◌ : {A B : Type 0} → Result A ProjectFault → (A → Result B ProjectFault) → Result B ProjectFault
(Ok x) >>= f = f x
(Err e) >>= f = Err e

-- the reading has this fault; running out of memory is no fault of a reading and says nothing of it
abbrev pub Fails : {Y : Type 0} → ProjectFault → Result Y ProjectFault → Type 0
Fails Memory reading = Unit {0}
Fails e reading = reading ≡ Err e

-- what a function returned, its value as `view` shows it, is the reading, unless memory ran out
abbrev pub Gives : {X Y : Type 0} → (X → Y) → Result X ProjectFault → Result Y ProjectFault → Type 0
Gives view (Ok x) reading = reading ≡ Ok (view x)
Gives view (Err e) reading = Fails e reading

-- what f gives for each item and its number, counted from i on, or the first fault
abbrev pub each : {A B : Type 0} → (ℕ → A → Result B ProjectFault) → ℕ → List A → Result (List B) ProjectFault
each f i [] = Ok []
each f i (x ∷ xs) = do
  y ← f i x
  ys ← each f (i + 1) xs
  Ok (y ∷ ys)

-- what f gives of the value, if there is one
abbrev pub optional : {A B : Type 0} → (A → Result B ProjectFault) → Option A → Result (Option B) ProjectFault
optional f None = Ok None
optional f (Some x) = do
  y ← f x
  Ok (Some y)
