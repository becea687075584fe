-- Steps that may fail, and what a call returns of them.
use Rattle.std.specs.Prelude.{◌≡◌, ◌⊎◌, Result, Ok, Err}

-- the same steps, with each fault renamed
abbrev pub map_err : {X E F : Type 0} → (E → F) → Result X E → Result X F
map_err f (Ok x) = Ok x
map_err f (Err e) = Err (f e)

-- a call is refused as the steps are, unless memory ran out
abbrev pub FailsUnless : {Y E : Type 0} → E → E → Result Y E → Type 0
FailsUnless memory e steps = (e ≡ memory) ⊎ (steps ≡ Err e)

-- what a call returned, its value as `view` shows it, is the result of the steps, unless memory ran out
abbrev pub GivesUnless : {X Y E : Type 0} → E → (X → Y) → Result X E → Result Y E → Type 0
GivesUnless memory view (Ok x) steps = steps ≡ Ok (view x)
GivesUnless memory view (Err e) steps = FailsUnless memory e steps
