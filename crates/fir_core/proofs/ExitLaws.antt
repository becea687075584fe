-- What a function returns where it ends with a fault.
use Rattle.std.specs.Result.{is_err}
use Rattle.std.proofs.Common.{◌≡◌, true, Result, Ok, Err, OnErr}

-- what holds on Err, of a result that is one
pub there_err : {X E : Type 0} {P : Type 0} (r : Result X E) → is_err r ≡ true → OnErr r P → P
there_err (Ok x) is p = absurd cc
there_err (Err e) is p = p
