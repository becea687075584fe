-- What a result that is a fault says, and what it says nothing of: for the exits of `?`.
use Rattle.std.proofs.Common.{Result, Ok, Err, IfOk, OnOk, OnErr, IsErrAnd}

-- a fault says nothing of what holds on Ok
pub no_ok : {X E : Type 0} (P : E → Type 0) (Q : Type 0) (r : Result X E) → IsErrAnd r P → OnOk r Q
no_ok P Q (Ok x) h = absurd h
no_ok P Q (Err e) h = tt

-- nor a value
pub no_value : {X E : Type 0} (P : E → Type 0) (Q : X → Type 0) (r : Result X E) → IsErrAnd r P → IfOk r Q
no_value P Q (Ok x) h = absurd h
no_value P Q (Err e) h = tt

-- what holds anyway holds on Err
pub any_err : {X E : Type 0} {P : Type 0} (r : Result X E) → P → OnErr r P
any_err (Ok x) p = tt
any_err (Err e) p = p
