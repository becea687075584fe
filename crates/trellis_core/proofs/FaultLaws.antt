-- A fault of a search is `Memory` or the sink's, and never both.
use Rattle.std.proofs.Common.{◌≡◌, Bool, true, false, Result, Ok, Err, IsErrAnd, IsErrOf, MatchResult, ap, ◌∙◌}
use Rattle.trellis_core.specs.declared.fault.BridgeFault.{BridgeFault}
use Rattle.trellis_core.specs.declared.fault.BridgeFault.TheVariants.{Memory, Sink}

pub not_memory : {X : Type 0} {Q : Type 0} (r : Result X BridgeFault) (b : BridgeFault) → r ≡ Err b → b ≡ Sink → r ≡ Err Memory → Q
not_memory r b is sink memory = absurd cc

pub not_sink : {X : Type 0} (r : Result X BridgeFault) (b : BridgeFault) → r ≡ Err b → b ≡ Memory → r ≡ Err Sink → ⊥
not_sink r b is memory sink = absurd cc

pub true_or_false : (b : Bool) → b ≡ true → b ≡ false → ⊥
true_or_false b is is_not = absurd cc

pub not_refused : {X : Type 0} {Q : Type 0} (x : X) (b : BridgeFault) → Ok x ≡ Err b → Q
not_refused x b is = absurd cc

-- `?` passes a fault on unchanged
pub fault_before : {X Y : Type 0} (r : Result X BridgeFault) (b f d : BridgeFault) → r ≡ Err b → b ≡ f → IsErrOf r d → IsErrOf {T = Y} (Err f) d
fault_before r b f d is same stated = let e : f ≡ d = cc in ap Err e

pub fault_after : {X Y : Type 0} (r : Result X BridgeFault) (b f d : BridgeFault) → r ≡ Err b → b ≡ f → IsErrOf {T = Y} (Err f) d → IsErrOf r d
fault_after r b f d is same stated = let e : f ≡ d = cc in is ∙ ap Err (same ∙ e)

-- what a fault says, whichever it is
pub fault_says : {X E Q : Type 0} (P : Type 0) (R : E → Type 0) (r : Result X E) → IsErrAnd r R → Q → MatchResult r (λ _. P) (λ _. Q)
fault_says P R (Ok x) h q = absurd h
fault_says P R (Err e) h q = q
