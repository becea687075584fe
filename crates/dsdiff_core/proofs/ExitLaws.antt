-- What a function returns where it ends with a fault.
use Rattle.std.proofs.Common.{◌≡◌, Result, Ok, Err, IsErrAnd}
use Rattle.dsdiff_core.specs.declared.fault.DsdiffFault.{DsdiffFault}
use Rattle.dsdiff_core.specs.Steps.{Fails, Gives}

-- the fault of the reading
pub fault_at : {X Y : Type 0} (view : X → Y) (e : DsdiffFault) (r : Result X DsdiffFault) (reading : Result Y DsdiffFault) → IsErrAnd r (λ f. f ≡ e) → Fails e reading → Gives view r reading
fault_at view e (Ok x) reading h k = absurd h
fault_at view e (Err f) reading h k = rw h k

-- the same if memory can't run out
pub exact_at : {X : Type 0} (e : DsdiffFault) (r reading : Result X DsdiffFault) → IsErrAnd r (λ f. f ≡ e) → reading ≡ Err e → reading ≡ r
exact_at e (Ok x) reading h k = absurd h
exact_at e (Err f) reading h k = rw h k
