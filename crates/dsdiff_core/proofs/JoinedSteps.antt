-- Steps that may fail, put together.
use Rattle.std.proofs.Common.{◌≡◌, Result, Ok, refl}
use Rattle.chunk_core.specs.declared.fault.ChunkFault.{ChunkFault}
use Rattle.chunk_core.specs.declared.fault.ChunkFault.TheVariants.{Memory, HeadCut, DataCut}
use Rattle.chunk_core.specs.Steps.{◌>>=◌, Fails as WalkFails}
use Rattle.dsdiff_core.specs.declared.fault.DsdiffFault.{DsdiffFault}
use Rattle.dsdiff_core.specs.Steps.{Fails, chunk_fault, walked}

-- what comes after a step that succeeded
pub step_then : {A B : Type 0} (r : Result A DsdiffFault) (x : A) (f : A → Result B DsdiffFault) (z : Result B DsdiffFault) → r ≡ Ok x → f x ≡ z → (r >>= f) ≡ z
step_then r x f z h k = rw h k

-- a fault after a step that succeeded
pub fails_then : {A B : Type 0} (e : DsdiffFault) (r : Result A DsdiffFault) (x : A) (f : A → Result B DsdiffFault) → r ≡ Ok x → Fails e (f x) → Fails e (r >>= f)
fails_then e r x f h k = rw h k

-- a walk's fault is one of the file
pub walk_fails : {A : Type 0} (f : ChunkFault) (r : Result A ChunkFault) → WalkFails f r → Fails (chunk_fault f) (walked r)
walk_fails Memory r h = tt
walk_fails (HeadCut at) r h = rw h refl
walk_fails (DataCut at id size) r h = rw h refl
