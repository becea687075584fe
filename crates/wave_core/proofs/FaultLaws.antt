-- `Memory` is reported only when memory ran out.
use Rattle.std.proofs.Common.{◌≡◌, Result, Ok, Err, IsErrAnd, subst, sym}
use Rattle.wave_core.specs.declared.fault.WaveFault.{WaveFault}
use Rattle.wave_core.specs.declared.fault.WaveFault.TheVariants.{TooLarge, Memory}

-- what holds of no fault but this
abbrev IsMemory : WaveFault → Type 0
IsMemory TooLarge = ⊥
IsMemory Memory = Unit

-- running out of memory isn't reported as a file too large
pub memory_stated : {T : Type 0} (r : Result T WaveFault) (Large : Type 0) → IsErrAnd r (λ e. e ≡ Memory) → (Large → ⊥) → (r ≡ Err TooLarge → Large) × (Large → r ≡ Err TooLarge)
memory_stated (Ok x) Large h fits = absurd h
memory_stated (Err e) Large h fits = (λ is. absurd (subst (λ r. IsErrAnd r IsMemory) is (subst IsMemory (sym h) tt)), λ large. absurd (fits large))

-- nor a text that is there
pub made_stated : {T : Type 0} (x : T) (Large : Type 0) → (Large → ⊥) → (Ok x ≡ Err TooLarge → Large) × (Large → Ok x ≡ Err TooLarge)
made_stated x Large fits = (λ is. absurd cc, λ large. absurd (fits large))
