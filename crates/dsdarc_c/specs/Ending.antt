-- Whether a file that ends where the next byte would be pushed is accepted.
use Rattle.std.specs.Prelude.{◌≡◌, ◌≤◌, ◌+◌, ℕ, List, length, ⊤}
use Rattle.dsd_bits.specs.declared.sound.Sound.{Sound}
use Rattle.sound_core.specs.Files.{HoldsSomeRecording, IsRefused}
use Rattle.dsdarc_c.specs.Whole.{BeginsWith, KeepsForm, PlaysPushedFile}
use Rattle.dsdarc_c.specs.declared.fault.PlayFault.{PlayFault}
use Rattle.dsdarc_c.specs.declared.fault.PlayFault.TheVariants as faults
use Rattle.dsdarc_c.specs.declared.pushing.Pushing.{Pushing}
use Rattle.dsdarc_c.specs.declared.pushing.Stage.TheVariants as stages

-- the file has this many bytes, begins with this header, and holds all bytes of this sound and these after it
pub record EndsAfterSound (file header : List ℕ) (s : Sound) (back : List ℕ) (total : ℕ) : Type 0 where
  pub long : length file ≡ total
  pub begins : BeginsWith file header
  pub in_file : s.start + s.size ≤ total
  pub form : KeepsForm file header s total back

-- the player plays this file, and its next byte would come right after the file's last
abbrev pub IsAtEndOf : List ℕ → Pushing → Type 0
IsAtEndOf file p = (start : ℕ) × (pulled : List ℕ) × PlaysPushedFile file start pulled p × (length file ≡ p.place)

-- an end is accepted: a file that ends here holds a recording
pub record AcceptsEnd (p : Pushing) : Type 0 where
  pub before_fault : p.stage ≡ stages.Failed → ⊥
  pub holds : (file : List ℕ) → IsAtEndOf file p → HoldsSomeRecording file

-- an end is refused: because a file that ends here holds no recording, after another refusal, or for memory
abbrev pub RefusesEnd : Pushing → PlayFault → Type 0
RefusesEnd p faults.FileRefused = (p.stage ≡ stages.Failed → ⊥) × ((file : List ℕ) → IsAtEndOf file p → IsRefused file)
RefusesEnd p faults.AfterFault = p.stage ≡ stages.Failed
RefusesEnd p faults.Memory = ⊤
RefusesEnd p _ = ⊥
