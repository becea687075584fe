-- Where a seek goes, and why one is refused.
use Rattle.std.specs.Prelude.{◌≡◌, ◌<◌, ◌≤◌, ◌+◌, ℕ, ⊤}
use Rattle.dsd_bits.specs.declared.sound.Sound.{Sound}
use Rattle.player_core.specs.Laws.{total_frames}
use Rattle.dsdarc_c.specs.Pushing.{IsInHeader, IsPushedHeader}
use Rattle.dsdarc_c.specs.declared.fault.PlayFault.{PlayFault}
use Rattle.dsdarc_c.specs.declared.fault.PlayFault.TheVariants as faults
use Rattle.dsdarc_c.specs.declared.pushing.Pushing.{Pushing}
use Rattle.dsdarc_c.specs.declared.pushing.Stage.TheVariants as stages

-- a seek goes to this frame: the sound that the header states has it, and the file is pushed on from this place of it
pub record GoesTo (p : Pushing) (frame place : ℕ) : Type 0 where
  pub sound : Sound
  pub header : IsPushedHeader p.header.items sound
  pub has : frame ≤ total_frames p.taps sound
  pub from : sound.start ≤ place
  pub to : place ≤ sound.start + sound.size

-- a seek is refused: before the sound is known, after another refusal, because the sound has no such frame, or for
-- memory
abbrev pub RefusesSeek : Pushing → ℕ → PlayFault → Type 0
RefusesSeek p frame faults.NotYet = IsInHeader p.stage
RefusesSeek p frame faults.AfterFault = p.stage ≡ stages.Failed
RefusesSeek p frame faults.PastEnd = (s : Sound) × IsPushedHeader p.header.items s × (total_frames p.taps s < frame)
RefusesSeek p frame faults.Memory = ⊤
RefusesSeek p frame _ = ⊥
