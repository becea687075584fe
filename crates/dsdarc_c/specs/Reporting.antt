-- What a player reports of the sound that it plays, and why it reports nothing.
use Rattle.std.specs.Prelude.{◌≡◌, ◌/◌, None, Some}
use Rattle.dsd_bits.specs.declared.sound.Sound.{Sound}
use Rattle.fir_core.specs.Decimator.{Decimator}
use Rattle.player_core.specs.Laws.{total_frames}
use Rattle.dsdarc_c.specs.Pushing.{IsPushedHeader, KeepsSound}
use Rattle.dsdarc_c.specs.declared.fault.PlayFault.{PlayFault}
use Rattle.dsdarc_c.specs.declared.fault.PlayFault.TheVariants as faults
use Rattle.dsdarc_c.specs.declared.info.Info.{Info}
use Rattle.dsdarc_c.specs.declared.pushing.Pushing.{Pushing}

-- these fields describe what is played of a sound: the number of frames, the rate of the sound and that of the frames,
-- and the channels and the bits of a sample
pub record IsInfoOf (d : Decimator) (s : Sound) (info : Info) : Type 0 where
  pub frames : info.frames ≡ total_frames d s
  pub rate_in : info.rate_in ≡ s.rate
  pub rate : info.rate ≡ s.rate / d.factor
  pub channels : info.channels ≡ s.channels
  pub width : info.width ≡ d.width

-- these fields describe the sound that the pushed header states; in the sound and after it, this is the sound that is
-- played
pub record ReportsSound (p : Pushing) (info : Info) : Type 0 where
  pub sound : Sound
  pub kept : p.stated ≡ Some sound
  pub header : IsPushedHeader p.header.items sound
  pub played : KeepsSound p.stage (Some sound)
  pub fields : IsInfoOf p.taps sound info

-- the player knows no sound: so it is neither in the sound nor after it
abbrev pub KnowsNoSound : Pushing → Type 0
KnowsNoSound p = (p.stated ≡ None) × KeepsSound p.stage None

-- nothing is reported: the player knows no sound
abbrev pub RefusesInfo : Pushing → PlayFault → Type 0
RefusesInfo p faults.NotYet = KnowsNoSound p
RefusesInfo p _ = ⊥
