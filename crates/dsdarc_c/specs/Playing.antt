-- A sound that is played piece by piece from a frame on, with the filter apart.
use Rattle.std.specs.Prelude.{◌≡◌, ◌<◌, ℕ, List, ◌++◌, length, Option, None, Some}
use Rattle.dsd_bits.specs.declared.sound.Sound.{Sound}
use Rattle.fir_core.specs.Decimator.{Decimator}
use Rattle.player_core.specs.Laws.{total_frames}
use Rattle.player_core.specs.PartView.{IsPartFed, IsPartOf, IsPartPlayer, part_all, part_due, part_rest}
use Rattle.player_core.specs.PausedView.{IsPausedPart}
use Rattle.player_core.specs.declared.pausing.PausedPart.{PausedPart}
use Rattle.player_core.specs.declared.parts.PartPlayer.{PartPlayer}

-- this player pauses: it plays the frames of the sound from one on, was fed these bytes, and gave the bytes of the
-- frames that were due
pub record HasPlayed (d : Decimator) (s : Sound) (start : ℕ) (before given : List ℕ) (p : PartPlayer) (q : PausedPart) : Type 0 where
  pub paused : IsPausedPart p q
  pub part : IsPartOf d s start (total_frames d s) p
  pub ready : IsPartPlayer p
  pub fed : IsPartFed p before
  pub due : part_due p before ≡ given

-- a player that pauses plays this, and follows another: it plays the same rest of the sound, from the same start
abbrev pub IsFollowed : Decimator → Sound → ℕ → List ℕ → List ℕ → PartPlayer → PausedPart → Type 0
IsFollowed d s start before given p q =
    (new : PartPlayer) × (part_rest new ≡ part_rest p) × (new.start ≡ p.start) × HasPlayed d s start before given new q

-- after these bytes more was given: what was due then, by a player that goes on for the bytes that are to come, or all
-- others
abbrev pub PlaysOn : Decimator → Sound → ℕ → List ℕ → List ℕ → List ℕ → List ℕ → List ℕ → PartPlayer → Option PausedPart
    → Type 0
PlaysOn d s start before bytes given pending_old pending_new p None =
    (more : List ℕ) × (pending_new ≡ pending_old ++ more) × (length (before ++ bytes) ≡ (part_rest p).size)
    × (given ++ more ≡ part_all p (before ++ bytes))
PlaysOn d s start before bytes given pending_old pending_new p (Some q) =
    (more : List ℕ) × (pending_new ≡ pending_old ++ more) × (length (before ++ bytes) < (part_rest p).size)
    × IsFollowed d s start (before ++ bytes) (given ++ more) p q
