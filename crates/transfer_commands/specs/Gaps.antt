-- Which bytes of a file are passed over where a part of its sound is played.
use Rattle.std.specs.Prelude.{◌≡◌, ℕ, ◌+◌, ◌-◌, ◌^◌, ◌<◌, ◌≤◌, ◌⊎◌, List}
use Rattle.dsd_bits.specs.declared.sound.Sound.{Sound}
use Rattle.dsd_bits.specs.declared.stretches.BitRange.{BitRange}
use Rattle.fir_core.specs.Decimator.{Decimator, IsWithinLimits}
use Rattle.folder_core.specs.GappedFiles.{LiesInGap}
use Rattle.folder_core.specs.declared.gapped_file.Gaps.{Gaps}
use Rattle.player_core.specs.Groups.{place_in}
use Rattle.player_core.specs.declared.range.WaveRange.{WaveRange}
use Rattle.request_core.specs.Projects.{SaysDecimator}
use Rattle.sound_core.specs.Files.{LeadsToSound}
use Rattle.transfer_core.specs.Unread.{IsOfSound, IsReadBy, ReadsBit, byte_of_bit}

-- the gaps hold no byte
abbrev pub AreEmpty : Gaps → Type 0
AreEmpty gaps = (place : ℕ) → LiesInGap gaps place 1 → ⊥

-- the gaps hold bytes of the sound only
abbrev pub LieInSound : Sound → Gaps → Type 0
LieInSound s gaps = (place : ℕ) → LiesInGap gaps place 1 → IsOfSound s place

-- the gaps hold no bit that a frame from `start` to `stop - 1` reads, whichever filter with this factor plays it
abbrev pub HoldNoBitOf : Sound → ℕ → ℕ → ℕ → Gaps → Type 0
HoldNoBitOf s factor start stop gaps = (d : Decimator) → IsWithinLimits d → d.factor ≡ factor → (j i c : ℕ) → start ≤ j → j < stop → ReadsBit d j i → i < s.count → c < s.channels
    → LiesInGap gaps (byte_of_bit s c i) 1 → ⊥

-- the gaps hold no bit of a range of a sound
abbrev pub HoldNoBitIn : Sound → BitRange → Gaps → Type 0
HoldNoBitIn s range gaps = (i c : ℕ) → range.start ≤ i → i < range.stop → i < s.count → c < s.channels → LiesInGap gaps (byte_of_bit s c i) 1 → ⊥

-- the prefix of a file leads to a sound, and the gaps hold only bytes of it, none of which holds a bit that the range's
-- frames read by the project's filter
pub record AreUnread (project : List ℕ) (range : WaveRange) (prefix : List ℕ) (s : Sound) (gaps : Gaps) : Type 0 where
  pub leads : LeadsToSound prefix s
  pub in_sound : LieInSound s gaps
  pub unread : (d : Decimator) → SaysDecimator project d → (place : ℕ) → LiesInGap gaps place 1 → IsReadBy d s range place → ⊥

-- a file without its gaps is enough to play the range: they hold no byte, or only such as no frame reads
abbrev pub AreNotNeeded : List ℕ → WaveRange → List ℕ → Gaps → Type 0
AreNotNeeded project range prefix gaps = AreEmpty gaps ⊎ ((s : Sound) × AreUnread project range prefix s gaps)

-- this is the factor of the project's filter
abbrev pub IsFactorOf : List ℕ → ℕ → Type 0
IsFactorOf project factor = (d : Decimator) → SaysDecimator project d → d.factor ≡ factor

-- ---- stages
-- the gaps hold no byte of the sound from one on up to another that is not among them; the largest number of 64 bits
-- stands for the sound's end
abbrev pub HoldNoneBetween : Sound → ℕ → ℕ → Gaps → Type 0
HoldNoneBetween s from to gaps = (p : ℕ) → from ≤ p → (p < to) ⊎ (2 ^ 64 - 1 ≤ to) → LiesInGap gaps (s.start + p) 1 → ⊥

-- no byte of a channel from this one on is among the first `all` of the sound
abbrev pub LieAfter : Sound → ℕ → ℕ → Type 0
LieAfter s first all = (c p : ℕ) → first ≤ p → all ≤ place_in s.interleaving s.channels c p

-- each byte of a channel up to this one is among the first `all` of the sound; the largest number of 64 bits stands for
-- all
abbrev pub LieBefore : Sound → ℕ → ℕ → Type 0
LieBefore s last all = s.channels ≤ 6 → (c p : ℕ) → c < s.channels → p ≤ last → (place_in s.interleaving s.channels c p < all) ⊎ (2 ^ 64 - 1 ≤ all)
