-- Files that differ in bytes of their sound which a command doesn't look at.
use Rattle.std.specs.Prelude.{◌≡◌, ◌<◌, ◌≤◌, ℕ, ◌+◌, ◌*◌, ◌/◌, List, ◌++◌, length, slice_index, Err}
use Rattle.dsd_bits.specs.declared.sound.Sound.{Sound}
use Rattle.fir_core.specs.Decimator.{Decimator}
use Rattle.form_core.specs.Opening.{opened_of}
use Rattle.form_core.specs.declared.fault.ReadFault.{ReadFault}
use Rattle.player_core.specs.Groups.{place_in}
use Rattle.player_core.specs.Ranges.{HasFrame}
use Rattle.player_core.specs.declared.range.WaveRange.{WaveRange}
use Rattle.request_core.specs.Projects.{SaysDecimator}
use Rattle.sound_core.specs.Files.{LeadsToSound}
use Rattle.sound_core.specs.Outlines.{AreAround, AreStated, Surroundings}
use Rattle.transfer_core.specs.Streaming.{PlaysRange}

-- frame j reads bit i of each channel: one of the filter's taps lies on it
abbrev pub ReadsBit : Decimator → ℕ → ℕ → Type 0
ReadsBit d j i = (tap : ℕ) × (tap < length d.taps) × (i + tap ≡ j * d.factor + d.delay)

-- the byte of the file that holds bit i of channel c
abbrev pub byte_of_bit : Sound → ℕ → ℕ → ℕ
byte_of_bit s c i = s.start + place_in s.interleaving s.channels c (i / 8)

-- the byte at this place is one of the sound
abbrev pub IsOfSound : Sound → ℕ → Type 0
IsOfSound s place = (s.start ≤ place) × (place < s.start + s.size)

-- the byte at this place holds a bit that a frame of the range reads
abbrev pub IsReadBy : Decimator → Sound → WaveRange → ℕ → Type 0
IsReadBy d s range place = (j : ℕ) × (i : ℕ) × (c : ℕ) × HasFrame range j × ReadsBit d j i × (i < s.count) × (c < s.channels) × (place ≡ byte_of_bit s c i)

-- the byte at this place is one of the sound, and holds no bit that a frame of the range reads
abbrev pub IsUnreadBy : Decimator → Sound → WaveRange → ℕ → Type 0
IsUnreadBy d s range place = IsOfSound s place × (IsReadBy d s range place → ⊥)

-- two files are as long, and the same but for bytes at such places
pub record AreSameBut (P : ℕ → Type 0) (file other : List ℕ) : Type 0 where
  pub long : length other ≡ length file
  pub same : (place : ℕ) → (P place → ⊥) → slice_index other place ≡ slice_index file place

-- ---- laws

-- of two files that differ only in bytes that no frame of a range reads, that range plays the same
abbrev pub UnreadDoNotMatter : Type 0
UnreadDoNotMatter = (project prefix rest other bytes : List ℕ) (d : Decimator) (s : Sound) (range : WaveRange) → LeadsToSound prefix s → SaysDecimator project d → AreSameBut (IsUnreadBy d s range) (prefix ++ rest) (prefix ++ other)
    → PlaysRange project range (prefix ++ rest) bytes → PlaysRange project range (prefix ++ other) bytes

-- two files that differ only in their sound have the same first fault, and the same outlines
pub record SoundDoesNotMatter : Type 0 where
  pub fault : (prefix rest other : List ℕ) (s : Sound) (e : ReadFault) → LeadsToSound prefix s → AreSameBut (IsOfSound s) (prefix ++ rest) (prefix ++ other) → opened_of (prefix ++ rest) ≡ Err e → opened_of (prefix ++ other) ≡ Err e
  pub around : (prefix rest other : List ℕ) (s : Sound) (o : Surroundings) → LeadsToSound prefix s → AreSameBut (IsOfSound s) (prefix ++ rest) (prefix ++ other) → AreStated o → AreAround o (prefix ++ rest) → AreAround o (prefix ++ other)
