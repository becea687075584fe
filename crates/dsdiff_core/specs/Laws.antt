-- Laws: how the words of the contracts are related.
use Rattle.std.specs.Prelude.{◌≡◌, ◌≤◌, ◌↔◌, ℕ, ◌+◌, List, ◌++◌, length, take}
use Rattle.dsd_bits.specs.declared.sound.Sound.{Sound}
use Rattle.dsd_bits.specs.declared.sound.SoundAt.TheVariants.{Found}
use Rattle.dsd_bits.specs.Contents.{Content}
use Rattle.dsd_bits.specs.Lacing.{unlaced_all}
use Rattle.dsd_bits.specs.Sounds.{HasSound}
use Rattle.dsdiff_core.specs.Fields.{form_size}
use Rattle.dsdiff_core.specs.Files.{IsDsdiff}
use Rattle.dsdiff_core.specs.Headers.{EndsAt, HoldsHead, IsAccepted, StatesSound, sound_at}

-- a file holds at most one recording
abbrev pub OneRecording : Type 0
OneRecording = (file : List ℕ) (r s : Content) → IsDsdiff file r → IsDsdiff file s → r ≡ s

-- a file with as many other sound bytes holds the same recording, except for its channels, which are these bytes
abbrev pub OtherSound : Type 0
OtherSound =
    (prefix sound other back : List ℕ) (s : Sound) (r : Content) → EndsAt prefix s → length sound ≡ s.size → length other ≡ s.size → IsDsdiff (prefix ++ (sound ++ back)) r
    → IsDsdiff (prefix ++ (other ++ back)) (record r { channels = unlaced_all other s.channels })

-- a file that is accepted holds the header of its sound
abbrev pub SoundHasHead : Type 0
SoundHasHead = (file : List ℕ) → IsAccepted file → HoldsHead file

-- reading a prefix in order finds a sound exactly if the prefix describes it
abbrev pub FoundIsStated : Type 0
FoundIsStated = (prefix : List ℕ) (s : Sound) → (sound_at prefix ≡ Found s) ↔ StatesSound prefix s

-- a file that holds a recording describes its sound
abbrev pub SoundIsStated : Type 0
SoundIsStated = (file : List ℕ) (r : Content) → IsDsdiff file r → (s : Sound) × StatesSound file s × HasSound file r s

-- the prefix of a file, cut where the sound starts, describes the same sound
abbrev pub HeaderEndsAtSound : Type 0
HeaderEndsAtSound = (prefix : List ℕ) (s : Sound) → sound_at prefix ≡ Found s → sound_at (take s.start prefix) ≡ Found s

-- bytes after the form, if its last pad is there, change nothing of what the file holds
abbrev pub FormEnds : Type 0
FormEnds = (file rest : List ℕ) (r : Content) → 12 + form_size file ≤ length file → IsDsdiff file r ↔ IsDsdiff (file ++ rest) r
