-- Laws: how the words of the contracts are related.
use Rattle.std.specs.Prelude.{◌≡◌, ◌↔◌, ℕ, List, ◌++◌, length, take}
use Rattle.dsd_bits.specs.declared.blocks.BitOrder.{BitOrder}
use Rattle.dsd_bits.specs.declared.sound.Sound.{Sound}
use Rattle.dsd_bits.specs.declared.sound.SoundAt.TheVariants.{Found}
use Rattle.dsd_bits.specs.Contents.{Content}
use Rattle.dsd_bits.specs.Sounds.{HasSound}
use Rattle.dsf_core.specs.Files.{IsDsf}
use Rattle.dsf_core.specs.Headers.{EndsAtSound, HoldsHead, IsAccepted, StatesSound, sound_at}

-- a file holds at most one recording, in one order of bits
abbrev pub OneRecording : Type 0
OneRecording = (file : List ℕ) (r s : Content) (order other : BitOrder) → IsDsf file r order → IsDsf file s other → (r ≡ s) × (order ≡ other)

-- the bytes after the prefix of a file may be replaced by as many others: a file that is accepted stays accepted
abbrev pub SoundDoesNotMatter : Type 0
SoundDoesNotMatter = (prefix rest other : List ℕ) → EndsAtSound prefix → length rest ≡ length other → IsAccepted (prefix ++ rest) → IsAccepted (prefix ++ other)

-- a file that is accepted holds the header of its sound
abbrev pub SoundHasHead : Type 0
SoundHasHead = (file : List ℕ) → IsAccepted file → HoldsHead file

-- reading a prefix in order finds a sound exactly if the prefix describes it
abbrev pub FoundIsStated : Type 0
FoundIsStated = (prefix : List ℕ) (s : Sound) → (sound_at prefix ≡ Found s) ↔ StatesSound prefix s

-- a file that holds a recording describes its sound
abbrev pub SoundIsStated : Type 0
SoundIsStated = (file : List ℕ) (r : Content) (order : BitOrder) → IsDsf file r order → (s : Sound) × StatesSound file s × HasSound file r s

-- the prefix of a file, cut where the sound starts, describes the same sound
abbrev pub HeaderEndsAtSound : Type 0
HeaderEndsAtSound = (prefix : List ℕ) (s : Sound) → sound_at prefix ≡ Found s → sound_at (take s.start prefix) ≡ Found s
