-- Laws: how the words of the contracts are related.
use Rattle.std.specs.Prelude.{◌≡◌, ℕ, List}
use Rattle.dsd_bits.specs.declared.sound.Sound.{Sound}
use Rattle.sound_core.specs.Files.{HoldsSomeRecording, LeadsToSound}

-- a file that holds a recording describes exactly one sound
abbrev pub OneSoundIsStated : Type 0
OneSoundIsStated = (file : List ℕ) → HoldsSomeRecording file → (s : Sound) × LeadsToSound file s × ((t : Sound) → LeadsToSound file t → t ≡ s)
