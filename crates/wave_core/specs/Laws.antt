-- Laws: how the parts of a WAVE file make the whole, whatever its header.
use Rattle.std.specs.Prelude.{◌≡◌, ℕ, ◌*◌, ◌≤◌, List, ◌++◌, drop, length, Some, None}
use Rattle.std.specs.List.{flat_map}
use Rattle.wave_core.specs.Contents.{Pcm}
use Rattle.wave_core.specs.Heads.{FitsIn, header_in, header_size_in, limit_of, size_in, text_in}
use Rattle.wave_core.specs.Texts.{pad_bytes, sample_bytes}
use Rattle.wave_core.specs.declared.head.WaveHead.{WaveHead}

-- the file of whole frames is its parts one after the other; if they are too large, there is none
pub record IsJoined (head : WaveHead) (p : Pcm) (frames : ℕ) : Type 0 where
  pub whole : FitsIn head p.channels p.width frames → text_in head p ≡ Some (header_in head p.channels p.rate p.width frames ++ (flat_map (sample_bytes p.width) p.samples ++ pad_bytes p.channels p.width frames))
  pub too_large : limit_of head ≤ size_in head p.channels p.width frames → text_in head p ≡ None

-- samples in whole frames are joined like this
abbrev pub PartsJoin : Type 0
PartsJoin = (head : WaveHead) (p : Pcm) (frames : ℕ) → 1 ≤ p.channels → length p.samples ≡ frames * p.channels → IsJoined head p frames

-- after its header, each file of the same samples has the same bytes
abbrev pub SoundIsSame : Type 0
SoundIsSame = (p : Pcm) (head other : WaveHead) (file second : List ℕ) → text_in head p ≡ Some file → text_in other p ≡ Some second
    → drop (header_size_in head p.channels p.width) file ≡ drop (header_size_in other p.channels p.width) second
