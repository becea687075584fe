-- Laws: how the words of the contracts are related.
use Rattle.std.specs.Prelude.{◌≡◌, ◌↔◌, ℕ, List, Ok}
use Rattle.clip_core.specs.Mixes.{MixContent}
use Rattle.mix_core.specs.Meaning.{IsMix}
use Rattle.mix_core.specs.ReadingMix.{mix_at}

-- a text describes at most one mix
abbrev pub OneMix : Type 0
OneMix = (bytes : List ℕ) (x y : MixContent) → IsMix bytes x → IsMix bytes y → x ≡ y

-- reading in order returns a mix exactly if the text describes it
abbrev pub ReadAsSaid : Type 0
ReadAsSaid = (bytes : List ℕ) (x : MixContent) → (mix_at bytes ≡ Ok x) ↔ IsMix bytes x
