-- What is written around the frames, by the WAVE writer's parts.
use Rattle.std.proofs.Common.{◌≡◌, ℕ, ◌/◌, ◌%◌, List, [], ◌++◌, Option, ap, ap₂, ◌∙◌, subst}
use Rattle.std.specs.Io.KnownBytes.{Appends}
use Rattle.dsd_bits.specs.declared.sound.Sound.{Sound}
use Rattle.fir_core.specs.Decimator.{Decimator}
use Rattle.player_core.specs.Laws.{total_frames}
use Rattle.wave_core.specs.Contents.{spec_of}
use Rattle.wave_core.specs.Heads.{FitsIn, header_in}
use Rattle.wave_core.specs.Texts.{pad_bytes}
use Rattle.wave_core.specs.declared.head.WaveHead.{WaveHead}
use Rattle.wave_core.specs.declared.spec.WaveSpec.{WaveSpec}
use Rattle.player_core.specs.Wave.{OpensWave, sound_header, pad_of}

module _ (d : Decimator) (s : Sound) (spec : WaveSpec) (n : ℕ) (old made : List ℕ) (spec_is : spec ≡ spec_of s.channels (s.rate / d.factor) d.width) (number : n ≡ total_frames d s) (none : old ≡ []) where
  pub header_is : (head : WaveHead) → made ≡ old ++ header_in head spec.channels spec.rate spec.width n → made ≡ sound_header head d s
  header_is head is = is ∙ ap (λ xs. xs ++ header_in head spec.channels spec.rate spec.width n) none ∙ ap₂ (λ (t : WaveSpec) m. header_in head t.channels t.rate t.width m) spec_is number

  pub pad_is : made ≡ old ++ pad_bytes spec.channels spec.width n → made ≡ pad_of d s
  pad_is is = is ∙ ap (λ xs. xs ++ pad_bytes spec.channels spec.width n) none ∙ ap₂ (λ (t : WaveSpec) m. pad_bytes t.channels t.width m) spec_is number

  pub opens_wave : (head : WaveHead) (bytes : List ℕ) (a b : Option (List ℕ)) → s.rate % d.factor ≡ 0 → FitsIn head spec.channels spec.width n → bytes ≡ sound_header head d s → Appends a b bytes → OpensWave head d s a b
  opens_wave head bytes a b divided fits is out = record {
    divided = divided;
    fits = subst (FitsIn head s.channels d.width) number (subst (λ (t : WaveSpec). FitsIn head t.channels t.width n) spec_is fits);
    written = subst (Appends a b) is out;
  }
