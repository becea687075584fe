-- The samples of a recording, frame by frame.
use Rattle.std.proofs.Common.{◌≡◌, ℕ, zero, suc, ◌+◌, ◌-◌, ◌*◌, ◌/◌, ◌≤◌, ◌^◌, ◌⊎◌, inl, inr, ℤ, pos, negsuc, List, ◌++◌, length, sym, refl, ap, ◌∙◌, arith, suc-mul, zero-mul, Some, None, Result, Ok, Err, ◌↔◌}
use Rattle.std.proofs.lemmas.Bool.{cases_lt}
use Rattle.std.specs.List.{flat_map, range_with_len}
use Rattle.std.specs.Int.{saturate_to_bits}
use Rattle.std.proofs.lemmas.List.{length-append}
use Rattle.std.proofs.lemmas.List.{length-map}
use Rattle.dsd_bits.specs.Contents.{Content}
use Rattle.fir_core.specs.Decimator.{Decimator, sample_at}
use Rattle.wave_core.specs.declared.fault.WaveFault.{WaveFault}
use Rattle.wave_core.specs.declared.fault.WaveFault.TheVariants.{TooLarge, Memory}
use Rattle.wave_core.specs.Contents.{IsSample}
use Rattle.wave_core.specs.Laws.{IsJoined, PartsJoin}
use Rattle.wave_core.specs.Heads.{plain}
use Rattle.wave_core.specs.Sizes.{FitsRiff, riff_size}
use Rattle.wave_core.specs.Texts.{header, pad_bytes, sample_bytes, wave_text}
use Rattle.player_core.specs.Frames.{frame, frame_count, frames_below}
use Rattle.player_core.specs.Samples.{pcm}

-- n lists of one length, one after the other
pub length-frames : {X : Type 0} (frame : ℕ → List X) (m a n : ℕ) → ((j : ℕ) → length (frame j) ≡ m) → length (flat_map frame (range_with_len a n)) ≡ n * m
length-frames frame m a zero each = sym (zero-mul m)
length-frames frame m a (suc n) each =
    omega (arith, length-append (frame a) (flat_map frame (range_with_len (a + 1) n)), each a, length-frames frame m (a + 1) n each, suc-mul n m)

-- what is clipped to a width has a place in it
pub is_sample : (width : ℕ) (z : ℤ) → (width ≡ 16) ⊎ (width ≡ 24) → IsSample width (saturate_to_bits (width - 1) z)
is_sample width z (inl e) = rw e (sixteen z)
  where
    sixteen : (z : ℤ) → IsSample 16 (saturate_to_bits 15 z)
    sixteen (pos n) = omega arith
    sixteen (negsuc n) = omega arith
is_sample width z (inr e) = rw e (more z)
  where
    more : (z : ℤ) → IsSample 24 (saturate_to_bits 23 z)
    more (pos n) = omega arith
    more (negsuc n) = omega arith

-- ---- the file of all samples, by its parts
module _ (r : Content) (d : Decimator) (some : 1 ≤ length r.channels) (law : PartsJoin) where
  abbrev number : ℕ
  number = frame_count d r.channels

  joined : IsJoined plain (pcm r d) number
  joined = law plain (pcm r d) number some (length-frames (frame d r.channels) (length r.channels) 0 number (λ j. length-map r.channels (λ bits. sample_at d bits j)))

  pub no_text : 2 ^ 32 ≤ riff_size (length r.channels) d.width number → wave_text (pcm r d) ≡ None
  no_text large = joined.too_large large

  pub is_large : wave_text (pcm r d) ≡ None → 2 ^ 32 ≤ riff_size (length r.channels) d.width number
  is_large none = elim (cases_lt (riff_size (length r.channels) d.width number) (2 ^ 32)) [
    | inl small ↦ (let some = joined.whole small in absurd cc)
    | inr large ↦ large
  ]

  pub text_is : (wave : List ℕ) → FitsRiff (length r.channels) d.width number
      → wave ≡ header (length r.channels) (r.rate / d.factor) d.width number ++ (flat_map (sample_bytes d.width) (frames_below d r.channels number) ++ pad_bytes (length r.channels) d.width number) → wave_text (pcm r d) ≡ Some wave
  text_is wave fits e = joined.whole fits ∙ ap (λ (x : List ℕ). Some x) (sym e)

  -- what is refused for its header is refused whole
  pub header_refused : {X Y : Type 0} (e : WaveFault) → (◌≡◌ {A = Result X WaveFault} (Err e) (Err TooLarge) ↔ (2 ^ 32 ≤ riff_size (length r.channels) d.width number))
      → ◌≡◌ {A = Result Y WaveFault} (Err e) (Err TooLarge) ↔ (wave_text (pcm r d) ≡ None)
  header_refused e h = (λ same. no_text (h.0 (let is : e ≡ TooLarge = cc in rw is refl)), λ none. let same = h.1 (is_large none) in let is : e ≡ TooLarge = cc in rw is refl)

  -- running out of memory after a header doesn't mean that there is no text
  pub memory_refused : {Y : Type 0} (e : WaveFault) → e ≡ Memory → FitsRiff (length r.channels) d.width number → ◌≡◌ {A = Result Y WaveFault} (Err e) (Err TooLarge) ↔ (wave_text (pcm r d) ≡ None)
  memory_refused e memory fits = (λ same. absurd cc, λ none. let large = is_large none in absurd (omega arith))

  -- an answer isn't one either
  pub answered : {Y : Type 0} (y : Y) → FitsRiff (length r.channels) d.width number → ◌≡◌ {A = Result Y WaveFault} (Ok y) (Err TooLarge) ↔ (wave_text (pcm r d) ≡ None)
  answered y fits = (λ same. absurd cc, λ none. let large = is_large none in absurd (omega arith))
