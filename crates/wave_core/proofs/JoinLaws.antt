-- The parts of a WAVE file make the whole.
use Rattle.std.specs.List.{flat_map}
use Rattle.std.proofs.Common.{◌≡◌, ℕ, Bool, true, false, cond, [], ◌++◌, drop, nat_lt, sym, ◌+◌, ◌*◌, ◌/◌, ◌^◌, ◌≤◌, ◌<◌, List, Option, Some, None, length, ap, subst, ◌∙◌, arith}
use Rattle.std.proofs.lemmas.Bool.{le-ltb, lt-ltb}
use Rattle.std.proofs.lemmas.List.{drop_at}
use Rattle.std.proofs.lemmas.Nat.{div-mul-add}
use Rattle.wave_core.specs.Contents.{Pcm}
use Rattle.wave_core.specs.Heads.{header_in, header_size_in, limit_of, size_in, text_in}
use Rattle.wave_core.specs.Laws.{PartsJoin, SoundIsSame}
use Rattle.wave_core.specs.declared.head.WaveHead.{WaveHead}
use Rattle.wave_core.proofs.SizeLaws.{length_of_header}
use Rattle.wave_core.specs.Sizes.{riff_size}
use Rattle.wave_core.specs.Texts.{pad_bytes, pcm_frames, sample_bytes, wave_text}

-- whole frames are counted
pub frames_counted : (p : Pcm) (frames : ℕ) → 1 ≤ p.channels → length p.samples ≡ frames * p.channels → pcm_frames p ≡ frames
frames_counted p frames some whole =
    let exact : frames * p.channels ≡ frames * p.channels + 0 = omega arith in
    ap (λ n. n / p.channels) (whole ∙ exact) ∙ div-mul-add frames p.channels 0 (omega arith)

pub parts_join : PartsJoin
parts_join head p frames some whole = let counted = frames_counted p frames some whole in
    record {
      whole = λ fits. rw (counted, lt-ltb (size_in head p.channels p.width frames) (limit_of head) fits);
      too_large = λ large. rw (counted, le-ltb (size_in head p.channels p.width frames) (limit_of head) large);
    }

-- what an option holds, or nothing
abbrev unwrap_or_nil : Option (List ℕ) → List ℕ
unwrap_or_nil (Some xs) = xs
unwrap_or_nil None = []

-- what a file is, after its header: the samples and the pad
after_header : (head : WaveHead) (p : Pcm) (file : List ℕ) → text_in head p ≡ Some file
    → drop (header_size_in head p.channels p.width) file ≡ flat_map (sample_bytes p.width) p.samples ++ pad_bytes p.channels p.width (pcm_frames p)
after_header head p file = by (nat_lt (size_in head p.channels p.width (pcm_frames p)) (limit_of head))
  where
    first : List ℕ
    first = header_in head p.channels p.rate p.width (pcm_frames p)

    back : List ℕ
    back = flat_map (sample_bytes p.width) p.samples ++ pad_bytes p.channels p.width (pcm_frames p)

    by : (small : Bool) → cond small (Some (first ++ back)) None ≡ Some file → drop (header_size_in head p.channels p.width) file ≡ back
    by true is = ap (drop (header_size_in head p.channels p.width)) (ap (unwrap_or_nil) (sym is)) ∙ drop_at first back (header_size_in head p.channels p.width) (length_of_header head p.channels p.rate p.width (pcm_frames p))
    by false is = absurd cc

pub sound_is_same : SoundIsSame
sound_is_same p head other file second is also = after_header head p file is ∙ sym (after_header other p second also)

-- if the size fits, there is a text
pub text_holds : (p : Pcm) → riff_size p.channels p.width (pcm_frames p) < 2 ^ 32 → wave_text p ≡ None → ⊥
text_holds p fits = rw (lt-ltb (riff_size p.channels p.width (pcm_frames p)) (2 ^ 32) fits) (λ is. subst Stands is tt)
  where
    Stands : Option (List ℕ) → Type 0
    Stands (Some file) = Unit
    Stands None = ⊥

-- and so if the size fits in 32 bits
pub sized_text_holds : (p q : Pcm) (size samples channels spec_channels : ℕ) → q ≡ p → samples ≡ length q.samples → channels ≡ spec_channels → spec_channels ≡ q.channels → size ≡ riff_size q.channels q.width (samples / channels) → size < 2 ^ 32 → wave_text p ≡ None → ⊥
sized_text_holds p q size samples channels spec_channels same all of_spec spec_of_all is fits =
    rw (← same) (text_holds q (rw (← (ap (λ (n : ℕ). n / channels) all ∙ ap (λ (m : ℕ). length q.samples / m) (of_spec ∙ spec_of_all)), ← is) fits))
