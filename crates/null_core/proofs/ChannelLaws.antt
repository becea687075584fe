-- The clips as a channel has them, one by one.
use Rattle.std.proofs.Common.{◌≡◌, ℕ, suc, Bool, Result, refl, ap₂, if◌then◌else◌, ◌+◌, ◌<◌, List, [], ◌∷◌, ◌++◌, All, Some, length, map, slice_get, sym, ap, subst, ◌∙◌, inl, inr, arith}
use Rattle.std.proofs.lemmas.Bool.{cases_lt}
use Rattle.std.proofs.lemmas.List.{get_or-map, get_or_append_left, get_or_push, length-append, length-map}
use Rattle.std.proofs.lemmas.List.Elements.{All-nil, All-push}
use Rattle.std.proofs.lemmas.List.Sums.{sum_by-cons}
use Rattle.std.proofs.lemmas.Option.{get_or_from_slice_get, slice_get_within, slice_get-get_or}
use Rattle.std.specs.List.{sum_by}
use Rattle.dsd_bits.specs.Contents.{Content}
use Rattle.clip_core.specs.Clips as clips
use Rattle.clip_core.specs.Clips.{ClipContent}
use Rattle.clip_core.specs.Mixes.{IsMixing, clips_at}
use Rattle.null_core.specs.declared.stretch.Stretch.{Stretch}
use Rattle.null_core.specs.Asking.{asked_of, part_of}
use Rattle.null_core.specs.Holding.{clip_at}
use Rattle.null_core.specs.Likeness.{AreExcerptsOf, IsExcerptOf}
use Rattle.null_core.specs.Judging.{JudgesChannel}
use Rattle.null_core.specs.Parts.{IsAsked, IsPart, PartContent, has_place, parts_at}
use Rattle.null_core.specs.Reading.{ArePartsOf, IsMixed, IsPartOf, JudgesChannelOf, MixedContent}
use Rattle.null_core.proofs.ExcerptLaws.{excerpts_alike, sounds_alike}
use Rattle.null_core.proofs.LikeLaws.{judged_alike}

-- the parts of the first n clips
pub record ArePartsTo (mixed : MixedContent) (channel n : ℕ) (parts : List PartContent) : Type 0 where
  pub as_many : length parts ≡ n
  pub each : (i : ℕ) (p : PartContent) → slice_get parts i ≡ Some p → IsPartOf mixed channel i p
  pub fit : All IsPart parts

module _ (mixed : MixedContent) (channel : ℕ) where
  pub no_parts : ArePartsTo mixed channel 0 []
  no_parts = record { as_many = omega arith; each = λ i p is. (let none = slice_get_within [] i p is in absurd (omega (arith, none))); fit = All-nil IsPart }

  pub one_more : (n : ℕ) (parts : List PartContent) (p : PartContent) → ArePartsTo mixed channel n parts → IsPartOf mixed channel n p → IsPart p → ArePartsTo mixed channel (n + 1) (parts ++ p ∷ [])
  one_more n parts p before is fits = record {
    as_many = omega (arith, length-append parts (p ∷ []), before.as_many);
    each = λ i q is_q.
        let at = get_or_from_slice_get (parts ++ p ∷ []) i q p is_q in
        elim (cases_lt i (length parts)) [
          | inl earlier ↦ before.each i q (slice_get-get_or parts i p earlier ∙ ap Some (sym (get_or_append_left parts (p ∷ []) p i earlier) ∙ at))
          | inr later ↦
              let last : length parts ≡ i = omega (arith, later, slice_get_within (parts ++ p ∷ []) i q is_q, length-append parts (p ∷ [])) in
              let number : n ≡ i = omega (arith, last, before.as_many) in
              let same : p ≡ q = sym (get_or_push parts p p i last) ∙ at in
              subst (λ (k : ℕ). IsPartOf mixed channel k q) number (subst (IsPartOf mixed channel n) same is)
        ];
    fit = All-push IsPart parts p before.fit fits;
  }

  pub all_parts : (parts : List PartContent) → ArePartsTo mixed channel (length mixed.mix.clips) parts → ArePartsOf mixed channel parts
  all_parts parts are takes read = record {
    as_many = are.as_many ∙ sym (length-map mixed.mix.clips (part_of mixed.mix takes channel));
    each = λ i whole p is_whole is_p.
        let there : i < length mixed.mix.clips = omega (arith, slice_get_within parts i p is_p, are.as_many) in
        let same : part_of mixed.mix takes channel (clip_at mixed.mix i) ≡ whole = sym (get_or-map (part_of mixed.mix takes channel) mixed.mix.clips i _ whole there) ∙ get_or_from_slice_get (map (part_of mixed.mix takes channel) mixed.mix.clips) i whole whole is_whole in
        subst (λ (w : PartContent). IsExcerptOf w p) same (are.each i p is_p takes read);
  }

-- ---- the limits of what is asked for
same_sum : {X : Type 0} (f : X → ℕ) (xs ys : List X) → length xs ≡ length ys → ((i : ℕ) (x y : X) → slice_get xs i ≡ Some x → slice_get ys i ≡ Some y → f x ≡ f y) → sum_by f xs ≡ sum_by f ys
same_sum f [] [] as_many same = refl
same_sum f [] (y ∷ ys) as_many same = absurd (omega (arith, as_many))
same_sum f (x ∷ xs) [] as_many same = absurd (omega (arith, as_many))
same_sum f (x ∷ xs) (y ∷ ys) as_many same = sum_by-cons f x xs ∙ ap₂ ◌+◌ (same 0 x y refl refl) (same_sum f xs ys (omega (arith, as_many)) (λ i. same (suc i))) ∙ sym (sum_by-cons f y ys)

clips_are : (mixed : MixedContent) (takes : List Content) (channel m : ℕ) (clips : List ClipContent) → parts_at m (map (part_of mixed.mix takes channel) clips) ≡ clips_at m clips
clips_are mixed takes channel m [] = refl
clips_are mixed takes channel m (c ∷ cs) =
    sum_by-cons (λ p. if has_place m p then 1 else 0) (part_of mixed.mix takes channel c) (map (part_of mixed.mix takes channel) cs)
    ∙ ap (λ n. (if clips.has_place m c then 1 else 0) + n) (clips_are mixed takes channel m cs)
    ∙ sym (sum_by-cons (λ k. if clips.has_place m k then 1 else 0) c cs)

module _ (mixed : MixedContent) (is : IsMixed mixed) (mixing : IsMixing mixed.mix) (channel : ℕ) (parts : List PartContent) (are : ArePartsOf mixed channel parts) (fit : All IsPart parts) where
  excerpts : AreExcerptsOf (map (part_of mixed.mix is.takes channel) mixed.mix.clips) parts
  excerpts = are is.takes is.read

  same_places : (m : ℕ) → parts_at m parts ≡ clips_at m mixed.mix.clips
  same_places m =
      same_sum (λ p. if has_place m p then 1 else 0) parts (map (part_of mixed.mix is.takes channel) mixed.mix.clips) excerpts.as_many
      (λ i p whole is_p is_whole. let like = sounds_alike whole p (excerpts.each i whole p is_whole is_p) in λ j. if has_place m (record p { at = like.at j; size = like.size j }) then 1 else 0)
      ∙ clips_are mixed is.takes channel m mixed.mix.clips

  pub is_asked : IsAsked (record { unit = mixed.mix.unit; audible = mixed.mix.audible; every = mixed.mix.every; parts = parts })
  is_asked = record {
    some_unit = mixing.some_unit;
    unit_fits = mixing.unit_fits;
    audible_fits = mixing.audible_fits;
    some_every = mixing.some_every;
    every_fits = mixing.every_fits;
    few_parts = omega (arith, excerpts.as_many, length-map mixed.mix.clips (part_of mixed.mix is.takes channel), mixing.few_clips);
    each_fits = fit;
    apart = λ m. omega (arith, same_places m, mixing.apart m);
  }

-- what is judged of the parts is judged of all clips
pub judged_of : (mixed : MixedContent) (channel : ℕ) (parts : List PartContent) → ArePartsOf mixed channel parts → (bits : List Bool) (found : Result (List Stretch) ℕ)
    → JudgesChannel (record { unit = mixed.mix.unit; audible = mixed.mix.audible; every = mixed.mix.every; parts = parts }) bits found → JudgesChannelOf mixed channel bits found
judged_of mixed channel parts are bits found judges takes read = judged_alike _ (asked_of mixed.mix takes channel) (excerpts_alike (asked_of mixed.mix takes channel) parts (are takes read)) bits found judges
