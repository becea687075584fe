-- What is heard of a master, by what was found in its channels.
use Rattle.std.proofs.Common.{◌≡◌, ℕ, ◌<◌, ◌≤◌, ◌↔◌, refl, Bool, List, [], Some, length, get_or, slice_get, sym, ap, subst, ◌∙◌, inl, inr, arith}
use Rattle.std.proofs.lemmas.List.{length-replicate}
use Rattle.std.proofs.lemmas.List.Elements.{All-get_or}
use Rattle.std.proofs.lemmas.Option.{get_or_from_slice_get, slice_get_within}
use Rattle.dsd_bits.specs.Contents.{Content}
use Rattle.clip_core.specs.Mixes.{MixContent}
use Rattle.cut_core.specs.Cuts.{AreAlike, take_at}
use Rattle.cut_core.specs.Excerpts.{TakeShape, excerpts_at}
use Rattle.null_core.specs.declared.stretch.Stretch.{Stretch}
use Rattle.null_core.specs.declared.verdict.LoudPlace.{LoudPlace}
use Rattle.cut_core.specs.declared.fitting.Shape.{Shape}
use Rattle.null_core.specs.declared.verdict.Verdict.{Verdict}
use Rattle.null_core.specs.declared.verdict.Verdict.TheVariants.{Accepted, MasterShape, MasterLength, TooLoud, Residual}
use Rattle.null_core.specs.Asking.{Fits, IsQuiet, NullsAll, asked_of}
use Rattle.null_core.specs.Errors.{residual_size}
use Rattle.null_core.specs.Judged.{IsJudged}
use Rattle.null_core.specs.Parts.{AskedContent}
use Rattle.null_core.specs.Reading.{IsReadOf, MixedContent}
use Rattle.null_core.specs.Stretches.{AreStretches, IsStretch}
use Rattle.null_core.specs.Verdicts.{AreFound, AreJudgedTo, FitsFirst, HasAbove, IsAccepted, IsFirstLoud, IsGreatestOfAll, IsGreatestTo, IsJudgedIn, IsOutlineOf, IsTooLoudIn, IsVerdict, IsVerdictBy, IsVerdictOn, channel_bits, shape_of, size_in}
use Rattle.null_core.proofs.ReadingLaws.{shapes_are}

module _ (mixed : MixedContent) (master : Content) (takes : List Content) (read : IsReadOf mixed takes) where
  same_rate : (excerpts_at mixed.read 0).recording.rate ≡ (take_at takes 0).rate
  same_rate = ap (λ (shapes : ℕ → TakeShape). (shapes 0).rate) (shapes_are mixed takes read)

  as_many : length (excerpts_at mixed.read 0).recording.channels ≡ length (take_at takes 0).channels
  as_many = ap (λ (shapes : ℕ → TakeShape). (shapes 0).channels) (shapes_are mixed takes read)

  pub alike_first : AreAlike (excerpts_at mixed.read 0).recording master → AreAlike (take_at takes 0) master
  alike_first alike = record { same_rate = alike.same_rate ∙ same_rate; as_many_channels = alike.as_many_channels ∙ as_many }

  pub like_first : AreAlike (take_at takes 0) master → AreAlike (excerpts_at mixed.read 0).recording master
  like_first alike = record { same_rate = alike.same_rate ∙ sym same_rate; as_many_channels = alike.as_many_channels ∙ sym as_many }

  pub first_shape : shape_of (excerpts_at mixed.read 0).recording ≡ shape_of (take_at takes 0)
  first_shape j = record { rate = same_rate j; channels = as_many j }

  fits : FitsFirst mixed master → Fits mixed.mix takes master
  fits first = record { alike = alike_first first.alike; long = first.long }

-- ---- masters that don't fit
pub shape_differs : (mixed : MixedContent) (master : Content) (found wanted : Shape) → (AreAlike (excerpts_at mixed.read 0).recording master → ⊥) → found ≡ shape_of master → wanted ≡ shape_of (excerpts_at mixed.read 0).recording → IsVerdictOn mixed master [] (MasterShape found wanted)
shape_differs mixed master found wanted other is_found is_wanted takes read = (λ alike. other (like_first mixed master takes read alike), is_found, is_wanted ∙ first_shape mixed master takes read, refl)

-- by a master without its bits
module _ (recording : Content) (count : ℕ) (master : Content) (is : IsOutlineOf recording count master) where
  outline_rate : recording.rate ≡ master.rate
  outline_rate = ap (λ (r : Content). r.rate) is.is_silent

  outline_number : length recording.channels ≡ length master.channels
  outline_number = ap (λ (r : Content). length r.channels) is.is_silent ∙ length-replicate {A = List Bool} (length master.channels) []

  pub outline_shape : shape_of recording ≡ shape_of master
  outline_shape j = record { rate = outline_rate j; channels = outline_number j }

  pub alike_outline : (first : Content) → AreAlike first master → AreAlike first recording
  alike_outline first alike = record { same_rate = outline_rate ∙ alike.same_rate; as_many_channels = outline_number ∙ alike.as_many_channels }

-- ---- masters that fit
-- a judged place has at most the residual of its stretch
module _ (a : AskedContent) (bits : List Bool) (stretches : List Stretch) (are : AreStretches a bits stretches) where
  stretch_at : (i : ℕ) (s : Stretch) → slice_get stretches i ≡ Some s → IsStretch a bits s
  stretch_at i s is = subst (IsStretch a bits) (get_or_from_slice_get stretches i s s is) (All-get_or (IsStretch a bits) stretches i s (slice_get_within stretches i s is) are.each)

  size_low : (most : ℕ) → ((i : ℕ) (s : Stretch) → slice_get stretches i ≡ Some s → s.residual ≤ most) → (n : ℕ) → IsJudged a bits n → residual_size a bits n ≤ most
  size_low most low n judged =
      let covered = are.all n judged judged.inside in
      let s = covered.1 in
      let size = (stretch_at covered.0 s covered.2).greatest.most n (record { judged = judged; from = covered.3; to = covered.4 }) in
      omega (arith, size, low covered.0 s covered.2)

module _ (mixed : MixedContent) (master : Content) (first : FitsFirst mixed master) (takes : List Content) (read : IsReadOf mixed takes) where
  module _ (stretches : List (List Stretch)) (judged : AreJudgedTo mixed master.channels (length master.channels) stretches) where
    found : AreFound mixed.mix takes master stretches
    found = record {
      fits = fits mixed master takes read first;
      quiet = λ channel m lt loud. (judged.each channel lt takes read).1 m loud;
      found = record { as_many = judged.as_many; each = λ channel lt. (judged.each channel lt takes read).0 };
    }

    module _ (greatest : ℕ) (is : IsGreatestTo stretches (length stretches) greatest) where
      low : (channel n : ℕ) → IsJudgedIn mixed.mix takes master channel n → size_in mixed.mix takes master channel n ≤ greatest
      low channel n judged_in =
          let there : channel < length stretches = omega (arith, judged_in.there, judged.as_many) in
          size_low (asked_of mixed.mix takes channel) (channel_bits master channel) (get_or stretches channel []) (found.found.each channel judged_in.there) greatest (λ i s at. is.most channel i s there at) n judged_in.judged

      greatest_of_all : IsGreatestOfAll mixed.mix takes master greatest
      greatest_of_all = record {
        most = low;
        reached = elim is.reached [
          | inl none ↦ inl none
          | inr some ↦
              let channel = some.0 in
              let s = some.2 in
              let there : channel < length master.channels = omega (arith, some.3, judged.as_many) in
              let of = (stretch_at (asked_of mixed.mix takes channel) (channel_bits master channel) (get_or stretches channel []) (found.found.each channel there) some.1 s some.4).greatest in
              inr (channel, s.place, record { there = there; judged = of.judged.judged }, of.size ∙ some.5)
        ];
      }

      nulls : greatest ≤ mixed.mix.limit → NullsAll mixed.mix takes master mixed.mix.limit
      nulls within = record {
        fits = found.fits;
        each = λ channel lt n judged_n. omega (arith, within, low channel n (record { there = lt; judged = judged_n }));
      }

    by : (verdict : Verdict) → IsVerdictBy mixed.mix.limit stretches verdict → IsVerdict mixed.mix takes master stretches verdict
    by (Residual channel place) is = (found, is.0, is.1)
    by (Accepted residual) is = (found, nulls residual is.0 is.1, greatest_of_all residual is.0)
    by (MasterShape has wanted) is = absurd is
    by (MasterLength has wanted) is = absurd is
    by (TooLoud channel place) is = absurd is

  too_loud : (loud : LoudPlace) → IsFirstLoud mixed master.channels loud → IsVerdict mixed.mix takes master [] (TooLoud loud.channel loud.place)
  too_loud loud is =
      let place = is.first takes read in
      let here : IsTooLoudIn mixed.mix takes master loud.channel loud.place = record { there = is.there; loud = place.here } in (
        fits mixed master takes read first,
        record { here = (loud.place, here); before = λ earlier lt has. (is.judged.each earlier lt takes read).1 has.0 has.1.loud },
        record { here = here; before = λ earlier lt has. place.before earlier lt has.loud },
        refl,
      )

pub heard_by : (mixed : MixedContent) (master : Content) → FitsFirst mixed master → (stretches : List (List Stretch)) → AreJudgedTo mixed master.channels (length master.channels) stretches → (verdict : Verdict) → IsVerdictBy mixed.mix.limit stretches verdict → IsVerdictOn mixed master stretches verdict
heard_by mixed master first stretches judged verdict is takes read = by mixed master first takes read stretches judged verdict is

pub heard_loud : (mixed : MixedContent) (master : Content) → FitsFirst mixed master → (loud : LoudPlace) → IsFirstLoud mixed master.channels loud → IsVerdictOn mixed master [] (TooLoud loud.channel loud.place)
heard_loud mixed master first loud is takes read = too_loud mixed master first takes read loud is

-- ---- which masters are accepted
-- a stretch above the limit is that of a judged place
above_limit : (mix : MixContent) (takes : List Content) (master : Content) (stretches : List (List Stretch)) (channel : ℕ) → AreFound mix takes master stretches → HasAbove mix.limit stretches channel → NullsAll mix takes master mix.limit → ⊥
above_limit mix takes master stretches channel found has nulls =
    let there : channel < length master.channels = omega (arith, has.there, found.found.as_many) in
    let of = (stretch_at (asked_of mix takes channel) (channel_bits master channel) (get_or stretches channel []) (found.found.each channel there) has.number has.above.stretch has.above.there).greatest in
    omega (arith, nulls.each channel there has.above.stretch.place of.judged.judged, of.size, has.above.above)

module _ (mix : MixContent) (takes : List Content) (master : Content) (stretches : List (List Stretch)) where
  if_accepted : (verdict : Verdict) → IsVerdict mix takes master stretches verdict → IsAccepted verdict → NullsAll mix takes master mix.limit × IsQuiet mix takes master
  if_accepted verdict is accepted = let by : IsVerdict mix takes master stretches (Accepted accepted.0) = subst (IsVerdict mix takes master stretches) accepted.1 is in (by.1, by.0.quiet)

  accepted_if : (verdict : Verdict) → IsVerdict mix takes master stretches verdict → NullsAll mix takes master mix.limit × IsQuiet mix takes master → IsAccepted verdict
  accepted_if (Accepted residual) is both = (residual, refl)
  accepted_if (MasterShape has wanted) is both = absurd (is.0 both.0.fits.alike)
  accepted_if (MasterLength has wanted) is both = absurd (is.1 (is.2 ∙ both.0.fits.long ∙ sym is.3))
  accepted_if (TooLoud channel place) is both = absurd (both.1 channel place is.2.here.there is.2.here.loud)
  accepted_if (Residual channel place) is both = absurd (above_limit mix takes master stretches channel is.0 is.1.here both.0)

pub accepts_exactly : (mixed : MixedContent) (master : Content) (stretches : List (List Stretch)) (verdict : Verdict) → IsVerdictOn mixed master stretches verdict
    → (takes : List Content) → IsReadOf mixed takes → IsAccepted verdict ↔ (NullsAll mixed.mix takes master mixed.mix.limit × IsQuiet mixed.mix takes master)
accepts_exactly mixed master stretches verdict is takes read = (if_accepted mixed.mix takes master stretches verdict (is takes read), accepted_if mixed.mix takes master stretches verdict (is takes read))

-- two greatest residuals are the same
greatest_low : (mix : MixContent) (takes : List Content) (master : Content) (a b : ℕ) → IsGreatestOfAll mix takes master a → IsGreatestOfAll mix takes master b → a ≤ b
greatest_low mix takes master a b is_a is_b = elim is_a.reached [
  | inl none ↦ omega (arith, none)
  | inr some ↦ (let low = is_b.most some.0 some.1 some.2 in omega (arith, low, some.3))
]

only_greatest : (mix : MixContent) (takes : List Content) (master : Content) (a b : ℕ) → IsGreatestOfAll mix takes master a → IsGreatestOfAll mix takes master b → a ≡ b
only_greatest mix takes master a b is_a is_b = omega (arith, greatest_low mix takes master a b is_a is_b, greatest_low mix takes master b a is_b is_a)

-- a master is accepted with a greatest residual exactly if no place is too loud, it nulls with the mix's limit, and that
-- is its greatest residual
pub verdict_accepts : (mix : MixContent) (takes : List Content) (master : Content) (stretches : List (List Stretch)) (verdict : Verdict) → IsVerdict mix takes master stretches verdict
    → (residual : ℕ) → (verdict ≡ Accepted residual) ↔ (IsQuiet mix takes master × NullsAll mix takes master mix.limit × IsGreatestOfAll mix takes master residual)
verdict_accepts mix takes master stretches verdict is residual = (said, accepted)
  where
    said : verdict ≡ Accepted residual → IsQuiet mix takes master × NullsAll mix takes master mix.limit × IsGreatestOfAll mix takes master residual
    said same = let by : IsVerdict mix takes master stretches (Accepted residual) = subst (IsVerdict mix takes master stretches) same is in (by.0.quiet, by.1, by.2)

    accepted : IsQuiet mix takes master × NullsAll mix takes master mix.limit × IsGreatestOfAll mix takes master residual → verdict ≡ Accepted residual
    accepted (quiet, nulls, greatest) =
        let some = accepted_if mix takes master stretches verdict is (nulls, quiet) in
        let by : IsVerdict mix takes master stretches (Accepted some.0) = subst (IsVerdict mix takes master stretches) some.1 is in
        some.1 ∙ ap Accepted (only_greatest mix takes master some.0 residual by.2 greatest)
