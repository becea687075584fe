use Rattle.std.proofs.Common.{◌≡◌, ◌∙◌, ◌-◌, [], ap, get_or, length, map, subst, sym, arith, pos, ◌-ℤ◌, of_z, to_z, w64}
use Rattle.std.proofs.lemmas.List.{get_or_read_under}
use Rattle.dsd_bits.specs.declared.stretches.BitRange.{BitRange}
use Rattle.clip_core.specs.Clips.{ClipContent, points_of}
use Rattle.clip_core.specs.Contents.{mix_content}
use Rattle.clip_core.specs.Gains.{ArePoints}
use Rattle.cut_core.specs.Excerpts.{excerpts_content}
use Rattle.null_core.specs.Asking.{part_of, taps_of}
use Rattle.null_core.specs.Holding.{clip_at}
use Rattle.null_core.specs.Likeness.{IsExcerptOf}
use Rattle.null_core.specs.Parts.{IsPart}
use Rattle.null_core.specs.Reading.{HasBits, MixedContent, bits_at, mixed_of}
use Rattle.null_core.proofs.ErrorLaws.{same_w64}
use Rattle.null_core.proofs.ReadingLaws.{has_bits, held_fits, held_part, is_excerpt, starts_before}
use Rattle.null_core.proofs.channels.part_of.Goals as goal
use Rattle.null_core.proofs.channels.part_of.Goals.{After-clip_range, After-holder-held}

abbrev mixed : (c : After-holder-held) → MixedContent
mixed c = mixed_of (mix_content c.args.mix.now) c.args.takes.now

pub ahead-requires : goal.ahead-requires
ahead-requires c = let fits = c.clip_at-here.ensures.fits in record { start = fits.start_fits; at = omega (arith, fits.end_fits) }

pub bits_for-requires : goal.bits_for-requires
bits_for-requires c =
    let here = (goal.at.bits_for-requires c).After-holder-held in
    subst (λ number. HasBits (map excerpts_content c.args.takes.now) number c.holder-held.result c.args.channel) (sym (ap (λ (k : ClipContent). k.take) c.clip_at-here.ensures.value))
    (has_bits (mixed here) c.requires.mixed c.requires.mixed.takes c.requires.mixed.read c.args.mix.now.limits c.args.channel c.args.clip c.holder-held.result c.requires.clip c.requires.channel c.holder-held.ensures)

points_fit : (c : After-clip_range) → ArePoints (points_of (clip_at (mix_content c.args.mix.now) c.args.clip).gains c.args.channel)
points_fit c = subst (λ (k : ClipContent). ArePoints (points_of k.gains c.args.channel)) c.clip_at-here.ensures.value (subst ArePoints c.points.ensures.points (c.points.ensures.within c.clip_at-here.ensures.fits.gains_fit))

taps_are : (c : After-clip_range) → c.index-decoders-here.result ≡ taps_of (mix_content c.args.mix.now) (clip_at (mix_content c.args.mix.now) c.args.clip)
taps_are c =
    let mix = mix_content c.args.mix.now in
    get_or_read_under c.args.decoders.now c.clip_at-here.result.now.decoder (length mix.decoders) c.index-decoders-here.result [] c.index-decoders-here.is c.clip_at-here.ensures.fits.decoder_is_there (ap length (sym c.requires.decoders))
    ∙ (λ j. get_or (c.requires.decoders j) (c.clip_at-here.ensures.value j).decoder [])

-- the part is that with the bits that were read
is_held : (c : After-clip_range) → record {
  take = c.clip_at-here.result.now.take;
  ahead = to_z w64 (of_z w64 c.ahead.result);
  at = c.clip_at-here.result.now.at;
  size = c.clip_at-here.result.now.length;
  points = c.points.result.now;
  taps = c.index-decoders-here.result;
  bits = c.bits_for.result.now;
  start = c.clip_at-here.result.now.start - c.clip_range.result.start;
} ≡ held_part (mixed_of (mix_content c.args.mix.now) c.args.takes.now) c.args.channel c.args.clip c.holder-held.result
is_held c =
    let clip = c.clip_at-here.ensures.value in
    let range = c.clip_range.ensures in
    let points = c.points.ensures.points ∙ (λ j. points_of (clip j).gains c.args.channel) in
    let ahead = same_w64 c.ahead.result (omega (arith, c.ahead.ensures.bound)) ∙ c.ahead.ensures.value ∙ (λ j. pos (clip j).start -ℤ pos (clip j).at) in
    let bits = c.bits_for.ensures ∙ (λ j. bits_at (map excerpts_content c.args.takes.now) (clip j).take c.holder-held.result c.args.channel) in
    λ j. record {
      take = (clip j).take;
      ahead = ahead j;
      at = (clip j).at;
      size = (clip j).length;
      points = points j;
      taps = taps_are c j;
      bits = bits j;
      start = (clip j).start - (range j).start;
    }

fits : (c : After-clip_range) → IsPart (held_part (mixed_of (mix_content c.args.mix.now) c.args.takes.now) c.args.channel c.args.clip c.holder-held.result)
fits c = held_fits (mixed_of (mix_content c.args.mix.now) c.args.takes.now) c.requires.mixed c.requires.mixed.takes c.requires.mixed.read c.args.mix.now.limits c.args.channel c.args.clip c.holder-held.result c.requires.clip c.requires.channel c.holder-held.ensures (points_fit c)

pub invariant_of-result : goal.invariant_of-result
invariant_of-result c =
    let here = (goal.at.invariant_of-result c).After-clip_range in
    let fit = subst IsPart (sym (is_held here)) (fits here) in
    record { end = fit.end_fits; reach = fit.bits_reach; fit = fit.points_fit }

pub returns-clause-fits : goal.returns-clause-fits
returns-clause-fits c = let here = (goal.at.returns-clause-fits c).After-clip_range in subst IsPart (sym (is_held here)) (fits here)

pub returns-clause-part : goal.returns-clause-part
returns-clause-part c takes read =
    let here = (goal.at.returns-clause-part c).After-clip_range in
    let mixed = mixed_of (mix_content c.args.mix.now) c.args.takes.now in
    subst (IsExcerptOf (part_of (mix_content c.args.mix.now) takes c.args.channel (clip_at (mix_content c.args.mix.now) c.args.clip))) (sym (is_held here))
    (is_excerpt mixed c.requires.mixed takes read c.args.mix.now.limits c.args.channel c.args.clip c.holder-held.result c.requires.clip c.requires.channel c.holder-held.ensures)

pub bounds-decoders-here : goal.bounds-decoders-here
bounds-decoders-here c = omega (arith, c.clip_at-here.ensures.fits.decoder_is_there, ap length c.requires.decoders)

pub overflow_sub-result : goal.overflow_sub-result
overflow_sub-result c =
    let before = starts_before (mixed_of (mix_content c.args.mix.now) c.args.takes.now) c.requires.mixed c.requires.mixed.takes c.requires.mixed.read c.args.mix.now.limits c.args.channel c.args.clip c.holder-held.result c.requires.clip c.requires.channel c.holder-held.ensures in
    omega (arith, before, ap (λ (k : ClipContent). k.start) c.clip_at-here.ensures.value, ap (λ (r : BitRange). r.start) c.clip_range.ensures)
