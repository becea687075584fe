use Rattle.std.proofs.Common.{◌≡◌, ◌+◌, ◌-◌, ◌≤◌, ℕ, false, get_or, ap, ◌∙◌, arith, length, slice_range}
use Rattle.std.proofs.lemmas.List.Sums.{sum_by_more_le}
use Rattle.cut_core.specs.Cuts.{cue_at, master_length, span}
use Rattle.judge_core.specs.Comparing.{cue_start}
use Rattle.judge_core.proofs.OffLaws.{differs_there, none_alike, none_more}
use Rattle.judge_core.proofs.cueing.first_off_at.Goals as goal
use Rattle.judge_core.proofs.cueing.first_off_at.Goals.{After-cued_bit}

pub loop-place-init : goal.loop-place-init
loop-place-init c =
    let here = c.cued-here.result in
    let from = c.max-from.result in
    let start : c.args.start ≡ cue_start c.args.cut.now c.args.at.cue = c.requires.start in
    record {
      none = none_alike c.args.cut.now c.args.at.channel c.args.at.cue c.args.done c.args.part.now here.bits.now here.start here.stop from c.alike_bits-alike.result c.cued-here.ensures.bits
          (omega (arith, c.max-from.ensures, start)) (omega (arith, c.max-from.ensures, start, c.min-to.ensures, c.alike_bits-alike.ensures.few, c.if-to-from.false))
          (λ k lt. c.alike_bits-alike.ensures.alike k lt ∙ ap (λ (n : ℕ). get_or here.bits.now (here.start + (from - n) + k) false) start);
    }

pub cued-here-requires : goal.cued-here-requires
cued-here-requires c = record { channel = c.requires.channel; cue = c.requires.cue }

pub returns-then-to-from : goal.returns-then-to-from
returns-then-to-from c = λ p off. omega (arith, off.reached, off.inside, off.from, off.to, c.max-from.ensures, c.min-to.ensures, c.len.ensures.value, c.if-to-from.true, c.requires.start, c.cued-here.ensures.long, ap length c.cued-here.ensures.bits)

pub returns : goal.returns
returns c = λ p off. c.loop-place.invariant.none p (omega (arith, off.inside, off.to, c.min-to.ensures, c.len.ensures.value, c.loop-place-test.false, c.loop-place.auto.place-end, c.requires.start, c.cued-here.ensures.long)) off

pub get-requires : goal.get-requires
get-requires c = omega (arith, c.min-to.ensures, c.len.ensures.value, c.loop-place-test.true, c.max-from.ensures)

-- the cue's bit at the place
cued : (c : After-cued_bit) → c.cued_bit.result ≡ get_or (slice_range c.cued-here.result.bits.now c.cued-here.result.start c.cued-here.result.stop) (c.loop-place.place - cue_start c.args.cut.now c.args.at.cue) false
cued c = c.cued_bit.ensures ∙ ap (λ (n : ℕ). get_or (slice_range c.cued-here.result.bits.now c.cued-here.result.start c.cued-here.result.stop) (c.loop-place.place - n) false) c.requires.start

pub returns-then-get-cued_bit : goal.returns-then-get-cued_bit
returns-then-get-cued_bit c =
    let here = c.cued-here.result in
    record {
      here = record {
        reached = omega (arith, c.max-from.ensures, c.loop-place.auto.place);
        inside = omega (arith, c.min-to.ensures, c.len.ensures.value, c.loop-place-test.true);
        from = omega (arith, c.max-from.ensures, c.loop-place.auto.place, c.requires.start);
        to = omega (arith, c.min-to.ensures, c.loop-place-test.true, c.requires.start, c.cued-here.ensures.long, ap length c.cued-here.ensures.bits);
        differs = differs_there c.args.cut.now c.args.at.channel c.args.at.cue c.args.done c.args.part.now here.bits.now here.start here.stop c.loop-place.place c.cued-here.ensures.bits c.get.result c.cued_bit.result c.get.ensures (cued (goal.at.returns-then-get-cued_bit c).After-cued_bit) c.if-get-cued_bit.true;
      };
      before = c.loop-place.invariant.none;
    }

pub loop-place-preserved : goal.loop-place-preserved
loop-place-preserved c =
    let here = c.cued-here.result in
    record { none = none_more c.args.cut.now c.args.at.channel c.args.at.cue c.args.done c.args.part.now here.bits.now here.start here.stop c.loop-place.place c.cued-here.ensures.bits c.get.result c.cued_bit.result c.get.ensures (cued (goal.at.loop-place-preserved c).After-cued_bit) c.if-get-cued_bit.false c.loop-place.invariant.none }

pub overflow_add-start : goal.overflow_add-start
overflow_add-start c =
    let cut = c.args.cut.now in
    let within : cue_start cut c.args.at.cue + span (cue_at cut c.args.at.cue) ≤ master_length cut.splice.cues = sum_by_more_le span cut.splice.cues c.args.at.cue _ c.requires.cue in
    omega (arith, within, c.requires.start, c.cued-here.ensures.long, c.can_cut.ensures.in_limit)
