use Rattle.std.proofs.Common.{◌≡◌, ◌+◌, ◌-◌, ◌<◌, ◌∷◌, [], ◌++◌, ◌∙◌, ap, ap₂, arith, length, sum_by, sym, take, ℕ}
use Rattle.std.proofs.lemmas.List.FromFn.{map-range_with_len_more}
use Rattle.std.proofs.lemmas.List.Sums.{sum_by_more}
use Rattle.dsd_bits.specs.declared.stretches.BitRange.{BitRange}
use Rattle.splice_core.specs.Cues.{CueContent}
use Rattle.cut_core.specs.Cuts.{cue_at, span}
use Rattle.cut_core.specs.Claims.{bridge_start}
use Rattle.judge_core.specs.Auditing.{bridge_range}
use Rattle.judge_core.proofs.ranges.bridge_ranges.Goals as goal

abbrev the_range : ℕ → ℕ → BitRange
the_range s t = record { start = s; stop = t }

pub loop-i-preserved : goal.loop-i-preserved
loop-i-preserved c =
    let cut = c.args.cut.now in
    let i = c.loop-i.i in
    let so_far = c.loop-i.invariant in
    let cue = c.cue-cue.result.now in
    let there : i < length cut.splice.cues = omega (arith, c.loop-i-test.true, c.loop-i.auto.i-end, c.cue_number-i-end.ensures.value) in
    let start : c.loop-i.place + (cue.stop - cue.start) ≡ bridge_start cut i = omega (arith, so_far.place, ap (λ (q : CueContent). q.stop) c.cue-cue.ensures.value, ap (λ (q : CueContent). q.start) c.cue-cue.ensures.value) in
    let bridge : cue.bridge ≡ (cue_at cut i).bridge = ap (λ (q : CueContent). q.bridge) c.cue-cue.ensures.value in
    let more : sum_by span (take (i + 1) cut.splice.cues) ≡ sum_by span (take i cut.splice.cues) + span (cue_at cut i) = sum_by_more span cut.splice.cues i _ there in
    let one : the_range (c.loop-i.place + (cue.stop - cue.start)) (c.loop-i.place + (cue.stop - cue.start) + cue.bridge) ≡ bridge_range cut i = ap₂ (λ (s b : ℕ). the_range s (s + b)) start bridge in
    record {
      ranges = c.in_ok-push.ensures.items ∙ ap (λ r. c.loop-i.ranges.items ++ r ∷ []) one ∙ ap (λ l. l ++ bridge_range cut i ∷ []) so_far.ranges ∙ sym (map-range_with_len_more (bridge_range cut) 0 i i (omega arith));
      place = omega (arith, start, bridge, more);
    }
