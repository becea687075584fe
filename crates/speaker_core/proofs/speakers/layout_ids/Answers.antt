use Rattle.std.proofs.Common.{map, sym, ap, ◌∙◌}
use Rattle.dsd_bits.proofs.ExitLaws.{no_value}
use Rattle.speaker_core.specs.Speakers.{speaker_id}
use Rattle.speaker_core.proofs.ListLaws.{map_all, map_more, other_ids}
use Rattle.speaker_core.proofs.speakers.layout_ids.Goals as goal

pub returns-in_err-ids : goal.returns-in_err-ids
returns-in_err-ids c =
    let r = c.from_residual in
    record { ids = no_value _ _ r.result r.ensures.1; number = no_value _ _ r.result r.ensures.1 }

pub returns-in_err-push : goal.returns-in_err-push
returns-in_err-push c =
    let r = c.from_residual-in_err-push in
    record { ids = no_value _ _ r.result r.ensures.1; number = no_value _ _ r.result r.ensures.1 }

pub loop-speaker-preserved : goal.loop-speaker-preserved
loop-speaker-preserved c = map_more speaker_id 0 c.layout_speakers-named.result.now c.loop-speaker.speaker-index c.loop-speaker.ids.items c.push.new.self.items c.speaker_id.result c.loop-speaker-test.true c.loop-speaker.invariant c.in_ok-push.ensures.items c.speaker_id.ensures

pub returns-clause-ids : goal.returns-clause-ids
returns-clause-ids c =
    map_all speaker_id c.layout_speakers-named.result.now c.loop-speaker.speaker-index c.loop-speaker.ids.items c.loop-speaker.invariant c.loop-speaker-test.false
    ∙ ap (map speaker_id) c.layout_speakers-named.ensures
    ∙ sym (other_ids c.args.layout c.if-layout-eq2.false)
