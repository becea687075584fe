use Rattle.std.proofs.Common.{◌≡◌, ◌++◌, ◌∙◌, Bool, List, [], ap, arith, length, slice_range, sym}
use Rattle.std.proofs.lemmas.List.{append-nil, nil_from_length}
use Rattle.splice_core.specs.Cues.{CueContent}
use Rattle.dsd_bits.specs.Rooms.{RoomContent}
use Rattle.cost_core.specs.Bridges.{bridge_cost}
use Rattle.cut_core.specs.Cuts.{cue_at, window}
use Rattle.cut_core.proofs.ChannelLaws.{nothing_first}
use Rattle.master_core.proofs.PartLaws.{best_bridge}
use Rattle.cut_core.proofs.SliceLaws.{length-slice, slice_all}
use Rattle.master_core.proofs.parting.push_bridge_part.Goals as goal

pub returns-then-stop-range-clause-bridged : goal.returns-then-stop-range-clause-bridged
returns-then-stop-range-clause-bridged c =
    let cut = c.args.source.now.cut.now in
    let before = c.args.room.now.bits in
    let s = c.args.range.start in
    let t = c.args.range.stop in
    let x = best_bridge cut c.can_cut.ensures c.args.source.now.chosen.now c.requires.ready.chosen c.args.place.channel c.args.place.cue c.requires.channel c.requires.cue in
    let long : length x.0 ≡ (cue_at cut c.args.place.cue).bridge = x.1.is_least.long ∙ (c.can_cut.ensures.windowed c.args.place.channel c.args.place.cue c.requires.channel c.requires.cue).levels in
    let none : slice_range x.0 s t ≡ [] = nil_from_length (slice_range x.0 s t) (omega (arith, length-slice x.0 s t, long, ap (λ (q : CueContent). q.bridge) c.cue.ensures.value)) in
    record { bits = x.0; given = x.1; added = sym (ap (λ (l : List Bool). before ++ l) none ∙ append-nil before) }

pub returns-in-Some-clause-bridged : goal.returns-in-Some-clause-bridged
returns-in-Some-clause-bridged c =
    let bits = c.in-Some.bridge.now.bits in
    let before = c.args.room.now.bits in
    let whole : slice_range bits 0 c.len.result ≡ bits = ap (λ n. slice_range bits 0 n) c.len.ensures.value ∙ slice_all bits in
    record {
      bits = bits;
      given = c.in-Some.ensures.first_least;
      added = ap (λ (r : RoomContent). r.bits) c.push_within.ensures ∙ ap (λ (l : List Bool). before ++ slice_range l c.args.range.start c.args.range.stop) whole;
    }

pub returns-in-None-clause-bridged : goal.returns-in-None-clause-bridged
returns-in-None-clause-bridged c =
    let cut = c.args.source.now.cut.now in
    let d = window cut c.args.place.channel c.args.place.cue in
    let before = c.args.room.now.bits in
    let levels : d.levels ≡ 0 = (c.can_cut.ensures.windowed c.args.place.channel c.args.place.cue c.requires.channel c.requires.cue).levels ∙ c.in-None.ensures in
    let none : slice_range [] c.args.range.start c.args.range.stop ≡ [] = nil_from_length (slice_range [] c.args.range.start c.args.range.stop) (omega (arith, length-slice [] c.args.range.start c.args.range.stop)) in
    record {
      bits = [];
      given = nothing_first d.levels (bridge_cost d) levels;
      added = sym (ap (λ (l : List Bool). before ++ l) none ∙ append-nil before);
    }
