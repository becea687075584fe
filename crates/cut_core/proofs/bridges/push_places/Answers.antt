use Rattle.std.proofs.Common.{◌≡◌, ◌++◌, ◌∷◌, [], ◌∙◌, ap, append_assoc, arith, length, map, sym}
use Rattle.std.specs.List.{range_with_len}
use Rattle.std.proofs.lemmas.List.{append-nil, length-append}
use Rattle.std.proofs.lemmas.List.Elements.{All-append}
use Rattle.std.proofs.lemmas.List.FromFn.{map-range_with_len_more}
use Rattle.splice_core.specs.Cues.{CueContent}
use Rattle.cut_core.specs.Cuts.{take_channels}
use Rattle.cut_core.specs.Bridges.{IsPlace}
use Rattle.cut_core.proofs.BridgeLaws.{after_none, after_some, each_place, place_of}
use Rattle.cut_core.proofs.bridges.push_places.Goals as goal

pub returns-then-cue-eq0-clause-appended : goal.returns-then-cue-eq0-clause-appended
returns-then-cue-eq0-clause-appended c =
    let none = after_none c.args.cut.now c.args.cue (sym (ap (λ (q : CueContent). q.bridge) c.cue.ensures.value) ∙ c.if-cue-eq0.true) in
    rw none (sym (append-nil c.args.out.now.items))

pub loop-channel-preserved : goal.loop-channel-preserved
loop-channel-preserved c =
    let n = c.loop-channel.channel in
    let old = c.args.out.now.items in
    let place = place_of c.args.cue n in
    let pushed : c.push.new.self.items ≡ c.loop-channel.out.items ++ place ∷ [] = c.in_ok-push.ensures.items in
    record {
      items = pushed ∙ ap (λ (l : _). l ++ place ∷ []) c.loop-channel.invariant.items ∙ append_assoc old (map (place_of c.args.cue) (range_with_len 0 n)) (place ∷ []) ∙ ap (λ (l : _). old ++ l) (sym (map-range_with_len_more (place_of c.args.cue) 0 n n (omega arith)));
      long = omega (arith, ap length pushed, length-append c.loop-channel.out.items (place ∷ []), c.loop-channel.invariant.long);
    }

pub returns-clause-appended : goal.returns-clause-appended
returns-clause-appended c =
    let some = after_some c.args.cut.now c.args.cue (λ e. c.if-cue-eq0.false (ap (λ (q : CueContent). q.bridge) c.cue.ensures.value ∙ e)) in
    let all : c.loop-channel.channel ≡ take_channels c.args.cut.now = omega (arith, c.channel_number-channel-end.ensures.value) in
    rw some (c.loop-channel.invariant.items ∙ ap (λ n. c.args.out.now.items ++ map (place_of c.args.cue) (range_with_len 0 n)) all)

pub returns-clause-each : goal.returns-clause-each
returns-clause-each c =
    let made = map (place_of c.args.cue) (range_with_len 0 c.loop-channel.channel) in
    let each = each_place c.args.cut.now c.args.cue c.requires (λ e. c.if-cue-eq0.false (ap (λ (q : CueContent). q.bridge) c.cue.ensures.value ∙ e)) 0 c.loop-channel.channel (omega arith) in
    λ before. rw c.loop-channel.invariant.items (All-append (IsPlace c.args.cut.now) c.args.out.now.items made before each)
