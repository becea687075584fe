use Rattle.std.proofs.Common.{◌≡◌, ◌+◌, ◌-◌, ◌<◌, ◌≤◌, ◌∙◌, ap, arith, length, map, subst, sym}
use Rattle.std.specs.Prelude.{IfOk}
use Rattle.splice_core.specs.Cues.{CueContent}
use Rattle.splice_core.specs.Splices.{splice_content}
use Rattle.cost_core.specs.Bridges.{Bridging}
use Rattle.cost_core.specs.Windows.{bridging_at, splice_cue}
use Rattle.cut_core.specs.Cuts as cuts
use Rattle.cut_core.specs.Cuts.{CutContent, take_channels}
use Rattle.cut_core.specs.Excerpts.{HasStretch, excerpts_content, start_in, stop_in, stretch_at}
use Rattle.cut_core.specs.View.{cut_content}
use Rattle.cut_core.proofs.KeepingLaws.{as_many, bridge_there, room_again, stretch_there, window_there}
use Rattle.cut_core.proofs.cut.Cut.window.Goals as goal
use Rattle.cut_core.proofs.cut.Cut.window.Goals.{After-deref, After-excerpt_start-2}

channel : (c : After-deref) → c.args.place.channel < take_channels (cut_content c.self.inside)
channel c = omega (arith, ap take_channels c.self.view_is, c.requires.channel_there)

next : (c : After-deref) → c.args.place.cue + 1 < length (splice_content c.self.inside.splice).cues
next c = omega (arith, ap (λ (k : CutContent). length k.splice.cues) c.self.view_is, c.requires.cue_there)

some : (c : After-deref) → 1 ≤ (splice_cue (splice_content c.self.inside.splice) c.args.place.cue).bridge
some c = omega (arith, ap (λ (k : CutContent). (splice_cue k.splice c.args.place.cue).bridge) c.self.view_is, c.requires.bridged)

pub stretch-own-requires-clause-takes : goal.stretch-own-requires-clause-takes
stretch-own-requires-clause-takes c = ap length c.deref.ensures.value ∙ as_many c.self.inside c.self.invariant

pub stretch-next-requires-clause-takes : goal.stretch-next-requires-clause-takes
stretch-next-requires-clause-takes c = ap length c.deref-2.ensures.value ∙ as_many c.self.inside c.self.invariant

pub stretch-own-requires-clause-there : goal.stretch-own-requires-clause-there
stretch-own-requires-clause-there c =
    let here = (goal.at.stretch-own-requires-clause-there c).After-deref in
    subst (λ hs. HasStretch (splice_content c.self.inside.splice) (map excerpts_content hs) c.args.place.channel c.args.place.cue) (sym c.deref.ensures.value) (stretch_there c.self.inside c.self.invariant c.args.place.channel (channel here) c.args.place.cue (omega (arith, next here)))

pub stretch-next-requires-clause-there : goal.stretch-next-requires-clause-there
stretch-next-requires-clause-there c =
    let here = (goal.at.stretch-next-requires-clause-there c).After-deref in
    subst (λ hs. HasStretch (splice_content c.self.inside.splice) (map excerpts_content hs) c.args.place.channel (c.args.place.cue + 1)) (sym c.deref-2.ensures.value) (stretch_there c.self.inside c.self.invariant c.args.place.channel (channel here) (c.args.place.cue + 1) (next here))

pub stretch-next-requires-clause-cue : goal.stretch-next-requires-clause-cue
stretch-next-requires-clause-cue c = next (goal.at.stretch-next-requires-clause-cue c).After-deref

pub cue_at-requires-2 : goal.cue_at-requires-2
cue_at-requires-2 c = next (goal.at.cue_at-requires-2 c).After-deref

pub excerpt_start-requires-2 : goal.excerpt_start-requires-2
excerpt_start-requires-2 c = next (goal.at.excerpt_start-requires-2 c).After-deref

abbrev first : (c : After-excerpt_start-2) → After-deref
first c = (goal.at.After-excerpt_start-2 c).After-deref

own_is : (c : After-excerpt_start-2) → c.stretch-own.result.now ≡ stretch_at (splice_content c.self.inside.splice) (map excerpts_content c.self.inside.takes.items) c.args.place.channel c.args.place.cue
own_is c = c.stretch-own.ensures ∙ ap (λ hs. stretch_at (splice_content c.self.inside.splice) (map excerpts_content hs) c.args.place.channel c.args.place.cue) c.deref.ensures.value

next_is : (c : After-excerpt_start-2) → c.stretch-next.result.now ≡ stretch_at (splice_content c.self.inside.splice) (map excerpts_content c.self.inside.takes.items) c.args.place.channel (c.args.place.cue + 1)
next_is c = c.stretch-next.ensures ∙ ap (λ hs. stretch_at (splice_content c.self.inside.splice) (map excerpts_content hs) c.args.place.channel (c.args.place.cue + 1)) c.deref-2.ensures.value

stop_is : (c : After-excerpt_start-2) → c.cue_at.result.now.stop - c.excerpt_start.result ≡ stop_in (splice_content c.self.inside.splice) c.args.place.cue
stop_is c = omega (arith, ap (λ (q : CueContent). q.stop) c.cue_at.ensures.value, c.excerpt_start.ensures)

start_is : (c : After-excerpt_start-2) → c.cue_at-2.result.now.start - c.excerpt_start-2.result ≡ start_in (splice_content c.self.inside.splice) (c.args.place.cue + 1)
start_is c = omega (arith, ap (λ (q : CueContent). q.start) c.cue_at-2.ensures.value, c.excerpt_start-2.ensures)

pub between-requires-clause-cues : goal.between-requires-clause-cues
between-requires-clause-cues c = next (goal.at.between-requires-clause-cues c).After-deref

pub between-requires-clause-room : goal.between-requires-clause-room
between-requires-clause-room c =
    let here = (goal.at.between-requires-clause-room c).After-excerpt_start-2 in
    let splice = splice_content c.self.inside.splice in
    let room = bridge_there c.self.inside c.self.invariant c.args.place.channel (channel (first here)) c.args.place.cue (next (first here)) (some (first here)) in
    room_again splice c.args.place.cue _ _ _ _ _ _ _ _ (sym (own_is here)) (sym (stop_is here)) (sym (next_is here)) (sym (start_is here)) room

pub returns : goal.returns
returns c =
    let here = (goal.at.returns c).After-excerpt_start-2 in
    let splice = splice_content c.self.inside.splice in
    let is = window_there c.self.inside c.self.invariant c.args.place.channel (channel (first here)) c.args.place.cue (next (first here)) in
    let made : bridging_at splice c.args.place.cue c.stretch-own.result.now (c.cue_at.result.now.stop - c.excerpt_start.result) c.stretch-next.result.now (c.cue_at-2.result.now.start - c.excerpt_start-2.result) ≡ cuts.window c.args.self.now c.args.place.channel c.args.place.cue =
    (λ j. bridging_at splice c.args.place.cue (own_is here j) (stop_is here j) (next_is here j) (start_is here j)) ∙ sym is ∙ ap (λ (k : CutContent). cuts.window k c.args.place.channel c.args.place.cue) c.self.view_is in
    subst (λ (d : Bridging). IfOk c.between.result (λ window. window ≡ d)) made c.between.ensures
