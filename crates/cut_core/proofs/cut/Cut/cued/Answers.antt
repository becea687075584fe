use Rattle.std.proofs.Common.{◌≡◌, ◌-◌, ◌<◌, ◌≤◌, ◌∙◌, ap, arith, length, map, slice_range, subst, sym}
use Rattle.splice_core.specs.Cues.{CueContent}
use Rattle.splice_core.specs.Splices.{splice_content}
use Rattle.cut_core.specs.Cuts.{CutContent, cue_at, cue_bits, take_channels}
use Rattle.cut_core.specs.Excerpts.{HasStretch, excerpts_content, start_in, stop_in, stretch_at}
use Rattle.cut_core.specs.View.{cut_content}
use Rattle.cut_core.proofs.KeepingLaws.{as_many, bits_there, cue_there, stretch_there}
use Rattle.cut_core.proofs.cut.Cut.cued.Goals as goal
use Rattle.cut_core.proofs.cut.Cut.cued.Goals.{After-deref, After-stretch-stretch}

channel : (c : After-deref) → c.args.channel < take_channels (cut_content c.self.inside)
channel c = omega (arith, ap take_channels c.self.view_is, c.requires.channel)

cue : (c : After-deref) → c.args.cue < length (splice_content c.self.inside.splice).cues
cue c = omega (arith, ap (λ (k : CutContent). length k.splice.cues) c.self.view_is, c.requires.cue)

pub stretch-stretch-requires-clause-takes : goal.stretch-stretch-requires-clause-takes
stretch-stretch-requires-clause-takes c = ap length c.deref.ensures.value ∙ as_many c.self.inside c.self.invariant

pub stretch-stretch-requires-clause-there : goal.stretch-stretch-requires-clause-there
stretch-stretch-requires-clause-there c =
    let here = (goal.at.stretch-stretch-requires-clause-there c).After-deref in
    subst (λ hs. HasStretch (splice_content c.self.inside.splice) (map excerpts_content hs) c.args.channel c.args.cue) (sym c.deref.ensures.value) (stretch_there c.self.inside c.self.invariant c.args.channel (channel here) c.args.cue (cue here))

stretch_is : (c : After-stretch-stretch) → c.stretch-stretch.result.now ≡ stretch_at (splice_content c.self.inside.splice) (map excerpts_content c.self.inside.takes.items) c.args.channel c.args.cue
stretch_is c = c.stretch-stretch.ensures ∙ ap (λ hs. stretch_at (splice_content c.self.inside.splice) (map excerpts_content hs) c.args.channel c.args.cue) c.deref.ensures.value

start_is : (c : After-stretch-stretch) → c.cue_at-here.result.now.start - c.excerpt_start-from.result ≡ start_in (splice_content c.self.inside.splice) c.args.cue
start_is c = omega (arith, ap (λ (q : CueContent). q.start) c.cue_at-here.ensures.value, c.excerpt_start-from.ensures)

stop_is : (c : After-stretch-stretch) → c.cue_at-here.result.now.stop - c.excerpt_start-from.result ≡ stop_in (splice_content c.self.inside.splice) c.args.cue
stop_is c = omega (arith, ap (λ (q : CueContent). q.stop) c.cue_at-here.ensures.value, c.excerpt_start-from.ensures)

inside : (c : After-stretch-stretch) → (c.cue_at-here.result.now.stop - c.excerpt_start-from.result) ≤ length c.stretch-stretch.result.now
inside c =
    let there = cue_there c.self.inside c.self.invariant c.args.channel (channel c.before) c.args.cue (cue c.before) in
    omega (arith, stop_is c, ap length (stretch_is c), there.1)

bits_are : (c : After-stretch-stretch) → slice_range c.stretch-stretch.result.now (c.cue_at-here.result.now.start - c.excerpt_start-from.result) (c.cue_at-here.result.now.stop - c.excerpt_start-from.result) ≡ cue_bits c.args.self.now c.args.channel c.args.cue
bits_are c =
    (λ j. slice_range (stretch_is c j) (start_is c j) (stop_is c j)) ∙ sym (bits_there c.self.inside c.self.invariant c.args.channel (channel c.before) c.args.cue (cue c.before)) ∙ ap (λ (k : CutContent). cue_bits k c.args.channel c.args.cue) c.self.view_is

pub returns-clause-bits : goal.returns-clause-bits
returns-clause-bits c = bits_are (goal.at.returns-clause-bits c).After-stretch-stretch

pub returns-clause-inside : goal.returns-clause-inside
returns-clause-inside c = inside (goal.at.returns-clause-inside c).After-stretch-stretch

pub returns-clause-long : goal.returns-clause-long
returns-clause-long c =
    let here = (goal.at.returns-clause-long c).After-stretch-stretch in
    omega (arith, c.excerpt_start-from.ensures, ap (λ (q : CueContent). q.start) c.cue_at-here.ensures.value, ap (λ (q : CueContent). q.stop) c.cue_at-here.ensures.value, ap (λ (k : CutContent). (cue_at k c.args.cue).start) c.self.view_is, ap (λ (k : CutContent). (cue_at k c.args.cue).stop) c.self.view_is, cue here.before)
