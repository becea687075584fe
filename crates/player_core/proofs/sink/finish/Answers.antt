use Rattle.std.proofs.Common.{◌≡◌, ◌-◌, ◌∙◌, ap, arith, refl}
use Rattle.sound_core.proofs.FaultLaws.{fault_is}
use Rattle.player_core.specs.Parts.{frames_sound}
use Rattle.player_core.specs.Sinks.{range_sound}
use Rattle.player_core.proofs.SinkLaws.{all_finishes, fed_or_complete, pad_refuses, player_known, rest_refuses}
use Rattle.player_core.proofs.sink.finish.Given.{Over}
use Rattle.player_core.proofs.sink.finish.Goals as goal
use Rattle.player_core.proofs.sink.finish.Goals.{After-frames_sound-frames}

pub put_rest-requires-clause-player : goal.put_rest-requires-clause-player
put_rest-requires-clause-player g c =
    let on = c.requires in
    player_known g.W.Write.contents on.0 c.args.sink.now c.args.sound.now on.1 on.2 c.in-Some.player c.in-Some.is

pub put_rest-requires-clause-all : goal.put_rest-requires-clause-all
put_rest-requires-clause-all g c =
    let on = c.requires in
    fed_or_complete g.W.Write.contents on.0 c.args.sink.now c.args.sound.now on.1 on.2 c.in-Some.player c.in-Some.is on.3

frames_are : (g : Over) (c : After-frames_sound-frames g) → c.frames_sound-frames.result ≡ range_sound c.args.sink.now.taps.now c.args.sound.now c.args.sink.now.range
frames_are g c = c.frames_sound-frames.ensures.sound ∙ ap (λ n. frames_sound c.args.sink.now.taps.now c.args.sound.now (n - c.args.sink.now.range.start)) c.stop_in-stop.ensures

pub returns-in_err-put_rest-in-Some-clause-refused : goal.returns-in_err-put_rest-in-Some-clause-refused
returns-in_err-put_rest-in-Some-clause-refused g c =
    let put = c.in_err-put_rest-in-Some.ensures in
    rw (fault_is c.from_residual.result _ c.from_residual.ensures.1) (λ first bytes is long.
    rest_refuses g.W.Write.contents first c.args.sink.now c.args.sound.now bytes is c.in-Some.player c.in-Some.is _ refl c.in_err-put_rest-in-Some.field-0.0 put.fault put.prefix put.failures)

pub returns-in_err-put_pad-clause-refused : goal.returns-in_err-put_pad-clause-refused
returns-in_err-put_pad-clause-refused g c =
    let pad = c.in_err-put_pad.ensures in
    let rest = c.in_ok-put_rest-in-Some.ensures in
    let frames = frames_are g (goal.at.returns-in_err-put_pad-clause-refused g c).After-frames_sound-frames in
    rw (fault_is c.from_residual-in_err-put_pad.result _ c.from_residual-in_err-put_pad.ensures.1) (λ first bytes is long.
    pad_refuses g.W.Write.contents first c.args.sink.now c.args.sound.now bytes is c.in-Some.player c.in-Some.is _ rest.ok long _ refl c.frames_sound-frames.result frames c.in_err-put_pad.field-0.0 pad.fault pad.err (omega (arith, pad.failures, rest.failures)))

pub returns-clause-ok : goal.returns-clause-ok
returns-clause-ok g c =
    let pad = c.in_ok-put_pad.ensures in
    let rest = c.in_ok-put_rest-in-Some.ensures in
    let frames = frames_are g (goal.at.returns-clause-ok g c).After-frames_sound-frames in
    λ first bytes is long.
    all_finishes g.W.Write.contents first c.args.sink.now c.args.sound.now bytes is c.in-Some.player c.in-Some.is _ rest.ok long _ refl c.frames_sound-frames.result frames c.file_size.result c.file_size.ensures pad.ok (omega (arith, pad.failures, rest.failures))
