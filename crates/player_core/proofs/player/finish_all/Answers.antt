use Rattle.std.proofs.Common.{◌≡◌, ◌-◌, ◌∙◌, refl, sym, subst, ap, arith, length, map}
use Rattle.std.specs.Int.{div_ceil}
use Rattle.std.specs.List.{range_with_len}
use Rattle.std.proofs.lemmas.Result.{IfOk-from_err}
use Rattle.fir_core.specs.StreamView.{IsStream}
use Rattle.fir_core.specs.declared.stream.Stream.{Stream}
use Rattle.player_core.specs.Due.{channel_whole, frames_due}
use Rattle.player_core.specs.Frames.{tile_of}
use Rattle.player_core.proofs.FinishLoop.{finished_next}
use Rattle.player_core.proofs.player.finish_all.Goals as goal

pub loop-stream-preserved : goal.loop-stream-preserved
loop-stream-preserved c =
    finished_next c.args.streams.now c.loop-stream.streams c.loop-stream.tile.items c.finish.new.out.items c.loop-stream.stream-index c.finish.new.self c.stream-item.result
    c.loop-stream.invariant c.loop-stream-test.true c.in_ok-finish.ensures.ok

pub loop-stream-init : goal.loop-stream-init
loop-stream-init c = record { long = refl; later = λ k t h. refl; given = λ d s bytes are fits. c.clear.ensures.items }

pub offset_bounds-streams-stream-index : goal.offset_bounds-streams-stream-index
offset_bounds-streams-stream-index c = omega (arith, c.loop-stream-test.true)

pub finish-requires-clause-ready : goal.finish-requires-clause-ready
finish-requires-clause-ready c =
    subst IsStream (sym (c.loop-stream.invariant.later c.loop-stream.stream-index c.stream-item.result (omega arith)))
    (c.requires.ready c.loop-stream.stream-index c.stream-item.result c.loop-stream-test.true).0

pub finish-requires-clause-all : goal.finish-requires-clause-all
finish-requires-clause-all c =
    subst (λ (t : Stream). t.fed ≡ div_ceil t.count 8) (sym (c.loop-stream.invariant.later c.loop-stream.stream-index c.stream-item.result (omega arith)))
    (c.requires.ready c.loop-stream.stream-index c.stream-item.result c.loop-stream-test.true).1

pub returns-in_err-finish : goal.returns-in_err-finish
returns-in_err-finish c = IfOk-from_err c.from_residual.result _ c.from_residual.ensures.0

pub returns : goal.returns
returns c = λ d s number bytes are fits.
    let every : c.loop-stream.stream-index ≡ s.channels = omega (arith, c.loop-stream.invariant.long, c.loop-stream-test.false, c.loop-stream.auto.stream-index-end, number) in
    c.loop-stream.invariant.given d s bytes are fits
    ∙ ap (λ n. tile_of d (map (channel_whole s bytes) (range_with_len 0 n)) (frames_due d s (length bytes)) (div_ceil s.count d.factor - frames_due d s (length bytes))) every
