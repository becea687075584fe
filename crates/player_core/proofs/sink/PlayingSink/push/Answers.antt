use Rattle.std.proofs.Common.{◌+◌, ap, arith, refl}
use Rattle.sound_core.proofs.FaultLaws.{fault_is}
use Rattle.player_core.specs.Pieces.{piece_bytes}
use Rattle.player_core.proofs.SinkLaws.{all_fed, came_few, fed_few, feeding_all, playing_on, playing_refuses, passed_on}
use Rattle.player_core.proofs.sink.PlayingSink.push.Goals as goal

pub returns-then-is_complete-clause-has : goal.returns-then-is_complete-clause-has
returns-then-is_complete-clause-has g c = λ first s before is.
    passed_on g.W.Write.contents first c.args.self.now s before is c.in-Some.player c.in-Some.is (c.is_complete.ensures.complete c.if-is_complete.true) (piece_bytes c.args.piece) _ refl refl refl refl refl refl

pub put_due-requires-clause-place : goal.put_due-requires-clause-place
put_due-requires-clause-place g c = c.requires.takes c.in-Some.player c.in-Some.is

pub put_due-requires-clause-few : goal.put_due-requires-clause-few
put_due-requires-clause-few g c =
    let (first, s, before, is, within) = c.requires.few in
    let early = c.is_complete.ensures.incomplete c.if-is_complete.false in
    fed_few g.W.Write.contents first c.args.self.now s before (feeding_all g.W.Write.contents first c.args.self.now s before is c.in-Some.player c.in-Some.is early) c.in-Some.player c.in-Some.is (piece_bytes c.args.piece) within

pub returns-in_err-put_due-in-Some-clause-refused : goal.returns-in_err-put_due-in-Some-clause-refused
returns-in_err-put_due-in-Some-clause-refused g c =
    let put = c.in_err-put_due-in-Some.ensures in
    let early = c.is_complete.ensures.incomplete c.if-is_complete.false in
    rw (fault_is c.from_residual.result _ c.from_residual.ensures.1) (λ first s before is.
    playing_refuses g.W.Write.contents first c.args.self.now s before (feeding_all g.W.Write.contents first c.args.self.now s before is c.in-Some.player c.in-Some.is early) c.in-Some.player c.in-Some.is _ (piece_bytes c.args.piece) refl c.in_err-put_due-in-Some.field-0.0 put.fault put.prefix put.failures)

pub overflow_add-self : goal.overflow_add-self
overflow_add-self g c =
    let (first, s, before, is, within) = c.requires.few in
    let early = c.is_complete.ensures.incomplete c.if-is_complete.false in
    omega (arith, came_few g.W.Write.contents first c.args.self.now s before (feeding_all g.W.Write.contents first c.args.self.now s before is c.in-Some.player c.in-Some.is early) c.in-Some.player c.in-Some.is (piece_bytes c.args.piece) within)

pub returns-clause-has : goal.returns-clause-has
returns-clause-has g c =
    let put = c.in_ok-put_due-in-Some.ensures in
    let early = c.is_complete.ensures.incomplete c.if-is_complete.false in
    λ first s before is.
    all_fed g.W.Write.contents first _ s _
    (playing_on g.W.Write.contents first c.args.self.now s before (feeding_all g.W.Write.contents first c.args.self.now s before is c.in-Some.player c.in-Some.is early) c.in-Some.player c.in-Some.is _ (piece_bytes c.args.piece) refl refl refl (ap (λ n. c.args.self.now.came + n) c.len.ensures) c.put_due.new.player refl put.player put.same put.ok (omega (arith, put.failures)))
