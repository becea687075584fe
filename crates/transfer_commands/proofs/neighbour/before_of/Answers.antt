use Rattle.std.proofs.Common.{◌∙◌, Err, ap, arith, refl}
use Rattle.std.proofs.lemmas.Result.{err_from_is_err_and}
use Rattle.dsd_bits.proofs.ExitLaws.{no_value}
use Rattle.fir_core.proofs.TileLaws.{whole_step}
use Rattle.transfer_commands.specs.Neighbours.{IsWholeRange}
use Rattle.transfer_commands.specs.Opening.{left_of}
use Rattle.transfer_commands.proofs.BetweenLaws.{described_read}
use Rattle.transfer_commands.proofs.EdgeLaws.{hears_before}
use Rattle.transfer_commands.proofs.ExcerptLaws.{err_says}
use Rattle.transfer_commands.proofs.ReportLaws.{unoutlined_left}
use Rattle.transfer_commands.proofs.neighbour.before_of.Given.{Over}
use Rattle.transfer_commands.proofs.neighbour.before_of.Goals as goal
use Rattle.transfer_commands.proofs.neighbour.before_of.Goals.{After-tail_start}

pub returns-then-count-ne0-clause-refused : goal.returns-then-count-ne0-clause-refused
returns-then-count-ne0-clause-refused g c = λ input other.
    let opened = c.in_ok-opened.opened in
    let described = described_read (g.F.Folder.view c.args.folder.now) c.args.name.now opened.prefix.items (g.F.In.Read.remaining opened.file) opened.sound c.in_ok-opened.ensures.given c.in_ok-opened.ensures.states in
    (opened.sound, described, λ whole. c.if-count-ne0.true whole)

-- whole bytes up to the end
range_is : (g : Over) (c : After-tail_start g) → IsWholeRange c.in_ok-opened.opened.sound.count (record { start = c.tail_start.result; stop = c.in_ok-opened.opened.sound.count })
range_is g c = record {
  start_whole = omega (arith, c.tail_start.ensures.frame.1, whole_step c.tail_start.ensures.frame.0 c.args.taps.now.factor c.tail_start.ensures.limits.whole_bytes);
  stop_whole = c.if-count-ne0.false;
  ordered = c.tail_start.ensures.few;
  inside = omega arith;
}

pub edge_of-requires-clause-range : goal.edge_of-requires-clause-range
edge_of-requires-clause-range g c = range_is g (goal.at.edge_of-requires-clause-range g c).After-tail_start

pub returns-in_err-opened : goal.returns-in_err-opened
returns-in_err-opened g c =
    let r = c.from_residual.result in
    let is = c.from_residual.ensures.1 in
    let e = err_from_is_err_and r is in
    record {
      same = c.open_like.ensures.same;
      heard = no_value _ _ r is;
      refused = err_says r _ _ (e.1 ∙ ap Err e.2) c.in_err-opened.ensures.refused_before;
    }

pub returns-in_err-edge_of : goal.returns-in_err-edge_of
returns-in_err-edge_of g c =
    let r = c.from_residual-in_err-edge_of.result in
    let is = c.from_residual-in_err-edge_of.ensures.1 in
    let e = err_from_is_err_and r is in
    let left = left_of g.F.In.Read.remaining c.in_ok-opened.opened in
    record {
      same = c.open_like.ensures.same;
      heard = no_value _ _ r is;
      refused = err_says r _ _ (e.1 ∙ ap Err e.2) (λ input other. unoutlined_left (g.F.Folder.view c.args.folder.now) c.args.name.now left c.in_ok-opened.ensures.given c.in_err-edge_of.field-0.0 c.in_err-edge_of.ensures.fault);
    }

pub returns-clause-heard : goal.returns-clause-heard
returns-clause-heard g c =
    let opened = c.in_ok-opened.opened in
    let left = left_of g.F.In.Read.remaining opened in
    let frame = c.tail_start.ensures.frame in
    hears_before (g.F.Folder.view c.args.folder.now) c.args.name.now left c.in_ok-opened.ensures.given c.args.sound.now opened.sound c.in_ok-opened.ensures.alike (record { start = c.tail_start.result; stop = opened.sound.count })
    (range_is g (goal.at.returns-clause-heard g c).After-tail_start)
    c.in_ok-edge_of.field-0.items c.in_ok-edge_of.ensures.edge c.args.taps.now frame.0 c.tail_start.ensures.limits refl frame.1 frame.2
