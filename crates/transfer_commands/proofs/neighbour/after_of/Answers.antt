use Rattle.std.proofs.Common.{◌∙◌, Err, ap, arith, inl, inr, refl}
use Rattle.std.proofs.lemmas.Result.{err_from_is_err_and}
use Rattle.dsd_bits.proofs.ExitLaws.{no_value}
use Rattle.transfer_commands.specs.Opening.{left_of}
use Rattle.transfer_commands.proofs.BetweenLaws.{described_read}
use Rattle.transfer_commands.proofs.EdgeLaws.{hears_after}
use Rattle.transfer_commands.proofs.ExcerptLaws.{err_says}
use Rattle.transfer_commands.proofs.ReportLaws.{unoutlined_left}
use Rattle.transfer_commands.proofs.neighbour.after_of.Goals as goal

pub returns-then-stop-ne0-clause-refused : goal.returns-then-stop-ne0-clause-refused
returns-then-stop-ne0-clause-refused g c = λ input other.
    let opened = c.in_ok-opened.opened in
    let described = described_read (g.F.Folder.view c.args.folder.now) c.args.name.now opened.prefix.items (g.F.In.Read.remaining opened.file) opened.sound c.in_ok-opened.ensures.given c.in_ok-opened.ensures.states in (
      opened.sound,
      described,
      λ ends. elim ends [
        | inl whole ↦ c.if-stop-ne0.true (omega (arith, whole, c.min-stop.ensures))
        | inr more ↦ c.if-stop-ne0.true (omega (arith, more, c.min-stop.ensures))
      ],
    )

pub returns-in_err-opened : goal.returns-in_err-opened
returns-in_err-opened g c =
    let r = c.from_residual.result in
    let is = c.from_residual.ensures.1 in
    let e = err_from_is_err_and r is in
    record {
      same = c.open_like.ensures.same;
      heard = no_value _ _ r is;
      refused = err_says r _ _ (e.1 ∙ ap Err e.2) c.in_err-opened.ensures.refused_after;
    }

pub returns-in_err-edge_of : goal.returns-in_err-edge_of
returns-in_err-edge_of g c =
    let r = c.from_residual-in_err-edge_of.result in
    let is = c.from_residual-in_err-edge_of.ensures.1 in
    let e = err_from_is_err_and r is in
    let left = left_of g.F.In.Read.remaining c.in_ok-opened.opened in
    record {
      same = c.open_like.ensures.same;
      heard = no_value _ _ r is;
      refused = err_says r _ _ (e.1 ∙ ap Err e.2) (λ input other. unoutlined_left (g.F.Folder.view c.args.folder.now) c.args.name.now left c.in_ok-opened.ensures.given c.in_err-edge_of.field-0.0 c.in_err-edge_of.ensures.fault);
    }

pub returns-clause-heard : goal.returns-clause-heard
returns-clause-heard g c =
    let opened = c.in_ok-opened.opened in
    let left = left_of g.F.In.Read.remaining opened in
    let stop = c.min-stop.result in
    hears_after (g.F.Folder.view c.args.folder.now) c.args.name.now left c.in_ok-opened.ensures.given c.args.sound.now opened.sound c.in_ok-opened.ensures.alike (record { start = 0; stop = stop })
    (record { start_whole = omega arith; stop_whole = c.if-stop-ne0.false; ordered = omega arith; inside = omega (arith, c.min-stop.ensures) })
    c.in_ok-edge_of.field-0.items c.in_ok-edge_of.ensures.edge c.args.taps.now c.factor.ensures.limits refl c.min-stop.ensures
