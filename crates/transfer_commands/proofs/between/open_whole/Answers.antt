use Rattle.std.proofs.Common.{inr, refl}
use Rattle.transfer_commands.proofs.BetweenLaws.{described_read}
use Rattle.transfer_commands.proofs.between.open_whole.Goals as goal

pub returns-clause-described : goal.returns-clause-described
returns-clause-described g c =
    let opened = c.in_ok-opened.opened in
    described_read (g.F.Folder.view c.args.folder.now) c.args.name.now opened.prefix.items (g.F.In.Read.remaining opened.file) opened.sound c.in_ok-opened.ensures.given c.in_ok-opened.ensures.states

pub returns-then-opened-ne0-clause-refused : goal.returns-then-opened-ne0-clause-refused
returns-then-opened-ne0-clause-refused g c =
    let opened = c.in_ok-opened.opened in
    let described = described_read (g.F.Folder.view c.args.folder.now) c.args.name.now opened.prefix.items (g.F.In.Read.remaining opened.file) opened.sound c.in_ok-opened.ensures.given c.in_ok-opened.ensures.states in
    inr (inr (refl, (opened.sound, described, λ whole. c.if-opened-ne0.true whole)))
