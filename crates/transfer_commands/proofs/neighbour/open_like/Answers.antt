use Rattle.std.proofs.Common.{◌∙◌, Err, ap}
use Rattle.std.proofs.lemmas.Result.{err_from_is_err_and}
use Rattle.dsd_bits.proofs.ExitLaws.{no_value}
use Rattle.transfer_commands.proofs.BetweenLaws.{described_read}
use Rattle.transfer_commands.proofs.ExcerptLaws.{err_says}
use Rattle.transfer_commands.proofs.neighbour.open_like.Goals as goal

pub returns-in_err-opened : goal.returns-in_err-opened
returns-in_err-opened g c =
    let r = c.from_residual.result in
    let is = c.from_residual.ensures.1 in
    let e = err_from_is_err_and r is in
    let why = c.in_err-opened.ensures.fault in
    record {
      same = c.open_prefix.ensures.same;
      states = no_value _ _ r is;
      given = no_value _ _ r is;
      alike = no_value _ _ r is;
      refused_before = err_says r _ _ (e.1 ∙ ap Err e.2) (λ input other. why);
      refused_after = err_says r _ _ (e.1 ∙ ap Err e.2) (λ input other. why);
    }

pub returns-then-opened-sound : goal.returns-then-opened-sound
returns-then-opened-sound g c =
    let opened = c.in_ok-opened.opened in
    let described = described_read (g.F.Folder.view c.args.folder.now) c.args.name.now opened.prefix.items (g.F.In.Read.remaining opened.file) opened.sound c.in_ok-opened.ensures.given c.in_ok-opened.ensures.states in
    record {
      same = c.open_prefix.ensures.same;
      states = tt;
      given = tt;
      alike = tt;
      refused_before = λ input other. (opened.sound, c.args.sound.now, described, other, λ same. c.if-opened-sound.true same);
      refused_after = λ input other. (opened.sound, c.args.sound.now, described, other, λ same. c.if-opened-sound.true same);
    }

pub returns-then-opened-sound-2 : goal.returns-then-opened-sound-2
returns-then-opened-sound-2 g c =
    let opened = c.in_ok-opened.opened in
    let described = described_read (g.F.Folder.view c.args.folder.now) c.args.name.now opened.prefix.items (g.F.In.Read.remaining opened.file) opened.sound c.in_ok-opened.ensures.given c.in_ok-opened.ensures.states in
    record {
      same = c.open_prefix.ensures.same;
      states = tt;
      given = tt;
      alike = tt;
      refused_before = λ input other. (opened.sound, c.args.sound.now, described, other, λ same. c.if-opened-sound-2.true same);
      refused_after = λ input other. (opened.sound, c.args.sound.now, described, other, λ same. c.if-opened-sound-2.true same);
    }
