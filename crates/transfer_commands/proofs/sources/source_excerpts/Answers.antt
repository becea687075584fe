use Rattle.std.proofs.Common.{◌∙◌, Err, ap, inr}
use Rattle.std.proofs.lemmas.Result.{err_from_is_err_and}
use Rattle.dsd_bits.proofs.ExitLaws.{no_value}
use Rattle.splice_core.specs.Splices.{splice_content}
use Rattle.transfer_commands.proofs.ExcerptLaws.{err_says, sources_excerpted, unnamed, unread, unread_of}
use Rattle.transfer_commands.proofs.sources.source_excerpts.Goals as goal

pub returns : goal.returns
returns g c = record {
  same = c.read_takes.ensures.same ∙ c.read_file.ensures.same;
  excerpts =
      sources_excerpted c.args.project.now (g.F.Folder.view c.args.folder.now) (g.F.Folder.view c.read_file.new.folder) c.in_ok-project.project.items (splice_content c.in_ok-splice.splice) c.in_ok-takes.takes
      c.read_file.ensures.same c.in_ok-project.ensures.bytes (rw c.deref.ensures.value at c.in_ok-splice.ensures.found) c.in_ok-takes.ensures.excerpts;
  of = c.in_ok-takes.ensures.of;
  fault = tt;
}

pub returns-in_err-project : goal.returns-in_err-project
returns-in_err-project g c =
    let r = c.from_residual.result in
    let p = err_from_is_err_and r c.from_residual.ensures.1 in
    let same = c.read_file.ensures.same in
    record {
      same = same;
      excerpts = no_value _ _ r c.from_residual.ensures.1;
      of = no_value _ _ r c.from_residual.ensures.1;
      fault = err_says r _ _ (p.1 ∙ ap Err p.2) (unread c.args.project.now (g.F.Folder.view c.args.folder.now) (g.F.Folder.view c.read_file.new.folder) _ same (unread_of c.in_err-project.field-0.0 c.in_err-project.ensures.fault));
    }

pub returns-in_err-splice : goal.returns-in_err-splice
returns-in_err-splice g c =
    let r = c.from_residual-in_err-splice.result in
    let p = err_from_is_err_and r c.from_residual-in_err-splice.ensures.1 in
    let same = c.read_file.ensures.same in
    record {
      same = same;
      excerpts = no_value _ _ r c.from_residual-in_err-splice.ensures.1;
      of = no_value _ _ r c.from_residual-in_err-splice.ensures.1;
      fault = err_says r _ _ (p.1 ∙ ap Err p.2) (same, inr (unnamed c.args.project.now (g.F.Folder.view c.args.folder.now) c.in_ok-project.project.items c.in_err-splice.field-0.0 c.in_ok-project.ensures.bytes (rw c.deref.ensures.value at c.in_err-splice.ensures.exact)));
    }

pub returns-in_err-takes : goal.returns-in_err-takes
returns-in_err-takes g c =
    let r = c.from_residual-in_err-takes.result in
    let p = err_from_is_err_and r c.from_residual-in_err-takes.ensures.1 in
    let same = c.read_takes.ensures.same ∙ c.read_file.ensures.same in
    record {
      same = same;
      excerpts = no_value _ _ r c.from_residual-in_err-takes.ensures.1;
      of = no_value _ _ r c.from_residual-in_err-takes.ensures.1;
      fault = err_says r _ _ (p.1 ∙ ap Err p.2) (unread c.args.project.now (g.F.Folder.view c.args.folder.now) (g.F.Folder.view c.read_takes.new.folder) c.in_err-takes.field-0.0 same c.in_err-takes.ensures.fault);
    }
