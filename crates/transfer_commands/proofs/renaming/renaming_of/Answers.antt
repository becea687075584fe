use Rattle.std.proofs.Common.{◌∙◌, Err, ap, subst, sym}
use Rattle.std.proofs.lemmas.Result.{err_from_is_err_and}
use Rattle.dsd_bits.proofs.ExitLaws.{no_value}
use Rattle.form_core.specs.declared.form.Form.{Form}
use Rattle.sound_core.specs.Outlines.{around_of}
use Rattle.transfer_commands.specs.Renaming.{IsRenaming, IsRenamingFault}
use Rattle.transfer_commands.proofs.ExcerptLaws.{err_says}
use Rattle.transfer_commands.proofs.renaming.renaming_of.Goals as goal

pub returns-in_ok-with_ids-in-Dsdiff-form-clause-renamed : goal.returns-in_ok-with_ids-in-Dsdiff-form-clause-renamed
returns-in_ok-with_ids-in-Dsdiff-form-clause-renamed c = λ file is. subst (λ (f : Form). IsRenaming f (around_of c.args.outline.now) c.in_ok-with_ids-in-Dsdiff-form.field-0) (sym c.in-Dsdiff-form.is) (c.in_ok-with_ids-in-Dsdiff-form.ensures.renamed file is)

pub returns-in_err-as_it_is-in-Dsdiff : goal.returns-in_err-as_it_is-in-Dsdiff
returns-in_err-as_it_is-in-Dsdiff c =
    let r = c.from_residual.result in
    let is = c.from_residual.ensures.1 in
    let e = err_from_is_err_and r is in
    record {
      renamed = no_value _ _ r is;
      fits = no_value _ _ r is;
      none = no_value _ _ r is;
      refused = err_says r _ _ (e.1 ∙ ap Err e.2) (c.in_err-as_it_is-in-Dsdiff.ensures.refused);
    }

pub returns-in_err-as_it_is-in-Dsf-form : goal.returns-in_err-as_it_is-in-Dsf-form
returns-in_err-as_it_is-in-Dsf-form c =
    let r = c.from_residual-in_err-as_it_is-in-Dsf-form.result in
    let is = c.from_residual-in_err-as_it_is-in-Dsf-form.ensures.1 in
    let e = err_from_is_err_and r is in
    record {
      renamed = no_value _ _ r is;
      fits = no_value _ _ r is;
      none = no_value _ _ r is;
      refused = err_says r _ _ (e.1 ∙ ap Err e.2) (c.in_err-as_it_is-in-Dsf-form.ensures.refused);
    }

pub returns-in_err-with_ids-in-Dsdiff-form : goal.returns-in_err-with_ids-in-Dsdiff-form
returns-in_err-with_ids-in-Dsdiff-form c =
    let r = c.from_residual-in_err-with_ids-in-Dsdiff-form.result in
    let is = c.from_residual-in_err-with_ids-in-Dsdiff-form.ensures.1 in
    let e = err_from_is_err_and r is in
    record {
      renamed = no_value _ _ r is;
      fits = no_value _ _ r is;
      none = no_value _ _ r is;
      refused = err_says r _ _ (e.1 ∙ ap Err e.2) (subst (λ (f : Form). IsRenamingFault f (around_of c.args.outline.now) c.in_err-with_ids-in-Dsdiff-form.field-0.0) (sym c.in-Dsdiff-form.is) c.in_err-with_ids-in-Dsdiff-form.ensures.refused);
    }
