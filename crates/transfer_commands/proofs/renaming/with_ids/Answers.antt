use Rattle.std.proofs.Common.{◌∙◌, Err, ap, inl, refl, sym}
use Rattle.std.proofs.lemmas.Result.{err_from_is_err_and}
use Rattle.dsd_bits.proofs.ExitLaws.{no_value}
use Rattle.dsd_bits.specs.Layouts.{layout_channels}
use Rattle.form_core.specs.Parts.{head_in, tail_in}
use Rattle.form_core.specs.declared.form.Form.TheVariants.{Dsdiff}
use Rattle.sound_core.specs.Outlines.{around_of}
use Rattle.transfer_commands.proofs.ExcerptLaws.{err_says}
use Rattle.transfer_commands.proofs.RefusalLaws.{ends_refused}
use Rattle.transfer_commands.proofs.RenamingLaws.{ids_renamed}
use Rattle.transfer_commands.proofs.renaming.with_ids.Goals as goal

pub plain-requires : goal.plain-requires
plain-requires c = record {
  layout = sym c.in_ok-ids.ensures.number;
  number = c.in_ok-ids.ensures.number ∙ ap layout_channels c.layout-layout.ensures ∙ c.has_shape.ensures.layout_fits ∙ sym c.has_shape.ensures.id_for_each;
}

pub returns-in_err-ids : goal.returns-in_err-ids
returns-in_err-ids c =
    let r = c.from_residual.result in
    let is = c.from_residual.ensures.1 in
    let e = err_from_is_err_and r is in
    record {
      renamed = no_value _ _ r is;
      fits = no_value _ _ r is;
      refused = err_says r _ _ (e.1 ∙ ap Err e.2) (inl refl);
    }

pub returns-in_err-recording : goal.returns-in_err-recording
returns-in_err-recording c =
    let r = c.from_residual-in_err-recording.result in
    let is = c.from_residual-in_err-recording.ensures.1 in
    let e = err_from_is_err_and r is in
    record {
      renamed = no_value _ _ r is;
      fits = no_value _ _ r is;
      refused = err_says r _ _ (e.1 ∙ ap Err e.2) (inl refl);
    }

pub returns-in_err-ends : goal.returns-in_err-ends
returns-in_err-ends c =
    let r = c.from_residual-in_err-ends.result in
    let is = c.from_residual-in_err-ends.ensures.1 in
    let e = err_from_is_err_and r is in
    record {
      renamed = no_value _ _ r is;
      fits = no_value _ _ r is;
      refused = err_says r _ _ (e.1 ∙ ap Err e.2) (ends_refused Dsdiff (around_of c.args.outline.now) _ c.in_err-ends.field-0.0 refl c.in_err-ends.ensures.not_whole_bytes);
    }

pub returns-in_err-in_place : goal.returns-in_err-in_place
returns-in_err-in_place c =
    let r = c.from_residual-in_err-in_place.result in
    let is = c.from_residual-in_err-in_place.ensures.1 in
    let e = err_from_is_err_and r is in
    record {
      renamed = no_value _ _ r is;
      fits = no_value _ _ r is;
      refused = err_says r _ _ (e.1 ∙ ap Err e.2) (inl refl);
    }

pub returns-clause-renamed : goal.returns-clause-renamed
returns-clause-renamed c = λ file is.
    let outline = c.args.outline.now in
    let count = outline.sound.count in
    let own = c.layout-layout.ensures in
    let shape = c.has_shape.ensures in
    let number = c.in_ok-ids.ensures.number ∙ ap layout_channels own ∙ shape.layout_fits ∙ sym shape.id_for_each in
    ids_renamed outline file is c.requires.blocks shape _ c.in_ok-ids.ids.items c.layout-layout.result own c.in_ok-ids.ensures.ids number refl
    (c.in_ok-ends.ensures.head ∙ ap (λ r. head_in Dsdiff r count) c.in_ok-recording.ensures) (c.in_ok-ends.ensures.tail ∙ ap (λ r. tail_in Dsdiff r count) c.in_ok-recording.ensures)
    c.in_ok-ends.ensures.fits c.in_ok-in_place.ensures.size c.in_ok-in_place.ensures.groups
