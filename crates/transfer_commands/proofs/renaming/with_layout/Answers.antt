use Rattle.std.proofs.Common.{◌≡◌, ◌∙◌, Err, ap, inl, length, map, refl, subst, sym}
use Rattle.std.proofs.lemmas.List.{length-map}
use Rattle.std.proofs.lemmas.Result.{err_from_is_err_and}
use Rattle.dsd_bits.proofs.ExitLaws.{no_value}
use Rattle.dsd_bits.specs.Contents.{Content}
use Rattle.form_core.specs.Parts.{head_in, tail_in}
use Rattle.speaker_core.specs.Reordering.{NamesChannels}
use Rattle.speaker_core.specs.Speakers.{layout_with, speaker_mask, speaker_of, speaker_order}
use Rattle.speaker_core.proofs.SpeakerLaws.{layout_fits}
use Rattle.transfer_commands.specs.Renaming.{plain_of}
use Rattle.sound_core.specs.Outlines.{around_of}
use Rattle.transfer_commands.proofs.ExcerptLaws.{err_says}
use Rattle.transfer_commands.proofs.RefusalLaws.{ends_refused}
use Rattle.transfer_commands.proofs.RenamingLaws.{layout_renamed, none_named}
use Rattle.transfer_commands.proofs.renaming.with_layout.Goals as goal

pub returns-in_default-clause-none : goal.returns-in_default-clause-none
returns-in_default-clause-none c =
    let r = c.args.outline.now.recording in
    let none : layout_with (speaker_mask (map speaker_of r.ids)) ≡ c.layout_with.result = sym (c.layout_with.ensures ∙ ap layout_with (c.in_ok-speakers.ensures.mask ∙ ap (λ ids. speaker_mask (map speaker_of ids)) c.ids.ensures)) in
    none_named c.args.outline.now.sound.interleaving c.args.form r c.requires.frames c.requires.form (none ∙ cc)

pub plain-requires : goal.plain-requires
plain-requires c =
    let r = c.args.outline.now.recording in
    let same : c.in_ok-ids.ids.items ≡ r.ids = c.in_ok-ids.ensures.items ∙ c.ids-2.ensures in
    let found = sym (ap layout_with (c.in_ok-speakers.ensures.mask ∙ ap (λ ids. speaker_mask (map speaker_of ids)) c.ids.ensures)) ∙ sym c.layout_with.ensures ∙ c.in-Some.is in
    record {
      layout = layout_fits (map speaker_of r.ids) c.in-Some.layout found ∙ length-map r.ids speaker_of ∙ ap length (sym same);
      number = ap length same;
    }

pub returns-in_err-speakers : goal.returns-in_err-speakers
returns-in_err-speakers c =
    let r = c.from_residual.result in
    let is = c.from_residual.ensures.1 in
    let e = err_from_is_err_and r is in
    record {
      renamed = no_value _ _ r is;
      fits = no_value _ _ r is;
      none = no_value _ _ r is;
      refused = err_says r _ _ (e.1 ∙ ap Err e.2) (inl refl);
    }

pub returns-in_err-ids : goal.returns-in_err-ids
returns-in_err-ids c =
    let r = c.from_residual-in_err-ids.result in
    let is = c.from_residual-in_err-ids.ensures.1 in
    let e = err_from_is_err_and r is in
    record {
      renamed = no_value _ _ r is;
      fits = no_value _ _ r is;
      none = no_value _ _ r is;
      refused = err_says r _ _ (e.1 ∙ ap Err e.2) (inl refl);
    }

pub returns-in_err-recording : goal.returns-in_err-recording
returns-in_err-recording c =
    let r = c.from_residual-in_err-recording.result in
    let is = c.from_residual-in_err-recording.ensures.1 in
    let e = err_from_is_err_and r is in
    record {
      renamed = no_value _ _ r is;
      fits = no_value _ _ r is;
      none = no_value _ _ r is;
      refused = err_says r _ _ (e.1 ∙ ap Err e.2) (inl refl);
    }

pub returns-in_err-ends : goal.returns-in_err-ends
returns-in_err-ends c =
    let r = c.from_residual-in_err-ends.result in
    let is = c.from_residual-in_err-ends.ensures.1 in
    let e = err_from_is_err_and r is in
    record {
      renamed = no_value _ _ r is;
      fits = no_value _ _ r is;
      none = no_value _ _ r is;
      refused = err_says r _ _ (e.1 ∙ ap Err e.2) (ends_refused c.args.form (around_of c.args.outline.now) _ c.in_err-ends.field-0.0 refl c.in_err-ends.ensures.not_whole_bytes);
    }

pub returns-in_err-new : goal.returns-in_err-new
returns-in_err-new c =
    let r = c.from_residual-in_err-new.result in
    let is = c.from_residual-in_err-new.ensures.1 in
    let e = err_from_is_err_and r is in
    record {
      renamed = no_value _ _ r is;
      fits = no_value _ _ r is;
      none = no_value _ _ r is;
      refused = err_says r _ _ (e.1 ∙ ap Err e.2) (inl refl);
    }

pub returns-clause-renamed : goal.returns-clause-renamed
returns-clause-renamed c = λ file is.
    let outline = c.args.outline.now in
    let r = outline.recording in
    let count = outline.sound.count in
    let layout = c.in-Some.layout in
    let same : c.in_ok-ids.ids.items ≡ r.ids = c.in_ok-ids.ensures.items ∙ c.ids-2.ensures in
    let found = sym (ap layout_with (c.in_ok-speakers.ensures.mask ∙ ap (λ ids. speaker_mask (map speaker_of ids)) c.ids.ensures)) ∙ sym c.layout_with.ensures ∙ c.in-Some.is in
    let made = c.in_ok-recording.ensures ∙ ap (λ ids. plain_of r ids layout) same in
    let order = c.in_ok-speakers.ensures.order ∙ ap (λ ids. speaker_order (map speaker_of ids)) c.ids.ensures in
    layout_renamed outline file is c.requires.frames c.has_shape.ensures c.args.form c.requires.form _ layout found refl
    (c.in_ok-ends.ensures.head ∙ ap (λ (x : Content). head_in c.args.form x count) made) (c.in_ok-ends.ensures.tail ∙ ap (λ (x : Content). tail_in c.args.form x count) made)
    c.in_ok-ends.ensures.fits c.in_ok-new.ensures.size
    (record {
      order_is = c.in_ok-new.ensures.order ∙ order;
      groups_are = c.in_ok-new.ensures.groups ∙ cc;
      names = subst NamesChannels order c.in_ok-speakers.ensures.channels;
      number = ap length (sym order) ∙ c.in_ok-speakers.ensures.number ∙ ap length c.ids.ensures;
    })
