use Rattle.std.proofs.Common.{length, map, subst, sym, ap, ap₂, ◌∙◌, ◌++◌, ◌^◌, ◌<◌, All, List}
use Rattle.std.specs.Prelude.{flat_map}
use Rattle.std.proofs.lemmas.List.Concat.{flat_map-append}
use Rattle.chunk_core.specs.Chunks.{spell}
use Rattle.dsd_bits.specs.declared.marks.Place.TheVariants.{Master}
use Rattle.dsd_bits.specs.Contents.{MarkContent, OtherContent}
use Rattle.dsdiff_core.specs.Writing.{mark_chunk, others_of}
use Rattle.dsdiff_core.proofs.WritingLemmas.{short_texts}
use Rattle.dsdiff_core.proofs.writing.master_data.Goals as goal

pub marks_data-requires : goal.marks_data-requires
marks_data-requires c =
    let AreShort : List MarkContent → Type 0 = λ marks. All (λ mark. length mark.text < 2 ^ 32) marks in
    short_texts c.marks.result.now (subst AreShort (sym c.marks.ensures) c.requires.short_texts)

pub returns : goal.returns
returns c =
    let marks = c.in_ok-out.ensures ∙ ap (λ (ms : List MarkContent). flat_map spell (map mark_chunk ms)) c.marks.ensures in
    let others = ap (λ (os : List OtherContent). flat_map spell (others_of Master os)) c.others.ensures in
    c.in_ok-push_others.ensures ∙ ap₂ ◌++◌ marks others ∙ sym (flat_map-append spell _ _)
