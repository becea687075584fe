use Rattle.std.proofs.Common.{◌∙◌, ◌++◌, ◌∷◌, [], ap, map, sym}
use Rattle.std.proofs.lemmas.List.{map-append}
use Rattle.std.specs.Option.{option_map}
use Rattle.std.specs.Prelude.{string_bytes}
use Rattle.dsd_bits.specs.Contents.{mark_content}
use Rattle.dsdiff_core.specs.MarkPlaces.{title_mark}
use Rattle.cut_core.specs.Titles.{mark_of_title}
use Rattle.cut_core.proofs.titles.push_title.Goals as goal

pub returns-in_ok-push : goal.returns-in_ok-push
returns-in_ok-push c =
    let marks = map mark_content c.args.out.now.items in
    let made = c.in_ok-mark_at.ensures.made ∙ ap (title_mark c.args.place c.args.rate) c.as_bytes.ensures.value in
    ap (map mark_content) c.in_ok-push.ensures.items ∙ map-append mark_content c.args.out.now.items (c.in_ok-mark_at.field-0 ∷ []) ∙ ap (λ m. marks ++ m ∷ []) made
    ∙ sym (ap (λ title. marks ++ mark_of_title c.args.rate c.args.place (option_map string_bytes title)) c.in-Some.is)
