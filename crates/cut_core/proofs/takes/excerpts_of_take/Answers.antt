use Rattle.std.proofs.Common.{◌∙◌, [], Global, Vec, ap, subst, sym, ℕ}
use Rattle.std.proofs.lemmas.List.{get_or-map}
use Rattle.splice_core.specs.Splices.{splice_content}
use Rattle.cut_core.specs.Opening.{ReturnsExcerpts, take_in}
use Rattle.cut_core.proofs.takes.excerpts_of_take.Goals as goal

pub returns : goal.returns
returns c =
    let items = λ (file : Vec ℕ Global). file.items in
    let n = c.args.number in
    let file = c.index-files-number.result in
    let is = c.deref.ensures.value ∙ ap items c.index-files-number.is ∙ sym (get_or-map items c.args.files.now n file [] c.requires) in
    subst (λ bytes. ReturnsExcerpts (splice_content c.args.splice.now) n c.excerpts_of_file.result (take_in n bytes)) is c.excerpts_of_file.ensures.excerpts
