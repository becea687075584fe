use Rattle.std.proofs.Common.{◌≡◌, ℕ, ◌∙◌, ◌*◌, ◌/◌, ◌<◌, [], get_or, length, sym, ap, arith, length-set}
use Rattle.std.proofs.lemmas.List.{take_all}
use Rattle.cost_core.proofs.Chunks.{nth_chunk}
use Rattle.cert_core.specs.Spelling.{row_text}
use Rattle.cert_core.specs.declared.version.Version.TheVariants.{One}
use Rattle.cert_core.proofs.Spellings.{text_more}
use Rattle.cert_core.proofs.numbers.take_row.Goals as goal

pub loop-place-preserved : goal.loop-place-preserved
loop-place-preserved c =
    let bytes = c.args.bytes.now in
    let low : c.loop-place.place < length c.loop-place.row = omega arith in
    let chunk = nth_chunk 8 (length bytes / 8) bytes c.loop-place.place [] (omega arith) in (
      text_more bytes c.loop-place.row c.loop-place.place c.number_in.result c.loop-place.invariant.0 (sym (ap (λ xs. get_or xs c.loop-place.place []) c.as_chunks.ensures.front ∙ chunk) ∙ c.number_in.ensures) low,
      omega (arith, length-set {A = ℕ}),
    )

pub returns : goal.returns
returns c =
    let n : 8 * length c.loop-place.row ≡ length c.args.bytes.now = omega arith in
    sym (take_all (8 * c.loop-place.place) c.args.bytes.now (omega arith)) ∙ c.loop-place.invariant.0 ∙ ap (row_text One) (take_all c.loop-place.place c.loop-place.row (omega arith))
