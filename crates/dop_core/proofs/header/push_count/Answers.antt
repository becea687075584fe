use Rattle.std.proofs.Common.{◌++◌, ◌%◌, ◌∙◌, ap, ne_eqb}
use Rattle.chunk_core.specs.declared.numbers.Order.TheVariants.{Little}
use Rattle.chunk_core.specs.Numbers.{bytes_of}
use Rattle.dop_core.specs.Fields.{COUNT}
use Rattle.dop_core.proofs.WriteLaws.{three}
use Rattle.dop_core.proofs.header.push_count.Goals as goal

pub returns : goal.returns
returns c =
    let count = bytes_of Little 8 c.args.count in
    rw (ne_eqb (c.args.count % 16) 0 c.if-count-eq0.false)
    (c.in_ok-push_u64.ensures.ok ∙ ap (λ xs. xs ++ count) (c.in_ok-push_u32.ensures.ok ∙ ap (λ xs. xs ++ bytes_of Little 4 8) c.in_ok-extend_from_slice.ensures.items)
    ∙ three c.args.out.now.items COUNT (bytes_of Little 4 8) count)
