use Rattle.std.proofs.Common.{◌++◌, ◌∙◌, ap, codes, drop}
use Rattle.chunk_core.specs.declared.numbers.Order.TheVariants.{Little}
use Rattle.chunk_core.specs.Numbers.{bytes_of}
use Rattle.dop_core.proofs.WriteLaws.{four}
use Rattle.dop_core.proofs.header.push_sized.Goals as goal

pub returns : goal.returns
returns c =
    let out = c.args.out.now.items in
    let size = bytes_of Little 4 c.args.size in
    c.in_ok-extend_from_slice-3.ensures.items
    ∙ ap (λ xs. xs ++ c.split_at.result.1.now) (c.in_ok-extend_from_slice-2.ensures.items ∙ ap (λ xs. xs ++ codes "WAVE") (c.in_ok-push_u32.ensures.ok ∙ ap (λ xs. xs ++ size) c.in_ok-extend_from_slice.ensures.items))
    ∙ ap (λ xs. (((out ++ codes "RIFF") ++ size) ++ codes "WAVE") ++ xs) c.split_at.ensures.back
    ∙ four out (codes "RIFF") size (codes "WAVE") (drop 12 c.args.header.now)
