use Rattle.std.proofs.Common.{refl, ◌++◌, ◌∙◌, get_or, arith}
use Rattle.std.proofs.lemmas.List.FromFn.{get_or-map-range_with_len}
use Rattle.dsd_bits.proofs.PlaneLemmas.{sixteen_fifths}
use Rattle.dsd_bits.proofs.planes.every_fifth.Goals as goal

pub returns : goal.returns
returns c =
    let first = c.eight_of_fifths-first in
    let second = c.eight_of_fifths-second in (
      refl,
      λ k h. get_or-map-range_with_len (λ j. get_or (first.result ++ second.result) j 0) 0 16 k k 0 h (omega arith) ∙ sixteen_fifths c.args.bytes.now first.result second.result c.args.from k first.ensures.0 first.ensures.1 second.ensures.1 h,
    )
