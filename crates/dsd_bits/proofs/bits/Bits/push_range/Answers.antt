use Rattle.std.proofs.Common.{◌++◌, Bool, List, length, slice_range, ◌∙◌, ap, arith}
use Rattle.dsd_bits.proofs.PackingLemmas.{length-unpacked}
use Rattle.dsd_bits.proofs.bits.Bits.push_range.Goals as goal

pub append_range-requires-clause-in_limit : goal.append_range-requires-clause-in_limit
append_range-requires-clause-in_limit c = omega (arith, c.requires.in_limit, ap length c.self.view_is, length-unpacked c.self.inside.bytes.items c.self.inside.count)

pub returns-clause-ok : goal.returns-clause-ok
returns-clause-ok c =
    c.in_ok-append_range.ensures.appended ∙ ap (λ (xs : List Bool). xs ++ slice_range c.args.source.now c.args.start c.args.stop) c.self.view_is
