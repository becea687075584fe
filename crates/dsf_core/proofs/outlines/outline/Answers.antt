use Rattle.std.proofs.Common.{List, [], replicate, Bool, sym, ap, subst}
use Rattle.dsf_core.specs.Headers.{IsOutline}
use Rattle.dsf_core.proofs.FileLaws.{is_dsf}
use Rattle.dsf_core.proofs.outlines.outline.Goals as goal

pub returns-clause-stated : goal.returns-clause-stated
returns-clause-stated c = subst (IsOutline c.args.prefix.now c.args.total c.args.tag.items) (sym c.in_ok-silent.ensures) (record {
  no_bits = λ s found. ap (λ n. replicate {A = List Bool} n []) (c.in_ok-description.ensures.sound s found).number;
  filled = λ rest s order size tag found is. is_dsf _ _ (c.in_ok-description.ensures.stated rest s order size tag found is);
})
