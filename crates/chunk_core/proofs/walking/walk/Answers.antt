use Rattle.std.specs.Global.{Vec}
use Rattle.chunk_core.specs.declared.layout.Span.{Span}
use Rattle.chunk_core.specs.Reading.{spans_in}
use Rattle.chunk_core.proofs.WalkLoop.{found_all, only_these}
use Rattle.chunk_core.proofs.walking.walk.Goals as goal

pub returns-clause-exact : goal.returns-clause-exact
unfolding spans_in
returns-clause-exact c = c.walk_at.ensures.exact

pub returns-clause-found : goal.returns-clause-found
returns-clause-found c = (found_all (λ (spans : Vec Span). spans.items) c.walk_at.result c.args.bytes.now c.args.start c.args.stop (returns-clause-exact c)).0

pub returns-clause-places : goal.returns-clause-places
returns-clause-places c = (found_all (λ (spans : Vec Span). spans.items) c.walk_at.result c.args.bytes.now c.args.start c.args.stop (returns-clause-exact c)).1

pub returns-clause-only : goal.returns-clause-only
returns-clause-only c = only_these (λ (spans : Vec Span). spans.items) c.walk_at.result c.args.bytes.now c.args.start c.args.stop (returns-clause-exact c)
