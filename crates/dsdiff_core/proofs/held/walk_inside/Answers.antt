use Rattle.std.proofs.Common.{◌+◌, ◌-◌, ◌≤◌, length, drop, subst, arith}
use Rattle.std.specs.Prelude.{All, slice_range}
use Rattle.std.specs.Global.{Vec}
use Rattle.std.proofs.lemmas.List.{length-drop, length-take}
use Rattle.chunk_core.specs.Places.{LiesIn}
use Rattle.chunk_core.specs.Steps.{Gives}
use Rattle.chunk_core.specs.declared.layout.Span.{Span}
use Rattle.dsdiff_core.specs.Held.{IsInMemory}
use Rattle.dsdiff_core.proofs.HeaderLaws.{when_ok}
use Rattle.dsdiff_core.proofs.HeldLaws.{inside_spans, inside_stand}
use Rattle.dsdiff_core.proofs.held.walk_inside.Goals as goal

pub returns-clause-exact : goal.returns-clause-exact
returns-clause-exact c = subst (Gives (λ (spans : Vec Span). spans.items) c.walk_at.result) (inside_spans c.args.file c.args.span c.args.start c.data_of-data.result.now c.requires.start.0 c.data_of-data.ensures.value) c.walk_at.ensures.exact

pub returns-clause-inside : goal.returns-clause-inside
returns-clause-inside c =
    let part = c.data_of-data.result.now in
    let skip = c.args.start - c.args.span.start in
    let few : c.args.start + length (slice_range part skip (length part)) ≤ c.args.span.start + c.args.span.size = omega (arith, length-take (length part - skip) (drop skip part), length-drop skip part, c.data_of-data.ensures.len, c.requires.start) in
    when_ok (λ (spans : Vec Span). All (LiesIn c.args.start (c.args.start + length (slice_range part skip (length part)))) spans.items) (λ (spans : Vec Span). All (IsInMemory c.args.file) spans.items) c.walk_at.result
    (λ spans all. inside_stand c.args.file c.args.span c.args.start _ spans.items c.requires.stands c.requires.start.0 few all) c.walk_at.ensures.inside
