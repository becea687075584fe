use Rattle.std.proofs.Common.{◌≡◌, ◌+◌, ◌-◌, ◌++◌, ◌∷◌, [], List, Result, Ok, ap, ap₂, sym, subst, ◌∙◌, arith, drop, length}
use Rattle.std.specs.Prelude.{All}
use Rattle.std.proofs.lemmas.List.{length-take}
use Rattle.std.proofs.lemmas.List.Elements.{All-append, All-push}
use Rattle.chunk_core.specs.declared.layout.Span.{Span}
use Rattle.chunk_core.specs.Places.{places}
use Rattle.chunk_core.specs.Steps.{Fails as WalkFails}
use Rattle.dsdiff_core.specs.declared.fault.DsdiffFault.{DsdiffFault}
use Rattle.dsdiff_core.specs.Held.{MayBeInMemory}
use Rattle.dsdiff_core.specs.Steps.{Fails, walked, chunk_fault}
use Rattle.dsdiff_core.proofs.ExitLaws.{fault_at}
use Rattle.dsdiff_core.proofs.HeldLaws.{after_fails, around_end, around_spans, later_at, later_may, lead_spans, none_fails, prefix_may, same_spans, sound_may, span_at}
use Rattle.dsdiff_core.proofs.WalkLaws.{after, long, sound_span}
use Rattle.dsdiff_core.proofs.held.walk_around.Goals as goal

pub overflow_sub-end : goal.overflow_sub-end
overflow_sub-end c = (around_end c.args.file c.requires.around c.args.end c.requires.end).0

pub overflow_sub-end-2 : goal.overflow_sub-end-2
overflow_sub-end-2 c = (around_end c.args.file c.requires.around c.args.end c.requires.end).0

pub walk-requires : goal.walk-requires
walk-requires c = (omega (arith, long c.args.file.prefix.now c.requires.around.0), omega arith)

pub slice_bounds-walk_at-end : goal.slice_bounds-walk_at-end
slice_bounds-walk_at-end c = omega (arith, around_end c.args.file c.requires.around c.args.end c.requires.end)

pub returns-in_err-top-clause-exact : goal.returns-in_err-top-clause-exact
returns-in_err-top-clause-exact c =
    fault_at _ _ c.from_residual.result _ c.from_residual.ensures.1 (none_fails c.in_err-top.field-0.0 _ _ _ (lead_spans c.args.file c.requires.around c.args.end c.requires.end) c.in_err-top.ensures.exact)

pub returns-in_err-later-clause-exact : goal.returns-in_err-later-clause-exact
returns-in_err-later-clause-exact c =
    let spans = around_spans c.args.file c.requires.around c.args.end c.requires.end in
    let fails = subst (λ pad. WalkFails c.in_err-later.field-0.0 (later_at c.args.file pad c.args.end)) c.min-pad.ensures c.in_err-later.ensures.exact in
    fault_at _ _ c.from_residual-in_err-later.result _ c.from_residual-in_err-later.ensures.1 (subst (λ r. Fails (chunk_fault c.in_err-later.field-0.0) (walked r)) (sym spans) (after_fails c.in_err-later.field-0.0 _ _ fails))

pub returns-clause-exact : goal.returns-clause-exact
returns-clause-exact c =
    let a = c.requires.around in
    let spans = around_spans c.args.file a c.args.end c.requires.end in
    let later = subst (λ pad. later_at c.args.file pad c.args.end ≡ Ok c.in_ok-later.later.items) c.min-pad.ensures c.in_ok-later.ensures.exact in
    let lead : places 16 a.0.head.before ≡ c.in_ok-top.top.items = same_spans _ _ (sym (lead_spans c.args.file a c.args.end c.requires.end) ∙ c.in_ok-top.ensures.exact) in
    let sound : sound_span c.args.file.prefix.now a.0 ≡ span_at (length c.args.file.prefix.now) c.args.file.hole = ap (span_at (length c.args.file.prefix.now)) (sym a.1) in
    let joined : c.append.new.self.items ≡ (c.in_ok-top.top.items ++ span_at (length c.args.file.prefix.now) c.args.file.hole ∷ []) ++ c.in_ok-later.later.items = c.in_ok-append.ensures.items ∙ ap (λ ss. ss ++ c.in_ok-later.later.items) c.in_ok-push.ensures.items in
    ap walked (spans ∙ ap (after (places 16 a.0.head.before ++ sound_span c.args.file.prefix.now a.0 ∷ [])) later) ∙ ap₂ (λ (ss : List Span) (s : Span). let r : Result (List Span) DsdiffFault = Ok ((ss ++ s ∷ []) ++ c.in_ok-later.later.items) in r) lead sound ∙ ap Ok (sym joined)

pub returns-clause-inside : goal.returns-clause-inside
returns-clause-inside c =
    let a = c.requires.around in
    let end = around_end c.args.file a c.args.end c.requires.end in
    let sound = span_at (length c.args.file.prefix.now) c.args.file.hole in
    let top = All-push (MayBeInMemory c.args.file) c.in_ok-top.top.items sound (prefix_may c.args.file a c.args.end c.requires.end c.in_ok-top.top.items c.in_ok-top.ensures.inside) (sound_may c.args.file a c.args.end c.requires.end) in
    let few = length-take (c.args.end - (length c.args.file.prefix.now + c.args.file.hole) - c.min-pad.result) (drop c.min-pad.result c.args.file.back.now) in
    let later = later_may c.args.file a c.args.end c.requires.end c.in_ok-later.later.items _ _ (omega arith) (omega (arith, end, few, c.min-pad.ensures)) c.in_ok-later.ensures.inside in
    let joined : c.append.new.self.items ≡ (c.in_ok-top.top.items ++ sound ∷ []) ++ c.in_ok-later.later.items = c.in_ok-append.ensures.items ∙ ap (λ ss. ss ++ c.in_ok-later.later.items) c.in_ok-push.ensures.items in
    subst (All (MayBeInMemory c.args.file)) (sym joined) (All-append (MayBeInMemory c.args.file) (c.in_ok-top.top.items ++ sound ∷ []) c.in_ok-later.later.items top later)
