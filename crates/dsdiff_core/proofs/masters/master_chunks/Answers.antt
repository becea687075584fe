use Rattle.std.proofs.Common.{◌∙◌, sym, arith}
use Rattle.std.proofs.lemmas.Result.{err_from_is_err_and}
use Rattle.std.proofs.lemmas.List.Elements.{All-append}
use Rattle.dsd_bits.proofs.ExitLaws.{no_value}
use Rattle.dsdiff_core.specs.Held.{IsInMemory}
use Rattle.dsdiff_core.proofs.OnceLoop.{no_span}
use Rattle.dsdiff_core.proofs.MasterLoop.{masters_end, goes_on, passes_on, master_fails, none_cut}
use Rattle.dsdiff_core.specs.Held.{held}
use Rattle.dsdiff_core.proofs.masters.master_chunks.Goals as goal
use Rattle.dsdiff_core.proofs.masters.master_chunks.Goals.{then-eq+in_ok-inner+in_ok-append, else-eq}

pub returns-in_err-inner-clause-exact : goal.returns-in_err-inner-clause-exact
returns-in_err-inner-clause-exact c =
    let p = err_from_is_err_and c.from_residual.result c.from_residual.ensures.1 in
    rw (p.1, p.2) (master_fails c.in_err-inner.field-0.0 (held c.args.file) c.args.top.now c.loop-span.span-index no_span c.loop-span.found.items _ (omega arith) (sym c.if-eq.ensures) c.in_err-inner.ensures.exact c.loop-span.invariant.so_far)

pub loop-span-preserved : goal.loop-span-preserved
loop-span-preserved c =
    elim c.if-eq.branch [
      | then-eq+in_ok-inner+in_ok-append w ↦
          rw (w.found-is, w.in_ok-append.ensures.items) (record {
            so_far = goes_on (held c.args.file) c.args.top.now c.loop-span.span-index no_span c.loop-span.found.items _ _ (omega arith) (sym w.if-eq.ensures) w.in_ok-inner.ensures.exact c.loop-span.invariant.so_far;
            inside = All-append (IsInMemory c.args.file) c.loop-span.found.items _ c.loop-span.invariant.inside w.in_ok-inner.ensures.inside;
            whole = none_cut (held c.args.file) c.loop-span.found.items _ c.loop-span.invariant.whole w.in_ok-inner.ensures.whole;
          })
      | else-eq w ↦
          rw w.found-is (record {
            so_far = passes_on (held c.args.file) c.args.top.now c.loop-span.span-index no_span c.loop-span.found.items _ (omega arith) (sym w.if-eq.ensures) c.loop-span.invariant.so_far;
            inside = c.loop-span.invariant.inside;
            whole = c.loop-span.invariant.whole;
          })
    ]

pub returns-clause-exact : goal.returns-clause-exact
returns-clause-exact c = sym c.loop-span.invariant.so_far ∙ masters_end (held c.args.file) c.args.top.now c.loop-span.span-index c.loop-span.found.items (omega arith)

pub returns-in_err-inner-clause-inside : goal.returns-in_err-inner-clause-inside
returns-in_err-inner-clause-inside c = no_value _ _ c.from_residual.result c.from_residual.ensures.1

pub returns-in_err-inner-clause-whole : goal.returns-in_err-inner-clause-whole
returns-in_err-inner-clause-whole c = no_value _ _ c.from_residual.result c.from_residual.ensures.1

pub returns-in_err-append-clause-inside : goal.returns-in_err-append-clause-inside
returns-in_err-append-clause-inside c = no_value _ _ c.from_residual-in_err-append.result c.from_residual-in_err-append.ensures.1

pub returns-in_err-append-clause-whole : goal.returns-in_err-append-clause-whole
returns-in_err-append-clause-whole c = no_value _ _ c.from_residual-in_err-append.result c.from_residual-in_err-append.ensures.1
