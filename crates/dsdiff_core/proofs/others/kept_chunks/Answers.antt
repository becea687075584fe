use Rattle.std.proofs.Common.{◌++◌, ◌∙◌, ap, append_assoc, map}
use Rattle.dsd_bits.proofs.ExitLaws.{no_value}
use Rattle.chunk_core.specs.Places.{span_chunk}
use Rattle.dsd_bits.specs.declared.marks.Place.TheVariants.{Property, Master, Form}
use Rattle.dsd_bits.specs.Contents.{other_content}
use Rattle.dsdiff_core.specs.Others.{kept}
use Rattle.dsdiff_core.specs.Held.{held}
use Rattle.dsdiff_core.proofs.others.kept_chunks.Goals as goal

pub returns-in_err-push_kept : goal.returns-in_err-push_kept
returns-in_err-push_kept c = no_value _ _ c.from_residual.result c.from_residual.ensures.1

pub returns-in_err-push_kept-2 : goal.returns-in_err-push_kept-2
returns-in_err-push_kept-2 c = no_value _ _ c.from_residual-in_err-push_kept-2.result c.from_residual-in_err-push_kept-2.ensures.1

pub returns-in_err-push_kept-3 : goal.returns-in_err-push_kept-3
returns-in_err-push_kept-3 c = no_value _ _ c.from_residual-in_err-push_kept-3.result c.from_residual-in_err-push_kept-3.ensures.1

pub returns : goal.returns
returns c =
    let parts = kept Property (map (span_chunk (held c.args.file)) c.args.parts.now) in
    let inner = kept Master (map (span_chunk (held c.args.file)) c.args.inner.now) in
    let top = kept Form (map (span_chunk (held c.args.file)) c.args.top.now) in
    c.in_ok-push_kept-3.ensures ∙ ap (λ x. x ++ top) (c.in_ok-push_kept-2.ensures ∙ ap (λ x. x ++ inner) (c.in_ok-push_kept.ensures ∙ ap (λ x. map other_content x ++ parts) c.new-others.ensures.items)) ∙ append_assoc parts inner top
