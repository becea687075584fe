use Rattle.std.proofs.Common.{◌≡◌, ◌<◌, ◌^◌, [], Result, Ok, ap, ◌∙◌, length, map, sym, subst}
use Rattle.std.proofs.lemmas.List.Elements.{All-map}
use Rattle.chunk_core.specs.Places.{span_chunk}
use Rattle.dsd_bits.specs.Contents.{Described, MarkContent, mark_content, other_content}
use Rattle.dsd_bits.specs.Layouts.{usual_layout}
use Rattle.dsdiff_core.specs.declared.fault.DsdiffFault.{DsdiffFault}
use Rattle.dsdiff_core.specs.Held.{held}
use Rattle.dsdiff_core.specs.Masters.{masters_of}
use Rattle.dsdiff_core.specs.Properties.{property_of, stated_of}
use Rattle.dsdiff_core.specs.Reading.{marks_of, kept_others}
use Rattle.dsdiff_core.specs.Sounds.{stated_count}
use Rattle.dsdiff_core.specs.Steps.{Fails}
use Rattle.dsdiff_core.proofs.DescribedLaws.{described_steps, stated_so}
use Rattle.dsdiff_core.proofs.ExitLaws.{fault_at}
use Rattle.dsdiff_core.proofs.JoinedSteps.{fails_then, step_then}
use Rattle.dsdiff_core.proofs.ShapeLaws.{description_is}
use Rattle.dsdiff_core.proofs.Steps.{step_fails}
use Rattle.dsdiff_core.proofs.describing.describe_held.Goals as goal

pub returns-in_err-count : goal.returns-in_err-count
returns-in_err-count c =
    let file = held c.args.file in
    let e = c.in_err-count.field-0.0 in
    let long = c.len-number.ensures ∙ c.in_ok-stated.stated.ids.ok.0 in
    let stated = subst (λ top. property_of file top ≡ Ok (stated_of c.in_ok-stated.stated)) c.deref.ensures.value c.in_ok-stated.ensures.exact in
    let fails = subst (λ n. Fails e (stated_count file c.in_ok-top.top.items n)) long (subst (λ top. Fails e (stated_count file top c.len-number.result)) c.deref-2.ensures.value c.in_err-count.ensures.exact) in
    fault_at _ _ c.from_residual-in_err-count.result _ c.from_residual-in_err-count.ensures.1 (subst (Fails e) (sym (described_steps file)) (fails_then e _ _ _ c.in_ok-top.ensures.exact (fails_then e _ _ _ stated (step_fails e _ _ fails))))

pub returns-in_err-inner : goal.returns-in_err-inner
returns-in_err-inner c =
    let file = held c.args.file in
    let e = c.in_err-inner.field-0.0 in
    let long = c.len-number.ensures ∙ c.in_ok-stated.stated.ids.ok.0 in
    let stated = subst (λ top. property_of file top ≡ Ok (stated_of c.in_ok-stated.stated)) c.deref.ensures.value c.in_ok-stated.ensures.exact in
    let count = subst (λ n. stated_count file c.in_ok-top.top.items n ≡ Ok c.in_ok-count.count) long (subst (λ top. stated_count file top c.len-number.result ≡ Ok c.in_ok-count.count) c.deref-2.ensures.value c.in_ok-count.ensures.exact) in
    let fails = subst (λ top. Fails e (masters_of file top)) c.deref-3.ensures.value c.in_err-inner.ensures.exact in
    fault_at _ _ c.from_residual-in_err-inner.result _ c.from_residual-in_err-inner.ensures.1 (subst (Fails e) (sym (described_steps file)) (fails_then e _ _ _ c.in_ok-top.ensures.exact (fails_then e _ _ _ stated (fails_then e _ _ _ count (step_fails e _ _ fails)))))

pub new-requires : goal.new-requires
new-requires c =
    let file = held c.args.file in
    let stated = c.in_ok-stated.stated in
    let long = c.len-number.ensures ∙ stated.ids.ok.0 in
    let others : map other_content c.in_ok-others.others.items ≡ kept_others file stated.parts.items c.in_ok-inner.inner.items c.in_ok-top.top.items = rw (sym c.deref-5.ensures.value, sym c.deref-6.ensures.value, sym c.deref-7.ensures.value) c.in_ok-others.ensures in
    record {
      shape = description_is stated.rate c.in_ok-count.count c.usual_layout.result stated.ids.items c.new-tag.result.items
          (map mark_content c.in_ok-marks.marks.items) (map other_content c.in_ok-others.others.items)
          (map (span_chunk file) stated.parts.items) (map (span_chunk file) c.in_ok-inner.inner.items) (map (span_chunk file) c.in_ok-top.top.items)
          c.in_ok-stated.ensures.rate.0 c.in_ok-stated.ensures.rate.1 c.in_ok-stated.ensures.number.0 c.in_ok-stated.ensures.number.1 c.in_ok-count.ensures.in_limit
          (c.usual_layout.ensures ∙ ap usual_layout long) (All-map (λ (m : MarkContent). length m.text < 2 ^ 32) mark_content c.in_ok-marks.marks.items c.in_ok-marks.ensures.short) others;
    }

pub returns : goal.returns
returns c =
    let file = held c.args.file in
    let long = c.len-number.ensures ∙ c.in_ok-stated.stated.ids.ok.0 in
    let stated = subst (λ top. property_of file top ≡ Ok (stated_of c.in_ok-stated.stated)) c.deref.ensures.value c.in_ok-stated.ensures.exact in
    let count = subst (λ n. stated_count file c.in_ok-top.top.items n ≡ Ok c.in_ok-count.count) long (subst (λ top. stated_count file top c.len-number.result ≡ Ok c.in_ok-count.count) c.deref-2.ensures.value c.in_ok-count.ensures.exact) in
    let inner = subst (λ top. masters_of file top ≡ Ok c.in_ok-inner.inner.items) c.deref-3.ensures.value c.in_ok-inner.ensures.exact in
    let marks = subst (λ inner. map mark_content c.in_ok-marks.marks.items ≡ marks_of file inner) c.deref-4.ensures.value c.in_ok-marks.ensures.marks in
    let others : map other_content c.in_ok-others.others.items ≡ kept_others file c.in_ok-stated.stated.parts.items c.in_ok-inner.inner.items c.in_ok-top.top.items = rw (sym c.deref-5.ensures.value, sym c.deref-6.ensures.value, sym c.deref-7.ensures.value) c.in_ok-others.ensures in
    let layout : c.usual_layout.result ≡ usual_layout (length c.in_ok-stated.stated.ids.items) = c.usual_layout.ensures ∙ ap usual_layout long in
    let tag : c.new-tag.result.items ≡ [] = c.new-tag.ensures.items in
    let made : c.new.result ≡ stated_so file c.in_ok-top.top.items (stated_of c.in_ok-stated.stated) c.in_ok-count.count c.in_ok-inner.inner.items = c.new.ensures ∙ (λ i. record {
      rate = c.in_ok-stated.stated.rate;
      count = c.in_ok-count.count;
      ids = c.in_ok-stated.stated.ids.items;
      layout = layout i;
      marks = marks i;
      others = others i;
      tag = tag i;
    }) in
    described_steps file ∙ step_then _ _ _ _ c.in_ok-top.ensures.exact (step_then _ _ _ _ stated (step_then _ _ _ _ count (step_then _ _ _ _ inner (ap (λ (d : Described). let r : Result Described DsdiffFault = Ok d in r) (sym made)))))
