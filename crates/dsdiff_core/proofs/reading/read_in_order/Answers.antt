use Rattle.std.proofs.Common.{◌≡◌, ℕ, ◌*◌, ◌/◌, ◌%◌, ◌≤◌, ◌^◌, List, length, Result, Ok, ap, subst, sym, ◌∙◌}
use Rattle.dsd_bits.specs.Contents.{Content, with_channels}
use Rattle.dsd_bits.specs.Lacing.{unlaced_all}
use Rattle.dsd_bits.specs.Shape.{AreDescribed}
use Rattle.dsdiff_core.specs.declared.fault.DsdiffFault.{DsdiffFault}
use Rattle.dsdiff_core.specs.Steps.{Fails}
use Rattle.dsdiff_core.proofs.DescribedLaws.{are_described, fits, read_parted}
use Rattle.dsdiff_core.proofs.ExitLaws.{fault_at}
use Rattle.dsdiff_core.proofs.JoinedSteps.{step_then}
use Rattle.dsdiff_core.proofs.Steps.{step_fails}
use Rattle.dsdiff_core.proofs.reading.read_in_order.Goals as goal

pub returns-in_err-description : goal.returns-in_err-description
returns-in_err-description c = fault_at _ _ c.from_residual.result _ c.from_residual.ensures.1 (subst (Fails c.in_err-description.field-0.0) (sym (read_parted c.args.file.now c.part.result.0 c.part.result.1.now c.part.ensures)) (step_fails c.in_err-description.field-0.0 _ _ c.in_err-description.ensures))

pub channels_of-requires-clause-in_limit : goal.channels_of-requires-clause-in_limit
channels_of-requires-clause-in_limit c = subst (λ (ids : List (List ℕ)). 8 * (length c.part.result.1.now / length ids) ≤ 2 ^ 36) (sym c.ids-number.ensures.value) (fits c.args.file.now c.part.result.0 c.part.result.1.now c.part.ensures c.in_ok-description.description c.in_ok-description.ensures).1

pub channels_of-requires-clause-whole : goal.channels_of-requires-clause-whole
channels_of-requires-clause-whole c = subst (λ (ids : List (List ℕ)). length c.part.result.1.now % length ids ≡ 0) (sym c.ids-number.ensures.value) (fits c.args.file.now c.part.result.0 c.part.result.1.now c.part.ensures c.in_ok-description.description c.in_ok-description.ensures).0

pub new-requires : goal.new-requires
new-requires c =
    let made = c.in_ok-channels.ensures ∙ ap (λ (ids : List (List ℕ)). unlaced_all c.part.result.1.now (length ids)) c.ids-number.ensures.value in
    subst (AreDescribed c.in_ok-description.description) (sym made) (are_described c.args.file.now c.part.result.0 c.part.result.1.now c.part.ensures c.in_ok-description.description c.in_ok-description.ensures)

pub returns : goal.returns
returns c =
    let made = c.in_ok-channels.ensures ∙ ap (λ (ids : List (List ℕ)). unlaced_all c.part.result.1.now (length ids)) c.ids-number.ensures.value in
    let is = c.new.ensures ∙ ap (with_channels c.in_ok-description.description) made in
    read_parted c.args.file.now c.part.result.0 c.part.result.1.now c.part.ensures ∙ step_then _ _ _ _ c.in_ok-description.ensures (ap (λ (r : Content). let x : Result Content DsdiffFault = Ok r in x) (sym is))
