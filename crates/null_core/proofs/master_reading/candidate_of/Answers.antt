use Rattle.std.proofs.Common.{◌∙◌, subst, sym}
use Rattle.form_core.specs.Forms.{HoldsSome}
use Rattle.null_core.proofs.FillLaws.{filled_holds, filled_is, filled_outline, filled_recording, filled_shape, filled_silent}
use Rattle.null_core.proofs.master_reading.candidate_of.Goals as goal

pub new-requires : goal.new-requires
new-requires c =
    let mixed = c.args.mixed.now in
    let filled = c.args.filled in
    let shape = c.has_shape.ensures in
    let own = c.requires in
    let fits = c.misfit.ensures.fits c.in-None.is (filled_recording mixed filled shape own.stated own.file own.is) (filled_outline mixed filled shape own.stated own.file own.is) in
    record { shape = filled_shape mixed filled shape own.stated own.file own.is fits; empty = filled_silent mixed filled shape own.stated own.file own.is fits }

pub returns-in-Some : goal.returns-in-Some
returns-in-Some c = λ file is.
    let mixed = c.args.mixed.now in
    let filled = c.args.filled in
    let shape = c.has_shape.ensures in
    let stated = c.requires.stated in
    let r = filled_recording mixed filled shape stated file is in
    (r, filled_holds mixed filled shape stated file is, c.in-Some.ensures.verdict r (filled_outline mixed filled shape stated file is))

pub returns : goal.returns
returns c = λ file is.
    let mixed = c.args.mixed.now in
    let filled = c.args.filled in
    let shape = c.has_shape.ensures in
    let stated = c.requires.stated in
    let fits = c.misfit.ensures.fits c.in-None.is (filled_recording mixed filled shape stated file is) (filled_outline mixed filled shape stated file is) in
    subst (HoldsSome file) (filled_is mixed filled shape stated file is fits ∙ sym c.new.ensures) (filled_holds mixed filled shape stated file is)
