use Rattle.std.proofs.Common.{◌≡◌, ◌∙◌, List, Ok, ap, length, map, sym}
use Rattle.std.proofs.lemmas.Result.{err_from_is_err_and}
use Rattle.dsd_bits.specs.Contents.{Content}
use Rattle.splice_core.specs.Splices.{splice_content}
use Rattle.cost_core.proofs.Windows.{splicing}
use Rattle.cut_core.specs.Cuts.{FitTakes}
use Rattle.cut_core.specs.Excerpts.{AreExcerpts, cut_of_excerpts, excerpts_shapes, shape_of}
use Rattle.cut_core.specs.Opening.{IsWhole, fitting}
use Rattle.cut_core.specs.Rooms.{HaveRoom}
use Rattle.cut_core.proofs.ExcerptLaws.{excerpted_is, shapes_are}
use Rattle.cut_core.proofs.KeepingLaws.{cut_fails, cut_fits, excerpted_long}
use Rattle.cut_core.proofs.OpeningLaws.{fits_is}
use Rattle.cut_core.proofs.cut.Cut.of.Goals as goal
use Rattle.cut_core.proofs.cut.Cut.of.Goals.{In_ok-fits}

pub fits-requires : goal.fits-requires
fits-requires c =
    ap length c.deref.ensures.value ∙ excerpted_long (splice_content c.args.splice) c.requires.whole c.args.takes.items c.requires.excerpts ∙ c.requires.as_many

pub returns-in_err-fits : goal.returns-in_err-fits
returns-in_err-fits c =
    let p = err_from_is_err_and c.from_residual.result c.from_residual.ensures.1 in
    record {
      exact = λ whole are.
          let shapes : excerpts_shapes c.deref.result.now ≡ map shape_of whole = ap excerpts_shapes c.deref.ensures.value ∙ shapes_are (splice_content c.args.splice) whole c.args.takes.items are in
          rw (p.1, p.2) (cut_fails c.args.form (splice_content c.args.splice) whole c.in_err-fits.field-0.0 (c.in_err-fits.ensures ∙ ap (fitting c.args.form (splice_content c.args.splice)) shapes));
    }

-- of whichever takes the excerpts are, they fit
fits : (c : In_ok-fits) (whole : List Content) → AreExcerpts (splice_content c.args.splice) whole c.args.takes.items → fitting c.args.form (splice_content c.args.splice) (map shape_of whole) ≡ Ok tt
fits c whole are =
    let shapes : excerpts_shapes c.deref.result.now ≡ map shape_of whole = ap excerpts_shapes c.deref.ensures.value ∙ shapes_are (splice_content c.args.splice) whole c.args.takes.items are in
    sym (ap (fitting c.args.form (splice_content c.args.splice)) shapes) ∙ sym c.in_ok-fits.ensures

many : (c : In_ok-fits) (whole : List Content) → AreExcerpts (splice_content c.args.splice) whole c.args.takes.items → length whole ≡ length (splice_content c.args.splice).takes
many c whole are =
    sym (excerpted_long (splice_content c.args.splice) whole c.args.takes.items are) ∙ excerpted_long (splice_content c.args.splice) c.requires.whole c.args.takes.items c.requires.excerpts ∙ c.requires.as_many

met : (c : In_ok-fits) (whole : List Content) → AreExcerpts (splice_content c.args.splice) whole c.args.takes.items → FitTakes (splice_content c.args.splice) whole × IsWhole c.args.form (splice_content c.args.splice) × HaveRoom (splice_content c.args.splice) whole
met c whole are = fits_is c.args.form (splice_content c.args.splice) whole (many c whole are) (fits c whole are)

pub invariant_of-result : goal.invariant_of-result
invariant_of-result c =
    let here = (goal.at.invariant_of-result c).In_ok-fits in
    let parts = met here c.requires.whole c.requires.excerpts in
    record { takes = c.requires.whole; excerpts = c.requires.excerpts; fit = parts.0; room = parts.2 }

pub returns : goal.returns
returns c =
    let here = (goal.at.returns c).In_ok-fits in
    let splice = splice_content c.args.splice in
    record {
      exact = λ whole are.
          let parts = met here whole are in
          cut_fits c.args.form splice whole (fits here whole are) ∙ ap (λ k. Ok k) (sym (ap (cut_of_excerpts splice) are.excerpts ∙ excerpted_is splice whole (splicing c.args.splice) parts.0 parts.2));
    }
