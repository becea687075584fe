use Rattle.std.proofs.Common.{◌≡◌, ℕ, ◌<◌, ◌∷◌, ◌++◌, ◌∙◌, [], Err, List, Ok, ap, arith, inl, inr, length, refl, subst, sym}
use Rattle.std.proofs.lemmas.List.{length-append}
use Rattle.std.proofs.lemmas.Result.{err_from_is_err_and}
use Rattle.dsd_bits.specs.Contents.{Content}
use Rattle.form_core.specs.Steps.{FailsUnless}
use Rattle.splice_core.specs.Splices.{splice_content}
use Rattle.cut_core.specs.Opening.{ReturnsAllExcerpts, file_bytes, take_from, takes_before}
use Rattle.cut_core.specs.declared.fault.CutFault.{CutFault}
use Rattle.cut_core.specs.declared.fault.CutFault.TheVariants.{Memory}
use Rattle.cut_core.proofs.ExcerptLaws.{excerpted_none, known_more}
use Rattle.cut_core.proofs.Steps.{takes_more, takes_stop}
use Rattle.cut_core.proofs.takes.read_takes.Goals as goal

pub loop-number-init : goal.loop-number-init
loop-number-init c = record {
  whole = [];
  before = refl;
  many = refl;
  excerpts = rw c.in_ok-takes.ensures.items (excerpted_none (splice_content c.args.splice.now));
  len = c.in_ok-takes.ensures.len;
  room = omega (arith, c.in_ok-takes.ensures.capacity);
}

pub loop-number-preserved : goal.loop-number-preserved
loop-number-preserved c =
    let so_far = c.loop-number.invariant in
    let taken = c.in_ok-excerpts_of_take.ensures in
    let r = taken.0 in
    record {
      whole = so_far.whole ++ r ∷ [];
      before = takes_more (file_bytes c.args.files.now) c.loop-number.number so_far.whole r so_far.before taken.1;
      many = omega (arith, length-append so_far.whole (r ∷ []), so_far.many);
      excerpts = known_more (splice_content c.args.splice.now) so_far.whole c.loop-number.takes.items c.push_reserved.new.self.items r c.in_ok-excerpts_of_take.field-0 c.loop-number.number so_far.many so_far.excerpts taken.2 taken.3 c.push_reserved.ensures.items;
      len = omega (arith, c.push_reserved.ensures.len, so_far.len);
      room = omega (arith, c.push_reserved.ensures.capacity, so_far.room);
    }

-- a take that fails ends them all
stopped : (files : List (List ℕ)) (n i : ℕ) (takes : List Content) (fault : CutFault) → i < n → takes_before files i ≡ Ok takes → FailsUnless Memory fault (take_from files i) → FailsUnless Memory fault (takes_before files n)
stopped files n i takes fault lt before (inl memory) = inl memory
stopped files n i takes fault lt before (inr refused) = inr (takes_stop files n i takes fault lt before refused)

pub returns-in_err-excerpts_of_take : goal.returns-in_err-excerpts_of_take
returns-in_err-excerpts_of_take c =
    let e = err_from_is_err_and c.from_residual-in_err-excerpts_of_take.result c.from_residual-in_err-excerpts_of_take.ensures.1 in
    let files = file_bytes c.args.files.now in
    let n = length c.args.files.now in
    subst (λ r. ReturnsAllExcerpts (splice_content c.args.splice.now) r (takes_before files n)) (sym (e.1 ∙ ap Err e.2)) (stopped files n c.loop-number.number c.loop-number.invariant.whole c.in_err-excerpts_of_take.field-0.0 c.loop-number-test.true c.loop-number.invariant.before c.in_err-excerpts_of_take.ensures)
