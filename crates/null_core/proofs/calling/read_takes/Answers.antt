use Rattle.std.proofs.Common.{◌≡◌, ◌∙◌, ◌∷◌, ◌++◌, ◌<◌, [], Err, Global, List, Vec, ap, arith, length, refl, subst, sym, ℕ}
use Rattle.std.proofs.lemmas.List.{get_or-map, length-append, length-map}
use Rattle.std.proofs.lemmas.Result.{err_from_is_err_and}
use Rattle.dsd_bits.proofs.ExitLaws.{no_value}
use Rattle.clip_core.specs.Contents.{mix_content}
use Rattle.cut_core.specs.Opening.{file_bytes}
use Rattle.null_core.specs.Calling.{ReadsTake, file_at}
use Rattle.null_core.specs.Files.{HoldsExcerpts}
use Rattle.null_core.proofs.CallingLaws.{all_held, more_excerpts, more_held, no_excerpts, take_unread}
use Rattle.null_core.proofs.calling.read_takes.Goals as goal
use Rattle.null_core.proofs.calling.read_takes.Goals.{After-take_of}

pub returns-in_err-takes : goal.returns-in_err-takes
returns-in_err-takes c =
    let p = err_from_is_err_and c.from_residual.result c.from_residual.ensures.1 in
    record { made = no_value _ _ c.from_residual.result c.from_residual.ensures.1; fault = rw (p.1, p.2) tt }

pub loop-number-init : goal.loop-number-init
loop-number-init c = record {
  whole = [];
  inside = omega arith;
  many = refl;
  held = λ i lt. absurd (omega (arith, lt));
  excerpts = rw c.in_ok-takes.ensures.items (no_excerpts (mix_content c.args.mix.now));
  len = c.in_ok-takes.ensures.len;
  room = omega (arith, c.in_ok-takes.ensures.capacity);
}

abbrev items : Vec ℕ Global → List ℕ
items file = file.items

-- the file that was read
file_is : (c : After-take_of) → c.deref.result.now ≡ file_at (file_bytes c.args.files.now) c.loop-number.number
file_is c =
    let n = c.loop-number.number in
    let file = c.index-files-number.result in
    c.deref.ensures.value ∙ ap items c.index-files-number.is ∙ sym (get_or-map items c.args.files.now n file [] c.loop-number-test.true)

pub loop-number-preserved : goal.loop-number-preserved
loop-number-preserved c =
    let here = (goal.at.loop-number-preserved c).After-take_of in
    let mix = mix_content c.args.mix.now in
    let files = file_bytes c.args.files.now in
    let n = c.loop-number.number in
    let h = c.in_ok-take_of.field-0 in
    let so_far = c.loop-number.invariant in
    let next : HoldsExcerpts mix n (file_at files n) h = subst (λ file. HoldsExcerpts mix n file h) (file_is here) c.in_ok-take_of.ensures in
    record {
      whole = so_far.whole ++ next.recording ∷ [];
      inside = omega (arith, c.loop-number-test.true);
      many = omega (arith, length-append so_far.whole (next.recording ∷ []), so_far.many);
      held = more_held files so_far.whole next.recording n so_far.many so_far.held next.holds;
      excerpts = more_excerpts mix so_far.whole c.loop-number.takes.items c.push_reserved.new.self.items next.recording h n so_far.many so_far.excerpts next.shape next.are_excerpts c.push_reserved.ensures.items;
      len = omega (arith, c.push_reserved.ensures.len, so_far.len);
      room = omega (arith, c.push_reserved.ensures.capacity, so_far.room);
    }

pub returns-in_err-take_of : goal.returns-in_err-take_of
returns-in_err-take_of c =
    let here = (goal.at.returns-in_err-take_of c).After-take_of in
    let p = err_from_is_err_and c.from_residual-in_err-take_of.result c.from_residual-in_err-take_of.ensures.1 in
    let mix = mix_content c.args.mix.now in
    let files = file_bytes c.args.files.now in
    let n = c.loop-number.number in
    let so_far = c.loop-number.invariant in
    let fault = c.in_err-take_of.field-0.0 in
    let lt : n < length files = omega (arith, c.loop-number-test.true, length-map c.args.files.now items) in
    record {
      made = no_value _ _ c.from_residual-in_err-take_of.result c.from_residual-in_err-take_of.ensures.1;
      fault = rw (p.1, p.2) (take_unread mix files so_far.whole n lt so_far.held fault (subst (λ file. ReadsTake mix n file (Err fault)) (file_is here) c.in_err-take_of.ensures));
    }

pub returns : goal.returns
returns c =
    let files = file_bytes c.args.files.now in
    let so_far = c.loop-number.invariant in
    let end : length so_far.whole ≡ length files = omega (arith, so_far.many, c.loop-number-test.false, so_far.inside, length-map c.args.files.now items) in
    record {
      made = record {
        takes = so_far.whole;
        held = all_held files so_far.whole end (λ i lt. so_far.held i (omega (arith, lt, end, so_far.many)));
        excerpts = so_far.excerpts;
      };
      fault = tt;
    }
