use Rattle.std.proofs.Common.{◌≡◌, ◌∙◌, ◌*◌, ◌<◌, ◌^◌, ap, arith, drop, inl, inr, length, pos, reverse, sum_by, sym, unsigned_abs}
use Rattle.std.proofs.lemmas.Bool.{cases_lt}
use Rattle.std.proofs.lemmas.List.{length-reverse, reverse-reverse}
use Rattle.std.proofs.lemmas.List.Elements.{All-drop, All-from_get_or}
use Rattle.std.proofs.lemmas.List.FromFn.{fill_by_all}
use Rattle.heard_core.specs.Products.{IsSmall, dot}
use Rattle.heard_core.specs.Residuals.{window_residual}
use Rattle.heard_core.proofs.DotLaws.{abs_sum_turned, dot_small}
use Rattle.heard_core.proofs.WindowLaws.{window_is_dot}
use Rattle.heard_core.proofs.residuals.Audible.residuals.Goals as goal
use Rattle.heard_core.proofs.residuals.Audible.residuals.Goals.{After-as_slice-taps}

turned : (c : After-as_slice-taps) → c.as_slice-taps.result.now ≡ reverse c.args.self.now
turned c = c.as_slice-taps.ensures.value ∙ sym (reverse-reverse c.self.inside.reversed.items) ∙ ap reverse c.self.view_is

as_many : (c : After-as_slice-taps) → length c.as_slice-taps.result.now ≡ length c.args.self.now
as_many c = ap length (turned c) ∙ length-reverse c.args.self.now

small : (c : After-as_slice-taps) → sum_by unsigned_abs c.as_slice-taps.result.now < 2 ^ 31
small c = omega (arith, ap (sum_by unsigned_abs) (turned c), abs_sum_turned c.args.self.now, ap (sum_by unsigned_abs) c.self.view_is, c.self.invariant.small_sum)

pub put_windows-requires-clause-small_taps : goal.put_windows-requires-clause-small_taps
put_windows-requires-clause-small_taps c = small (goal.at.put_windows-requires-clause-small_taps c).After-as_slice-taps

pub put_windows-requires-in-loop-i-clause-small_taps : goal.put_windows-requires-in-loop-i-clause-small_taps
put_windows-requires-in-loop-i-clause-small_taps c = small (goal.at.put_windows-requires-in-loop-i-clause-small_taps c).After-as_slice-taps

pub returns-clause-value : goal.returns-clause-value
returns-clause-value c =
    let taps = c.args.self.now in
    let es = c.args.errors.now in
    let step = c.args.step in
    fill_by_all (λ i. window_residual taps es (i * step)) c.loop-i.sums (length c.args.sums.now) (pos 0) (c.loop-i.auto.sums ∙ c.loop-group.auto.sums)
    (λ k h. c.loop-i.invariant k (omega arith) ∙ ap (λ xs. dot xs (drop (k * step) es)) (turned (goal.at.returns-clause-value c).After-as_slice-taps) ∙ sym (window_is_dot taps es (k * step) (c.requires.within k h)))

pub returns-clause-bound : goal.returns-clause-bound
returns-clause-bound c =
    let es = c.args.errors.now in
    All-from_get_or (λ r. unsigned_abs r < 2 ^ 62) c.loop-i.sums (pos 0)
    (λ i l. rw (c.loop-i.invariant i (omega arith)) (dot_small c.as_slice-taps.result.now (drop (i * c.args.step) es) (small (goal.at.returns-clause-bound c).After-as_slice-taps) (All-drop IsSmall (i * c.args.step) es c.requires.small)))

pub put_windows-requires-clause-small_errors : goal.put_windows-requires-clause-small_errors
put_windows-requires-clause-small_errors c = c.requires.small

pub put_windows-requires-in-loop-i-clause-small_errors : goal.put_windows-requires-in-loop-i-clause-small_errors
put_windows-requires-in-loop-i-clause-small_errors c = c.requires.small

pub put_windows-requires-clause-within : goal.put_windows-requires-clause-within
put_windows-requires-clause-within c = λ i h. omega (arith, c.requires.within i (omega (arith, h, c.loop-group.auto.sums)), as_many (goal.at.put_windows-requires-clause-within c).After-as_slice-taps)

pub put_windows-requires-in-loop-i-clause-within : goal.put_windows-requires-in-loop-i-clause-within
put_windows-requires-in-loop-i-clause-within c = λ i h. omega (arith, c.requires.within i (omega (arith, h, c.loop-i.auto.sums, c.loop-group.auto.sums)), as_many (goal.at.put_windows-requires-in-loop-i-clause-within c).After-as_slice-taps)

pub loop-group-preserved : goal.loop-group-preserved
loop-group-preserved c = λ k h. elim (cases_lt k (8 * c.loop-group.group)) [
  | inl before ↦ c.put_windows.ensures.kept k before ∙ c.loop-group.invariant k before
  | inr after ↦ c.put_windows.ensures.put k after (omega arith)
]

pub loop-i-preserved : goal.loop-i-preserved
loop-i-preserved c = λ k h. elim (cases_lt k c.loop-i.i) [
  | inl before ↦ c.put_windows-in-loop-i.ensures.kept k before ∙ c.loop-i.invariant k before
  | inr after ↦ c.put_windows-in-loop-i.ensures.put k after (omega arith)
]
