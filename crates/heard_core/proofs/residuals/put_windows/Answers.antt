use Rattle.std.proofs.Common.{◌≡◌, ◌≢◌, ◌∙◌, ◌+◌, ◌*◌, ◌<◌, ap, arith, drop, get_or, get_or-set_other, get_or-set_same, inl, inr, length, length-drop, pos, subst, sym, to_z, of_z, w64}
use Rattle.std.specs.List.{All}
use Rattle.std.proofs.Math.ListN.{set}
use Rattle.std.proofs.lemmas.Bool.{cases_lt}
use Rattle.std.proofs.lemmas.List.{take_rest}
use Rattle.std.proofs.lemmas.List.Elements.{All-drop}
use Rattle.heard_core.specs.Products.{IsSmall, dot}
use Rattle.heard_core.proofs.DotLaws.{dot_small, wide_back}
use Rattle.heard_core.proofs.WindowLaws.{later_window}
use Rattle.heard_core.proofs.residuals.put_windows.Goals as goal

pub sum_windows-made-requires : goal.sum_windows-made-requires
sum_windows-made-requires g c =
    let es = c.args.errors.now in
    let p = c.args.first * c.args.step in (
      omega (arith, c.requires.few),
      (
        c.requires.some,
        (
          c.requires.few,
          (
            (λ w h. rw (take_rest es p) (omega (arith, length-drop p es, c.requires.within (c.args.first + w) (omega (arith, c.requires.room))))),
            (c.requires.small_taps, subst (All IsSmall) (sym (take_rest es p)) (All-drop IsSmall p es c.requires.small_errors)),
          ),
        ),
      ),
    )

pub loop-w-preserved : goal.loop-w-preserved
loop-w-preserved g c =
    let w = c.loop-w.w in
    let at = c.args.first + w in
    let ts = c.args.taps.now in
    let es = c.args.errors.now in
    let made = get_or c.sum_windows-made.result w (pos 0) in
    let is = c.sum_windows-made.ensures w (omega arith) ∙ later_window ts es c.args.first w c.args.step in
    let small = dot_small ts (drop (at * c.args.step) es) c.requires.small_taps (All-drop IsSmall (at * c.args.step) es c.requires.small_errors) in
    let inside : at < length c.loop-w.sums = omega (arith, c.requires.room, c.loop-w.auto.sums) in
    record {
      kept = λ i h. let ne : i ≢ at = omega arith in rw get_or-set_other (c.loop-w.invariant.kept i h);
      put = λ i h l. elim (cases_lt i at) [
        | inl before ↦ let ne : i ≢ at = omega arith in rw get_or-set_other (c.loop-w.invariant.put i h before)
        | inr after ↦
            let here : i ≡ at = omega arith in
            ap (λ j. get_or (set c.loop-w.sums at (to_z w64 (of_z w64 made))) j (pos 0)) here
            ∙ get_or-set_same c.loop-w.sums at (to_z w64 (of_z w64 made)) (pos 0) inside
            ∙ ap (λ z. to_z w64 (of_z w64 z)) is ∙ wide_back _ small
            ∙ ap (λ j. dot ts (drop (j * c.args.step) es)) (sym here)
      ];
    }

pub overflow_mul-first : goal.overflow_mul-first
overflow_mul-first g c = record { fits = omega (arith, c.requires.within c.args.first (omega (arith, c.requires.room, c.requires.some))) }

pub slice_bounds-sum_windows-count : goal.slice_bounds-sum_windows-count
slice_bounds-sum_windows-count g c = omega (arith, c.requires.within c.args.first (omega (arith, c.requires.room, c.requires.some)))

pub returns-clause-kept : goal.returns-clause-kept
returns-clause-kept g c = c.loop-w.invariant.kept

pub returns-clause-put : goal.returns-clause-put
returns-clause-put g c = λ i l h. c.loop-w.invariant.put i l (omega arith)
