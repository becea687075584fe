use Rattle.std.proofs.Common.{◌∙◌, ◌≢◌, ◌*◌, arith, drop, below_more, get_or-set_other, length-drop, subst, sym, take}
use Rattle.std.proofs.lemmas.List.{take_rest}
use Rattle.std.proofs.lemmas.List.Elements.{All-drop}
use Rattle.std.specs.List.{All}
use Rattle.std.proofs.Math.ListN.{length-set}
use Rattle.heard_core.specs.Products.{IsSmall, dot}
use Rattle.heard_core.proofs.LaneLaws.{one_added}
use Rattle.heard_core.proofs.DotLaws.{dot_rest}
use Rattle.heard_core.proofs.products.add_group.Goals as goal

pub loop-w-preserved : goal.loop-w-preserved
loop-w-preserved g c =
    let w = c.loop-w.w in
    let now = c.loop-w.sums in
    let ts = take 4 c.args.taps.now in
    record {
      long = length-set now w c.add_four.result ∙ c.loop-w.invariant.long;
      done = below_more _ _
          (λ v h. let ne : v ≢ w = omega arith in rw get_or-set_other (c.loop-w.invariant.done v h))
          (one_added w _ (dot ts (drop (w * c.args.step) c.args.errors.now)) c.args.sums.now now c.add_four.result (omega (arith, c.loop-w.invariant.long))
          (dot_rest ts (w * c.args.step) c.args.errors.now) (c.loop-w.invariant.rest w (omega arith)) c.add_four.ensures);
      rest = λ v h. let ne : v ≢ w = omega arith in rw get_or-set_other (c.loop-w.invariant.rest v (omega arith));
    }

pub returns-clause-sums : goal.returns-clause-sums
returns-clause-sums g c = λ w h. c.loop-w.invariant.done w (omega arith)

pub overflow_mul-start : goal.overflow_mul-start
overflow_mul-start g c = record { fits = omega (arith, c.requires.errors c.loop-w.w c.loop-w-test.true) }

pub add_four-requires : goal.add_four-requires
add_four-requires g c =
    let es = c.args.errors.now in
    let p = c.loop-w.w * c.args.step in
    record {
      taps = c.requires.taps;
      errors = rw (take_rest es p) (omega (arith, length-drop p es, c.requires.errors c.loop-w.w c.loop-w-test.true));
      small_taps = c.requires.small_taps;
      small_errors = subst (All IsSmall) (sym (take_rest es p)) (All-drop IsSmall p es c.requires.small_errors);
    }
