use Rattle.std.proofs.Common.{◌+◌, ◌≡◌, ◌≢◌, ◌∙◌, ◌*◌, ◌/◌, ◌<◌, ℕ, arith, below_more, drop, get_or-set_other, get_or-set_same, length, length-drop, pos, subst, sym, take, to_z, of_z, unsigned_abs, w64}
use Rattle.std.proofs.Math.ListN.{length-set}
use Rattle.std.proofs.lemmas.Int.{to_z-of_z}
use Rattle.std.proofs.lemmas.List.{length-replicate, take_rest}
use Rattle.std.proofs.lemmas.List.Elements.{All-drop}
use Rattle.std.proofs.lemmas.List.Sums.{sum_by-take-drop}
use Rattle.std.specs.List.{All}
use Rattle.heard_core.specs.Products.{AreSums, IsSmall, dot}
use Rattle.heard_core.proofs.DotLaws.{small_taps}
use Rattle.heard_core.proofs.LaneLaws.{next_group, none_summed, window_ends}
use Rattle.heard_core.proofs.products.sum_windows.Goals as goal

pub loop-i-preserved : goal.loop-i-preserved
loop-i-preserved g c = next_group g.row.N c.args.step c.args.taps.now c.args.errors.now c.loop-i.i c.loop-i.parts c.add_group.new.sums c.add_group.ensures.len c.loop-i.invariant c.add_group.ensures.sums

pub add_group-requires : goal.add_group-requires
add_group-requires g c =
    let ts = c.args.taps.now in
    let es = c.args.errors.now in
    let m = 4 * c.loop-i.i in (
      omega (arith, c.requires.few),
      (
        c.requires.few,
        (
          rw (take_rest ts m) (omega (arith, length-drop m ts)),
          (
            (λ w h. rw (take_rest es m) (omega (arith, length-drop m es, c.requires.room w h))),
            (
              subst (All IsSmall) (sym (take_rest ts m)) (All-drop IsSmall m ts (small_taps ts c.requires.small_taps)),
              subst (All IsSmall) (sym (take_rest es m)) (All-drop IsSmall m es c.requires.small_errors),
            ),
          ),
        ),
      ),
    )

pub finish-requires-clause-small_taps : goal.finish-requires-clause-small_taps
finish-requires-clause-small_taps g c =
    let ts = c.args.taps.now in
    let m = 4 * (length ts / 4) in
    rw (take_rest ts m) (omega (arith, sum_by-take-drop unsigned_abs ts m, c.requires.small_taps))

pub loop-w-preserved : goal.loop-w-preserved
loop-w-preserved g c =
    let w = c.loop-w.w in
    let ts = c.args.taps.now in
    let es = c.args.errors.now in
    let ended : c.loop-i.i ≡ length ts / 4 = omega arith in
    let summed = subst (λ (n : ℕ). AreSums g.row.N (λ v. dot (take (4 * n) ts) (drop (v * c.args.step) es)) c.loop-i.parts) ended c.loop-i.invariant in
    let value = window_ends g.row.N c.args.step ts es (4 * (length ts / 4)) w c.loop-i.parts c.finish.result (omega arith) c.requires.small_taps c.requires.small_errors summed c.finish.ensures in
    let inside : w < length c.loop-w.sums = omega (arith, c.loop-w.invariant.long) in
    record {
      long = length-set c.loop-w.sums w (to_z w64 (of_z w64 c.finish.result)) ∙ c.loop-w.invariant.long;
      done = below_more _ _
          (λ v h. let ne : v ≢ w = omega arith in rw get_or-set_other (c.loop-w.invariant.done v h))
          (rw get_or-set_same (to_z-of_z w64 c.finish.result (record { sfits = c.finish.type_inv }) ∙ value));
    }

pub loop-i-init : goal.loop-i-init
loop-i-init g c = none_summed g.row.N c.args.step c.args.taps.now c.args.errors.now

pub finish-requires-clause-room : goal.finish-requires-clause-room
finish-requires-clause-room g c =
    let ts = c.args.taps.now in
    let es = c.args.errors.now in
    let m = 4 * (length ts / 4) in
    let p = c.loop-w.w * c.args.step + m in
    rw (take_rest ts m, take_rest es p) (omega (arith, length-drop m ts, length-drop p es, c.requires.room c.loop-w.w (omega arith)))

pub finish-requires-clause-small_errors : goal.finish-requires-clause-small_errors
finish-requires-clause-small_errors g c =
    let es = c.args.errors.now in
    let p = c.loop-w.w * c.args.step + 4 * (length c.args.taps.now / 4) in
    subst (All IsSmall) (sym (take_rest es p)) (All-drop IsSmall p es c.requires.small_errors)

pub returns : goal.returns
returns g c = λ w h. c.loop-w.invariant.done w (omega arith)

pub overflow_mul-w : goal.overflow_mul-w
overflow_mul-w g c = record { fits = omega (arith, c.requires.room c.loop-w.w c.loop-w-test.true) }

pub overflow_add-w : goal.overflow_add-w
overflow_add-w g c = record { fits = omega (arith, c.requires.room c.loop-w.w c.loop-w-test.true) }

pub slice_bounds-finish-count-in-loop-w : goal.slice_bounds-finish-count-in-loop-w
slice_bounds-finish-count-in-loop-w g c = omega (arith, c.requires.room c.loop-w.w c.loop-w-test.true)

pub bounds-sums-w : goal.bounds-sums-w
bounds-sums-w g c = c.loop-w-test.true

pub slice_bounds-add_group-count-in-loop-i : goal.slice_bounds-add_group-count-in-loop-i
slice_bounds-add_group-count-in-loop-i g c = omega (arith, c.requires.room 0 (omega (arith, c.requires.some)))

pub loop-w-init : goal.loop-w-init
loop-w-init g c = record { long = length-replicate g.row.N (pos 0); done = λ v h. absurd (omega (arith, h)) }
