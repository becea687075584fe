use Rattle.std.proofs.Common.{◌≡◌, ◌+◌, ◌-◌, ◌*◌, ◌/◌, ◌<◌, ◌≤◌, ◌∙◌, ap, arith, drop, get_or, length, pos}
use Rattle.std.specs.Prelude.{replicate}
use Rattle.std.proofs.lemmas.List.{get_or-drop, get_or-take}
use Rattle.std.proofs.lemmas.List.FromFn.{fill_by_all}
use Rattle.std.proofs.lemmas.Simd.{get_or-replicate}
use Rattle.fir_core.specs.Windows.{window_sum}
use Rattle.std.proofs.Math.Nat.{mul-le-mul_right}
use Rattle.fir_core.proofs.strides.sum_tile.Goals as goal

pub add_strides-requires : goal.add_strides-requires
add_strides-requires g c =
    let number = length c.args.sums.now in
    let step = c.args.of.lookup.step in
    let long = c.split_at_mut-used.ensures.front_len in
    let fits : (8 * (((number + 14) / 8 * 8 + 8) / 8 + g.row.N) - 16) * step ≤ (number + 8 * g.row.N + 7) * step = mul-le-mul_right step (omega arith) in (
      omega arith,
      (
        omega (arith, long),
        (
          rw long (omega (arith, fits, c.requires.enough)),
          λ i h.
              ap (λ xs. get_or xs i (pos 0)) c.split_at_mut-used.ensures.front
              ∙ get_or-take ((number + 14) / 8 * 8 + 8) (replicate 4120 (pos 0)) i (pos 0) (omega (arith, h, long))
              ∙ get_or-replicate 4120 i (pos 0) (pos 0) (omega (arith, h, long, c.requires.tile)),
        ),
      ),
    )

pub returns : goal.returns
returns g c =
    let number = length c.args.sums.now in
    let used = c.add_strides.new.sums in
    fill_by_all (λ j. window_sum c.args.of.lookup.taps.now c.args.bytes.now (j * c.args.of.lookup.step)) c.copy_from_slice.new.self number (pos 0) c.copy_from_slice.ensures.len
    (λ j h.
    let inside : j < 7 + number - 7 = omega (arith, h) in
    let place : 7 + j ≡ j + 7 = omega arith in
    ap (λ xs. get_or xs j (pos 0)) c.copy_from_slice.ensures.after
    ∙ get_or-take (7 + number - 7) (drop 7 used) j (pos 0) inside ∙ get_or-drop 7 used j (pos 0)
    ∙ ap (λ m. get_or used m (pos 0)) place
    ∙ c.add_strides.ensures.sums j (omega (arith, h, c.add_strides.ensures.len, c.split_at_mut-used.ensures.front_len)))
