use Rattle.std.proofs.Common.{◌≡◌, ◌+◌, ◌-◌, ◌/◌, ◌≤◌, ◌∙◌, ap, arith, length, take, drop, length-drop}
use Rattle.std.proofs.lemmas.List.{take_rest}
use Rattle.fir_core.specs.Windows.{aligned, window_size, window_sums}
use Rattle.fir_core.proofs.TileLaws.{run_by_windows, size_is, window_within}
use Rattle.fir_core.proofs.tiles.sum_inside.Goals as goal
use Rattle.fir_core.proofs.tiles.sum_inside.Goals.{After-as_slice-groups}

size : (c : After-as_slice-groups) → length c.as_slice-groups.result.now / 8 ≡ window_size (length c.args.source.taps.now.taps) c.args.source.taps.now.delay
size c = size_is c.as_slice-groups.result.now c.args.source.tables.now c.args.source.taps.now.taps c.args.source.taps.now.delay (c.as_slice-groups.ensures.value ∙ c.tables.view_is) c.args.source.same

starts_within : (c : After-as_slice-groups) → c.args.first / 8 + 1 - length c.as_slice-groups.result.now / 8 ≤ length c.args.source.bytes.now
starts_within c =
    let first = c.requires.inside 0 c.requires.some in
    omega (arith, first, c.args.source.enough, c.tables.invariant.some, ap length c.as_slice-groups.ensures.value)

pub sum_tile-requires : goal.sum_tile-requires
sum_tile-requires c = record {
  some = c.requires.some;
  each = λ i h.
      let groups = length c.as_slice-groups.result.now / 8 in
      let at = c.args.first / 8 + 1 - groups in
      let before = (goal.at.sum_tile-requires c).After-as_slice-groups in
      let front = take_rest c.args.source.bytes.now at in
      let begins : groups ≤ c.args.first / 8 + 1 = rw (size before) c.requires.begins in
      rw (ap length front, c.factor.ensures.value)
      (omega (
        arith,
        ap length (c.as_slice-groups.ensures.value ∙ c.tables.view_is),
        length-drop at c.args.source.bytes.now,
        window_within i c.args.source.taps.now.factor c.args.first c.args.source.count groups (length c.args.source.bytes.now) c.factor.ensures.limits.whole_bytes begins (c.requires.inside i h) c.args.source.enough,
      ));
}

pub returns : goal.returns
returns c =
    let before = (goal.at.returns c).After-as_slice-groups in
    let d = c.args.source.taps.now in
    let number = length c.args.sums.now in
    let at = c.args.first / 8 + 1 - length c.as_slice-groups.result.now / 8 in
    let front = take (length c.args.source.bytes.now - at) (drop at c.args.source.bytes.now) in
    c.sum_tile.ensures
    ∙ ap (λ hs. window_sums hs front (c.factor.result / 8) number) c.args.source.same
    ∙ ap (λ n. window_sums (aligned d.taps d.delay) front (n / 8) number) c.factor.ensures.value
    ∙ run_by_windows d c.args.source.bytes.now front c.args.source.count c.args.first number c.factor.ensures.limits.whole_bytes c.requires.phase c.requires.begins c.requires.inside c.args.source.enough
    (take_rest c.args.source.bytes.now at ∙ ap (λ m. drop (c.args.first / 8 + 1 - m) c.args.source.bytes.now) (size before))
