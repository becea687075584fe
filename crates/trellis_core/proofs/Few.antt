-- One state more of a row that is chosen state by state.
use Rattle.std.proofs.Common.{◌≡◌, ℕ, ◌+◌, ◌*◌, ◌/◌, ◌%◌, ◌^◌, ◌<◌, ◌≤◌, min, List, take, drop, length, get_or, set, sym, ap, ◌∙◌, arith}
use Rattle.std.proofs.lemmas.List.{get_or-take, get_or-drop, length-take-le, length-drop}
use Rattle.std.specs.Simd.Lanes.{mask_l}
use Rattle.cost_core.specs.Rows.{seconds, least, twice, lower, upper}
use Rattle.cost_core.proofs.Chunks.{step_second, step_first, rows_long}
use Rattle.cost_core.proofs.Twice.{length-twice, at_twice}

module _ (old u v row : List ℕ) (k choices : ℕ) (within : k < length row) (short : length row ≤ 8) (even : length old % 2 ≡ 0) (lo : length row ≡ length old) (lu : length u ≡ length old) (lv : length v ≡ length old) (before : take k row ≡ take k (least (lower old u) (upper old v))) (so_far : choices ≡ mask_l (take k (seconds (lower old u) (upper old v)))) where
  abbrev half : ℕ
  half = length old / 2

  abbrev low : List ℕ
  low = twice (take half old)

  abbrev high : List ℕ
  high = twice (drop half old)

  low_long : length low ≡ length row
  low_long = length-twice (take half old) ∙ omega (arith, length-take-le half old (omega arith))

  high_long : length high ≡ length row
  high_long = length-twice (drop half old) ∙ omega (arith, length-drop half old)

  low_at : get_or low k 0 ≡ get_or old (k / 2) 0
  low_at = at_twice (take half old) k ∙ get_or-take half old (k / 2) 0 (omega arith)

  high_at : get_or high k 0 ≡ get_or old (half + k / 2) 0
  high_at = at_twice (drop half old) k ∙ get_or-drop half old (k / 2) 0

  abbrev pub first : ℕ
  first = get_or old (k / 2) 0 + get_or u k 0

  abbrev pub second : ℕ
  second = get_or old (half + k / 2) 0 + get_or v k 0

  pub few_second : second < first
      → record {
        out : take (k + 1) (set row k (min second (2 ^ 63))) ≡ take (k + 1) (least (lower old u) (upper old v));
        mask : choices + 1 * 2 ^ k % 256 ≡ mask_l (take (k + 1) (seconds (lower old u) (upper old v)));
        fits : choices + 1 * 2 ^ k % 256 < 256;
      }
  few_second lt =
      let s = step_second low u high v row k choices within short low_long (omega arith) high_long (omega arith) before so_far (omega (arith, low_at, high_at)) in
      record { out = ap (λ w. take (k + 1) (set row k (min (w + get_or v k 0) (2 ^ 63)))) (sym high_at) ∙ s.out; mask = s.mask; fits = s.fits }

  pub few_first : first ≤ second
      → record {
        out : take (k + 1) (set row k (min first (2 ^ 63))) ≡ take (k + 1) (least (lower old u) (upper old v));
        mask : choices ≡ mask_l (take (k + 1) (seconds (lower old u) (upper old v)));
      }
  few_first le =
      let s = step_first low u high v row k choices within short low_long (omega arith) high_long (omega arith) before so_far (omega (arith, low_at, high_at)) in
      record { out = ap (λ w. take (k + 1) (set row k (min (w + get_or u k 0) (2 ^ 63)))) (sym low_at) ∙ s.out; mask = s.mask }

pub few_long : (old u v : List ℕ) → length old % 2 ≡ 0 → length u ≡ length old → length v ≡ length old → (length (least (lower old u) (upper old v)) ≡ length old) × (length (seconds (lower old u) (upper old v)) ≡ length old)
few_long old u v even lu lv =
    let h = length old / 2 in
    let a : length (twice (take h old)) ≡ length old = length-twice (take h old) ∙ omega (arith, length-take-le h old (omega arith)) in
    let b : length (twice (drop h old)) ≡ length old = length-twice (drop h old) ∙ omega (arith, length-drop h old) in
    let l = rows_long (twice (take h old)) u (twice (drop h old)) v (omega arith) (omega arith) (omega arith) in
    (l.0 ∙ a, l.1 ∙ a)
