-- Parts of a range of a list.
use Rattle.std.proofs.Common.{◌≡◌, ℕ, ◌+◌, ◌-◌, ◌≤◌, List, take, drop, refl, inl, inr, arith}
use Rattle.std.proofs.lemmas.Bool.{cases_lt}
use Rattle.std.proofs.lemmas.List.{drop-take, take-take, drop-drop, drop_all, length-take}

-- a part of a range is a part of the whole
pub range_inner : (xs : List ℕ) (at stop k n : ℕ) → k + n ≤ stop - at → take n (drop k (take (stop - at) (drop at xs))) ≡ take n (drop (at + k) xs)
range_inner xs at stop k n h =
    let m : ℕ = stop - at - k in
    let e : stop - at ≡ k + m = omega arith in
    let le : n ≤ m = omega arith in
    rw e (rw (drop-take k m (drop at xs), take-take n m (drop k (drop at xs)) le, drop-drop k at xs) refl)

-- what is left of a range is a range
pub range_after : (xs : List ℕ) (at stop k : ℕ) → drop k (take (stop - at) (drop at xs)) ≡ take (stop - (at + k)) (drop (at + k) xs)
range_after xs at stop k =
    elim (cases_lt k (stop - at)) [
      | inl lt ↦
          let m : ℕ = stop - (at + k) in
          let e : stop - at ≡ k + m = omega arith in
          rw e (rw (drop-take k m (drop at xs), drop-drop k at xs) refl)
      | inr le ↦
          let z : stop - (at + k) ≡ 0 = omega arith in
          rw z (drop_all k (take (stop - at) (drop at xs)) (omega (arith, length-take (stop - at) (drop at xs))))
    ]
