use Rattle.std.proofs.Common.{◌≡◌, ◌⊎◌, ℕ, ◌+◌, ◌-◌, ◌*◌, ◌/◌, ◌%◌, ◌<◌, ◌≤◌, List, ◌++◌, length, slice_index, length-append, inl, inr, sym, ap, ◌∙◌, arith}
use Rattle.std.proofs.lemmas.Bool.{cases_lt}
use Rattle.std.proofs.lemmas.List.{get_or_append_left, get_or-append_right}
use Rattle.std.proofs.lemmas.List.FromFn.{get_or-map-range_with_len, length-map-range_with_len}
use Rattle.dsd_bits.specs.Lacing.{picked}
use Rattle.dsd_bits.proofs.planes.take_two_apart.Goals as goal

-- a byte of one of two channels
own : (part rest frames : List ℕ) (count c k : ℕ) → part ≡ picked frames 2 c 0 count → k < count → slice_index (part ++ rest) k ≡ slice_index frames (k * 2 + c)
own part rest frames count c k is below =
    let f : ℕ → ℕ = λ frame. slice_index frames (frame * 2 + c) in
    let long = ap length is ∙ length-map-range_with_len f 0 count in
    get_or_append_left part rest 0 k (omega (arith, long)) ∙ ap (λ xs. slice_index xs k) is ∙ get_or-map-range_with_len f 0 count k k 0 below (omega arith)

both : (left after_left right after_right frames : List ℕ) (count c k : ℕ) → left ≡ picked frames 2 0 0 count → right ≡ picked frames 2 1 0 count → length (left ++ after_left) ≡ 4096 → c < 2 → k < count → count < 4097
    → slice_index ((left ++ after_left) ++ (right ++ after_right)) (4096 * c + k) ≡ slice_index frames (k * 2 + c)
both left after_left right after_right frames count c k left_is right_is long in_list below few = elim (cases_lt c 1) [
  | inl low ↦
      let e : c ≡ 0 = omega arith in
      let place : 4096 * c + k ≡ k = omega (arith, e) in
      let back : k * 2 + 0 ≡ k * 2 + c = omega (arith, e) in
      ap (slice_index ((left ++ after_left) ++ (right ++ after_right))) place ∙ get_or_append_left (left ++ after_left) (right ++ after_right) 0 k (omega (arith, long)) ∙ own left after_left frames count 0 k left_is below ∙ ap (slice_index frames) back
  | inr high ↦
      let e : c ≡ 1 = omega arith in
      let after : 4096 * c + k - 4096 ≡ k = omega (arith, e) in
      let back : k * 2 + 1 ≡ k * 2 + c = omega (arith, e) in
      get_or-append_right (left ++ after_left) (right ++ after_right) 4096 (4096 * c + k) 0 long (omega (arith, e)) ∙ ap (slice_index (right ++ after_right)) after ∙ own right after_right frames count 1 k right_is below ∙ ap (slice_index frames) back
]

-- a byte after the part of its plane that is written
kept : (new old rest : List ℕ) (count place : ℕ) → length new ≡ count → length old ≡ count → count ≤ place → slice_index (new ++ rest) place ≡ slice_index (old ++ rest) place
kept new old rest count place new_long old_long after = get_or-append_right new rest count place 0 new_long after ∙ sym (get_or-append_right old rest count place 0 old_long after)

module _ (planes first second left after_left right after_right new_left new_right : List ℕ) (count : ℕ) (few : count ≤ 4096) (both_are : planes ≡ first ++ second) (first_is : first ≡ left ++ after_left) (second_is : second ≡ right ++ after_right)
    (long : length first ≡ 4096) (left_long : length left ≡ count) (right_long : length right ≡ count) (new_left_long : length new_left ≡ count) (new_right_long : length new_right ≡ count) where
  new_long : length (new_left ++ after_left) ≡ 4096
  new_long = omega (arith, length-append new_left after_left, length-append left after_left, ap length first_is, long, left_long, new_left_long)

  others : (place : ℕ) → (2 ≤ place / 4096) ⊎ (count ≤ place % 4096) → slice_index ((new_left ++ after_left) ++ (new_right ++ after_right)) place ≡ slice_index planes place
  others place away = elim (cases_lt place 4096) [
    | inl low ↦
        get_or_append_left (new_left ++ after_left) (new_right ++ after_right) 0 place (omega (arith, new_long, low)) ∙ kept new_left left after_left count place new_left_long left_long (omega (arith, away, low)) ∙ ap (λ xs. slice_index xs place) (sym first_is)
        ∙ sym (get_or_append_left first second 0 place (omega (arith, long, low))) ∙ ap (λ xs. slice_index xs place) (sym both_are)
    | inr high ↦
        get_or-append_right (new_left ++ after_left) (new_right ++ after_right) 4096 place 0 new_long high ∙ kept new_right right after_right count (place - 4096) new_right_long right_long (omega (arith, away, high, few)) ∙ ap (λ xs. slice_index xs (place - 4096)) (sym second_is)
        ∙ sym (get_or-append_right first second 4096 place 0 long high) ∙ ap (λ xs. slice_index xs place) (sym both_are)
  ]

pub returns : goal.returns
returns c = record {
  written = λ d k in_list below.
      let first = c.split_at_mut-first in
      let left = c.split_at_mut-left in
      let right = c.split_at_mut-right in
      both c.split_two.new.left left.result.1.now c.split_two.new.right right.result.1.now c.args.frames.now c.args.count d k
      (c.split_two.ensures.left ∙ ap (picked c.args.frames.now 2 0 0) left.ensures.front_len) (c.split_two.ensures.right ∙ ap (picked c.args.frames.now 2 1 0) left.ensures.front_len)
      (omega (arith, length-append c.split_two.new.left left.result.1.now, c.split_two.auto.left, left.ensures.front_len, left.ensures.back_len, first.ensures.front_len)) in_list below (omega (arith, c.requires.few));
  others = let first = c.split_at_mut-first in
      let left = c.split_at_mut-left in
      let right = c.split_at_mut-right in
      others c.args.planes.now first.result.0.now first.result.1.now left.result.0.now left.result.1.now right.result.0.now right.result.1.now c.split_two.new.left c.split_two.new.right c.args.count c.requires.few first.ensures.value left.ensures.value right.ensures.value
      first.ensures.front_len left.ensures.front_len right.ensures.front_len (c.split_two.auto.left ∙ left.ensures.front_len) (c.split_two.auto.right ∙ right.ensures.front_len);
}

pub split_two-requires : goal.split_two-requires
split_two-requires c = record {
  inside = omega (arith, c.split_at_mut-left.ensures.front_len, c.requires.frames);
  right = c.split_at_mut-right.ensures.front_len ∙ sym c.split_at_mut-left.ensures.front_len;
}
