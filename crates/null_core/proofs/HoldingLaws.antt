-- Laws of what a mix reads of its takes.
use Rattle.std.proofs.Common.{◌≡◌, ℕ, ◌<◌, ◌≤◌, true, false, ◌&&◌, not, nat_le, ◌==◌, get_or, refl, ◌∙◌, ap, inl, inr, arith, le-leb, eq-eqb, ◌≢◌}
use Rattle.std.proofs.lemmas.Bool.{and_from, and_left, and_parts, and_right, cases_lt, cond-false, cond-true, eqb-true, false_from_ne_true, leb-true, ne_eqb}
use Rattle.std.proofs.lemmas.List.Folds.{list_any_none, list_any_at}
use Rattle.std.proofs.lemmas.List.FromFn.{get_or-range_with_len, length-range_with_len}
use Rattle.std.proofs.lemmas.List.Elements.{All-from_get_or}
use Rattle.std.specs.List.{range_with_len}
use Rattle.clip_core.specs.Mixes.{MixContent}
use Rattle.null_core.specs.Holding.{clip_at, clip_range, is_kept, range_of, serves}
use Rattle.null_core.specs.Reading.{IsHolder}

-- what clip j needs of its take has all that clip i needs
pub record Serves (mix : MixContent) (i j : ℕ) : Type 0 where
  pub same_take : (clip_at mix j).take ≡ (clip_at mix i).take
  pub before : (clip_range mix j).start ≤ (clip_range mix i).start
  pub after : (clip_range mix i).stop ≤ (clip_range mix j).stop

module _ (mix : MixContent) where
  pub serving : (i j : ℕ) → serves mix i j ≡ true → Serves mix i j
  serving i j is =
      let both = and_parts (((clip_at mix j).take == (clip_at mix i).take) && nat_le (clip_range mix j).start (clip_range mix i).start) (nat_le (clip_range mix i).stop (clip_range mix j).stop) is in
      let first = and_parts ((clip_at mix j).take == (clip_at mix i).take) (nat_le (clip_range mix j).start (clip_range mix i).start) both.0 in
      record { same_take = eqb-true _ _ first.0; before = leb-true _ _ first.1; after = leb-true _ _ both.1 }

  pub serving_is : (i j : ℕ) → Serves mix i j → serves mix i j ≡ true
  serving_is i j s =
      and_from (((clip_at mix j).take == (clip_at mix i).take) && nat_le (clip_range mix j).start (clip_range mix i).start) (nat_le (clip_range mix i).stop (clip_range mix j).stop)
      (and_from ((clip_at mix j).take == (clip_at mix i).take) (nat_le (clip_range mix j).start (clip_range mix i).start) (eq-eqb _ _ s.same_take) (le-leb _ _ s.before)) (le-leb _ _ s.after)

  pub serves_itself : (i : ℕ) → serves mix i i ≡ true
  serves_itself i = serving_is i i (record { same_take = refl; before = omega arith; after = omega arith })

  -- what serves a clip that serves another one serves that too
  through : (i j k : ℕ) → Serves mix i j → Serves mix j k → Serves mix i k
  through i j k s t = record { same_take = t.same_take ∙ s.same_take; before = omega (arith, s.before, t.before); after = omega (arith, s.after, t.after) }

  pub kept_is : (i : ℕ) → ((j : ℕ) → j < i → serves mix i j ≡ true → ⊥) → is_kept mix i ≡ true
  kept_is i none = ap not (list_any_none (serves mix i) (range_with_len 0 i) (All-from_get_or (λ j. serves mix i j ≡ false) (range_with_len 0 i) 0 (λ k lt.
      let inside : k < i = omega (arith, length-range_with_len 0 i, lt) in
      let at : get_or (range_with_len 0 i) k 0 ≡ k = get_or-range_with_len 0 i k 0 inside ∙ omega arith in
      rw at (false_from_ne_true (serves mix i k) (none k inside)))))

  pub not_kept : (i j : ℕ) → j < i → serves mix i j ≡ true → is_kept mix i ≡ false
  not_kept i j lt is =
      let at : get_or (range_with_len 0 i) j 0 ≡ j = get_or-range_with_len 0 i j 0 lt ∙ omega arith in
      ap not (list_any_at (serves mix i) (range_with_len 0 i) j 0 (omega (arith, length-range_with_len 0 i, lt)) (ap (serves mix i) at ∙ is))

  pub holder_kept : (i j : ℕ) → IsHolder mix i j → is_kept mix j ≡ true
  holder_kept i j holder = kept_is j (λ k lt is. holder.before k lt (serving_is i k (through i j k (serving i j holder.here) (serving j k is))))

  pub holder_below : (i j : ℕ) → IsHolder mix i j → j ≤ i
  holder_below i j holder = elim (cases_lt i j) [ inl lt ↦ absurd (holder.before i lt (serves_itself i)) | inr le ↦ le ]

  -- ---- the range that is read for a clip
  module _ (number i : ℕ) where
    pub range_here : (clip_at mix i).take ≡ number → IsHolder mix i i → range_of mix number i ≡ clip_range mix i
    range_here take holder = cond-true _ _ _ (and_from ((clip_at mix i).take == number) (is_kept mix i) (eq-eqb _ _ take) (holder_kept i i holder))

    pub range_other : (clip_at mix i).take ≢ number → range_of mix number i ≡ record { start = 0; stop = 0 }
    range_other other = cond-false _ _ _ (and_left ((clip_at mix i).take == number) (is_kept mix i) (ne_eqb (clip_at mix i).take number other))

    pub range_served : (j : ℕ) → IsHolder mix i j → j ≢ i → range_of mix number i ≡ record { start = 0; stop = 0 }
    range_served j holder apart = cond-false _ _ _ (and_right ((clip_at mix i).take == number) (is_kept mix i) (not_kept i j (omega (arith, holder_below i j holder, apart)) holder.here))
