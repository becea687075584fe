-- The line on which the gain is at a place, by the points around it.
use Rattle.std.proofs.Common.{◌≡◌, ℕ, zero, suc, ◌+◌, ◌-◌, ◌<◌, ◌≤◌, ◌^◌, true, false, List, [], ◌∷◌, None, Some, length, get_or, slice_get, nat_le, refl, sym, ap, subst, ◌∙◌, inl, inr, arith, add-one, to_z, of_z, w32}
use Rattle.std.proofs.lemmas.Bool.{lt-ltb, le-ltb, leb-true, leb-false}
use Rattle.std.proofs.lemmas.List.Sorted.{IsNonDecreasingBy-from_all_adjacent, IsPartitionedBy-leb}
use Rattle.std.proofs.lemmas.Option.{get_or_from_slice_get, slice_get-get_or, slice_get_cases, slice_get_within}
use Rattle.std.specs.List.Sorted.{IsPartitionPoint, IsPartitionedBy}
use Rattle.clip_core.specs.declared.gain.Point.{Point}
use Rattle.clip_core.specs.Gains.{AreRising, ArePoints, IsLine, IsPoint, full_gain, gain, gain_after, on_line}
use Rattle.clip_core.proofs.LineLaws.{kept, level_gain}

no_lower : (points : List Point) → AreRising points → (k : ℕ) (d : Point) → k + 1 < length points → (get_or points k d).place ≤ (get_or points (k + 1) d).place
no_lower points rising k d inside =
    let up = rising k (get_or points k d) (get_or points (k + 1) d) (slice_get-get_or points k d (omega arith)) (slice_get-get_or points (k + 1) d inside) in
    omega (arith, up)

-- a search for the first point after a place can go by halves
pub parted : (points : List Point) (k : ℕ) → AreRising points → IsPartitionedBy (λ p. nat_le p.place k) points
parted points k rising = IsPartitionedBy-leb (λ p. p.place) points k (IsNonDecreasingBy-from_all_adjacent (λ p. p.place) points (no_lower points rising))

-- the points after the first one rise as well
rest_rises : (p : Point) (ps : List Point) → AreRising (p ∷ ps) → AreRising ps
rest_rises p ps rising i a b here next = let e : suc i + 1 ≡ suc (i + 1) = omega arith in rising (suc i) a b here (rw e next)

-- none is before the first
first_least : (p : Point) (ps : List Point) → AreRising (p ∷ ps) → (i : ℕ) (a : Point) → slice_get (p ∷ ps) i ≡ Some a → p.place ≤ a.place
first_least p ps rising zero a here = let is : p ≡ a = get_or_from_slice_get (p ∷ ps) 0 a p here in rw is (omega arith)
first_least p ps rising (suc i) a here =
    let inside = slice_get_within (p ∷ ps) (suc i) a here in
    let before = slice_get-get_or (p ∷ ps) i p (omega arith) in
    let up = rising i (get_or (p ∷ ps) i p) a before (rw (add-one i) here) in
    omega (arith, first_least p ps rising i (get_or (p ∷ ps) i p) before, up)

between_after : (p : Point) (ps : List Point) → AreRising (p ∷ ps) → (i : ℕ) (a b : Point) → slice_get (p ∷ ps) i ≡ Some a → slice_get ps i ≡ Some b → (k : ℕ) → a.place ≤ k → k < b.place → gain_after p ps k ≡ on_line a b k
between_after p [] rising i a b here next k from to = absurd (omega (arith, slice_get_within [] i b next))
between_after p (q ∷ qs) rising zero a b here next k from to =
    let first : p ≡ a = get_or_from_slice_get (p ∷ q ∷ qs) 0 a p here in
    let last : q ≡ b = get_or_from_slice_get (q ∷ qs) 0 b q next in
    let less : k < q.place = rw last to in
    rw (lt-ltb k q.place less) (λ j. on_line (first j) (last j) k)
between_after p (q ∷ qs) rising (suc i) a b here next k from to =
    let rest = rest_rises p (q ∷ qs) rising in
    let least = first_least q qs rest i a here in
    rw (le-ltb k q.place (omega (arith, least, from))) (between_after q qs rest i a b here next k from to)

ended_after : (p : Point) (ps : List Point) → AreRising (p ∷ ps) → (a : Point) → slice_get (p ∷ ps) (length ps) ≡ Some a → (k : ℕ) → a.place ≤ k → gain_after p ps k ≡ a.gain
ended_after p [] rising a here k from = ap (λ (x : Point). x.gain) (get_or_from_slice_get (p ∷ []) 0 a p here)
ended_after p (q ∷ qs) rising a here k from =
    let rest = rest_rises p (q ∷ qs) rising in
    let least = first_least q qs rest (length qs) a here in
    rw (le-ltb k q.place (omega (arith, least, from))) (ended_after q qs rest a here k from)

-- between two points the gain is on the line between them
gain_between : (points : List Point) → AreRising points → (i : ℕ) (a b : Point) → slice_get points i ≡ Some a → slice_get points (i + 1) ≡ Some b → (k : ℕ) → a.place ≤ k → k < b.place → gain points k ≡ on_line a b k
gain_between [] rising i a b here next k from to = absurd (omega (arith, slice_get_within [] i a here))
gain_between (p ∷ ps) rising i a b here next k from to =
    let least = first_least p ps rising i a here in
    let after = subst (λ m. slice_get (p ∷ ps) m ≡ Some b) (add-one i) next in
    rw (le-ltb k p.place (omega (arith, least, from))) (between_after p ps rising i a b here after k from to)

-- and after the last one it is that point's
gain_ended : (points : List Point) → AreRising points → (i : ℕ) (a : Point) → slice_get points i ≡ Some a → i + 1 ≡ length points → (k : ℕ) → a.place ≤ k → gain points k ≡ a.gain
gain_ended [] rising i a here end k from = absurd (omega (arith, slice_get_within [] i a here))
gain_ended (p ∷ ps) rising i a here end k from =
    let least = first_least p ps rising i a here in
    let last : i ≡ length ps = omega (arith, end) in
    rw (le-ltb k p.place (omega (arith, least, from))) (ended_after p ps rising a (subst (λ m. slice_get (p ∷ ps) m ≡ Some a) last here) k from)

-- before the first one too
gain_started : (points : List Point) (a : Point) (k : ℕ) → slice_get points 0 ≡ Some a → k < a.place → gain points k ≡ a.gain
gain_started [] a k here to = absurd (omega (arith, slice_get_within [] 0 a here))
gain_started (p ∷ ps) a k here to =
    let is : p ≡ a = get_or_from_slice_get (p ∷ ps) 0 a p here in
    let less : k < p.place = rw is to in
    rw (lt-ltb k p.place less) (ap (λ (x : Point). x.gain) is)

gain_free : (points : List Point) → length points ≡ 0 → (k : ℕ) → gain points k ≡ full_gain
gain_free [] none k = refl
gain_free (p ∷ ps) none k = absurd (omega (arith, none))

-- the line from one point to another is that of a place
pub record IsLineAt (points : List Point) (k : ℕ) (p q : Point) : Type 0 where
  pub limits : IsLine p q
  pub begun : p.place ≤ k
  pub not_ended : k < q.place
  pub gains : (j : ℕ) → p.place ≤ j → j < q.place → on_line p q j ≡ gain points j

-- a point of points that are within their limits
point_of : (points : List Point) → ArePoints points → (i : ℕ) (a : Point) → slice_get points i ≡ Some a → IsPoint a
point_of points fine i a here = subst IsPoint (get_or_from_slice_get points i a a here) (fine.each i a (slice_get_within points i a here))

-- what a search for the first point after a place has found
pub record IsParted (points : List Point) (k n : ℕ) : Type 0 where
  pub bound : n ≤ length points
  pub before : (i : ℕ) (a : Point) → i < n → slice_get points i ≡ Some a → a.place ≤ k
  pub after : (i : ℕ) (a : Point) → n ≤ i → slice_get points i ≡ Some a → k < a.place

pub is_parted : (points : List Point) (k n : ℕ) → n ≤ length points → IsPartitionPoint (λ p. nat_le p.place k ≡ true) (λ p. nat_le p.place k ≡ false) points n → IsParted points k n
is_parted points k n bound point = record {
  bound = bound;
  before = λ i a inside here. leb-true a.place k (subst (λ (p : Point). nat_le p.place k ≡ true) (get_or_from_slice_get points i a a here) (point.0 i a (omega arith) inside));
  after = λ i a outside here. leb-false a.place k (subst (λ (p : Point). nat_le p.place k ≡ false) (get_or_from_slice_get points i a a here) (point.1 i a outside (slice_get_within points i a here)));
}

no_some : (a : Point) → None ≡ Some a → ⊥
no_some a e = cc

-- the last of the first n points
module _ (points part : List Point) (n : ℕ) (bound : n ≤ length points) (long : length part ≡ n) (same : (k : ℕ) (d : Point) → k < n → get_or part k d ≡ get_or points k d) where
  last_some : (a : Point) → Some a ≡ slice_get part (length part - 1) → (0 < n) × (slice_get points (n - 1) ≡ Some a)
  last_some a here =
      let inside = slice_get_within part (length part - 1) a (sym here) in
      let last : length part - 1 ≡ n - 1 = omega arith in
      let value : get_or part (n - 1) a ≡ a = subst (λ m. get_or part m a ≡ a) last (get_or_from_slice_get part (length part - 1) a a (sym here)) in
      (omega (arith, long, inside), slice_get-get_or points (n - 1) a (omega (arith, long, inside, bound)) ∙ ap (λ x. Some x) (sym (same (n - 1) a (omega (arith, long, inside))) ∙ value))

  last_none : None ≡ slice_get part (length part - 1) → n ≡ 0
  last_none none = elim (slice_get_cases part (length part - 1)).1 [
    | inl some ↦ absurd (no_some some.0 (none ∙ some.2))
    | inr past ↦ omega (arith, long, past.0)
  ]

-- the first of the points from place n of the list on
module _ (points rest : List Point) (n : ℕ) (long : length rest + n ≡ length points) (same : (k : ℕ) (d : Point) → get_or rest k d ≡ get_or points (n + k) d) where
  first_some : (a : Point) → Some a ≡ slice_get rest 0 → slice_get points n ≡ Some a
  first_some a here =
      let inside = slice_get_within rest 0 a (sym here) in
      let value : get_or points (n + 0) a ≡ a = sym (same 0 a) ∙ get_or_from_slice_get rest 0 a a (sym here) in
      let e : n + 0 ≡ n = omega arith in
      slice_get-get_or points n a (omega (arith, long, inside)) ∙ ap (λ x. Some x) (subst (λ m. get_or points m a ≡ a) e value)

  first_none : None ≡ slice_get rest 0 → n ≡ length points
  first_none none = elim (slice_get_cases rest 0).1 [
    | inl some ↦ absurd (no_some some.0 (none ∙ some.2))
    | inr past ↦ omega (arith, long, past.0)
  ]

-- the line by the points before a place, and those after it
pub record AreAround (points : List Point) (k n : ℕ) (before after : List Point) : Type 0 where
  pub parts : IsParted points k n
  pub long : length before ≡ n
  pub rest : length after + n ≡ length points
  pub same : (i : ℕ) (d : Point) → i < n → get_or before i d ≡ get_or points i d
  pub tail : (i : ℕ) (d : Point) → get_or after i d ≡ get_or points (n + i) d

module _ (points : List Point) (fine : ArePoints points) (k n : ℕ) (below : k < 2 ^ 36) (before after : List Point) (around : AreAround points k n before after) where
  pub between : (a b : Point) → Some a ≡ slice_get before (length before - 1) → Some b ≡ slice_get after 0 → IsLineAt points k a b
  between a b last first =
      let here = last_some points before n around.parts.bound around.long around.same a last in
      let next = first_some points after n around.rest around.tail b first in
      let one : n - 1 + 1 ≡ n = omega (arith, here.0) in
      record {
        limits = record {
          first = point_of points fine (n - 1) a here.1;
          last = point_of points fine n b next;
          rising = omega (arith, around.parts.before (n - 1) a (omega (arith, here.0)) here.1, around.parts.after n b (omega arith) next);
        };
        begun = around.parts.before (n - 1) a (omega (arith, here.0)) here.1;
        not_ended = around.parts.after n b (omega arith) next;
        gains = λ j from to. sym (gain_between points fine.rising (n - 1) a b here.1 (rw one next) j from to);
      }

  pub ended : (a : Point) → Some a ≡ slice_get before (length before - 1) → None ≡ slice_get after 0 → IsLineAt points k a (record { place = 2 ^ 36; gain = to_z w32 (of_z w32 a.gain) })
  ended a last none =
      let here = last_some points before n around.parts.bound around.long around.same a last in
      let end = first_none points after n around.rest around.tail none in
      let from = around.parts.before (n - 1) a (omega (arith, here.0)) here.1 in
      let point = point_of points fine (n - 1) a here.1 in
      rw (kept a.gain (omega (arith, point.gain_fits))) (record {
        limits = record {
          first = point;
          last = record { place_fits = omega arith; gain_fits = point.gain_fits };
          rising = omega (arith, from, below);
        };
        begun = from;
        not_ended = below;
        gains = λ j after to. level_gain a.place (2 ^ 36) a.gain j ∙ sym (gain_ended points fine.rising (n - 1) a here.1 (omega (arith, here.0, end)) j after);
      })

  pub started : (a : Point) → None ≡ slice_get before (length before - 1) → Some a ≡ slice_get after 0 → IsLineAt points k (record { place = 0; gain = to_z w32 (of_z w32 a.gain) }) a
  started a none first =
      let zero : n ≡ 0 = last_none points before n around.parts.bound around.long around.same none in
      let here = first_some points after n around.rest around.tail a first in
      let to = around.parts.after n a (omega arith) here in
      let point = point_of points fine n a here in
      rw (kept a.gain (omega (arith, point.gain_fits))) (record {
        limits = record {
          first = record { place_fits = omega arith; gain_fits = point.gain_fits };
          last = point;
          rising = omega (arith, to);
        };
        begun = omega arith;
        not_ended = to;
        gains = λ j from less. level_gain 0 a.place a.gain j ∙ sym (gain_started points a j (subst (λ m. slice_get points m ≡ Some a) zero here) less);
      })

  pub free : None ≡ slice_get before (length before - 1) → None ≡ slice_get after 0 → IsLineAt points k (record { place = 0; gain = full_gain }) (record { place = 2 ^ 36; gain = full_gain })
  free none end =
      let empty : length points ≡ 0 = omega (arith, last_none points before n around.parts.bound around.long around.same none, first_none points after n around.rest around.tail end) in
      record {
        limits = record {
          first = record { place_fits = omega arith; gain_fits = omega arith };
          last = record { place_fits = omega arith; gain_fits = omega arith };
          rising = omega arith;
        };
        begun = omega arith;
        not_ended = below;
        gains = λ j from to. level_gain 0 (2 ^ 36) full_gain j ∙ sym (gain_free points empty j);
      }
