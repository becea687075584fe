-- The places of a whole channel read one window each.
use Rattle.std.proofs.Common.{◌≡◌, ℕ, zero, suc, ◌+◌, ◌-◌, ◌<◌, ◌≤◌, Bool, true, false, cond, eqb, List, [], ◌∷◌, ◌++◌, length, get_or, take, drop, sum_by, append_assoc, refl, sym, ap, ◌∙◌, arith, ℤ, pos, ◌-ℤ◌, ◌*ℤ◌}
use Rattle.std.specs.List.{range_with_len}
use Rattle.std.proofs.lemmas.List.{get_or-append-add, get_or_append_left, length-append, append-nil, take-append-drop}
use Rattle.std.proofs.lemmas.List.Sums.{sum_by-cons}
use Rattle.cost_core.specs.Weighted.{weighted, square}
use Rattle.cost_core.specs.Bridges.{Bridging, target, term, places_cost, bridge_cost}
use Rattle.cost_core.specs.Channels.{Part, channel, channel_cost, windows_cost, AreJoined, HaveLengths, AreLeast, PlacesAreWindows, LeastTogether}
use Rattle.cost_core.proofs.SumLaws.{weighed_same}

-- a weighted sum reads a list within another as it reads it alone
weighted_inside : (weights : List ℤ) (u z v : List Bool) (n : ℕ) → length weights ≤ n + 1 → n < length z → weighted weights (u ++ (z ++ v)) (length u + n) ≡ weighted weights z n
unfolding weighted
weighted_inside weights u z v n few lt =
    weighed_same weights (λ k. get_or (u ++ (z ++ v)) (length u + n - k) false) (λ k. get_or z (n - k) false) (λ k h.
    let e : length u + n - k ≡ length u + (n - k) = omega arith in
    ap (λ m. get_or (u ++ (z ++ v)) m false) e ∙ get_or-append-add u (z ++ v) (n - k) false ∙ get_or_append_left z v false (n - k) (omega arith))

module _ (d : Bridging) (many : length d.weights ≡ suc (length d.preceding)) (u z v : List Bool) where
  place_inside : (i : ℕ) → 1 ≤ i → length d.preceding + (i - 1) < length z → term d (u ++ (z ++ v)) (length u + length d.preceding) i ≡ term d z (length d.preceding) i
  unfolding term
  place_inside i h lt =
      let n = length d.preceding + (i - 1) in
      let e : length u + length d.preceding + (i - 1) ≡ length u + n = omega arith in
      let same = ap (weighted d.weights (u ++ (z ++ v))) e ∙ weighted_inside d.weights u z v n (omega arith) lt in
      ap (λ s. square ((pos (d.levels + 1) *ℤ s) -ℤ target d i)) same

  places_inside : (n i : ℕ) → 1 ≤ i → length d.preceding + (i - 1) + n ≤ length z →
      sum_by (term d (u ++ (z ++ v)) (length u + length d.preceding)) (range_with_len i n) ≡ sum_by (term d z (length d.preceding)) (range_with_len i n)
  places_inside zero i h lt = refl
  places_inside (suc n) i h lt =
      rw (sum_by-cons (term d (u ++ (z ++ v)) (length u + length d.preceding)) i (range_with_len (i + 1) n), sum_by-cons (term d z (length d.preceding)) i (range_with_len (i + 1) n), place_inside i h (omega arith), places_inside n (i + 1) (omega arith) (omega arith)) refl

-- what follows the first cue of a channel
after : List Part → List (List Bool) → List Bool
after [] xs = []
after (p ∷ ps) [] = []
after (p ∷ ps) (x ∷ xs) = x ++ channel p.cue ps xs

channel_is : (cue : List Bool) (ps : List Part) (xs : List (List Bool)) → channel cue ps xs ≡ cue ++ after ps xs
unfolding channel after
channel_is cue [] xs = sym (append-nil cue)
channel_is cue (p ∷ ps) [] = sym (append-nil cue)
channel_is cue (p ∷ ps) (x ∷ xs) = refl

window_in : (u prefix pre x fol rest : List Bool) → u ++ ((prefix ++ pre) ++ (x ++ (fol ++ rest))) ≡ (u ++ prefix) ++ ((pre ++ (x ++ fol)) ++ rest)
window_in u prefix pre x fol rest = simp append_assoc refl

moved_on : (u cue x rest : List Bool) → u ++ (cue ++ (x ++ rest)) ≡ (u ++ (cue ++ x)) ++ rest
moved_on u cue x rest = simp append_assoc refl

-- the places of one bridge
module _ (u cue x next rest : List Bool) (d : Bridging) (many : length d.weights ≡ suc (length d.preceding)) (fits : length d.preceding ≤ length cue) (pre : d.preceding ≡ drop (length cue - length d.preceding) cue)
    (fits_after : length d.following ≤ length next) (fol : d.following ≡ take (length d.following) next) (levels : length x ≡ d.levels) where
  prefix : List Bool
  prefix = take (length cue - length d.preceding) cue

  cue_is : cue ≡ prefix ++ d.preceding
  unfolding prefix
  cue_is = sym (take-append-drop (length cue - length d.preceding) cue) ∙ ap (λ l. take (length cue - length d.preceding) cue ++ l) (sym pre)

  back : List Bool
  back = drop (length d.following) next ++ rest

  next_is : next ++ rest ≡ d.following ++ back
  unfolding back
  next_is = ap (λ l. l ++ rest) (sym (take-append-drop (length d.following) next) ∙ ap (λ l. l ++ drop (length d.following) next) (sym fol)) ∙ append_assoc d.following (drop (length d.following) next) rest

  whole_is : u ++ (cue ++ (x ++ (next ++ rest))) ≡ (u ++ prefix) ++ ((d.preceding ++ (x ++ d.following)) ++ back)
  whole_is = ap (λ l. u ++ (cue ++ (x ++ l))) next_is ∙ ap (λ l. u ++ (l ++ (x ++ (d.following ++ back)))) cue_is ∙ window_in u prefix d.preceding x d.following back

  place_is : length u + length cue ≡ length (u ++ prefix) + length d.preceding
  place_is = omega (arith, ap length cue_is, length-append prefix d.preceding, length-append u prefix)

  pub bridge_places : places_cost d (u ++ (cue ++ (x ++ (next ++ rest)))) (length u + length cue) ≡ bridge_cost d x
  unfolding bridge_cost places_cost
  bridge_places =
      let z = d.preceding ++ (x ++ d.following) in
      let n = d.levels + length d.following in
      let long : length z ≡ length d.preceding + n = length-append d.preceding (x ++ d.following) ∙ omega (arith, length-append x d.following) in
      ap (λ l. places_cost d l (length u + length cue)) whole_is ∙ ap (places_cost d ((u ++ prefix) ++ (z ++ back))) place_is ∙ places_inside d many (u ++ prefix) z back n 1 (omega arith) (omega arith)

places_from : (u cue : List Bool) (ps : List Part) (xs : List (List Bool)) → AreJoined cue ps → HaveLengths ps xs → channel_cost (u ++ channel cue ps xs) (length u + length cue) ps ≡ windows_cost ps xs
unfolding channel channel_cost windows_cost AreJoined HaveLengths
places_from u cue [] xs j h = refl
places_from u cue (p ∷ ps) [] j h = absurd h
places_from u cue (p ∷ ps) (x ∷ xs) j h =
    let d = p.bridging in
    let rest = after ps xs in
    let start = channel_is p.cue ps xs in
    let one = ap (λ l. places_cost d (u ++ (cue ++ (x ++ l))) (length u + length cue)) start ∙ bridge_places u cue x p.cue rest d j.0.as_many j.0.before_in j.0.before_is j.0.after_in j.0.after_is h.0 in
    let v = u ++ (cue ++ x) in
    let long : length u + length cue + d.levels + length p.cue ≡ length v + length p.cue = omega (arith, length-append u (cue ++ x), length-append cue x, h.0) in
    let others = ap (λ l. channel_cost l (length u + length cue + d.levels + length p.cue) ps) (moved_on u cue x (channel p.cue ps xs)) ∙ ap (λ m. channel_cost (v ++ channel p.cue ps xs) m ps) long ∙ places_from v p.cue ps xs j.1 h.1 in
    rw (one, others) refl

pub places_are_windows : PlacesAreWindows
places_are_windows cue ps xs j h =
    let e : length cue ≡ 0 + length cue = omega arith in
    ap (λ m. channel_cost (channel cue ps xs) m ps) e ∙ places_from [] cue ps xs j h

least_part : (b : Bool) (m n : ℕ) → m ≤ n → cond b 0 m ≤ cond b 0 n
least_part true m n h = omega arith
least_part false m n h = h

windows_least : (ps : List Part) (xs ys : List (List Bool)) → HaveLengths ps xs → HaveLengths ps ys → AreLeast ps xs → windows_cost ps xs ≤ windows_cost ps ys
unfolding windows_cost HaveLengths AreLeast
windows_least [] xs ys h k l = omega arith
windows_least (p ∷ ps) [] ys h k l = absurd h
windows_least (p ∷ ps) (x ∷ xs) [] h k l = absurd k
windows_least (p ∷ ps) (x ∷ xs) (y ∷ ys) h k l =
    let one = least_part (eqb p.bridging.levels 0) (bridge_cost p.bridging x) (bridge_cost p.bridging y) (l.0.least y k.0) in
    omega (arith, windows_least ps xs ys h.1 k.1 l.1)

pub least_together : LeastTogether
least_together cue ps xs ys j h k l = rw (places_are_windows cue ps xs j h, places_are_windows cue ps ys j k) (windows_least ps xs ys h k l)
