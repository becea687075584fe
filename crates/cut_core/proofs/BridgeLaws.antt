-- The places of bridges.
use Rattle.std.proofs.Common.{◌≡◌, ℕ, zero, suc, ◌+◌, ◌-◌, ◌<◌, ◌≤◌, inl, inr, List, [], ◌∷◌, ◌++◌, flat_map, length, map, eqb, ◌&&◌, true, false, add-one, refl, sym, ap, subst, ◌∙◌, arith}
use Rattle.std.specs.List.{All, range_with_len}
use Rattle.std.proofs.lemmas.Bool.{and_from, and_parts, cases_lt, eq-eqb, eqb-true, ne_eqb, true≢false}
use Rattle.std.proofs.lemmas.List.{get_or-append-add, get_or_append_left, length-append}
use Rattle.std.proofs.lemmas.List.FromFn.{get_or-map-range_with_len, length-map-range_with_len}
use Rattle.std.proofs.lemmas.List.Elements.{All-cons, All-nil}
use Rattle.cut_core.specs.Cuts.{CutContent, cue_at, take_channels}
use Rattle.cut_core.specs.declared.bridges.BridgePlace.{BridgePlace}
use Rattle.cut_core.specs.Bridges.{IsPlace, bridges, places_after}

-- the place after a cue in a channel
abbrev pub place_of : ℕ → ℕ → BridgePlace
place_of i c = record { cue = i; channel = c }

-- after a cue
module _ (cut : CutContent) (i : ℕ) where
  pub after_none : (cue_at cut i).bridge ≡ 0 → places_after cut i ≡ []
  after_none e = rw e refl

  pub after_some : ((cue_at cut i).bridge ≡ 0 → ⊥) → places_after cut i ≡ map (place_of i) (range_with_len 0 (take_channels cut))
  after_some h = rw (ne_eqb (cue_at cut i).bridge 0 h) refl

  pub each_place : i + 1 < length cut.splice.cues → ((cue_at cut i).bridge ≡ 0 → ⊥) → (a n : ℕ) → a + n ≤ take_channels cut → All (IsPlace cut) (map (place_of i) (range_with_len a n))
  each_place lt some a zero le = All-nil (IsPlace cut)
  each_place lt some a (suc n) le =
      All-cons (IsPlace cut) (place_of i a) (map (place_of i) (range_with_len (a + 1) n)) (record { cue_there = lt; channel_there = omega arith; bridged = omega (arith, some) }) (each_place lt some (a + 1) n (omega arith))

-- one number more
pub range_more : (a n : ℕ) → range_with_len a (n + 1) ≡ range_with_len a n ++ (a + n) ∷ []
range_more a n = rw (add-one n) (by_one a n)
  where
    by_one : (a n : ℕ) → range_with_len a (suc n) ≡ range_with_len a n ++ (a + n) ∷ []
    by_one a zero = let e : a + 0 ≡ a = omega arith in rw e refl
    by_one a (suc n) = let e : a + 1 + n ≡ a + suc n = omega arith in ap (λ (xs : List ℕ). a ∷ xs) (by_one (a + 1) n ∙ ap (λ (m : ℕ). range_with_len (a + 1) n ++ m ∷ []) e)

-- ---- each element of lists that were put together
all_left : {X : Type 0} (P : X → Type 0) (xs ys : List X) → All P (xs ++ ys) → All P xs
all_left P xs ys h = λ k d lt. subst P (get_or_append_left xs ys d k lt) (h k d (omega (arith, length-append xs ys)))

all_right : {X : Type 0} (P : X → Type 0) (xs ys : List X) → All P (xs ++ ys) → All P ys
all_right P xs ys h = λ k d lt. subst P (get_or-append-add xs ys k d) (h (length xs + k) d (omega (arith, length-append xs ys)))

pub all_in_flat : {X : Type 0} (P : X → Type 0) (g : ℕ → List X) (n a i : ℕ) → a ≤ i → i < a + n → All P (flat_map g (range_with_len a n)) → All P (g i)
all_in_flat P g zero a i ge lt h = absurd (omega arith)
all_in_flat P g (suc n) a i ge lt h = elim (cases_lt a i) [
  | inl later ↦ all_in_flat P g n (a + 1) i (omega arith) (omega arith) (all_right P (g a) (flat_map g (range_with_len (a + 1) n)) h)
  | inr here ↦ (let same : a ≡ i = omega arith in subst (λ k. All P (g k)) same (all_left P (g a) (flat_map g (range_with_len (a + 1) n)) h))
]

-- a place that is not listed has no bridge
pub no_bridge : (cut : CutContent) (p : BridgePlace) → p.cue + 1 < length cut.splice.cues → p.channel < take_channels cut → All (λ q. q ≡ p → ⊥) (bridges cut) → (cue_at cut p.cue).bridge ≡ 0
no_bridge cut p cue there others = elim (cases_lt 0 (cue_at cut p.cue).bridge) [
  | inl some ↦ (
      let ne : (cue_at cut p.cue).bridge ≡ 0 → ⊥ = λ e. omega arith in
      let Other : BridgePlace → Type 0 = λ q. q ≡ p → ⊥ in
      let number = take_channels cut in
      let after = all_in_flat Other (places_after cut) (length cut.splice.cues - 1) 0 p.cue (omega arith) (omega arith) others in
      let all = subst (λ l. All Other l) (after_some cut p.cue ne) after in
      absurd (subst Other (get_or-map-range_with_len {X = BridgePlace} (place_of p.cue) 0 number p.channel p.channel p there (omega arith)) (all p.channel p (omega (arith, length-map-range_with_len {X = BridgePlace} (place_of p.cue) 0 number))) refl)
      )
  | inr none ↦ omega arith
]

-- places are compared by their numbers
pub same_place : (p q : BridgePlace) → (eqb p.cue q.cue && eqb p.channel q.channel) ≡ true → p ≡ q
same_place p q alike =
    let parts = and_parts (eqb p.cue q.cue) (eqb p.channel q.channel) alike in
    let cue : p.cue ≡ q.cue = eqb-true p.cue q.cue parts.0 in
    let channel : p.channel ≡ q.channel = eqb-true p.channel q.channel parts.1 in
    ap (λ i. place_of i p.channel) cue ∙ ap (λ c. place_of q.cue c) channel

pub other_place : (p q : BridgePlace) → (eqb p.cue q.cue && eqb p.channel q.channel) ≡ false → p ≡ q → ⊥
other_place p q unlike same =
    let cue : eqb p.cue q.cue ≡ true = eq-eqb p.cue q.cue (ap (λ (x : BridgePlace). x.cue) same) in
    let channel : eqb p.channel q.channel ≡ true = eq-eqb p.channel q.channel (ap (λ (x : BridgePlace). x.channel) same) in
    true≢false (sym (and_from (eqb p.cue q.cue) (eqb p.channel q.channel) cue channel) ∙ unlike)
