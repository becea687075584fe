-- Stretches, and one more of them.
use Rattle.std.proofs.Common.{◌≡◌, ℕ, zero, suc, ◌+◌, ◌-◌, ◌<◌, ◌≤◌, ◌⊎◌, inl, inr, Bool, List, [], ◌∷◌, ◌++◌, length, get_or, Some, refl, sym, ap, subst, ◌∙◌, arith}
use Rattle.std.specs.List.{slice_get}
use Rattle.std.proofs.lemmas.Bool.{cases_lt}
use Rattle.std.proofs.lemmas.List.{append-nil, length_push}
use Rattle.std.proofs.lemmas.List.Elements.{All-push, All-get_or}
use Rattle.std.proofs.lemmas.Option.{get_or_from_slice_get, none-some, same_Some, slice_get-get_or, slice_get_within}
use Rattle.null_core.specs.declared.stretch.Stretch.{Stretch}
use Rattle.null_core.specs.Judged.{IsJudged}
use Rattle.null_core.specs.Parts.{AskedContent}
use Rattle.null_core.specs.Stretches.{AddsStretch, AreApart, AreNear, AreStretchesTo, HasNext, IsCovered, IsGreatest, IsJoined, IsJudgedFrom, IsStretch}

-- ---- a list and one more

get_old : {X : Type 0} (xs : List X) (y x : X) (i : ℕ) → slice_get xs i ≡ Some x → slice_get (xs ++ y ∷ []) i ≡ Some x
get_old [] y x i h = absurd (none-some x h)
get_old (z ∷ xs) y x zero h = h
get_old (z ∷ xs) y x (suc i) h = get_old xs y x i h

get_new : {X : Type 0} (xs : List X) (y : X) → slice_get (xs ++ y ∷ []) (length xs) ≡ Some y
get_new [] y = refl
get_new (z ∷ xs) y = get_new xs y

-- what a list with one more has is what it had, or this one
get_cases : {X : Type 0} (xs : List X) (y x : X) (i : ℕ) → slice_get (xs ++ y ∷ []) i ≡ Some x → ((i < length xs) × (slice_get xs i ≡ Some x)) ⊎ ((i ≡ length xs) × (y ≡ x))
get_cases [] y x zero h = inr (refl, same_Some y x h)
get_cases [] y x (suc i) h = absurd (none-some x h)
get_cases (z ∷ xs) y x zero h = inl (omega arith, h)
get_cases (z ∷ xs) y x (suc i) h = elim (get_cases xs y x i h) [ inl w ↦ inl (omega (arith, w.0), w.1) | inr w ↦ inr (ap suc w.0, w.1) ]

module _ (a : AskedContent) (bits : List Bool) where
  wider : (first last first' last' n : ℕ) → IsJudgedFrom a bits first last n → first' ≤ n → n ≤ last' → IsJudgedFrom a bits first' last' n
  wider first last first' last' n in' low high = record { judged = in'.judged; from = low; to = high }

  in_order : (s : Stretch) → IsStretch a bits s → s.first ≤ s.last
  in_order s is = is.first.to

  -- no stretch ends after the last one
  last_is_last : (xs : List Stretch) (l : Stretch) (end d i : ℕ) (s : Stretch) → AreStretchesTo a bits end (xs ++ l ∷ []) → i + d ≡ length xs → slice_get (xs ++ l ∷ []) i ≡ Some s → s.last ≤ l.last
  last_is_last xs l end zero i s are e at =
      let here : slice_get (xs ++ l ∷ []) i ≡ Some l = subst (λ k. slice_get (xs ++ l ∷ []) k ≡ Some l) {x = length xs} {y = i} (omega (arith, e)) (get_new xs l) in
      let same = same_Some l s (sym here ∙ at) in
      subst (λ (t : Stretch). t.last ≤ l.last) same (omega arith)
  last_is_last xs l end (suc d) i s are e at =
      let more : i + 1 < length (xs ++ l ∷ []) = omega (arith, length_push xs l, e) in
      let t = get_or (xs ++ l ∷ []) (i + 1) l in
      let next = slice_get-get_or (xs ++ l ∷ []) (i + 1) l more in
      let rest = last_is_last xs l end d (i + 1) t are (omega (arith, e)) next in
      let is = All-get_or (IsStretch a bits) (xs ++ l ∷ []) (i + 1) l more are.each in
      omega (arith, are.apart i s t at next, in_order t is, rest)

  -- no judged place is between the last stretch and the place up to which these are the stretches
  after_last : (xs : List Stretch) (l : Stretch) (end n : ℕ) → AreStretchesTo a bits end (xs ++ l ∷ []) → IsJudged a bits n → l.last < n → end ≤ n
  after_last xs l end n are judged after = elim (cases_lt n end) [
    | inl before ↦
        let in' = are.all n judged before in
        let there = slice_get_within (xs ++ l ∷ []) in'.0 in'.1 in'.2 in
        absurd (omega (arith, in'.4, after, last_is_last xs l end (length xs - in'.0) in'.0 in'.1 are (omega (arith, there, length_push xs l)) in'.2))
    | inr past ↦ past
  ]

  -- ---- a stretch that isn't near the others

  covered_push : (xs : List Stretch) (s : Stretch) (n : ℕ) → IsCovered xs n → IsCovered (xs ++ s ∷ []) n
  covered_push xs s n in' = (in'.0, in'.1, get_old xs s in'.1 in'.0 in'.2, in'.3, in'.4)

  apart_push : (xs : List Stretch) (s : Stretch) → AreApart a xs → ((l : Stretch) → slice_get xs (length xs - 1) ≡ Some l → l.last + length a.audible < s.first) → AreApart a (xs ++ s ∷ [])
  apart_push xs s apart far i t u at next = elim (get_cases xs s u (i + 1) next) [
    | inl old ↦ elim (get_cases xs s t i at) [ inl w ↦ apart i t u w.1 old.1 | inr w ↦ absurd (omega (arith, w.0, old.0)) ]
    | inr new ↦ elim (get_cases xs s t i at) [
      | inl w ↦
          let l = far t (subst (λ k. slice_get xs k ≡ Some t) {x = i} {y = length xs - 1} (omega (arith, new.0)) w.1) in
          subst (λ (v : Stretch). t.last + length a.audible < v.first) new.1 l
      | inr w ↦ absurd (omega (arith, w.0, new.0))
    ]
  ]

  pub add_apart : (xs : List Stretch) (s : Stretch) → IsStretch a bits s → AreStretchesTo a bits s.first xs → ((l : Stretch) → slice_get xs (length xs - 1) ≡ Some l → l.last + length a.audible < s.first) → AreStretchesTo a bits (s.last + 1) (xs ++ s ∷ [])
  add_apart xs s is are far = record {
    each = All-push (IsStretch a bits) xs s are.each is;
    apart = apart_push xs s are.apart far;
    before = λ i t at. elim (get_cases xs s t i at) [
      | inl w ↦ omega (arith, are.before i t w.1, in_order s is)
      | inr w ↦ subst (λ (v : Stretch). v.last < s.last + 1) w.1 (omega arith)
    ];
    all = λ n judged lt. elim (cases_lt n s.first) [
      | inl before ↦ covered_push xs s n (are.all n judged before)
      | inr from ↦ (length xs, s, get_new xs s, from, omega (arith, lt))
    ];
  }

  -- ---- a stretch that is near the last one

  pub are_near : (xs : List Stretch) (l s : Stretch) → IsStretch a bits s → AreStretchesTo a bits s.first (xs ++ l ∷ []) → s.first ≤ l.last + length a.audible → AreNear a bits l s
  are_near xs l s is are near = record {
    one = subst (IsStretch a bits) (get_or_from_slice_get (xs ++ l ∷ []) (length xs) l l (get_new xs l)) (All-get_or (IsStretch a bits) (xs ++ l ∷ []) (length xs) l (omega (arith, length_push xs l)) are.each);
    other = is;
    before = are.before (length xs) l (get_new xs l);
    near = near;
    between = λ n judged after. after_last xs l s.first n are judged after;
  }

  apart_joined : (xs : List Stretch) (l j : Stretch) → j.first ≡ l.first → AreApart a (xs ++ l ∷ []) → AreApart a (xs ++ j ∷ [])
  apart_joined xs l j same apart i t u at next = elim (get_cases xs j t i at) [
    | inl w ↦ elim (get_cases xs j u (i + 1) next) [
      | inl v ↦ apart i t u (get_old xs l t i w.1) (get_old xs l u (i + 1) v.1)
      | inr v ↦
          let here : slice_get (xs ++ l ∷ []) (i + 1) ≡ Some l = subst (λ k. slice_get (xs ++ l ∷ []) k ≡ Some l) {x = length xs} {y = i + 1} (omega (arith, v.0)) (get_new xs l) in
          let far = apart i t l (get_old xs l t i w.1) here in
          subst (λ (v' : Stretch). t.last + length a.audible < v'.first) v.1 (omega (arith, far, same))
    ]
    | inr w ↦ elim (get_cases xs j u (i + 1) next) [ inl v ↦ absurd (omega (arith, w.0, v.0)) | inr v ↦ absurd (omega (arith, w.0, v.0)) ]
  ]

  pub add_near : (xs : List Stretch) (l s j : Stretch) → IsStretch a bits s → AreStretchesTo a bits s.first (xs ++ l ∷ []) → s.first ≤ l.last + length a.audible → IsJoined l s j → AreStretchesTo a bits (s.last + 1) (xs ++ j ∷ [])
  add_near xs l s j is are near joined = record {
    each = λ k d lt. elim (cases_lt k (length xs)) [
      | inl old ↦ old_is k d old
      | inr last ↦ subst (IsStretch a bits) (sym (get_or_from_slice_get (xs ++ j ∷ []) k j d (subst (λ i. slice_get (xs ++ j ∷ []) i ≡ Some j) {x = length xs} {y = k} (omega (arith, last, lt, length_push xs j)) (get_new xs j)))) (joined.stretch a bits (are_near xs l s is are near))
    ];
    apart = apart_joined xs l j joined.first are.apart;
    before = λ i t at. elim (get_cases xs j t i at) [
      | inl w ↦ omega (arith, are.before i t (get_old xs l t i w.1), in_order s is)
      | inr w ↦ subst (λ (v : Stretch). v.last < s.last + 1) w.1 (omega (arith, joined.last))
    ];
    all = λ n judged lt. elim (cases_lt n s.first) [
      | inl before ↦ covers n (are.all n judged before)
      | inr from ↦ (length xs, j, get_new xs j, omega (arith, from, joined.first, (are_near xs l s is are near).before, in_order l (are_near xs l s is are near).one), omega (arith, lt, joined.last))
    ];
  }
    where
      old_is : (k : ℕ) (d : Stretch) → k < length xs → IsStretch a bits (get_or (xs ++ j ∷ []) k d)
      old_is k d old =
          let at = slice_get-get_or xs k d old in
          let here = get_or_from_slice_get (xs ++ l ∷ []) k (get_or xs k d) d (get_old xs l (get_or xs k d) k at) in
          let there = get_or_from_slice_get (xs ++ j ∷ []) k (get_or xs k d) d (get_old xs j (get_or xs k d) k at) in
          subst (IsStretch a bits) (here ∙ sym there) (All-get_or (IsStretch a bits) (xs ++ l ∷ []) k d (omega (arith, old, length_push xs l)) are.each)

      covers : (n : ℕ) → IsCovered (xs ++ l ∷ []) n → IsCovered (xs ++ j ∷ []) n
      covers n in' = elim (get_cases xs l in'.1 in'.0 in'.2) [
        | inl w ↦ (in'.0, in'.1, get_old xs j in'.1 in'.0 w.1, in'.3, in'.4)
        | inr w ↦
            let low : l.first ≤ n = subst (λ (v : Stretch). v.first ≤ n) (sym w.1) in'.3 in
            let high : n ≤ l.last = subst (λ (v : Stretch). n ≤ v.last) (sym w.1) in'.4 in
            (length xs, j, get_new xs j, omega (arith, low, joined.first), omega (arith, high, joined.last, (are_near xs l s is are near).before, in_order s is))
      ]

  -- ---- two stretches as one

  module _ (s t : Stretch) (are : AreNear a bits s t) where
    -- a judged place of both is in one of them
    split : (n : ℕ) → IsJudgedFrom a bits s.first t.last n → IsJudgedFrom a bits s.first s.last n ⊎ IsJudgedFrom a bits t.first t.last n
    split n in' = elim (cases_lt s.last n) [
      | inl after ↦ inr (wider _ _ _ _ n in' (are.between n in'.judged after) in'.to)
      | inr before ↦ inl (wider _ _ _ _ n in' in'.from before)
    ]

    goes_on : (n : ℕ) → HasNext a bits s.last n → HasNext a bits t.last n
    goes_on n h = record { next = h.next; judged = wider _ _ _ _ h.next h.judged h.judged.from (omega (arith, h.judged.to, are.before, in_order t are.other)); near = h.near }

    near_in_both : (n : ℕ) → IsJudgedFrom a bits s.first t.last n → n < t.last → HasNext a bits t.last n
    near_in_both n in' lt = elim (split n in') [
      | inl one ↦ elim (cases_lt n s.last) [
        | inl inner ↦ goes_on n (are.one.near n one inner)
        | inr edge ↦ record { next = t.first; judged = record { judged = are.other.first.judged; from = omega (arith, one.to, are.before); to = in_order t are.other }; near = omega (arith, edge, are.near) }
      ]
      | inr other ↦ are.other.near n other lt
    ]

    -- the first of the two has a residual that is at least as great
    earlier_wins : t.residual ≤ s.residual → IsGreatest a bits s.first t.last s.residual s.place
    earlier_wins le = let g = are.one.greatest in record {
      judged = wider _ _ _ _ s.place g.judged g.judged.from (omega (arith, g.judged.to, are.before, in_order t are.other));
      size = g.size;
      most = λ n in'. elim (split n in') [ inl one ↦ g.most n one | inr other ↦ omega (arith, are.other.greatest.most n other, le) ];
      first_of = λ n in' sooner. g.first_of n (wider _ _ _ _ n in' in'.from (omega (arith, sooner, g.judged.to))) sooner;
    }

    later_wins : s.residual < t.residual → IsGreatest a bits s.first t.last t.residual t.place
    later_wins lt = let g = are.other.greatest in record {
      judged = wider _ _ _ _ t.place g.judged (omega (arith, g.judged.from, are.before, in_order s are.one)) g.judged.to;
      size = g.size;
      most = λ n in'. elim (split n in') [ inl one ↦ omega (arith, are.one.greatest.most n one, lt) | inr other ↦ g.most n other ];
      first_of = λ n in' sooner. elim (split n in') [ inl one ↦ omega (arith, are.one.greatest.most n one, lt) | inr other ↦ g.first_of n other sooner ];
    }

    as_one : (r p : ℕ) → IsGreatest a bits s.first t.last r p → IsStretch a bits (record { first = s.first; last = t.last; residual = r; place = p })
    as_one r p greatest = record {
      first = wider _ _ _ _ s.first are.one.first are.one.first.from (omega (arith, are.one.first.to, are.before, in_order t are.other));
      last = wider _ _ _ _ t.last are.other.last (omega (arith, are.other.last.from, are.before, in_order s are.one)) are.other.last.to;
      near = near_in_both;
      greatest = greatest;
    }

    pub join_earlier : t.residual ≤ s.residual → IsStretch a bits (record { first = s.first; last = t.last; residual = s.residual; place = s.place })
    join_earlier le = as_one s.residual s.place (earlier_wins le)

    pub join_later : s.residual < t.residual → IsStretch a bits (record { first = s.first; last = t.last; residual = t.residual; place = t.place })
    join_later lt = as_one t.residual t.place (later_wins lt)

-- ---- the three ways in which a stretch is added

pub adds_first : (number : ℕ) (s : Stretch) (old xs new : List Stretch) → old ≡ xs ++ [] → xs ≡ [] → new ≡ xs ++ s ∷ [] → AddsStretch number s old new
adds_first number s old xs new was none now = λ a bits e is are.
    subst (AreStretchesTo a bits (s.last + 1)) (sym now) (add_apart a bits xs s is (subst (AreStretchesTo a bits s.first) (was ∙ append-nil xs) are) (λ l at. absurd (none-some l (sym (ap (λ ys. slice_get ys (length xs - 1)) none) ∙ at))))

pub adds_near : (number : ℕ) (s l j : Stretch) (old xs new : List Stretch) → old ≡ xs ++ l ∷ [] → new ≡ xs ++ j ∷ [] → s.first - l.last ≤ number → IsJoined l s j → AddsStretch number s old new
adds_near number s l j old xs new was now near joined = λ a bits e is are.
    subst (AreStretchesTo a bits (s.last + 1)) (sym now) (add_near a bits xs l s j is (subst (AreStretchesTo a bits s.first) was are) (omega (arith, near, e)) joined)

pub adds_apart : (number : ℕ) (s l : Stretch) (old xs mid new : List Stretch) → old ≡ xs ++ l ∷ [] → mid ≡ xs ++ l ∷ [] → new ≡ mid ++ s ∷ [] → number < s.first - l.last → AddsStretch number s old new
adds_apart number s l old xs mid new was same now far = λ a bits e is are.
    subst (AreStretchesTo a bits (s.last + 1)) (sym now) (add_apart a bits mid s is (subst (AreStretchesTo a bits s.first) (was ∙ sym same) are) (λ k at.
    let last : slice_get mid (length mid - 1) ≡ Some l = last_of mid xs l same in
    let is_last = same_Some l k (sym last ∙ at) in
    subst (λ (v : Stretch). v.last + length a.audible < s.first) is_last (omega (arith, far, e))))
  where
    last_of : (mid xs : List Stretch) (l : Stretch) → mid ≡ xs ++ l ∷ [] → slice_get mid (length mid - 1) ≡ Some l
    last_of mid xs l same = subst (λ ys. slice_get ys (length ys - 1) ≡ Some l) (sym same) (subst (λ k. slice_get (xs ++ l ∷ []) k ≡ Some l) {x = length xs} {y = length (xs ++ l ∷ []) - 1} (omega (arith, length_push xs l)) (get_new xs l))
