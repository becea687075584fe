-- The most clips overlap at the first place of one of them.
use Rattle.std.proofs.Common.{◌≡◌, ℕ, zero, suc, ◌+◌, ◌≤◌, ◌<◌, Bool, true, false, ◌&&◌, cond, eqb, List, [], ◌∷◌, drop, get_or, length, map, refl, sym, ap, subst, ◌∙◌, arith, sum_by, inl, inr}
use Rattle.std.specs.Prelude.{◌||◌, nat_le, nat_lt}
use Rattle.std.specs.List.{list_all, list_any}
use Rattle.std.proofs.lemmas.Bool.{and_parts, cases_Bool, eqb-true, eqb-false, le-leb, leb-true, lt-leb, lt-ltb, ltb-true}
use Rattle.std.proofs.lemmas.List.{at_drop_all, at_drop_more}
use Rattle.std.proofs.lemmas.List.Sums.{sum_by-cons}
use Rattle.clip_core.specs.declared.clip.Clip.{Clip}
use Rattle.clip_core.specs.Clips.{ClipContent, clip_content, has_place}
use Rattle.clip_core.specs.Mixes.{AreApart, clips_at}
use Rattle.mix_core.specs.ReadingMix.{are_apart}

-- whether one of the clips begins at the place
abbrev begin_at : ℕ → List ClipContent → Bool
begin_at m cs = list_any (λ c. eqb c.at m) cs

-- 1 if the clip has the place
abbrev one_at : ℕ → ClipContent → ℕ
one_at m c = cond (has_place m c) 1 0

-- few clips have the first place of one of these
few_at_first : (m : ℕ) (all cs : List ClipContent) → list_all (λ c. nat_le (clips_at c.at all) 64) cs ≡ true → begin_at m cs ≡ true → clips_at m all ≤ 64
few_at_first m all [] h e = absurd cc
few_at_first m all (c ∷ cs) h e =
    let p = and_parts (nat_le (clips_at c.at all) 64) (list_all (λ x. nat_le (clips_at x.at all) 64) cs) h in
    of_test (leb-true (clips_at c.at all) 64 p.0) (few_at_first m all cs p.1) (eqb c.at m) refl e
  where
    of_test : clips_at c.at all ≤ 64 → (begin_at m cs ≡ true → clips_at m all ≤ 64) → (b : Bool) → eqb c.at m ≡ b → (b || begin_at m cs) ≡ true → clips_at m all ≤ 64
    of_test here later true t k = subst (λ (n : ℕ). clips_at n all ≤ 64) (eqb-true c.at m t) here
    of_test here later false t k = later k

-- a clip that doesn't begin at a place and has it also has the place before
had_before : (m : ℕ) (c : ClipContent) → (c.at ≡ suc m → ⊥) → one_at (suc m) c ≤ one_at m c
had_before m c later = of_test (has_place (suc m) c) refl
  where
    of_test : (b : Bool) → has_place (suc m) c ≡ b → cond b 1 0 ≤ one_at m c
    of_test true t =
        let p = and_parts (nat_le c.at (suc m)) (nat_lt (suc m) (c.at + c.length)) t in
        let begun : c.at ≤ suc m = leb-true c.at (suc m) p.0 in
        let within : suc m < c.at + c.length = ltb-true (suc m) (c.at + c.length) p.1 in
        let first : c.at ≤ m = omega (arith, later) in
        let last : m < c.at + c.length = omega arith in
        rw (le-leb c.at m first, lt-ltb m (c.at + c.length) last) (omega arith)
    of_test false t = omega arith

no_more : (m : ℕ) (cs : List ClipContent) → begin_at (suc m) cs ≡ false → clips_at (suc m) cs ≤ clips_at m cs
no_more m [] h = omega arith
no_more m (c ∷ cs) h = of_test (no_more m cs) (eqb c.at (suc m)) refl h
  where
    of_test : (begin_at (suc m) cs ≡ false → clips_at (suc m) cs ≤ clips_at m cs) → (b : Bool) → eqb c.at (suc m) ≡ b → (b || begin_at (suc m) cs) ≡ false → clips_at (suc m) (c ∷ cs) ≤ clips_at m (c ∷ cs)
    of_test later true t k = absurd cc
    of_test later false t k =
        let here = had_before m c (eqb-false c.at (suc m) t) in
        let there : sum_by (one_at (suc m)) cs ≤ sum_by (one_at m) cs = later k in
        rw (sum_by-cons (one_at (suc m)) c cs, sum_by-cons (one_at m) c cs) (omega arith)

none_begun : (c : ClipContent) → (c.at ≡ 0 → ⊥) → has_place 0 c ≡ false
none_begun c later = of_test (nat_le c.at 0) refl
  where
    of_test : (b : Bool) → nat_le c.at 0 ≡ b → (b && nat_lt 0 (c.at + c.length)) ≡ false
    of_test true t = absurd (later (let le : c.at ≤ 0 = leb-true c.at 0 t in omega arith))
    of_test false t = refl

none_at_first : (cs : List ClipContent) → begin_at 0 cs ≡ false → clips_at 0 cs ≡ 0
none_at_first [] h = refl
none_at_first (c ∷ cs) h = of_test (none_at_first cs) (eqb c.at 0) refl h
  where
    of_test : (begin_at 0 cs ≡ false → clips_at 0 cs ≡ 0) → (b : Bool) → eqb c.at 0 ≡ b → (b || begin_at 0 cs) ≡ false → clips_at 0 (c ∷ cs) ≡ 0
    of_test later true t k = absurd cc
    of_test later false t k =
        let there : sum_by (one_at 0) cs ≡ 0 = later k in
        rw (sum_by-cons (one_at 0) c cs, none_begun c (eqb-false c.at 0 t), there) refl

-- at a place where no clip begins, there are no more than at the place before, and none at place 0
pub apart : (cs : List ClipContent) → are_apart cs ≡ true → AreApart cs
apart cs h zero =
    elim (cases_Bool (begin_at 0 cs)) [
      | inl t ↦ few_at_first 0 cs cs h t
      | inr f ↦ (let none = none_at_first cs f in omega arith)
    ]
apart cs h (suc m) =
    elim (cases_Bool (begin_at (suc m) cs)) [
      | inl t ↦ few_at_first (suc m) cs cs h t
      | inr f ↦ (let more = no_more m cs f in let before = apart cs h m in omega arith)
    ]

each_apart : (all cs : List ClipContent) → AreApart all → list_all (λ c. nat_le (clips_at c.at all) 64) cs ≡ true
each_apart all [] h = refl
each_apart all (c ∷ cs) h = rw (le-leb (clips_at c.at all) 64 (h c.at)) (each_apart all cs h)

pub apart_again : (cs : List ClipContent) → AreApart cs → are_apart cs ≡ true
apart_again cs h = each_apart cs cs h

-- whether few of all clips have the first place of one
abbrev pub few_at : List Clip → ClipContent → Bool
few_at clips c = nat_le (clips_at c.at (map clip_content clips)) 64

-- the clips from a number of them on are apart from all if and only if all are
abbrev pub IsApartSoFar : List Clip → ℕ → Type 0
IsApartSoFar clips i = list_all (few_at clips) (map clip_content (drop i clips)) ≡ are_apart (map clip_content clips)

pub apart_ended : (clips : List Clip) (i : ℕ) → length clips ≤ i → IsApartSoFar clips i → true ≡ are_apart (map clip_content clips)
apart_ended clips i end so = sym (at_drop_all (λ xs. list_all (few_at clips) (map clip_content xs)) clips i end) ∙ so

module _ (clips : List Clip) (i : ℕ) (clip : Clip) (n : ℕ) (inside : i < length clips) (is : clip ≡ get_or clips i clip) (count : n ≡ clips_at clip.at (map clip_content clips)) (so : IsApartSoFar clips i) where
  next : (b : Bool) → few_at clips (clip_content clip) ≡ b → (b && list_all (few_at clips) (map clip_content (drop (i + 1) clips))) ≡ are_apart (map clip_content clips)
  next b here =
      let rest = list_all (few_at clips) (map clip_content (drop (i + 1) clips)) in
      let step = at_drop_more (λ xs. list_all (few_at clips) (map clip_content xs)) clips i clip inside in
      let item : few_at clips (clip_content (get_or clips i clip)) ≡ b = subst (λ (c : Clip). few_at clips (clip_content c) ≡ b) is here in
      sym (ap (λ x. x && rest) item) ∙ sym step ∙ so

  pub apart_more : n ≤ 64 → IsApartSoFar clips (i + 1)
  apart_more few = next true (le-leb (clips_at clip.at (map clip_content clips)) 64 (rw (← count) few))

  pub crowded : 64 < n → false ≡ are_apart (map clip_content clips)
  crowded many = next false (lt-leb (clips_at clip.at (map clip_content clips)) 64 (rw (← count) many))
