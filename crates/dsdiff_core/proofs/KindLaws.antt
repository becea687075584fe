-- Kinds of chunks, and the chunks of a kind.
use Rattle.std.proofs.Common.{◌≡◌, ℕ, Bool, true, false, cond, eqb, ◌&&◌, ◌||◌, List, [], ◌∷◌, map, refl, sym, ap, ◌∙◌, ◌⊎◌, inl, inr}
use Rattle.std.specs.Prelude.{filter}
use Rattle.std.proofs.lemmas.Bool.{eqb-true}
use Rattle.chunk_core.specs.declared.layout.Span.{Span}
use Rattle.chunk_core.specs.Chunks.{Chunk}
use Rattle.chunk_core.specs.Places.{span_chunk}
use Rattle.dsd_bits.specs.Ids.{same_id, PROP, DSD}
use Rattle.dsdiff_core.specs.Kinds.{has_id, is_property}
use Rattle.dsdiff_core.specs.Sounds.{sound_leads}

pub bool_cases : (b : Bool) → (b ≡ true) ⊎ (b ≡ false)
bool_cases true = inl refl
bool_cases false = inr refl

pub and_both : (a b : Bool) → (a && b) ≡ true → (a ≡ true) × (b ≡ true)
and_both true true e = (refl, refl)
and_both true false e = absurd cc
and_both false b e = absurd cc

-- ---- IDs

pub id_is : (a b : List ℕ) → same_id a b ≡ true → a ≡ b
id_is [] [] e = refl
id_is [] (y ∷ ys) e = absurd cc
id_is (x ∷ xs) [] e = absurd cc
id_is (x ∷ xs) (y ∷ ys) e =
    let p = and_both (eqb x y) (same_id xs ys) e in
    let h : x ≡ y = eqb-true x y p.0 in
    let t : xs ≡ ys = id_is xs ys p.1 in
    cc

-- a chunk of one ID has no other
pub not_both : (a b : List ℕ) (c : Chunk) → same_id a b ≡ false → has_id a c ≡ true → has_id b c ≡ false
not_both a b c ne e = rw (id_is c.id a e) ne

property_id : (c : Chunk) → is_property c ≡ true → has_id PROP c ≡ true
property_id c e = (and_both (has_id PROP c) _ e).0

pub no_property : (c : Chunk) → has_id PROP c ≡ false → is_property c ≡ false
no_property c e = rw e refl

-- ---- chunks of spans

pub filter_chunks : (file : List ℕ) (test : Chunk → Bool) (ss : List Span) → filter test (map (span_chunk file) ss) ≡ map (span_chunk file) (filter (λ s. test (span_chunk file s)) ss)
filter_chunks file test [] = refl
filter_chunks file test (s ∷ ss) =
    rw (filter_chunks file test ss) (
    elim (test (span_chunk file s)) as (λ b. cond b (span_chunk file s ∷ map (span_chunk file) (filter (λ s. test (span_chunk file s)) ss)) (map (span_chunk file) (filter (λ s. test (span_chunk file s)) ss)) ≡ map (span_chunk file) (cond b (s ∷ filter (λ s. test (span_chunk file s)) ss) (filter (λ s. test (span_chunk file s)) ss))) [ true ↦ refl | false ↦ refl ])

-- an item that passes a filter passes its test
pub passes : (test : Chunk → Bool) (cs : List Chunk) (c : Chunk) (r : List Chunk) → filter test cs ≡ c ∷ r → test c ≡ true
passes test [] c r e = absurd cc
passes test (x ∷ cs) c r e =
    elim (bool_cases (test x)) [
      | inl h ↦ let f : x ∷ filter test cs ≡ c ∷ r = rw h at e in let same : x ≡ c = cc (f) in rw (← same) h
      | inr h ↦ passes test cs c r (rw h at e)
    ]

-- ---- the order of the property and the sound

pub nothing_first : (c : Chunk) (cs : List Chunk) → c ∷ cs ≡ [] → ⊥
nothing_first c cs e = cc

none_left : (p q : Chunk → Bool) (cs : List Chunk) → filter p cs ≡ [] → filter (λ c. p c || q c) cs ≡ filter q cs
none_left p q [] e = refl
none_left p q (c ∷ cs) e =
    elim (bool_cases (p c)) [
      | inl h ↦ absurd (nothing_first c (filter p cs) (rw h at e))
      | inr h ↦ rw h (ap (λ (rest : List Chunk). cond (q c) (c ∷ rest) rest) (none_left p q cs (rw h at e)))
    ]

abbrev either : Chunk → Bool
either c = is_property c || has_id DSD c

pub order_ok : (cs : List Chunk) (p s : Chunk) → sound_leads cs ≡ false → filter is_property cs ≡ p ∷ [] → filter (has_id DSD) cs ≡ s ∷ [] → filter (λ c. is_property c || has_id DSD c) cs ≡ p ∷ s ∷ []
order_ok [] p s l f g = absurd cc
order_ok (c ∷ cs) p s l f g =
    elim (bool_cases (is_property c)) [
      | inl h ↦
          let d : has_id DSD c ≡ false = not_both PROP DSD c refl (property_id c h) in
          let f2 : c ∷ filter is_property cs ≡ p ∷ [] = rw h at f in
          let g2 : filter (has_id DSD) cs ≡ s ∷ [] = rw d at g in
          let rest : filter is_property cs ≡ [] = cc (f2) in
          let same : c ≡ p = cc (f2) in
          rw h (rw (none_left is_property (has_id DSD) cs rest, g2, same) refl)
      | inr h ↦
          let f2 : filter is_property cs ≡ p ∷ [] = rw h at f in
          elim (bool_cases (has_id DSD c)) [
            | inl d ↦ let l3 : true ≡ false = rw (h, d) at l in absurd cc
            | inr d ↦
                let l3 : sound_leads cs ≡ false = rw (h, d) at l in
                let g2 : filter (has_id DSD) cs ≡ s ∷ [] = rw d at g in
                rw (h, d) (order_ok cs p s l3 f2 g2)
          ]
    ]

pub leads_again : (cs : List Chunk) (p : Chunk) (r : List Chunk) → filter (λ c. is_property c || has_id DSD c) cs ≡ p ∷ r → is_property p ≡ true → sound_leads cs ≡ false
leads_again [] p r f e = refl
leads_again (c ∷ cs) p r f e =
    elim (bool_cases (is_property c)) [
      | inl h ↦ rw h refl
      | inr h ↦
          elim (bool_cases (has_id DSD c)) [
            | inl d ↦ let f2 : c ∷ filter either cs ≡ p ∷ r = rw (h, d) at f in let same : c ≡ p = cc (f2) in let e2 : is_property c ≡ true = rw same e in absurd cc
            | inr d ↦ let f2 : filter either cs ≡ p ∷ r = rw (h, d) at f in rw (h, d) (leads_again cs p r f2 e)
          ]
    ]

-- a filter of a wider filter
filter_narrow : (p q : Chunk → Bool) → ((c : Chunk) → q c ≡ false → p c ≡ false) → (cs : List Chunk) → filter p (filter q cs) ≡ filter p cs
filter_narrow p q h [] = refl
filter_narrow p q h (c ∷ cs) =
    elim (bool_cases (q c)) [
      | inl y ↦ rw y (ap (λ (rest : List Chunk). cond (p c) (c ∷ rest) rest) (filter_narrow p q h cs))
      | inr n ↦ rw (n, h c n) (filter_narrow p q h cs)
    ]

pub left_false : (a b : Bool) → (a || b) ≡ false → (a ≡ false) × (b ≡ false)
left_false true b e = absurd cc
left_false false b e = (refl, e)

pub order_again : (cs : List Chunk) (p s : Chunk) → filter (λ c. is_property c || has_id DSD c) cs ≡ p ∷ s ∷ [] → is_property p ≡ true → has_id DSD s ≡ true → (filter is_property cs ≡ p ∷ []) × (filter (has_id DSD) cs ≡ s ∷ [])
order_again cs p s f hp hs =
    let np : has_id DSD p ≡ false = not_both PROP DSD p refl (property_id p hp) in
    let ns : is_property s ≡ false = no_property s (not_both DSD PROP s refl hs) in (
      sym (filter_narrow is_property either (λ c e. (left_false (is_property c) (has_id DSD c) e).0) cs) ∙ ap (filter is_property) f ∙ rw (hp, ns) refl,
      sym (filter_narrow (has_id DSD) either (λ c e. (left_false (is_property c) (has_id DSD c) e).1) cs) ∙ ap (filter (has_id DSD)) f ∙ rw (np, hs) refl,
    )
