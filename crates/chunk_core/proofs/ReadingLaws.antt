-- The chunks that are read one by one are the chunks of the bytes.
use Rattle.std.proofs.Common.{◌≡◌, ℕ, zero, suc, ◌+◌, ◌-◌, ◌%◌, ◌≤◌, ◌<◌, false, cond, ltb, eqb, List, [], ◌∷◌, ◌++◌, length, take, drop, Result, Ok, Err, refl, sym, ap, subst, ◌∙◌, inl, inr, arith}
use Rattle.std.proofs.lemmas.Bool.{cases_lt, ltb-false, le-ltb, eqb-true, ne_eqb}
use Rattle.std.proofs.lemmas.List.{drop-take, take-take, drop-drop, drop_all, take_at, drop_at, length-take, length-drop, length-append, take-append-drop, nil_from_length, append-nil}
use Rattle.chunk_core.specs.declared.fault.ChunkFault.{ChunkFault}
use Rattle.chunk_core.specs.declared.fault.ChunkFault.TheVariants.{HeadCut, DataCut}
use Rattle.chunk_core.specs.Chunks.{Chunk, IsHead, chunks, width}
use Rattle.chunk_core.specs.Laws.{OneList}
use Rattle.chunk_core.specs.Reading.{size_of, first_of, walk_for, walk_of}
use Rattle.chunk_core.specs.Steps.{◌>>=◌}
use Rattle.chunk_core.proofs.Steps.{bind_ok, guard_ok, chosen, ap_bind}
use Rattle.std.proofs.Math.Dec.{eqb-suc-zero}
use Rattle.byteorder.specs.Numbers.{big_from-take}

-- ---- the first chunk

-- the bytes begin with this chunk
pub record First (bytes : List ℕ) (c : Chunk) : Type 0 where
  pub long : 12 + size_of bytes ≤ length bytes
  pub id : take 4 bytes ≡ c.id
  pub size : size_of bytes ≡ length c.content
  pub content : take (size_of bytes) (drop 12 bytes) ≡ c.content

abbrev chunk_at : List ℕ → Chunk
chunk_at bytes = record { id = take 4 bytes; content = take (size_of bytes) (drop 12 bytes) }

-- the reading of a first chunk
pub first_ok : (at : ℕ) (bytes : List ℕ) (c : Chunk) → first_of at bytes ≡ Ok c → First bytes c
unfolding first_of
first_ok at bytes c e =
    let a = guard_ok (ltb (length bytes) 12) (HeadCut at) (cond (ltb (length bytes - 12) (size_of bytes)) (Err (DataCut at (take 4 bytes) (size_of bytes))) (Ok (chunk_at bytes))) c e in
    let b = guard_ok (ltb (length bytes - 12) (size_of bytes)) (DataCut at (take 4 bytes) (size_of bytes)) (Ok (chunk_at bytes)) c a.1 in
    let l1 : 12 ≤ length bytes = ltb-false _ _ a.0 in
    let l2 : size_of bytes ≤ length bytes - 12 = ltb-false _ _ b.0 in
    let same : chunk_at bytes ≡ c = cc (b.1) in
    subst (λ (x : Chunk). First bytes x) same (record { long = omega arith; id = refl; size = omega (arith, length-take (size_of bytes) (drop 12 bytes), length-drop 12 bytes); content = refl })

pub first_again : (at : ℕ) (bytes : List ℕ) (c : Chunk) → First bytes c → first_of at bytes ≡ Ok c
unfolding first_of
first_again at bytes c f =
    let l1 : ltb (length bytes) 12 ≡ false = le-ltb _ _ (omega (arith, f.long)) in
    let l2 : ltb (length bytes - 12) (size_of bytes) ≡ false = le-ltb _ _ (omega (arith, f.long)) in
    rw (l1, l2, f.id, f.content) refl

-- the size is in the first 12 bytes
pub size_of_head : (bytes : List ℕ) → 12 ≤ length bytes → size_of (take 12 bytes) ≡ size_of bytes
size_of_head bytes h =
    let e : drop 4 (take 12 bytes) ≡ take 8 (drop 4 bytes) = drop-take 4 8 bytes in
    rw e (big_from-take 0 8 8 (drop 4 bytes) (omega arith))

-- no bytes are no chunks
pub no_chunks : (cs : List Chunk) → chunks [] cs → cs ≡ []
no_chunks [] h = refl
no_chunks (c ∷ cs) (inl h) = absurd (omega (arith, h.3.long, ap length h.5, length-append h.0 (c.content ++ (h.1 ++ h.2))))
no_chunks (c ∷ cs) (inr h) = absurd (omega (arith, h.1.long, ap length h.3, length-append h.0 c.content))

-- ---- the first chunk in the relation

-- bytes with a first chunk and more after it, or a first chunk alone with no pad
pub first_joins : (bytes : List ℕ) (c : Chunk) (cs : List Chunk) → First bytes c → chunks (drop (width c) bytes) cs → chunks bytes (c ∷ cs)
first_joins bytes c cs f h =
    let n : ℕ = length c.content in
    let head : List ℕ = take 12 bytes in
    let after : List ℕ = drop 12 bytes in
    let long : 12 + n ≤ length bytes = omega (arith, f.long, f.size) in
    let is_head : IsHead head c = record {
      long = omega (arith, length-take 12 bytes);
      id = take-take 4 12 bytes (omega arith) ∙ f.id;
      size = rw (← f.size) (size_of_head bytes (omega arith));
    } in
    let content : take n after ≡ c.content = rw (← f.size) f.content in
    let inner : after ≡ c.content ++ drop n after = sym (take-append-drop n after) ∙ ap (λ (t : List ℕ). t ++ drop n after) content in
    let whole : bytes ≡ head ++ (c.content ++ drop n after) = sym (take-append-drop 12 bytes) ∙ ap (λ (t : List ℕ). head ++ t) inner in
    elim (cases_lt (length (drop n after)) (n % 2)) [
      | inl lt ↦
          let nothing : drop n after ≡ [] = nil_from_length (drop n after) (omega arith) in
          let end : drop (width c) bytes ≡ [] = drop_all (width c) bytes (omega (arith, length-drop n after, length-drop 12 bytes)) in
          inr (head, is_head, omega arith, rw (nothing, append-nil) at whole, no_chunks cs (rw end at h))
      | inr le ↦
          let pad : List ℕ = take (n % 2) (drop n after) in
          let rest : List ℕ = drop (n % 2) (drop n after) in
          let split : drop n after ≡ pad ++ rest = sym (take-append-drop (n % 2) (drop n after)) in
          let rest-is : drop (width c) bytes ≡ rest = sym (drop-drop (n % 2) n after ∙ drop-drop (n + n % 2) 12 bytes ∙ ap (λ (k : ℕ). drop k bytes) (omega arith)) in
          inl (head, pad, rest, is_head, omega (arith, length-take (n % 2) (drop n after)), rw split at whole, rw rest-is at h)
    ]

-- bytes that begin with a head and its data
prefix_is : (bytes head : List ℕ) (c : Chunk) (tail : List ℕ) → IsHead head c → bytes ≡ head ++ (c.content ++ tail) → First bytes c × (drop (12 + length c.content) bytes ≡ tail)
prefix_is bytes head c tail h e =
    let n : ℕ = length c.content in
    let after : drop 12 bytes ≡ c.content ++ tail = rw e (drop_at head (c.content ++ tail) 12 h.long) in
    let prefix : take 12 bytes ≡ head = rw e (take_at head (c.content ++ tail) 12 h.long) in
    let long : 12 + n ≤ length bytes = omega (arith, ap length e, length-append head (c.content ++ tail), length-append c.content tail, h.long) in
    let size : size_of bytes ≡ n = sym (size_of_head bytes (omega arith)) ∙ rw prefix h.size in (
      record {
        long = omega arith;
        id = sym (take-take 4 12 bytes (omega arith)) ∙ rw prefix h.id;
        size = size;
        content = rw (size, after) (take_at c.content tail n refl);
      },
      sym (drop-drop n 12 bytes) ∙ rw after (drop_at c.content tail n refl),
    )

-- what the relation says of the first chunk and of what follows it
pub first_parts : (bytes : List ℕ) (c : Chunk) (cs : List Chunk) → chunks bytes (c ∷ cs) → First bytes c × chunks (drop (width c) bytes) cs
first_parts bytes c cs (inl h) =
    let n : ℕ = length c.content in
    let f = prefix_is bytes h.0 c (h.1 ++ h.2) h.3 h.5 in
    let more : drop (width c) bytes ≡ h.2 =
    ap (λ (k : ℕ). drop k bytes) (omega arith) ∙ sym (drop-drop (n % 2) (12 + n) bytes) ∙ rw f.1 (drop_at h.1 h.2 (n % 2) h.4) in
    (f.0, rw more h.6)
first_parts bytes c cs (inr h) =
    let n : ℕ = length c.content in
    let f = prefix_is bytes h.0 c [] h.1 (h.3 ∙ ap (λ (t : List ℕ). h.0 ++ t) (sym (append-nil c.content))) in
    let end : drop (width c) bytes ≡ [] = drop_all (width c) bytes (omega (arith, ap length h.3, length-append h.0 c.content, h.1.long)) in
    (f.0, rw (end, h.4) refl)

-- ---- the reading and the relation

-- the chunks that are read are those of the bytes, where there are steps enough
pub found_for : (steps at : ℕ) (bytes : List ℕ) (cs : List Chunk) → length bytes ≤ steps → walk_for steps at bytes ≡ Ok cs → chunks bytes cs
unfolding walk_for
found_for zero at bytes cs le e =
    let none : [] ≡ cs = cc (e) in
    rw (← none) (nil_from_length bytes (omega arith))
found_for (suc steps) at bytes cs le e =
    elim (chosen (eqb (length bytes) 0) (Ok []) (first_of at bytes >>= λ c. walk_for steps (at + width c) (drop (width c) bytes) >>= λ cs. Ok (c ∷ cs)) (Ok cs) e) [
      | inl h ↦
          let none : [] ≡ cs = cc (h.1) in
          rw (← none) (nil_from_length bytes (eqb-true (length bytes) 0 h.0))
      | inr h ↦
          let a = bind_ok (first_of at bytes) (λ c. walk_for steps (at + width c) (drop (width c) bytes) >>= λ cs. Ok (c ∷ cs)) cs h.1 in
          let b = bind_ok (walk_for steps (at + width a.0) (drop (width a.0) bytes)) (λ cs. Ok (a.0 ∷ cs)) cs a.2 in
          let f = first_ok at bytes a.0 a.1 in
          let same : a.0 ∷ b.0 ≡ cs = cc (b.2) in
          let ih = found_for steps (at + width a.0) (drop (width a.0) bytes) b.0 (omega (arith, length-drop (width a.0) bytes)) b.1 in
          subst (λ (ds : List Chunk). chunks bytes ds) same (first_joins bytes a.0 b.0 f ih)
    ]

-- and the chunks of the bytes are read
pub again_for : (steps at : ℕ) (bytes : List ℕ) (cs : List Chunk) → length bytes ≤ steps → chunks bytes cs → walk_for steps at bytes ≡ Ok cs
unfolding walk_for
again_for zero at bytes [] le h = refl
again_for zero at bytes (c ∷ cs) le h = absurd (omega (arith, (first_parts bytes c cs h).0.long))
again_for (suc steps) at bytes [] le h = rw h refl
again_for (suc steps) at bytes (c ∷ cs) le h =
    let p = first_parts bytes c cs h in
    let some : eqb (length bytes) 0 ≡ false = ne_eqb (length bytes) 0 (λ e. omega (arith, p.0.long)) in
    let ih = again_for steps (at + width c) (drop (width c) bytes) cs (omega (arith, length-drop (width c) bytes, p.0.long)) p.1 in
    rw (some, first_again at bytes c p.0, ih) refl

pub is_found : (at : ℕ) (bytes : List ℕ) (cs : List Chunk) → walk_of at bytes ≡ Ok cs → chunks bytes cs
unfolding walk_of
is_found at bytes cs e = found_for (length bytes) at bytes cs (omega arith) e

pub found_again : (at : ℕ) (bytes : List ℕ) (cs : List Chunk) → chunks bytes cs → walk_of at bytes ≡ Ok cs
unfolding walk_of
found_again at bytes cs h = again_for (length bytes) at bytes cs (omega arith) h

-- the law
pub one_list_is : OneList
one_list_is bytes cs ds h k = let a = found_again 0 bytes cs h in let b = found_again 0 bytes ds k in cc

-- ---- one step of the walk

-- more steps than bytes change nothing
steps_enough : (steps more at : ℕ) (bytes : List ℕ) → length bytes ≤ steps → length bytes ≤ more → walk_for steps at bytes ≡ walk_for more at bytes
unfolding walk_for
steps_enough zero zero at bytes le lm = refl
steps_enough zero (suc more) at bytes le lm = let z : length bytes ≡ 0 = omega arith in rw z refl
steps_enough (suc steps) zero at bytes le lm = let z : length bytes ≡ 0 = omega arith in rw z refl
steps_enough (suc steps) (suc more) at bytes le lm =
    ap (λ (r : Result (List Chunk) ChunkFault). cond (eqb (length bytes) 0) (Ok []) r) (ap_bind (first_of at bytes) (λ c. walk_for steps (at + width c) (drop (width c) bytes) >>= λ cs. Ok (c ∷ cs)) (λ c. walk_for more (at + width c) (drop (width c) bytes) >>= λ cs. Ok (c ∷ cs)) (λ c. rw (steps_enough steps more (at + width c) (drop (width c) bytes) (omega (arith, length-drop (width c) bytes)) (omega (arith, length-drop (width c) bytes))) refl))

pub walk_step : (at : ℕ) (bytes : List ℕ) → 0 < length bytes → walk_of at bytes ≡ (first_of at bytes >>= λ c. walk_of (at + width c) (drop (width c) bytes) >>= λ cs. Ok (c ∷ cs))
unfolding walk_of walk_for
walk_step at (b ∷ bs) some =
    let bytes : List ℕ = b ∷ bs in
    rw (eqb-suc-zero (length bs)) (ap_bind (first_of at bytes) _ _ (λ c. ap (λ (r : Result (List Chunk) ChunkFault). r >>= λ cs. Ok (c ∷ cs)) (steps_enough (length bs) (length (drop (width c) bytes)) (at + width c) (drop (width c) bytes) (omega (arith, length-drop (width c) bytes)) (omega arith))))
walk_step at [] some = absurd (omega arith)

pub walk_end : (at : ℕ) (bytes : List ℕ) → length bytes ≡ 0 → walk_of at bytes ≡ Ok []
unfolding walk_of walk_for
walk_end at [] z = refl
walk_end at (b ∷ bs) z = absurd (omega arith)
