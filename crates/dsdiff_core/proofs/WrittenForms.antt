-- Chunks that were written in a form are read again.
use Rattle.std.proofs.Common.{◌≡◌, ◌≤◌, ℕ, ◌+◌, ◌-◌, ◌*◌, ◌%◌, ◌^◌, ◌<◌, min, List, [], ◌∷◌, ◌++◌, flat_map, length, map, take, drop, replicate, refl, sym, ap, ◌∙◌, append_assoc, arith}
use Rattle.std.specs.Prelude.{slice_range}
use Rattle.std.specs.List.{range_with_len, AllByRecursion}
use Rattle.std.proofs.lemmas.List.{append-nil, take_at, drop_at, take_all, length-append, length-replicate}
use Rattle.byteorder.specs.Endian.{big_bytes}
use Rattle.byteorder.specs.Numbers.{big_number-reads_back}
use Rattle.chunk_core.specs.Chunks.{Chunk, CanBeWritten, spell, width}
use Rattle.dsd_bits.specs.Ids.{DSD, DIIN}
use Rattle.dsdiff_core.specs.Fields.{form_size, form_end, ids_in}
use Rattle.dsdiff_core.specs.Writing.{form_text, edited_master}

-- ---- IDs one after the other
abbrev pub joined_ids : List (List ℕ) → List ℕ
joined_ids ids = flat_map (λ id. id) ids

pub joined_long : (ids : List (List ℕ)) → AllByRecursion (λ id. length id ≡ 4) ids → length (joined_ids ids) ≡ 4 * length ids
joined_long [] h = refl
joined_long (x ∷ xs) h = omega (arith, length-append x (joined_ids xs), h.0, joined_long xs h.1)

ids_from : (ids : List (List ℕ)) (prefix : List ℕ) (a : ℕ) → length prefix ≡ 4 * a → AllByRecursion (λ id. length id ≡ 4) ids
    → map (λ k. take 4 (drop (4 * k) (prefix ++ joined_ids ids))) (range_with_len a (length ids)) ≡ ids
ids_from [] prefix a e h = refl
ids_from (x ∷ xs) prefix a e h =
    let first : take 4 (drop (4 * a) (prefix ++ (x ++ joined_ids xs))) ≡ x = ap (take 4) (drop_at prefix (x ++ joined_ids xs) (4 * a) e) ∙ take_at x (joined_ids xs) 4 h.0 in
    let rest : map (λ k. take 4 (drop (4 * k) (prefix ++ (x ++ joined_ids xs)))) (range_with_len (a + 1) (length xs)) ≡ xs =
    ap (λ (bytes : List ℕ). map (λ k. take 4 (drop (4 * k) bytes)) (range_with_len (a + 1) (length xs))) (sym (append_assoc prefix x (joined_ids xs)))
    ∙ ids_from xs (prefix ++ x) (a + 1) (omega (arith, length-append prefix x, h.0)) h.1 in
    λ i. first i ∷ rest i

-- IDs that were written are read again
pub ids_again : (ids : List (List ℕ)) → AllByRecursion (λ id. length id ≡ 4) ids → ids_in (length ids) (joined_ids ids) ≡ ids
ids_again ids h = ids_from ids [] 0 refl h

-- ---- the form
pub length-form_text : (cs : List Chunk) → length (form_text cs) ≡ 16 + length (flat_map spell cs)
length-form_text cs = omega arith

-- a form of these chunks is read as one
pub record IsForm (cs : List Chunk) : Type 0 where
  pub size : form_size (form_text cs) ≡ 4 + length (flat_map spell cs)
  pub long : length (form_text cs) ≡ 16 + length (flat_map spell cs)
  pub range : slice_range (form_text cs) 16 (form_end (form_text cs)) ≡ flat_map spell cs

pub form_again : (cs : List Chunk) → 16 + length (flat_map spell cs) < 2 ^ 64 → IsForm cs
form_again cs short =
    let body : List ℕ = flat_map spell cs in
    let size : form_size (form_text cs) ≡ 4 + length body = big_number-reads_back 8 (4 + length body) (DSD ++ body) (omega arith) in
    let long : length (form_text cs) ≡ 16 + length body = length-form_text cs in
    let stop : min (12 + form_size (form_text cs)) (length (form_text cs)) - 16 ≡ length body = ap (λ (k : ℕ). min (12 + k) (length (form_text cs)) - 16) size ∙ omega (arith, long) in
    record { size = size; long = long; range = ap (λ (k : ℕ). take k body) stop ∙ take_all (length body) body (omega arith) }

-- ---- sizes
spell_long : (c : Chunk) → length c.id ≡ 4 → length (spell c) ≡ width c
spell_long c e =
    omega (arith, length-append (c.id ++ big_bytes 8 (length c.content) ++ c.content) (replicate (length c.content % 2) 0), length-append (c.id ++ big_bytes 8 (length c.content)) c.content, length-append c.id (big_bytes 8 (length c.content)), length-replicate {A = ℕ} (length c.content % 2) 0)

-- chunks of few bytes have a size that can be written
pub all_fit : (cs : List Chunk) → AllByRecursion (λ c. length c.id ≡ 4) cs → length (flat_map spell cs) < 2 ^ 64 → AllByRecursion CanBeWritten cs
all_fit [] h short = tt
all_fit (c ∷ cs) h short =
    let sum = length-append (spell c) (flat_map spell cs) in
    (record { id = h.0; size = omega (arith, sum, spell_long c h.0) }, all_fit cs h.1 (omega (arith, sum)))

-- the chunks in an edited master are no longer than the master
pub master_shorter : (cs : List Chunk) → length (flat_map spell cs) ≤ length (flat_map spell (edited_master cs))
master_shorter [] = omega arith
master_shorter (c ∷ cs) =
    let master : Chunk = record { id = DIIN; content = flat_map spell (c ∷ cs) } in
    omega (arith, ap length (append-nil (spell master)), spell_long master refl)
