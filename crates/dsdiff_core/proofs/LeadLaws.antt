-- The chunks of a file that its prefix holds.
use Rattle.std.proofs.Common.{◌≡◌, ℕ, zero, suc, ◌+◌, ◌-◌, ◌%◌, ◌≤◌, ◌<◌, ◌⊎◌, inl, inr, true, false, List, [], ◌∷◌, ◌++◌, length, take, drop, Option, Some, None, Result, Ok, Err, refl, sym, ap, subst, ◌∙◌, arith}
use Rattle.std.specs.Prelude.{filter, slice_range}
use Rattle.std.proofs.lemmas.Bool.{cases_lt, lt-ltb, le-ltb}
use Rattle.std.proofs.lemmas.List.{drop-append-le, take-append-le, length-drop, length-take, take-take}
use Rattle.byteorder.specs.Endian.{big_number}
use Rattle.byteorder.specs.Numbers.{big_from-take}
use Rattle.chunk_core.specs.Chunks.{Chunk, chunks, width}
use Rattle.chunk_core.specs.Reading.{size_of}
use Rattle.chunk_core.proofs.Ranges.{range_after, range_inner}
use Rattle.chunk_core.proofs.ReadingLaws.{First, first_joins, first_parts}
use Rattle.dsd_bits.specs.Ids.{same_id, DSD}
use Rattle.dsdiff_core.specs.declared.fault.DsdiffFault.{DsdiffFault}
use Rattle.dsdiff_core.specs.declared.fault.DsdiffFault.TheVariants as faults
use Rattle.dsdiff_core.specs.Headers.{data_cut, place_after, seek_for, size_at}
use Rattle.dsdiff_core.specs.Kinds.{has_id}
use Rattle.dsdiff_core.proofs.KindLaws.{bool_cases, id_is}

-- ---- bytes in the prefix of a file

pub part_header : (n at : ℕ) (prefix rest : List ℕ) → at + n ≤ length prefix → take n (drop at (prefix ++ rest)) ≡ take n (drop at prefix)
part_header n at prefix rest h =
    ap (take n) (drop-append-le at prefix rest (omega arith)) ∙ take-append-le n (drop at prefix) rest (omega (arith, length-drop at prefix))

pub number_prefix : (n at : ℕ) (prefix rest : List ℕ) → at + n ≤ length prefix → big_number n (drop at (prefix ++ rest)) ≡ big_number n (drop at prefix)
number_prefix n at prefix rest h =
    sym (big_from-take 0 n n (drop at (prefix ++ rest)) (omega arith)) ∙ ap (big_number n) (part_header n at prefix rest h) ∙ big_from-take 0 n n (drop at prefix) (omega arith)

-- ---- a chunk at a place

-- the chunk is before another one
pub record At (bytes : List ℕ) (at stop : ℕ) (c : Chunk) : Type 0 where
  pub fits : at + 12 + length c.content ≤ stop
  pub inside : at + 12 + length c.content ≤ length bytes
  pub id : take 4 (drop at bytes) ≡ c.id
  pub size : size_at bytes at ≡ length c.content
  pub content : take (length c.content) (drop (at + 12) bytes) ≡ c.content

range_long : (bytes : List ℕ) (at stop : ℕ) → (length (slice_range bytes at stop) ≤ stop - at) × (length (slice_range bytes at stop) ≤ length bytes - at)
range_long bytes at stop = (omega (arith, length-take (stop - at) (drop at bytes)), omega (arith, length-take (stop - at) (drop at bytes), length-drop at bytes))

range_size : (bytes : List ℕ) (at stop : ℕ) → 12 ≤ stop - at → size_of (slice_range bytes at stop) ≡ size_at bytes at
range_size bytes at stop h =
    sym (big_from-take 0 8 8 (drop 4 (slice_range bytes at stop)) (omega arith)) ∙ ap (big_number 8) (range_inner bytes at stop 4 8 (omega arith)) ∙ big_from-take 0 8 8 (drop (at + 4) bytes) (omega arith)

pub first_at : (bytes : List ℕ) (at stop : ℕ) (c : Chunk) → First (slice_range bytes at stop) c → At bytes at stop c
first_at bytes at stop c f =
    let long = range_long bytes at stop in
    record {
      fits = omega (arith, long.0, f.long, f.size);
      inside = omega (arith, long.1, f.long, f.size);
      id = sym (take-take 4 (stop - at) (drop at bytes) (omega (arith, long.0, f.long))) ∙ f.id;
      size = sym (range_size bytes at stop (omega (arith, long.0, f.long))) ∙ f.size;
      content = sym (range_inner bytes at stop 12 (length c.content) (omega (arith, long.0, f.long, f.size))) ∙ ap (λ (n : ℕ). take n (drop 12 (slice_range bytes at stop))) (sym f.size) ∙ f.content;
    }

pub at_first : (bytes : List ℕ) (at stop : ℕ) (c : Chunk) → At bytes at stop c → First (slice_range bytes at stop) c
at_first bytes at stop c a =
    let size : size_of (slice_range bytes at stop) ≡ length c.content = range_size bytes at stop (omega (arith, a.fits)) ∙ a.size in
    record {
      long = omega (arith, size, a.fits, a.inside, length-take (stop - at) (drop at bytes), length-drop at bytes);
      id = take-take 4 (stop - at) (drop at bytes) (omega (arith, a.fits)) ∙ a.id;
      size = size;
      content = ap (λ (n : ℕ). take n (drop 12 (slice_range bytes at stop))) size ∙ range_inner bytes at stop 12 (length c.content) (omega (arith, a.fits)) ∙ a.content;
    }

-- a chunk that the prefix holds whole
pub at_prefix : (prefix rest : List ℕ) (at stop until : ℕ) (c : Chunk) → At (prefix ++ rest) at stop c → at + 12 + length c.content ≤ length prefix → at + 12 + length c.content ≤ until → At prefix at until c
at_prefix prefix rest at stop until c a inside fits = record {
  fits = fits;
  inside = inside;
  id = sym (part_header 4 at prefix rest (omega arith)) ∙ a.id;
  size = sym (number_prefix 8 (at + 4) prefix rest (omega arith)) ∙ a.size;
  content = sym (part_header (length c.content) (at + 12) prefix rest (omega arith)) ∙ a.content;
}

-- the first chunk of a range, and what is after it
pub range_parts : (bytes : List ℕ) (at stop : ℕ) (c : Chunk) (cs : List Chunk) → chunks (slice_range bytes at stop) (c ∷ cs) → At bytes at stop c × chunks (slice_range bytes (at + width c) stop) cs
range_parts bytes at stop c cs h =
    let p = first_parts (slice_range bytes at stop) c cs h in
    (first_at bytes at stop c p.0, rw (range_after bytes at stop (width c)) at p.1)

pub range_joins : (bytes : List ℕ) (at stop : ℕ) (c : Chunk) (cs : List Chunk) → At bytes at stop c → chunks (slice_range bytes (at + width c) stop) cs → chunks (slice_range bytes at stop) (c ∷ cs)
range_joins bytes at stop c cs a h =
    first_joins (slice_range bytes at stop) c cs (at_first bytes at stop c a) (subst (λ (bs : List ℕ). chunks bs cs) (sym (range_after bytes at stop (width c))) h)

-- ---- the chunks up to the sound

-- of the chunks of a file from a place on, those before the sound are in its prefix, and so is the head of the sound
pub record Led (prefix rest : List ℕ) (from stop : ℕ) (cs : List Chunk) (at : ℕ) : Type 0 where
  pub before : List Chunk
  pub sound : Chunk
  pub later : List Chunk
  pub is : cs ≡ before ++ sound ∷ later
  pub none : filter (has_id DSD) before ≡ []
  pub is_sound : has_id DSD sound ≡ true
  pub are_before : chunks (slice_range prefix from at) before
  pub no_gap : place_after from before ≡ at
  pub onward : from ≤ at
  pub whole : at + 12 ≤ length prefix
  pub at_sound : At (prefix ++ rest) at stop sound
  pub are_later : chunks (slice_range (prefix ++ rest) (at + width sound) stop) later

pub led_here : (prefix rest : List ℕ) (at stop : ℕ) (c : Chunk) (cs : List Chunk) → has_id DSD c ≡ true → at + 12 ≤ length prefix → At (prefix ++ rest) at stop c → chunks (slice_range (prefix ++ rest) (at + width c) stop) cs
    → Led prefix rest at stop (c ∷ cs) at
led_here prefix rest at stop c cs id whole a later =
    let none : at - at ≡ 0 = omega arith in
    record {
      before = [];
      sound = c;
      later = cs;
      is = refl;
      none = refl;
      is_sound = id;
      are_before = rw none refl;
      no_gap = refl;
      onward = omega arith;
      whole = whole;
      at_sound = a;
      are_later = later;
    }

pub led_on : (prefix rest : List ℕ) (from stop at : ℕ) (c : Chunk) (cs : List Chunk) → has_id DSD c ≡ false → At (prefix ++ rest) from stop c → Led prefix rest (from + width c) stop cs at → Led prefix rest from stop (c ∷ cs) at
led_on prefix rest from stop at c cs id a l = record {
  before = c ∷ l.before;
  sound = l.sound;
  later = l.later;
  is = ap (λ (ds : List Chunk). c ∷ ds) l.is;
  none = rw id l.none;
  is_sound = l.is_sound;
  are_before = range_joins prefix from at c l.before (at_prefix prefix rest from stop at c a (omega (arith, l.onward, l.whole)) (omega (arith, l.onward))) l.are_before;
  no_gap = l.no_gap;
  onward = omega (arith, l.onward);
  whole = l.whole;
  at_sound = l.at_sound;
  are_later = l.are_later;
}

-- the sound of a file is sought in its prefix: it is found, or more bytes are needed
pub seek_right : (steps from size stop : ℕ) (prefix rest : List ℕ) (cs : List Chunk) (s : Chunk) (more : List Chunk) → stop ≤ 12 + size → chunks (slice_range (prefix ++ rest) from stop) cs → filter (has_id DSD) cs ≡ s ∷ more
    → (seek_for steps from prefix size ≡ Ok None) ⊎ ((at : ℕ) × (seek_for steps from prefix size ≡ Ok (Some at)) × Led prefix rest from stop cs at)
unfolding seek_for
seek_right zero from size stop prefix rest cs s more low h f = inl refl
seek_right (suc steps) from size stop prefix rest [] s more low h f = absurd cc
seek_right (suc steps) from size stop prefix rest (c ∷ cs) s more low h f =
    let p = range_parts (prefix ++ rest) from stop c cs h in
    let n : ℕ = length c.content in
    let begins = le-ltb size from (omega (arith, p.0.fits)) in
    elim (cases_lt (length prefix) (from + 12)) [
      | inl short ↦ inl (rw (begins, lt-ltb (length prefix) (from + 12) short) refl)
      | inr whole ↦
          let size_is : size_at prefix from ≡ n = sym (number_prefix 8 (from + 4) prefix rest (omega arith)) ∙ p.0.size in
          let id_is : take 4 (drop from prefix) ≡ c.id = sym (part_header 4 from prefix rest (omega arith)) ∙ p.0.id in
          let head = le-ltb (length prefix) (from + 12) whole in
          let fits = le-ltb size (from + size_at prefix from) (omega (arith, p.0.fits, size_is)) in
          elim (bool_cases (has_id DSD c)) [
            | inl y ↦
                let id : same_id (take 4 (drop from prefix)) DSD ≡ true = ap (λ (x : List ℕ). same_id x DSD) id_is ∙ y in
                inr (from, rw (begins, head, fits, id) refl, led_here prefix rest from stop c cs y whole p.0 p.1)
            | inr other ↦
                let id : same_id (take 4 (drop from prefix)) DSD ≡ false = ap (λ (x : List ℕ). same_id x DSD) id_is ∙ other in
                elim (cases_lt (length prefix) (from + 12 + size_at prefix from)) [
                  | inl short ↦ inl (rw (begins, head, fits, id, lt-ltb (length prefix) (from + 12 + size_at prefix from) short) refl)
                  | inr there ↦
                      let next : from + (12 + size_at prefix from + size_at prefix from % 2) ≡ from + width c = ap (λ (k : ℕ). from + (12 + k + k % 2)) size_is in
                      let held = le-ltb (length prefix) (from + 12 + size_at prefix from) there in
                      elim (seek_right steps (from + width c) size stop prefix rest cs s more low p.1 (rw other at f)) [
                        | inl wanted ↦ inl (rw (begins, head, fits, id, held, next) wanted)
                        | inr found ↦ inr (found.0, rw (begins, head, fits, id, held, next) found.1, led_on prefix rest from stop found.0 c cs other p.0 found.2)
                      ]
                ]
          ]
    ]

abbrev wanted : Result (Option ℕ) DsdiffFault
wanted = Ok None

err_none : (x : DsdiffFault) → (let r : Result (Option ℕ) DsdiffFault = Err x in r) ≡ wanted → ⊥
err_none x e = cc

some_none : (at : ℕ) → (let r : Result (Option ℕ) DsdiffFault = Ok (Some at) in r) ≡ wanted → ⊥
some_none at e = cc

nothing_first : (c : Chunk) (cs : List Chunk) → c ∷ cs ≡ [] → ⊥
nothing_first c cs e = cc

pub none_first : (c : Chunk) (cs : List Chunk) → filter (has_id DSD) (c ∷ cs) ≡ [] → (has_id DSD c ≡ false) × (filter (has_id DSD) cs ≡ [])
none_first c cs e = elim (bool_cases (has_id DSD c)) [
  | inl y ↦ absurd (nothing_first c (filter (has_id DSD) cs) (rw y at e))
  | inr other ↦ (other, rw other at e)
]

pub after_on : (at : ℕ) (cs : List Chunk) → at ≤ place_after at cs
after_on at [] = omega arith
after_on at (c ∷ cs) = omega (arith, after_on (at + width c) cs)

-- more bytes are needed only if the head of the sound is not there
pub seek_ends : (steps from size : ℕ) (prefix : List ℕ) (at : ℕ) (before : List Chunk) → chunks (slice_range prefix from at) before → place_after from before ≡ at → filter (has_id DSD) before ≡ [] → take 4 (drop at prefix) ≡ DSD → at + 12 ≤ length prefix
    → length prefix < from + steps → seek_for steps from prefix size ≡ Ok None → ⊥
unfolding seek_for
seek_ends zero from size prefix at [] h gap none id whole enough e = absurd (omega (arith, gap))
seek_ends zero from size prefix at (c ∷ cs) h gap none id whole enough e = absurd (omega (arith, (range_parts prefix from at c cs h).0.fits))
seek_ends (suc steps) from size prefix at [] h gap none id whole enough e =
    let whole_here = le-ltb (length prefix) (from + 12) (omega (arith, gap)) in
    let is_sound : same_id (take 4 (drop from prefix)) DSD ≡ true = rw (gap, id) refl in
    elim (cases_lt size from) [
      | inl past ↦ err_none faults.NoSound (rw (lt-ltb size from past) at e)
      | inr begins ↦ elim (cases_lt size (from + size_at prefix from)) [
        | inl cut ↦ err_none (data_cut prefix from) (rw (le-ltb size from begins, whole_here, lt-ltb size (from + size_at prefix from) cut) at e)
        | inr fits ↦ some_none from (rw (le-ltb size from begins, whole_here, le-ltb size (from + size_at prefix from) fits, is_sound) at e)
      ]
    ]
seek_ends (suc steps) from size prefix at (c ∷ cs) h gap none id whole enough e =
    let p = range_parts prefix from at c cs h in
    let passed = none_first c cs none in
    let whole_here = le-ltb (length prefix) (from + 12) (omega (arith, p.0.inside)) in
    let no_sound : same_id (take 4 (drop from prefix)) DSD ≡ false = rw p.0.id passed.0 in
    let held = le-ltb (length prefix) (from + 12 + size_at prefix from) (omega (arith, p.0.inside, p.0.size)) in
    let next : from + (12 + size_at prefix from + size_at prefix from % 2) ≡ from + width c = ap (λ (k : ℕ). from + (12 + k + k % 2)) p.0.size in
    elim (cases_lt size from) [
      | inl past ↦ err_none faults.NoSound (rw (lt-ltb size from past) at e)
      | inr begins ↦ elim (cases_lt size (from + size_at prefix from)) [
        | inl cut ↦ err_none (data_cut prefix from) (rw (le-ltb size from begins, whole_here, lt-ltb size (from + size_at prefix from) cut) at e)
        | inr fits ↦
            seek_ends steps (from + width c) size prefix at cs p.1 gap passed.1 id whole (omega arith) (rw (le-ltb size from begins, whole_here, le-ltb size (from + size_at prefix from) fits, no_sound, held, next) at e)
      ]
    ]

-- ---- the head that was found

-- chunks without a sound lead up to the head of one, whose data fit the form
pub record Sought (prefix : List ℕ) (from size at : ℕ) : Type 0 where
  pub before : List Chunk
  pub are_before : chunks (slice_range prefix from at) before
  pub no_gap : place_after from before ≡ at
  pub none : filter (has_id DSD) before ≡ []
  pub onward : from ≤ at
  pub whole : at + 12 ≤ length prefix
  pub id : take 4 (drop at prefix) ≡ DSD
  pub fits : at + size_at prefix at ≤ size

abbrev at_place : ℕ → Result (Option ℕ) DsdiffFault
at_place at = Ok (Some at)

same_place : (x y : ℕ) → at_place x ≡ at_place y → x ≡ y
same_place x y e = cc

none_place : (at : ℕ) → wanted ≡ at_place at → ⊥
none_place at e = cc

err_place : (x : DsdiffFault) (at : ℕ) → (let r : Result (Option ℕ) DsdiffFault = Err x in r) ≡ at_place at → ⊥
err_place x at e = cc

sought_here : (prefix : List ℕ) (at size : ℕ) → at + 12 ≤ length prefix → take 4 (drop at prefix) ≡ DSD → at + size_at prefix at ≤ size → Sought prefix at size at
sought_here prefix at size whole id fits =
    let none : at - at ≡ 0 = omega arith in
    record { before = []; are_before = rw none refl; no_gap = refl; none = refl; onward = omega arith; whole = whole; id = id; fits = fits }

sought_on : (prefix : List ℕ) (from size at : ℕ) → from + 12 + size_at prefix from ≤ length prefix → same_id (take 4 (drop from prefix)) DSD ≡ false → Sought prefix (from + (12 + size_at prefix from + size_at prefix from % 2)) size at → Sought prefix from size at
sought_on prefix from size at held other s =
    let n : ℕ = size_at prefix from in
    let c : Chunk = record { id = take 4 (drop from prefix); content = take n (drop (from + 12) prefix) } in
    let long : length c.content ≡ n = omega (arith, length-take n (drop (from + 12) prefix), length-drop (from + 12) prefix) in
    let next : from + (12 + n + n % 2) ≡ from + width c = ap (λ (k : ℕ). from + (12 + k + k % 2)) (sym long) in
    let here : At prefix from at c = record {
      fits = omega (arith, s.onward, long);
      inside = omega (arith, held, long);
      id = refl;
      size = sym long;
      content = ap (λ (k : ℕ). take k (drop (from + 12) prefix)) long;
    } in
    record {
      before = c ∷ s.before;
      are_before = range_joins prefix from at c s.before here (subst (λ (k : ℕ). chunks (slice_range prefix k at) s.before) next s.are_before);
      no_gap = subst (λ (k : ℕ). place_after k s.before ≡ at) next s.no_gap;
      none = rw other s.none;
      onward = omega (arith, s.onward);
      whole = s.whole;
      id = s.id;
      fits = s.fits;
    }

pub seek_ok : (steps from size : ℕ) (prefix : List ℕ) (at : ℕ) → seek_for steps from prefix size ≡ Ok (Some at) → Sought prefix from size at
unfolding seek_for
seek_ok zero from size prefix at e = absurd (none_place at e)
seek_ok (suc steps) from size prefix at e = elim (cases_lt size from) [
  | inl past ↦ absurd (err_place faults.NoSound at (rw (lt-ltb size from past) at e))
  | inr begins ↦ elim (cases_lt (length prefix) (from + 12)) [
    | inl short ↦ absurd (none_place at (rw (le-ltb size from begins, lt-ltb (length prefix) (from + 12) short) at e))
    | inr whole ↦ elim (cases_lt size (from + size_at prefix from)) [
      | inl cut ↦ absurd (err_place (data_cut prefix from) at (rw (le-ltb size from begins, le-ltb (length prefix) (from + 12) whole, lt-ltb size (from + size_at prefix from) cut) at e))
      | inr fits ↦ elim (bool_cases (same_id (take 4 (drop from prefix)) DSD)) [
        | inl y ↦
            let same = same_place from at (rw (le-ltb size from begins, le-ltb (length prefix) (from + 12) whole, le-ltb size (from + size_at prefix from) fits, y) at e) in
            subst (λ (k : ℕ). Sought prefix from size k) same (sought_here prefix from size whole (id_is (take 4 (drop from prefix)) DSD y) fits)
        | inr other ↦ elim (cases_lt (length prefix) (from + 12 + size_at prefix from)) [
          | inl short ↦ absurd (none_place at (rw (le-ltb size from begins, le-ltb (length prefix) (from + 12) whole, le-ltb size (from + size_at prefix from) fits, other, lt-ltb (length prefix) (from + 12 + size_at prefix from) short) at e))
          | inr held ↦
              sought_on prefix from size at held other (seek_ok steps (from + (12 + size_at prefix from + size_at prefix from % 2)) size prefix at (rw (le-ltb size from begins, le-ltb (length prefix) (from + 12) whole, le-ltb size (from + size_at prefix from) fits, other, le-ltb (length prefix) (from + 12 + size_at prefix from) held) at e))
        ]
      ]
    ]
  ]
]

-- and such a head is found
pub seek_again : (steps from size : ℕ) (prefix : List ℕ) (at : ℕ) (before : List Chunk) → chunks (slice_range prefix from at) before → place_after from before ≡ at → filter (has_id DSD) before ≡ [] → take 4 (drop at prefix) ≡ DSD → at + 12 ≤ length prefix
    → from ≤ at → at + size_at prefix at ≤ size → length prefix < from + steps → seek_for steps from prefix size ≡ Ok (Some at)
unfolding seek_for
seek_again zero from size prefix at before h gap none id whole onward fits enough = absurd (omega arith)
seek_again (suc steps) from size prefix at [] h gap none id whole onward fits enough =
    let is_sound : same_id (take 4 (drop from prefix)) DSD ≡ true = rw (gap, id) refl in
    let fits_here : from + size_at prefix from ≤ size = subst (λ (k : ℕ). k + size_at prefix k ≤ size) (sym gap) fits in
    rw (le-ltb size from (omega (arith, fits_here)), le-ltb (length prefix) (from + 12) (omega (arith, gap)), le-ltb size (from + size_at prefix from) fits_here, is_sound) (ap at_place gap)
seek_again (suc steps) from size prefix at (c ∷ cs) h gap none id whole onward fits enough =
    let p = range_parts prefix from at c cs h in
    let passed = none_first c cs none in
    let no_sound : same_id (take 4 (drop from prefix)) DSD ≡ false = rw p.0.id passed.0 in
    let next : from + (12 + size_at prefix from + size_at prefix from % 2) ≡ from + width c = ap (λ (k : ℕ). from + (12 + k + k % 2)) p.0.size in
    let further : from + width c ≤ at = omega (arith, after_on (from + width c) cs, gap) in
    rw (le-ltb size from (omega arith), le-ltb (length prefix) (from + 12) (omega (arith, p.0.inside)), le-ltb size (from + size_at prefix from) (omega (arith, p.0.fits, p.0.size)), no_sound, le-ltb (length prefix) (from + 12 + size_at prefix from) (omega (arith, p.0.inside, p.0.size)), next)
    (seek_again steps (from + width c) size prefix at cs p.1 gap passed.1 id whole further fits (omega arith))
