-- A chunk whose data go past the form, after whole chunks.
use Rattle.std.proofs.Common.{◌≡◌, ℕ, zero, suc, ◌+◌, ◌-◌, ◌%◌, ◌≤◌, ◌<◌, inl, inr, List, [], ◌∷◌, ◌++◌, length, take, drop, Option, Some, None, Result, Ok, Err, refl, sym, ap, subst, ◌∙◌, arith}
use Rattle.std.specs.Prelude.{slice_range}
use Rattle.std.proofs.lemmas.Bool.{cases_lt, lt-ltb, le-ltb}
use Rattle.std.proofs.lemmas.List.{length-drop, length-take, length-take-le, take-append-drop}
use Rattle.chunk_core.specs.Chunks.{Chunk, chunks, width}
use Rattle.dsd_bits.specs.Ids.{same_id, DSD}
use Rattle.dsdiff_core.specs.declared.fault.DsdiffFault.{DsdiffFault}
use Rattle.dsdiff_core.specs.declared.fault.DsdiffFault.TheVariants as faults
use Rattle.dsdiff_core.specs.Cuts.{GoesPastForm, last_size}
use Rattle.dsdiff_core.specs.Fields.{form_size}
use Rattle.dsdiff_core.specs.Headers.{data_cut, form_of, place_after, seek, seek_for, size_at}
use Rattle.dsdiff_core.proofs.HeadLaws.{form_ok}
use Rattle.dsdiff_core.proofs.KindLaws.{bool_cases}
use Rattle.dsdiff_core.proofs.LeadLaws.{At, number_prefix, part_header, range_joins}

-- from a place on, whole chunks lead to one whose data go past the form
pub record Past (prefix : List ℕ) (from size at : ℕ) : Type 0 where
  pub before : List Chunk
  pub are_before : chunks (slice_range prefix from at) before
  pub no_gap : place_after from before ≡ at
  pub onward : from ≤ at
  pub whole : at + 12 ≤ length prefix
  pub begins : at ≤ size
  pub past : size < at + size_at prefix at

past_here : (prefix : List ℕ) (at size : ℕ) → at + 12 ≤ length prefix → at ≤ size → size < at + size_at prefix at → Past prefix at size at
past_here prefix at size whole begins past =
    let none : at - at ≡ 0 = omega arith in
    record { before = []; are_before = rw none refl; no_gap = refl; onward = omega arith; whole = whole; begins = begins; past = past }

past_on : (prefix : List ℕ) (from size at : ℕ) → from + 12 + size_at prefix from ≤ length prefix → Past prefix (from + (12 + size_at prefix from + size_at prefix from % 2)) size at → Past prefix from size at
past_on prefix from size at held s =
    let n : ℕ = size_at prefix from in
    let c : Chunk = record { id = take 4 (drop from prefix); content = take n (drop (from + 12) prefix) } in
    let long : length c.content ≡ n = omega (arith, length-take n (drop (from + 12) prefix), length-drop (from + 12) prefix) in
    let next : from + (12 + n + n % 2) ≡ from + width c = ap (λ (k : ℕ). from + (12 + k + k % 2)) (sym long) in
    let here : At prefix from at c = record {
      fits = omega (arith, s.onward, long);
      inside = omega (arith, held, long);
      id = refl;
      size = sym long;
      content = ap (λ (k : ℕ). take k (drop (from + 12) prefix)) long;
    } in
    record {
      before = c ∷ s.before;
      are_before = range_joins prefix from at c s.before here (subst (λ (k : ℕ). chunks (slice_range prefix k at) s.before) next s.are_before);
      no_gap = subst (λ (k : ℕ). place_after k s.before ≡ at) next s.no_gap;
      onward = omega (arith, s.onward);
      whole = s.whole;
      begins = s.begins;
      past = s.past;
    }

abbrev cut_at : List ℕ → ℕ → Result (Option ℕ) DsdiffFault
cut_at prefix at = Err (data_cut prefix at)

same_cut : (prefix : List ℕ) (x y : ℕ) → cut_at prefix x ≡ cut_at prefix y → x ≡ y
same_cut prefix x y e = cc

ok_cut : (x : Option ℕ) (prefix : List ℕ) (at : ℕ) → (let r : Result (Option ℕ) DsdiffFault = Ok x in r) ≡ cut_at prefix at → ⊥
ok_cut x prefix at e = cc

none_cut : (prefix : List ℕ) (at : ℕ) → (let r : Result (Option ℕ) DsdiffFault = Err faults.NoSound in r) ≡ cut_at prefix at → ⊥
none_cut prefix at e = cc

seek_past : (steps from size : ℕ) (prefix : List ℕ) (at : ℕ) → seek_for steps from prefix size ≡ cut_at prefix at → Past prefix from size at
unfolding seek_for
seek_past zero from size prefix at e = absurd (ok_cut None prefix at e)
seek_past (suc steps) from size prefix at e = elim (cases_lt size from) [
  | inl past ↦ absurd (none_cut prefix at (rw (lt-ltb size from past) at e))
  | inr begins ↦ elim (cases_lt (length prefix) (from + 12)) [
    | inl short ↦ absurd (ok_cut None prefix at (rw (le-ltb size from begins, lt-ltb (length prefix) (from + 12) short) at e))
    | inr whole ↦ elim (cases_lt size (from + size_at prefix from)) [
      | inl cut ↦
          let same = same_cut prefix from at (rw (le-ltb size from begins, le-ltb (length prefix) (from + 12) whole, lt-ltb size (from + size_at prefix from) cut) at e) in
          subst (λ (k : ℕ). Past prefix from size k) same (past_here prefix from size whole begins cut)
      | inr fits ↦ elim (bool_cases (same_id (take 4 (drop from prefix)) DSD)) [
        | inl y ↦ absurd (ok_cut (Some from) prefix at (rw (le-ltb size from begins, le-ltb (length prefix) (from + 12) whole, le-ltb size (from + size_at prefix from) fits, y) at e))
        | inr other ↦ elim (cases_lt (length prefix) (from + 12 + size_at prefix from)) [
          | inl short ↦ absurd (ok_cut None prefix at (rw (le-ltb size from begins, le-ltb (length prefix) (from + 12) whole, le-ltb size (from + size_at prefix from) fits, other, lt-ltb (length prefix) (from + 12 + size_at prefix from) short) at e))
          | inr held ↦
              past_on prefix from size at held (seek_past steps (from + (12 + size_at prefix from + size_at prefix from % 2)) size prefix at (rw (le-ltb size from begins, le-ltb (length prefix) (from + 12) whole, le-ltb size (from + size_at prefix from) fits, other, le-ltb (length prefix) (from + 12 + size_at prefix from) held) at e))
        ]
      ]
    ]
  ]
]

-- a prefix that is cut after the head of that chunk
cut_after : (prefix rest : List ℕ) (at : ℕ) → at + 12 ≡ length prefix → form_of (prefix ++ rest) ≡ Ok tt → Past (prefix ++ rest) 16 (form_size (prefix ++ rest)) at → GoesPastForm prefix
cut_after prefix rest at ends form s =
    let f = form_ok (prefix ++ rest) form in
    let size : form_size (prefix ++ rest) ≡ form_size prefix = number_prefix 8 4 prefix rest (omega (arith, s.onward, ends)) in
    let range : slice_range (prefix ++ rest) 16 at ≡ slice_range prefix 16 at = part_header (at - 16) 16 prefix rest (omega (arith, s.onward, ends)) in
    let back : length prefix - 12 ≡ at = omega (arith, ends) in
    let here : size_at (prefix ++ rest) at ≡ last_size prefix = number_prefix 8 (at + 4) prefix rest (omega (arith, ends)) ∙ ap (size_at prefix) (sym back) in (
      record {
        form = sym (part_header 4 0 prefix rest (omega (arith, s.onward, ends))) ∙ f.0;
        kind = sym (part_header 4 12 prefix rest (omega (arith, s.onward, ends))) ∙ f.1;
        at = at;
        before = s.before;
        are_before = subst (λ (bs : List ℕ). chunks bs s.before) range s.are_before;
        no_gap = s.no_gap;
        ends = ends;
        head_in_form = omega (arith, s.begins, size);
      },
      omega (arith, ends, s.past, here, size),
    )

pub past_form : (file : List ℕ) (at : ℕ) → form_of file ≡ Ok tt → seek file ≡ Err (data_cut file at) → (at + 12 ≤ length file) × GoesPastForm (take (at + 12) file)
unfolding seek
past_form file at form sought =
    let s = seek_past (length file) 16 (form_size file) file at sought in
    let prefix : List ℕ = take (at + 12) file in
    let rest : List ℕ = drop (at + 12) file in
    let whole : file ≡ prefix ++ rest = sym (take-append-drop (at + 12) file) in
    (s.whole, cut_after prefix rest at (sym (length-take-le (at + 12) file s.whole)) (ap form_of (sym whole) ∙ form) (subst (λ (bs : List ℕ). Past bs 16 (form_size bs) at) whole s))
