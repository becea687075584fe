-- The chunks of the edited masters, in both directions.
use Rattle.std.proofs.Common.{◌≡◌, ℕ, ◌+◌, ◌-◌, true, List, [], ◌∷◌, ◌++◌, map, take, drop, Ok, refl, sym, ap, subst, ◌∙◌, inl, inr, arith}
use Rattle.std.specs.Prelude.{filter, slice_range}
use Rattle.std.specs.List.{AllZip}
use Rattle.std.proofs.lemmas.List.{map-append}
use Rattle.chunk_core.specs.declared.layout.Span.{Span}
use Rattle.chunk_core.specs.Chunks.{Chunk, chunks}
use Rattle.chunk_core.specs.Places.{places, span_chunk}
use Rattle.chunk_core.specs.Reading.{spans_in}
use Rattle.chunk_core.specs.Steps.{◌>>=◌}
use Rattle.chunk_core.proofs.PlaceLaws.{spans_found, spans_again}
use Rattle.chunk_core.proofs.Steps.{bind_then, chosen}
use Rattle.dsd_bits.specs.Ids.{DIIN}
use Rattle.dsdiff_core.specs.declared.fault.DsdiffFault.TheVariants as faults
use Rattle.dsdiff_core.specs.Files.{joined}
use Rattle.dsdiff_core.specs.Kinds.{has_id}
use Rattle.dsdiff_core.specs.Masters.{has_no_cut_mark, is_no_cut_mark, chunks_of_master, masters_of}
use Rattle.dsdiff_core.specs.Steps.{walked}
use Rattle.dsdiff_core.proofs.KindLaws.{and_both, bool_cases}
use Rattle.dsdiff_core.proofs.MasterLoop.{none_cut}
use Rattle.dsdiff_core.proofs.Steps.{under_ok, walked_ok}

-- the chunks of each master
abbrev pub Each : List Chunk → List (List Chunk) → Type 0
Each cs masters = AllZip (λ c ds. chunks c.content ds) cs masters

-- the chunks of the edited masters among the form's chunks, and their places one master after the other
pub record AreMasters (file : List ℕ) (top spans : List Span) : Type 0 where
  pub masters : List (List Chunk)
  pub each : Each (filter (has_id DIIN) (map (span_chunk file) top)) masters
  pub inner : joined masters ≡ map (span_chunk file) spans
  pub none_is_cut : has_no_cut_mark (map (span_chunk file) spans) ≡ true

pub whole_range : (file : List ℕ) (s : Span) → slice_range file s.start (s.start + s.size) ≡ (span_chunk file s).content
whole_range file s = let size : s.start + s.size - s.start ≡ s.size = omega arith in ap (λ (n : ℕ). take n (drop s.start file)) size

master_ok : (file : List ℕ) (s : Span) (inner : List Span) → chunks_of_master file s ≡ Ok inner → chunks (span_chunk file s).content (map (span_chunk file) inner) × (has_no_cut_mark (map (span_chunk file) inner) ≡ true)
unfolding chunks_of_master
master_ok file s inner e =
    bind_then (walked (spans_in file s.start (s.start + s.size))) _ inner e (λ x h k.
    let f = under_ok (has_no_cut_mark (map (span_chunk file) x)) x inner faults.BadMark k in
    let g = spans_found file s.start (s.start + s.size) x (walked_ok _ _ h) in
    let c : chunks (span_chunk file s).content (map (span_chunk file) x) = subst (λ (bytes : List ℕ). chunks bytes (map (span_chunk file) x)) (whole_range file s) g.0 in
    subst (λ (y : List Span). chunks (span_chunk file s).content (map (span_chunk file) y) × (has_no_cut_mark (map (span_chunk file) y) ≡ true)) f.1 (c, f.0))

pub masters_ok : (file : List ℕ) (ss inner : List Span) → masters_of file ss ≡ Ok inner → AreMasters file ss inner
unfolding masters_of
masters_ok file [] inner e = let none : [] ≡ inner = cc (e) in rw (← none) (record { masters = []; each = tt; inner = refl; none_is_cut = refl })
masters_ok file (s ∷ ss) inner e =
    elim (chosen (has_id DIIN (span_chunk file s)) (chunks_of_master file s >>= λ own. masters_of file ss >>= λ rest. Ok (own ++ rest)) (masters_of file ss) (Ok inner) e) [
      | inl h ↦
          bind_then (chunks_of_master file s) _ inner h.1 (λ own a k.
          bind_then (masters_of file ss) _ inner k (λ rest b m.
          let same : own ++ rest ≡ inner = cc (m) in
          let ih = masters_ok file ss rest b in
          let o = master_ok file s own a in
          subst (AreMasters file (s ∷ ss)) same (record {
            masters = map (span_chunk file) own ∷ ih.masters;
            each = rw h.0 (o.0, ih.each);
            inner = ap (λ (cs : List Chunk). map (span_chunk file) own ++ cs) ih.inner ∙ sym (map-append (span_chunk file) own rest);
            none_is_cut = none_cut file own rest o.1 ih.none_is_cut;
          })))
      | inr h ↦
          let ih = masters_ok file ss inner h.1 in
          record { masters = ih.masters; each = rw h.0 ih.each; inner = ih.inner; none_is_cut = ih.none_is_cut }
    ]

-- ---- the other way

pub prefix_uncut : (cs ds : List Chunk) → has_no_cut_mark (cs ++ ds) ≡ true → (has_no_cut_mark cs ≡ true) × (has_no_cut_mark ds ≡ true)
prefix_uncut [] ds e = (refl, e)
prefix_uncut (c ∷ cs) ds e =
    let p = and_both (is_no_cut_mark c) (has_no_cut_mark (cs ++ ds)) e in
    let q = prefix_uncut cs ds p.1 in
    (rw (p.0, q.0) refl, q.1)

master_again : (file : List ℕ) (s : Span) (cs : List Chunk) → chunks (span_chunk file s).content cs → has_no_cut_mark cs ≡ true → (own : List Span) × (chunks_of_master file s ≡ Ok own) × (map (span_chunk file) own ≡ cs)
unfolding chunks_of_master
master_again file s cs h e =
    let g = spans_again file s.start (s.start + s.size) cs (subst (λ (bytes : List ℕ). chunks bytes cs) (sym (whole_range file s)) h) in
    let uncut : has_no_cut_mark (map (span_chunk file) (places s.start cs)) ≡ true = rw g.1 e in
    (places s.start cs, rw (g.0, uncut) refl, g.1)

-- one master more
with_master : (file : List ℕ) (s : Span) (ss : List Span) (masters : List (List Chunk)) → Each (span_chunk file s ∷ filter (has_id DIIN) (map (span_chunk file) ss)) masters → has_no_cut_mark (joined masters) ≡ true
    → has_id DIIN (span_chunk file s) ≡ true
    → ((ms : List (List Chunk)) → Each (filter (has_id DIIN) (map (span_chunk file) ss)) ms → has_no_cut_mark (joined ms) ≡ true → (inner : List Span) × (masters_of file ss ≡ Ok inner) × (map (span_chunk file) inner ≡ joined ms))
    → (inner : List Span) × (masters_of file (s ∷ ss) ≡ Ok inner) × (map (span_chunk file) inner ≡ joined masters)
unfolding masters_of
with_master file s ss [] h e y rest = absurd h
with_master file s ss (m ∷ ms) h e y rest =
    let u = prefix_uncut m (joined ms) e in
    let own = master_again file s m h.0 u.0 in
    let r = rest ms h.1 u.1 in
    (own.0 ++ r.0, rw (y, own.1, r.1) refl, map-append (span_chunk file) own.0 r.0 ∙ rw (own.2, r.2) refl)

pub masters_again : (file : List ℕ) (ss : List Span) (masters : List (List Chunk)) → Each (filter (has_id DIIN) (map (span_chunk file) ss)) masters → has_no_cut_mark (joined masters) ≡ true
    → (inner : List Span) × (masters_of file ss ≡ Ok inner) × (map (span_chunk file) inner ≡ joined masters)
unfolding masters_of
masters_again file [] [] h e = ([], refl, refl)
masters_again file [] (m ∷ ms) h e = absurd h
masters_again file (s ∷ ss) masters h e =
    elim (bool_cases (has_id DIIN (span_chunk file s))) [
      | inl y ↦ with_master file s ss masters (rw y at h) e y (λ ms k f. masters_again file ss ms k f)
      | inr n ↦ let r = masters_again file ss masters (rw n at h) e in (r.0, rw n r.1, r.2)
    ]
