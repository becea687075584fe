-- Marks that are whole.
use Rattle.std.proofs.Common.{◌≡◌, ℕ, zero, suc, ◌+◌, ◌<◌, true, ◌&&◌, leb, List, [], ◌∷◌, length, get_or, map, refl, inl, inr, arith}
use Rattle.std.specs.Prelude.{All, filter}
use Rattle.std.proofs.lemmas.Bool.{leb-true, le-leb}
use Rattle.std.proofs.lemmas.List.Elements.{All-nil, All-cons, All-head, All-tail}
use Rattle.chunk_core.specs.declared.layout.Span.{Span}
use Rattle.chunk_core.specs.Chunks.{Chunk}
use Rattle.chunk_core.specs.Places.{span_chunk}
use Rattle.dsd_bits.specs.Ids.{MARK}
use Rattle.dsdiff_core.specs.Kinds.{has_id}
use Rattle.dsdiff_core.specs.Marks.{IsWholeMark, text_size}
use Rattle.dsdiff_core.specs.Masters.{has_no_cut_mark, is_no_cut_mark}
use Rattle.dsdiff_core.proofs.KindLaws.{and_both, bool_cases}

pub whole_mark : (c : Chunk) → is_no_cut_mark c ≡ true → has_id MARK c ≡ true → IsWholeMark c
whole_mark c e h =
    let both : (leb 22 (length c.content) && leb (22 + text_size c.content) (length c.content)) ≡ true = rw h at e in
    let p = and_both (leb 22 (length c.content)) (leb (22 + text_size c.content) (length c.content)) both in
    record { fields = leb-true _ _ p.0; text = leb-true _ _ p.1 }

no_cut : (c : Chunk) → has_id MARK c ≡ true → IsWholeMark c → is_no_cut_mark c ≡ true
no_cut c h w = rw (h, le-leb 22 (length c.content) w.fields, le-leb (22 + text_size c.content) (length c.content) w.text) refl

pub whole_at : (file : List ℕ) (ss : List Span) (i : ℕ) (d : Span) → i < length ss → has_no_cut_mark (map (span_chunk file) ss) ≡ true → has_id MARK (span_chunk file (get_or ss i d)) ≡ true → IsWholeMark (span_chunk file (get_or ss i d))
whole_at file [] i d lt e h = absurd (omega arith)
whole_at file (s ∷ ss) zero d lt e h = whole_mark (span_chunk file s) (and_both (is_no_cut_mark (span_chunk file s)) (has_no_cut_mark (map (span_chunk file) ss)) e).0 h
whole_at file (s ∷ ss) (suc i) d lt e h = whole_at file ss i d (omega arith) (and_both (is_no_cut_mark (span_chunk file s)) (has_no_cut_mark (map (span_chunk file) ss)) e).1 h

-- none is cut where each mark is whole
pub whole_marks : (cs : List Chunk) → has_no_cut_mark cs ≡ true → All IsWholeMark (filter (has_id MARK) cs)
whole_marks [] e = All-nil IsWholeMark
whole_marks (c ∷ cs) e =
    let p = and_both (is_no_cut_mark c) (has_no_cut_mark cs) e in
    elim (bool_cases (has_id MARK c)) [
      | inl h ↦ rw h (All-cons IsWholeMark c (filter (has_id MARK) cs) (whole_mark c p.0 h) (whole_marks cs p.1))
      | inr n ↦ rw n (whole_marks cs p.1)
    ]

pub none_cut_again : (cs : List Chunk) → All IsWholeMark (filter (has_id MARK) cs) → has_no_cut_mark cs ≡ true
none_cut_again [] h = refl
none_cut_again (c ∷ cs) h =
    elim (bool_cases (has_id MARK c)) [
      | inl y ↦
          let g : All IsWholeMark (c ∷ filter (has_id MARK) cs) = rw y at h in
          rw (no_cut c y (All-head IsWholeMark c (filter (has_id MARK) cs) g), none_cut_again cs (All-tail IsWholeMark c (filter (has_id MARK) cs) g)) refl
      | inr n ↦ rw n (none_cut_again cs (rw n at h))
    ]
