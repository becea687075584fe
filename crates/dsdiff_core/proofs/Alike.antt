-- Two files whose chunks are alike but for the sound are read alike.
use Rattle.std.proofs.Common.{◌≡◌, ℕ, ◌+◌, ◌⊎◌, inl, inr, true, false, cond, List, [], ◌∷◌, ◌++◌, map, drop, Some, Result, Ok, Err, refl, sym, ap, ap₂, subst, ◌∙◌}
use Rattle.std.specs.Prelude.{filter, find, slice_range}
use Rattle.std.specs.List.{AllByRecursion}
use Rattle.std.proofs.lemmas.List.{map-append}
use Rattle.chunk_core.specs.declared.layout.Span.{Span}
use Rattle.chunk_core.specs.Chunks.{Chunk}
use Rattle.chunk_core.specs.Places.{span_chunk}
use Rattle.chunk_core.specs.Reading.{spans_in}
use Rattle.chunk_core.specs.Steps.{◌>>=◌}
use Rattle.chunk_core.proofs.Steps.{bind_then, chosen}
use Rattle.dsd_bits.specs.declared.marks.Place.TheVariants.{Form}
use Rattle.dsd_bits.specs.Ids.{FVER, PROP, FS, CHNL, CMPR, DSD, DIIN}
use Rattle.dsdiff_core.specs.declared.fault.DsdiffFault.{DsdiffFault}
use Rattle.dsdiff_core.specs.declared.fault.DsdiffFault.TheVariants as faults
use Rattle.dsdiff_core.specs.Forms.{known_version}
use Rattle.dsdiff_core.specs.Kinds.{has_id, is_property}
use Rattle.dsdiff_core.specs.Masters.{has_no_cut_mark, chunks_of_master, masters_of}
use Rattle.dsdiff_core.specs.Others.{kept, other_in}
use Rattle.dsdiff_core.specs.Properties.{PropertyFields, fields_of, property_of}
use Rattle.dsdiff_core.specs.Sounds.{sound_leads}
use Rattle.dsdiff_core.specs.Spans.{data_with, holds_property, once_each, property_kinds, span_has, top_kinds}
use Rattle.dsdiff_core.specs.Steps.{some_or, walked}
use Rattle.dsdiff_core.proofs.FileLaws.{after_type}
use Rattle.dsdiff_core.proofs.HeaderEnds.{Same, firsts, same_data, same_spans}
use Rattle.dsdiff_core.proofs.KindLaws.{bool_cases, no_property, not_both}
use Rattle.dsdiff_core.proofs.MasterLaws.{whole_range}
use Rattle.dsdiff_core.proofs.PropertyLaws.{property_ok}
use Rattle.dsdiff_core.proofs.OtherSound.{is_kept, sound_not_kept}
use Rattle.dsdiff_core.proofs.Steps.{some_ok, under_ok, walked_ok}

-- the same step, and what follows from its value
pub bind_same : {A B : Type 0} (r q : Result A DsdiffFault) (f g : A → Result B DsdiffFault) → r ≡ q → ((x : A) → q ≡ Ok x → f x ≡ g x) → (r >>= f) ≡ (q >>= g)
bind_same r (Ok x) f g e h = rw e (h x refl)
bind_same r (Err d) f g e h = rw e refl

-- the same bytes are walked alike
pub spans_same : (F G : List ℕ) (start stop : ℕ) → slice_range F start stop ≡ slice_range G start stop → spans_in F start stop ≡ spans_in G start stop
unfolding spans_in
spans_same F G start stop e = rw e refl

module _ (F G : List ℕ) where
  -- the span holds the same chunk in both files, or a sound in both
  abbrev pub IsAlike : Span → Type 0
  IsAlike s = (span_chunk F s ≡ span_chunk G s) ⊎ (span_has DSD s ≡ true)

  abbrev pub Alike : List Span → Type 0
  Alike ss = AllByRecursion IsAlike ss

  pub same_alike : (ss : List Span) → Same F G ss → Alike ss
  same_alike [] e = tt
  same_alike (s ∷ ss) e = let p = firsts (span_chunk F s) (span_chunk G s) (map (span_chunk F) ss) (map (span_chunk G) ss) e in (inl p.0, same_alike ss p.1)

  pub alike_join : (ss ts : List Span) → Alike ss → Alike ts → Alike (ss ++ ts)
  alike_join [] ts a b = b
  alike_join (s ∷ ss) ts a b = (a.0, alike_join ss ts a.1 b)

  -- a sound is no chunk of another kind
  not_property : (H : List ℕ) (s : Span) → span_has DSD s ≡ true → holds_property H s ≡ false
  not_property H s y = no_property (span_chunk H s) (not_both DSD PROP (span_chunk H s) refl y)

  property_alike : (s : Span) → IsAlike s → holds_property F s ≡ holds_property G s
  property_alike s (inl e) = ap is_property e
  property_alike s (inr y) = not_property F s y ∙ sym (not_property G s y)

  pub find_alike : (ss : List Span) → Alike ss → find (holds_property F) ss ≡ find (holds_property G) ss
  find_alike [] a = refl
  find_alike (s ∷ ss) a = rw (property_alike s a.0, find_alike ss a.1) refl

  -- ---- the version, and kinds that occur once
  no_version : (H : List ℕ) (s : Span) (cs : List Chunk) → span_has DSD s ≡ true → known_version (span_chunk H s ∷ cs) ≡ Err (faults.NoVersion (Some s.id))
  no_version H s cs y = rw (not_both DSD FVER (span_chunk H s) refl y) refl

  pub version_alike : (ss : List Span) → Alike ss → known_version (map (span_chunk F) ss) ≡ known_version (map (span_chunk G) ss)
  version_alike [] a = refl
  version_alike (s ∷ ss) (inl e, a) = ap (λ (c : Chunk). known_version (c ∷ map (span_chunk F) ss)) e
  version_alike (s ∷ ss) (inr y, a) = no_version F s (map (span_chunk F) ss) y ∙ sym (no_version G s (map (span_chunk G) ss) y)

  pub once_alike : (before ss : List Span) → Alike before → Alike ss → once_each (top_kinds F) before ss ≡ once_each (top_kinds G) before ss
  unfolding once_each
  once_alike before [] b a = refl
  once_alike before (s ∷ ss) b a = rw (property_alike s a.0, find_alike before b, once_alike (before ++ s ∷ []) ss (alike_join before (s ∷ []) b (a.0, tt)) a.1) refl

  -- ---- the property of the sound
  pub leads_alike : (ss : List Span) → Alike ss → sound_leads (map (span_chunk F) ss) ≡ sound_leads (map (span_chunk G) ss)
  leads_alike [] a = refl
  leads_alike (s ∷ ss) a = rw (property_alike s a.0, leads_alike ss a.1) refl

  -- a property that was found holds the same chunk
  found_same : (ss : List Span) (p : Span) → Alike ss → find (holds_property G) ss ≡ Some p → span_chunk F p ≡ span_chunk G p
  found_same [] p a e = absurd cc
  found_same (s ∷ ss) p a e = elim (bool_cases (holds_property G s)) [
    | inl y ↦
        let same : s ≡ p = cc (rw y at e) in
        subst (λ (x : Span). span_chunk F x ≡ span_chunk G x) same (elim a.0 [ inl is ↦ is | inr sound ↦ (let never : true ≡ false = sym y ∙ not_property G s sound in absurd cc) ])
    | inr other ↦ found_same ss p a.1 (rw other at e)
  ]

  fields_alike : (parts : List Span) → Same F G parts → fields_of (data_with F FS parts) (data_with F CHNL parts) (data_with F CMPR parts) ≡ fields_of (data_with G FS parts) (data_with G CHNL parts) (data_with G CMPR parts)
  fields_alike parts e = rw (same_data F G FS parts e, same_data F G CHNL parts e, same_data F G CMPR parts e) refl

  -- the range after the type of a chunk that is the same
  parts_range : (p : Span) → span_chunk F p ≡ span_chunk G p → slice_range F (p.start + 4) (p.start + p.size) ≡ slice_range G (p.start + 4) (p.start + p.size)
  parts_range p e = after_type F p ∙ ap (λ (c : Chunk). drop 4 c.content) e ∙ sym (after_type G p)

  pub property_same : (ss : List Span) → Alike ss → property_of F ss ≡ property_of G ss
  unfolding property_of
  property_same ss a =
      bind_same (some_or faults.NoProperty (find (holds_property F) ss)) (some_or faults.NoProperty (find (holds_property G) ss)) _ _ (ap (some_or faults.NoProperty) (find_alike ss a)) (λ p is.
      let range = parts_range p (found_same ss p a (some_ok faults.NoProperty (find (holds_property G) ss) p is)) in
      bind_same (walked (spans_in F (p.start + 4) (p.start + p.size))) (walked (spans_in G (p.start + 4) (p.start + p.size))) _ _ (ap walked (spans_same F G (p.start + 4) (p.start + p.size) range)) (λ parts found.
      let same = (same_spans F G (p.start + 4) (p.start + p.size) parts range (walked_ok _ parts found)).1 in
      ap (λ (r : Result (ℕ × List (List ℕ)) DsdiffFault). once_each property_kinds [] parts >>= λ once. r >>= λ fields. Ok (record { rate = fields.0; ids = fields.1; parts = parts })) (fields_alike parts same)))

  -- the parts of a property that was read hold the same chunks
  pub parts_same : (ss : List Span) (stated : PropertyFields) → Alike ss → property_of G ss ≡ Ok stated → Same F G stated.parts
  parts_same ss stated a e =
      let p = property_ok G ss stated e in
      (same_spans F G (p.property.start + 4) (p.property.start + p.property.size) stated.parts (parts_range p.property (found_same ss p.property a p.found)) p.spans).1

  -- ---- the edited masters
  master_range : (s : Span) → span_chunk F s ≡ span_chunk G s → slice_range F s.start (s.start + s.size) ≡ slice_range G s.start (s.start + s.size)
  master_range s e = whole_range F s ∙ ap (λ (c : Chunk). c.content) e ∙ sym (whole_range G s)

  master_same : (s : Span) → span_chunk F s ≡ span_chunk G s → chunks_of_master F s ≡ chunks_of_master G s
  unfolding chunks_of_master
  master_same s e =
      bind_same (walked (spans_in F s.start (s.start + s.size))) (walked (spans_in G s.start (s.start + s.size))) _ _ (ap walked (spans_same F G s.start (s.start + s.size) (master_range s e))) (λ inner found.
      ap (λ (cs : List Chunk). cond (has_no_cut_mark cs) (Ok inner) (Err faults.BadMark)) (same_spans F G s.start (s.start + s.size) inner (master_range s e) (walked_ok _ inner found)).1)

  not_master : (H : List ℕ) (s : Span) → span_has DSD s ≡ true → has_id DIIN (span_chunk H s) ≡ false
  not_master H s y = not_both DSD DIIN (span_chunk H s) refl y

  pub masters_same : (ss : List Span) → Alike ss → masters_of F ss ≡ masters_of G ss
  unfolding masters_of
  masters_same [] a = refl
  masters_same (s ∷ ss) (inl e, a) = rw (master_same s e, masters_same ss a) refl
  masters_same (s ∷ ss) (inr y, a) = rw (not_master F s y) (masters_same ss a)

  own_same : (s : Span) (own : List Span) → span_chunk F s ≡ span_chunk G s → chunks_of_master G s ≡ Ok own → Same F G own
  unfolding chunks_of_master
  own_same s own e k =
      bind_then (walked (spans_in G s.start (s.start + s.size))) _ own k (λ x h m.
      let f = under_ok (has_no_cut_mark (map (span_chunk G) x)) x own faults.BadMark m in
      subst (Same F G) f.1 (same_spans F G s.start (s.start + s.size) x (master_range s e) (walked_ok _ x h)).1)

  -- the chunks of the masters that were read are the same
  pub inner_same : (ss inner : List Span) → Alike ss → masters_of G ss ≡ Ok inner → Same F G inner
  unfolding masters_of
  inner_same [] inner a e = let none : [] ≡ inner = cc (e) in rw (← none) refl
  inner_same (s ∷ ss) inner a e = elim (chosen (has_id DIIN (span_chunk G s)) (chunks_of_master G s >>= λ own. masters_of G ss >>= λ rest. Ok (own ++ rest)) (masters_of G ss) (Ok inner) e) [
    | inl h ↦
        bind_then (chunks_of_master G s) _ inner h.1 (λ own a1 k.
        bind_then (masters_of G ss) _ inner k (λ rest a2 m.
        let joined : own ++ rest ≡ inner = cc (m) in
        let is : span_chunk F s ≡ span_chunk G s = elim a.0 [ inl is ↦ is | inr sound ↦ (let never : true ≡ false = sym h.0 ∙ not_master G s sound in absurd cc) ] in
        subst (Same F G) joined (map-append (span_chunk F) own rest ∙ rw (own_same s own is a1, inner_same ss rest a.1 a2) (sym (map-append (span_chunk G) own rest)))))
    | inr h ↦ inner_same ss inner a.1 h.1
  ]

  -- ---- what is kept of the form
  kept_same : (ss : List Span) → Alike ss → filter is_kept (map (span_chunk F) ss) ≡ filter is_kept (map (span_chunk G) ss)
  kept_same [] a = refl
  kept_same (s ∷ ss) (inl e, a) = ap₂ (λ (c : Chunk) (cs : List Chunk). cond (is_kept c) (c ∷ cs) cs) e (kept_same ss a)
  kept_same (s ∷ ss) (inr y, a) = rw (sound_not_kept (span_chunk F s) y, sound_not_kept (span_chunk G s) y) (kept_same ss a)

  pub kept_alike : (ss : List Span) → Alike ss → kept Form (map (span_chunk F) ss) ≡ kept Form (map (span_chunk G) ss)
  kept_alike ss a = ap (map (other_in Form)) (kept_same ss a)
