-- The loops that look for a chunk of some kind.
use Rattle.std.proofs.Common.{◌≡◌, ℕ, ◌+◌, ◌<◌, Bool, true, false, not, List, length, get_or, map, drop, refl, sym, ◌∙◌}
use Rattle.std.proofs.lemmas.List.{at_drop_more}
use Rattle.chunk_core.specs.declared.layout.Span.{Span}
use Rattle.chunk_core.specs.Places.{span_chunk}
use Rattle.dsd_bits.specs.Ids.{DSD}
use Rattle.dsdiff_core.specs.Kinds.{has_id, is_property}
use Rattle.dsdiff_core.specs.Masters.{has_no_cut_mark, is_no_cut_mark}
use Rattle.dsdiff_core.specs.Sounds.{sound_leads}
use Rattle.dsdiff_core.proofs.Steps.{not_false}

not_true : (b : Bool) → not b ≡ true → b ≡ false
not_true true e = absurd cc
not_true false e = refl

module _ (file : List ℕ) (ss : List Span) (i : ℕ) (d : Span) (lt : i < length ss) where
  -- marks that are cut
  pub cut_on : not (is_no_cut_mark (span_chunk file (get_or ss i d))) ≡ false → has_no_cut_mark (map (span_chunk file) (drop (i + 1) ss)) ≡ has_no_cut_mark (map (span_chunk file) (drop i ss))
  cut_on e = sym (at_drop_more (λ (xs : List Span). has_no_cut_mark (map (span_chunk file) xs)) ss i d lt ∙ rw (not_false _ e) refl)

  pub cut_here : not (is_no_cut_mark (span_chunk file (get_or ss i d))) ≡ true → false ≡ has_no_cut_mark (map (span_chunk file) (drop i ss))
  cut_here e = sym (at_drop_more (λ (xs : List Span). has_no_cut_mark (map (span_chunk file) xs)) ss i d lt ∙ rw (not_true _ e) refl)

  -- what comes first, a property of the sound or a sound
  pub leads_on : is_property (span_chunk file (get_or ss i d)) ≡ false → has_id DSD (span_chunk file (get_or ss i d)) ≡ false → sound_leads (map (span_chunk file) (drop (i + 1) ss)) ≡ sound_leads (map (span_chunk file) (drop i ss))
  leads_on p s = sym (at_drop_more (λ (xs : List Span). sound_leads (map (span_chunk file) xs)) ss i d lt ∙ rw (p, s) refl)

  pub leads_not : is_property (span_chunk file (get_or ss i d)) ≡ true → false ≡ sound_leads (map (span_chunk file) (drop i ss))
  leads_not p = sym (at_drop_more (λ (xs : List Span). sound_leads (map (span_chunk file) xs)) ss i d lt ∙ rw p refl)

  pub leads_here : is_property (span_chunk file (get_or ss i d)) ≡ false → has_id DSD (span_chunk file (get_or ss i d)) ≡ true → true ≡ sound_leads (map (span_chunk file) (drop i ss))
  leads_here p s = sym (at_drop_more (λ (xs : List Span). sound_leads (map (span_chunk file) xs)) ss i d lt ∙ rw (p, s) refl)
