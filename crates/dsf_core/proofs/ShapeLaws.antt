-- What is read keeps to the rules of a recording.
use Rattle.std.proofs.Common.{◌≡◌, ℕ, ◌+◌, ◌≤◌, List, [], ◌∷◌, ◌++◌, codes, length, refl, sym, ◌∙◌, inl, inr, arith, ne_eqb, eq-eqb}
use Rattle.std.proofs.lemmas.Bool.{cases_eq}
use Rattle.std.proofs.lemmas.List.FromFn.{length-map-range_with_len}
use Rattle.dsd_bits.specs.Layouts.{layout_channels}
use Rattle.dsd_bits.specs.Shape.{IsDescription}
use Rattle.dsd_bits.specs.Sounds.{IsSound}
use Rattle.dsd_bits.proofs.LayoutLaws.{usual_layout_fits}
use Rattle.dsf_core.specs.declared.header.Header.{Header}
use Rattle.dsf_core.specs.Fields.{dsf_ids, stated_layout}
use Rattle.dsf_core.specs.Reading.{described_by}

layout_fits : (kind number : ℕ) → number ≤ 6 → layout_channels (stated_layout kind number) ≡ number
layout_fits kind number six = elim (cases_eq (layout_channels kind) number) [
  | inl same ↦ rw (eq-eqb (layout_channels kind) number same) same
  | inr other ↦ rw (ne_eqb (layout_channels kind) number other) (usual_layout_fits number six)
]

pub id_for_each : (number : ℕ) → length (dsf_ids number) ≡ number
id_for_each number = elim (cases_eq number 2) [
  | inl two ↦ rw (eq-eqb number 2 two) (sym two)
  | inr other ↦ rw (ne_eqb number 2 other) (length-map-range_with_len (λ c. codes "C00" ++ (48 + c) ∷ []) 0 number)
]

pub shape_is : (prefix : Header) (tag : List ℕ) → IsSound prefix.sound → IsDescription (described_by prefix tag)
shape_is prefix tag s =
    let long = id_for_each prefix.sound.channels in
    record {
      rate_low = s.rate_low;
      rate_high = s.rate_high;
      some_channel = omega (arith, long, s.some_channel);
      six_channels = omega (arith, long, s.six_channels);
      in_limit = s.in_limit;
      layout_fits = layout_fits prefix.kind prefix.sound.channels s.six_channels ∙ sym long;
      short_texts = λ k d h. absurd (omega arith);
      in_order = refl;
      no_parts = λ k d h. absurd (omega arith);
    }
