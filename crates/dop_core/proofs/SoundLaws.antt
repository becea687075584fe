-- The bytes of channels, and where they are.
use Rattle.std.proofs.Common.{◌≡◌, ℕ, ◌<◌, ◌≤◌, Bool, List, [], get_or, length, slice_index, refl, sym, ◌∙◌, ap, arith}
use Rattle.std.specs.Int.{div_ceil}
use Rattle.std.proofs.lemmas.Grind.{same_number_lists}
use Rattle.std.proofs.lemmas.List.FromFn.{get_or-map-range_with_len, length-map-range_with_len}
use Rattle.dsd_bits.specs.Channels.{count_of}
use Rattle.dsd_bits.specs.Packing.{packed_bit}
use Rattle.dsd_bits.specs.Shape.{AreDescribed, IsDescription}
use Rattle.dsd_bits.proofs.LayoutLaws.{usual_layout_fits}
use Rattle.dsf_core.proofs.ShapeLaws.{id_for_each}
use Rattle.dop_core.specs.declared.head.DopHead.{DopHead}
use Rattle.dop_core.specs.Reading.{described_by, dop_byte, dop_bytes, dop_channel, dop_channels}

-- bytes that were picked one by one are those of the channel
pub picked_are : (channels : ℕ) (sound : List ℕ) (c : ℕ) (to : List ℕ) → ((p : ℕ) → p < length to → slice_index to p ≡ dop_byte channels sound c p) → to ≡ dop_bytes channels sound c (length to)
picked_are channels sound c to at =
    let f : ℕ → ℕ = dop_byte channels sound c in
    same_number_lists _ _ (sym (length-map-range_with_len f 0 (length to))) (λ k below. at k below ∙ sym (get_or-map-range_with_len f 0 (length to) k k 0 (omega (arith, below)) (omega arith)))

-- a description of channels within the limits
pub shape_is : (h : DopHead) (count : ℕ) → 1000000 ≤ h.rate → h.rate ≤ 50000000 → 1 ≤ h.channels → h.channels ≤ 6 → count ≤ 68719476736 → IsDescription (described_by h count)
shape_is h count low high some six few =
    let long = id_for_each h.channels in
    record {
      rate_low = low;
      rate_high = high;
      some_channel = omega (arith, long, some);
      six_channels = omega (arith, long, six);
      in_limit = few;
      layout_fits = usual_layout_fits h.channels six ∙ sym long;
      short_texts = λ k d h. absurd (omega arith);
      in_order = refl;
      no_parts = λ k d h. absurd (omega arith);
    }

-- each channel has as many bits
each_long : (n : ℕ) (sound : List ℕ) (count k : ℕ) (d : List Bool) → k < n → length (get_or (dop_channels n sound count) k d) ≡ count
each_long n sound count k d below =
    ap length (get_or-map-range_with_len (dop_channel n sound count) 0 n k k d below (omega arith)) ∙ length-map-range_with_len (packed_bit (dop_bytes n sound k (div_ceil count 8))) 0 count

-- the channels fit their description
pub are_described : (h : DopHead) (sound : List ℕ) (count : ℕ) → 1 ≤ h.channels → AreDescribed (described_by h count) (dop_channels h.channels sound count)
are_described h sound count some =
    let n = h.channels in
    let number : length (dop_channels n sound count) ≡ n = length-map-range_with_len (dop_channel n sound count) 0 n in
    let first : count_of (dop_channels n sound count) ≡ count = each_long n sound count 0 [] (omega (arith, some)) in
    record {
      number = number ∙ sym (id_for_each n);
      level = record { same = λ k d below. each_long n sound count k d (omega (arith, below, number)) ∙ sym first };
      count = first;
    }
