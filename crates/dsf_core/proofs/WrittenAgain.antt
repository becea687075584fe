-- What is written is a file of the recording.
use Rattle.std.proofs.Common.{◌≡◌, ℕ, ◌+◌, ◌*◌, ◌^◌, ◌<◌, ◌≤◌, ◌⊎◌, inl, inr, cond, eqb, List, [], ◌∷◌, ◌++◌, length, drop, append_assoc, length-append, refl, sym, ap, ◌∙◌, arith, ne_eqb, eq-eqb}
use Rattle.std.proofs.lemmas.Bool.{cases_eq, cases_lt, le-ltb}
use Rattle.std.proofs.lemmas.List.{drop_at}
use Rattle.std.proofs.lemmas.List.FromFn.{length-map-range_with_len}
use Rattle.std.proofs.lemmas.Nat.{mul-le}
use Rattle.std.specs.Int.{div_ceil}
use Rattle.byteorder.specs.Numbers.{little_number-reads_back}
use Rattle.dsd_bits.specs.declared.blocks.BitOrder.{BitOrder}
use Rattle.dsd_bits.specs.declared.blocks.BitOrder.TheVariants.{LeastFirst, MostFirst}
use Rattle.dsd_bits.specs.Blocks.{BlocksReadAgain, block_byte, blocked, blocks_size, unblocked_all}
use Rattle.dsd_bits.specs.Channels.{count_of}
use Rattle.dsd_bits.specs.Contents.{described}
use Rattle.dsd_bits.specs.Layouts.{layout_channels}
use Rattle.dsf_core.specs.Fields.{pointer, stated_data_size, channel_type, channel_number, rate, bits_per_sample, count, needed, sound_end, dsf_ids, stated_tag}
use Rattle.dsf_core.specs.Files.{sample_bits}
use Rattle.dsf_core.specs.ReadAgain.{WrittenReadAgain}
use Rattle.dsf_core.specs.Writing.{recording_size, tag_place, first_text, format_text, data_text, head_text, dsf_text}

-- the 92 bytes before the sound, of these numbers
abbrev dsf_head : ℕ → ℕ → ℕ → ℕ → ℕ → ℕ → ℕ → ℕ → List ℕ
dsf_head total pointer layout number rate bits count size = first_text total pointer ++ (format_text layout number rate bits count ++ data_text size)

-- the fields that are not the same in every file
record HeadReads (file : List ℕ) (p l n ra b c s : ℕ) : Type 0 where
  at_pointer : pointer file ≡ p
  at_type : channel_type file ≡ l
  at_number : channel_number file ≡ n
  at_rate : rate file ≡ ra
  at_bits : bits_per_sample file ≡ b
  at_count : count file ≡ c
  at_size : stated_data_size file ≡ s

head_reads : (t p l n ra b c s : ℕ) (rest : List ℕ) → p < 256 ^ 8 → l < 256 ^ 4 → n < 256 ^ 4 → ra < 256 ^ 4 → b < 256 ^ 4 → c < 256 ^ 8 → s < 256 ^ 8
    → HeadReads (dsf_head t p l n ra b c s ++ rest) p l n ra b c s
head_reads t p l n ra b c s rest hp hl hn hr hb hc hs =
    let file = dsf_head t p l n ra b c s ++ rest in
    record {
      at_pointer = little_number-reads_back 8 p (drop 28 file) hp;
      at_type = little_number-reads_back 4 l (drop 52 file) hl;
      at_number = little_number-reads_back 4 n (drop 56 file) hn;
      at_rate = little_number-reads_back 4 ra (drop 60 file) hr;
      at_bits = little_number-reads_back 4 b (drop 64 file) hb;
      at_count = little_number-reads_back 8 c (drop 72 file) hc;
      at_size = little_number-reads_back 8 s (drop 92 file) hs;
    }

layout_small : (l n : ℕ) → 1 ≤ n → layout_channels l ≡ n → l < 8
layout_small l n h e = elim (cases_lt l 8) [
  | inl low ↦ low
  | inr high ↦
      let none : 0 ≡ n = rw (le-ltb l 5 (omega arith), le-ltb l 8 high) at e in
      absurd (omega arith)
]

bits_small : (order : BitOrder) → sample_bits order < 256 ^ 4
bits_small LeastFirst = omega arith
bits_small MostFirst = omega arith

-- where the tag is
pointer_of : (tag : List ℕ) (end : ℕ) → ((length tag ≡ 0) × (cond (eqb (length tag) 0) 0 end ≡ 0)) ⊎ (cond (eqb (length tag) 0) 0 end ≡ end)
pointer_of tag end = elim (cases_eq (length tag) 0) [
  | inl none ↦ inl (none, rw (eq-eqb (length tag) 0 none) refl)
  | inr some ↦ inr (rw (ne_eqb (length tag) 0 some) refl)
]

no_tag : (tag : List ℕ) → length tag ≡ 0 → tag ≡ []
no_tag [] e = refl
no_tag (x ∷ xs) e = absurd (omega arith)

tag_there : (file prefix tag : List ℕ) (end : ℕ) → 1 ≤ end → file ≡ prefix ++ tag → length prefix ≡ end → pointer file ≡ cond (eqb (length tag) 0) 0 end → tag ≡ stated_tag file
tag_there file prefix tag end some e size p = elim (pointer_of tag end) [
  | inl none ↦
      let zero_p : pointer file ≡ 0 = p ∙ none.1 in
      rw (eq-eqb (pointer file) 0 zero_p) (no_tag tag none.0)
  | inr there ↦
      let end_p : pointer file ≡ end = p ∙ there in
      let ne = ne_eqb (pointer file) 0 (λ z. absurd (omega arith)) in
      let dropped : drop end file ≡ tag = ap (drop end) e ∙ drop_at prefix tag end size in
      rw ne (sym (ap (λ (k : ℕ). drop k file) end_p ∙ dropped))
]

pub written_again : BlocksReadAgain → WrittenReadAgain
written_again again r order h short =
    let d = described r in
    let n = length r.ids in
    let same : n ≡ length r.channels = h.id_for_each in
    let c = count_of r.channels in
    let g = recording_size d in
    let sound = blocked order r.channels in
    let file = dsf_text r order in
    let groups = mul-le (div_ceil c 32768) n (2 ^ 21) 6 (omega (arith, h.in_limit)) (omega (arith, h.six_channels, same)) in
    let small : g ≤ 12582912 * 4096 = omega (arith, groups) in
    let size : length sound ≡ g = length-map-range_with_len (block_byte order r.channels) 0 (blocks_size (length r.channels) c) ∙ ap (λ (m : ℕ). blocks_size m c) (sym same) in
    let prefix_long : length (head_text d order ++ sound) ≡ 92 + g = length-append (head_text d order) sound ∙ ap (λ (m : ℕ). 92 + m) size in
    let apart : file ≡ (head_text d order ++ sound) ++ r.tag = sym (append_assoc (head_text d order) sound r.tag) in
    let long : length file ≡ 92 + g + length r.tag = ap length apart ∙ length-append (head_text d order ++ sound) r.tag ∙ ap (λ (m : ℕ). m + length r.tag) prefix_long in
    let there = pointer_of r.tag (92 + g) in
    let low : tag_place d < 256 ^ 8 = elim there [ inl none ↦ omega (arith, none.1) | inr some ↦ omega (arith, some, small) ] in
    let reads = head_reads (92 + g + length r.tag) (tag_place d) r.layout n r.rate (sample_bits order) c (12 + g) (sound ++ r.tag) low (omega (arith, layout_small r.layout (length r.channels) h.some_channel h.layout_fits)) (omega (arith, h.six_channels, same)) (omega (arith, h.rate_high)) (bits_small order) (omega (arith, h.in_limit)) (omega (arith, small)) in
    let needed_is : needed file ≡ g = ap (λ (m : ℕ). blocks_size m (count file)) reads.at_number ∙ ap (λ (m : ℕ). blocks_size n m) reads.at_count in
    let end_is : sound_end file ≡ 92 + g = ap (λ (m : ℕ). 92 + m) needed_is in
    record {
      first = refl;
      first_is = refl;
      second = refl;
      second_long = omega arith;
      third = refl;
      third_long = omega (arith, reads.at_size);
      version_is = refl;
      format_is = refl;
      some_channel = omega (arith, reads.at_number, h.some_channel, same);
      six_channels = omega (arith, reads.at_number, h.six_channels, same);
      rate_low = omega (arith, reads.at_rate, h.rate_low);
      rate_high = omega (arith, reads.at_rate, h.rate_high);
      order_is = reads.at_bits;
      block_is = refl;
      not_long = omega (arith, reads.at_count, h.in_limit);
      in_chunk = omega (arith, reads.at_size, needed_is);
      in_file = omega (arith, end_is, long);
      after = elim there [
        | inl none ↦ inl (reads.at_pointer ∙ none.1)
        | inr some ↦ inr (omega (arith, end_is, reads.at_pointer, some), omega (arith, long, reads.at_pointer, some))
      ];
      rate_read = sym reads.at_rate;
      channels_read = sym (ap (λ (m : ℕ). unblocked_all order (sound ++ r.tag) m (count file)) reads.at_number ∙ ap (λ (m : ℕ). unblocked_all order (sound ++ r.tag) n m) reads.at_count ∙ ap (λ (m : ℕ). unblocked_all order (sound ++ r.tag) m c) same ∙ again order r.channels r.tag h.level h.some_channel);
      ids_read = ap dsf_ids (sym (reads.at_number ∙ same));
      layout_read = rw (reads.at_type, reads.at_number, eq-eqb (layout_channels r.layout) n (h.layout_fits ∙ sym same)) refl;
      no_marks = refl;
      no_others = refl;
      tag_read = tag_there file (head_text d order ++ sound) r.tag (92 + g) (omega arith) apart prefix_long reads.at_pointer;
    }
