-- Reading and the relation, in both directions.
use Rattle.std.proofs.Common.{◌≡◌, ◌<◌, ℕ, ◌+◌, ◌^◌, ◌≤◌, ◌⊎◌, inl, inr, Bool, true, false, cond, eqb, not, ◌&&◌, List, length, drop, Result, Ok, Err, refl, sym, ap, subst, ◌∙◌, arith, ne_eqb, eq-eqb}
use Rattle.std.proofs.lemmas.Bool.{ltb-false, le-ltb, lt-ltb, eqb-true, cases_eq, not_from_true}
use Rattle.std.proofs.lemmas.Slice.Eq.{bytes_eq-Decides}
use Rattle.chunk_core.proofs.Steps.{bind_then, guard_ok, chosen}
use Rattle.chunk_core.specs.Numbers.{id_at}
use Rattle.dsd_bits.specs.declared.blocks.BitOrder.{BitOrder}
use Rattle.dsd_bits.specs.declared.blocks.BitOrder.TheVariants.{LeastFirst, MostFirst}
use Rattle.dsd_bits.specs.declared.sound.Sound.{Sound}
use Rattle.dsd_bits.specs.Blocks.{blocks_size}
use Rattle.dsd_bits.specs.Contents.{Content, with_channels}
use Rattle.dsd_bits.specs.Ids.{same_id, DSD}
use Rattle.dsd_bits.specs.Sounds.{IsSound}
use Rattle.dsf_core.specs.declared.fault.DsfFault.{DsfFault}
use Rattle.dsf_core.specs.declared.header.Header.{Header}
use Rattle.dsf_core.specs.Fields.{FMT, DATA, first_size, stated_format_size, version, format, channel_number, rate, bits_per_sample, count, block_size, data_place, stated_data_size, held, needed, tag_from}
use Rattle.dsf_core.specs.Files.{sample_bits, IsDsf}
use Rattle.dsf_core.specs.Headers.{HoldsHead}
use Rattle.dsf_core.specs.Reading.{channels_by, chunks_of, cut_at, described_by, end_of, ends_fit, file_header, stated_header, order_of, stated_order, recording_of, stated_sound}

not_false : (b : Bool) → not b ≡ false → b ≡ true
not_false true e = refl
not_false false e = absurd cc

id_is : (a b : List ℕ) → not (same_id a b) ≡ false → a ≡ b
id_is a b e = (bytes_eq-Decides a b).0 (not_false _ e)

pub same_again : (a b : List ℕ) → a ≡ b → not (same_id a b) ≡ false
same_again a b e = not_from_true _ ((bytes_eq-Decides a b).1 e)

-- ---- the three chunks

-- three chunks, as a file has them
pub record Heads (file : List ℕ) : Type 0 where
  pub first : id_at file 0 ≡ DSD
  pub first_is : first_size file ≡ 28
  pub second : id_at file 28 ≡ FMT
  pub second_long : 52 ≤ stated_format_size file
  pub third : id_at file (data_place file) ≡ DATA
  pub third_long : 12 ≤ stated_data_size file
  pub format_is : format file ≡ 0

pub chunks_ok : (file : List ℕ) (n : ℕ) → chunks_of file ≡ Ok n → Heads file × HoldsHead file
unfolding chunks_of
chunks_ok file n e =
    let a = guard_ok _ _ _ _ e in
    let b = guard_ok _ _ _ _ a.1 in
    let c = guard_ok _ _ _ _ b.1 in
    let d = guard_ok _ _ _ _ c.1 in
    let f = guard_ok _ _ _ _ d.1 in
    let g = guard_ok _ _ _ _ f.1 in
    let h = guard_ok _ _ _ _ g.1 in
    let i = guard_ok _ _ _ _ h.1 in
    let j = guard_ok _ _ _ _ i.1 in
    let k = guard_ok _ _ _ _ j.1 in (
      record {
        first = id_is _ _ b.0;
        first_is = eqb-true _ _ (not_false _ d.0);
        second = id_is _ _ f.0;
        second_long = ltb-false _ _ g.0;
        third = id_is _ _ i.0;
        third_long = ltb-false _ _ j.0;
        format_is = eqb-true _ _ (not_false _ k.0);
      },
      record { fields = ltb-false _ _ c.0; head = ltb-false _ _ h.0 },
    )

pub chunks_again : (file : List ℕ) → Heads file → data_place file + 12 ≤ length file → chunks_of file ≡ Ok (data_place file)
unfolding chunks_of
chunks_again file h within =
    let long : 80 ≤ length file = omega (arith, h.second_long, within) in
    rw (le-ltb (length file) 4 (omega (arith, long)), same_again (id_at file 0) DSD h.first, le-ltb (length file) 80 long, eq-eqb (first_size file) 28 h.first_is, same_again (id_at file 28) FMT h.second, le-ltb (stated_format_size file) 52 h.second_long, le-ltb (length file) (data_place file + 12) within, same_again (id_at file (data_place file)) DATA h.third, le-ltb (stated_data_size file) 12 h.third_long, eq-eqb (format file) 0 h.format_is) refl

-- ---- the fields

order_stated : ℕ → BitOrder
order_stated bits = cond (eqb bits 1) LeastFirst MostFirst

bits_ok : (bits : ℕ) → (not (eqb bits 1) && not (eqb bits 8)) ≡ false → bits ≡ sample_bits (order_stated bits)
unfolding order_stated
bits_ok bits e = elim (cases_eq bits 1) [
  | inl one ↦ rw (eq-eqb bits 1 one) one
  | inr other ↦
      let eight : not (eqb bits 8) ≡ false = rw (ne_eqb bits 1 other) at e in
      rw (ne_eqb bits 1 other) (eqb-true bits 8 (not_false _ eight))
]

-- fields in their limits, with this order of bits
pub record Limits (file : List ℕ) (order : BitOrder) : Type 0 where
  pub version_is : version file ≡ 1
  pub some_channel : 1 ≤ channel_number file
  pub six_channels : channel_number file ≤ 6
  pub rate_low : 1000000 ≤ rate file
  pub rate_high : rate file ≤ 50000000
  pub order_is : bits_per_sample file ≡ sample_bits order
  pub block_is : block_size file ≡ 4096
  pub not_long : count file ≤ 2 ^ 36

pub order_ok : (file : List ℕ) (order : BitOrder) → order_of file ≡ Ok order → Limits file order
unfolding stated_order order_stated
order_ok file order e =
    let a = guard_ok _ _ _ _ e in
    let b = guard_ok _ _ _ _ a.1 in
    let c = guard_ok _ _ _ _ b.1 in
    let d = guard_ok _ _ _ _ c.1 in
    let f = guard_ok _ _ _ _ d.1 in
    let g = guard_ok _ _ _ _ f.1 in
    let h = guard_ok _ _ _ _ g.1 in
    let i = guard_ok _ _ _ _ h.1 in
    let same : order_stated (bits_per_sample file) ≡ order = cc (i.1) in
    record {
      version_is = eqb-true _ _ (not_false _ a.0);
      some_channel = ltb-false _ _ b.0;
      six_channels = ltb-false _ _ c.0;
      rate_low = ltb-false _ _ d.0;
      rate_high = ltb-false _ _ f.0;
      order_is = bits_ok (bits_per_sample file) g.0 ∙ ap sample_bits same;
      block_is = eqb-true _ _ (not_false _ h.0);
      not_long = ltb-false _ _ i.0;
    }

bits_again : (bits : ℕ) (order : BitOrder) → bits ≡ sample_bits order → ((not (eqb bits 1) && not (eqb bits 8)) ≡ false) × (cond (eqb bits 1) LeastFirst MostFirst ≡ order)
bits_again bits LeastFirst e = rw e (refl, refl)
bits_again bits MostFirst e = rw e (refl, refl)

pub order_again : (file : List ℕ) (order : BitOrder) → Limits file order → order_of file ≡ Ok order
unfolding stated_order
order_again file order h =
    let bits = bits_again (bits_per_sample file) order h.order_is in
    rw (eq-eqb (version file) 1 h.version_is, le-ltb (channel_number file) 1 h.some_channel, le-ltb 6 (channel_number file) h.six_channels, le-ltb (rate file) 1000000 h.rate_low, le-ltb 50000000 (rate file) h.rate_high, bits.0, eq-eqb (block_size file) 4096 h.block_is, le-ltb (2 ^ 36) (count file) h.not_long, bits.1) refl

-- ---- the prefix

-- what a prefix that leads to a sound holds
pub record Leads (file : List ℕ) (s : Sound) : Type 0 where
  pub order : BitOrder
  pub heads : Heads file
  pub limits : Limits file order
  pub fits : needed file ≤ held file
  pub holds : HoldsHead file
  pub stated : s ≡ stated_sound file order

abbrev pub prefix_done : Header → Result Header DsfFault
prefix_done prefix = Ok prefix

pub prefix_ok : (file : List ℕ) (prefix : Header) → file_header file ≡ Ok prefix → (l : Leads file prefix.sound) × (prefix ≡ stated_header file l.order)
unfolding file_header
prefix_ok file prefix e =
    bind_then (chunks_of file) _ prefix e (λ place e1 h1.
    bind_then (order_of file) _ prefix h1 (λ order e2 h2.
    let g = guard_ok _ _ _ _ h2 in
    let same : prefix ≡ stated_header file order = cc (g.1) in
    let chunks = chunks_ok file place e1 in (
      record {
        order = order;
        heads = chunks.0;
        limits = order_ok file order e2;
        fits = ltb-false _ _ g.0;
        holds = chunks.1;
        stated = ap (λ (f : Header). f.sound) same;
      },
      same,
    )))

module _ (file : List ℕ) (data_at : ℕ) (order : BitOrder) (chunks : chunks_of file ≡ Ok data_at) (fields : order_of file ≡ Ok order) where
  pub prefix_cut : held file < needed file → file_header file ≡ Err (cut_at (stated_sound file order) (held file) true)
  unfolding file_header
  prefix_cut cut = rw (chunks, fields, lt-ltb (held file) (needed file) cut) refl

  pub prefix_is : needed file ≤ held file → file_header file ≡ Ok (stated_header file order)
  unfolding file_header
  prefix_is fits = rw (chunks, fields, le-ltb (held file) (needed file) fits) refl

pub prefix_again : (file : List ℕ) (order : BitOrder) → Heads file → Limits file order → HoldsHead file → needed file ≤ held file → file_header file ≡ Ok (stated_header file order)
prefix_again file order heads limits holds fits = prefix_is file (data_place file) order (chunks_again file heads holds.head) (order_again file order limits) fits

-- the sound lies in its limits
pub is_sound : (file : List ℕ) (s : Sound) → Leads file s → IsSound s
is_sound file s l = subst IsSound (sym l.stated) (record {
  rate_low = l.limits.rate_low;
  rate_high = l.limits.rate_high;
  some_channel = l.limits.some_channel;
  six_channels = l.limits.six_channels;
  in_limit = l.limits.not_long;
  size = refl;
})

-- ---- the ends

-- the sound ends in a file of n bytes, and the tag is after it
pub record Ends (prefix : Header) (total : ℕ) : Type 0 where
  pub enough : end_of prefix ≤ total
  pub tag : (prefix.tag_at ≡ 0) ⊎ ((end_of prefix ≤ prefix.tag_at) × (prefix.tag_at ≤ total))

pub ends_ok : (prefix : Header) (total : ℕ) (x : Unit {0}) → ends_fit prefix total ≡ Ok x → Ends prefix total
unfolding ends_fit
ends_ok prefix total x e =
    let a = guard_ok _ _ _ _ e in
    record {
      enough = ltb-false _ _ a.0;
      tag = elim (chosen (eqb prefix.tag_at 0) _ _ _ a.1) [
        | inl none ↦ inl (eqb-true _ _ none.0)
        | inr some ↦ (let b = guard_ok _ _ _ _ some.1 in let c = guard_ok _ _ _ _ b.1 in inr (ltb-false _ _ b.0, ltb-false _ _ c.0))
      ];
    }

pub ends_again : (prefix : Header) (total : ℕ) → Ends prefix total → ends_fit prefix total ≡ Ok tt
unfolding ends_fit
ends_again prefix total h = elim (cases_eq prefix.tag_at 0) [
  | inl none ↦ rw (le-ltb total (end_of prefix) h.enough, eq-eqb prefix.tag_at 0 none) refl
  | inr some ↦ elim h.tag [
    | inl none ↦ absurd (some none)
    | inr inside ↦ rw (le-ltb total (end_of prefix) h.enough, ne_eqb prefix.tag_at 0 some, le-ltb prefix.tag_at (end_of prefix) inside.0, le-ltb total prefix.tag_at inside.1) refl
  ]
]

-- what a prefix and ends without a fault say of a file
pub record InFile (file : List ℕ) (prefix : Header) : Type 0 where
  pub sound : IsSound prefix.sound
  pub size : prefix.sound.size ≡ blocks_size prefix.sound.channels prefix.sound.count
  pub whole : prefix.sound.start + prefix.sound.size ≤ length file
  pub tag : prefix.tag_at ≤ length file

pub in_file : (file : List ℕ) (prefix : Header) (u : Unit {0}) → Ok prefix ≡ file_header file → Ok u ≡ ends_fit prefix (length file) → InFile file prefix
in_file file prefix u reads ended =
    let l = prefix_ok file prefix (sym reads) in
    let ends = ends_ok prefix (length file) u (sym ended) in
    record {
      sound = is_sound file prefix.sound l.0;
      size = subst (λ (f : Header). f.sound.size ≡ blocks_size f.sound.channels f.sound.count) (sym l.1) refl;
      whole = ends.enough;
      tag = elim ends.tag [ inl none ↦ omega (arith, none) | inr there ↦ there.1 ];
    }

-- ---- a whole file

abbrev pub done : Content × BitOrder → Result (Content × BitOrder) DsfFault
done x = Ok x

ok_is : (x y : Content × BitOrder) → done x ≡ done y → y ≡ x
ok_is x y e = cc

-- a reading that gives two recordings gives one
pub same_reading : (r s : Content) (order other : BitOrder) → done (r, order) ≡ done (s, other) → (r ≡ s) × (order ≡ other)
same_reading r s order other e =
    let both = ok_is (s, other) (r, order) (sym e) in
    (ap (λ (x : Content × BitOrder). x.0) both, ap (λ (x : Content × BitOrder). x.1) both)

-- what a file states whose prefix leads to this
abbrev pub stated : List ℕ → Header → Content
stated file prefix = with_channels (described_by prefix (tag_from prefix.tag_at file)) (channels_by prefix (drop prefix.sound.start file))

-- a file of these chunks and fields that contains its sound and tag holds what it states
pub is_file : (file : List ℕ) (s : Sound) (l : Leads file s) → Ends (stated_header file l.order) (length file) → IsDsf file (stated file (stated_header file l.order)) l.order
is_file file s l ends = record {
  first = l.heads.first;
  first_is = l.heads.first_is;
  second = l.heads.second;
  second_long = l.heads.second_long;
  third = l.heads.third;
  third_long = l.heads.third_long;
  version_is = l.limits.version_is;
  format_is = l.heads.format_is;
  some_channel = l.limits.some_channel;
  six_channels = l.limits.six_channels;
  rate_low = l.limits.rate_low;
  rate_high = l.limits.rate_high;
  order_is = l.limits.order_is;
  block_is = l.limits.block_is;
  not_long = l.limits.not_long;
  in_chunk = l.fits;
  in_file = ends.enough;
  after = ends.tag;
  rate_read = refl;
  channels_read = refl;
  ids_read = refl;
  layout_read = refl;
  tag_read = refl;
  no_marks = refl;
  no_others = refl;
}

pub is_dsf : (file : List ℕ) (x : Content × BitOrder) → recording_of file ≡ Ok x → IsDsf file x.0 x.1
unfolding recording_of
is_dsf file x e =
    bind_then (file_header file) _ x e (λ prefix e1 h1.
    bind_then (ends_fit prefix (length file)) _ x h1 (λ unit e2 h2.
    let leads = prefix_ok file prefix e1 in
    let made : (stated file prefix, prefix.order) ≡ x = sym (ok_is (stated file prefix, prefix.order) x h2) in
    let again : (stated file (stated_header file leads.0.order), leads.0.order) ≡ x = ap (λ (f : Header). (stated file f, f.order)) (sym leads.1) ∙ made in
    let P : Content × BitOrder → Type 0 = λ y. IsDsf file y.0 y.1 in
    subst P again (is_file file prefix.sound leads.0 (subst (λ (f : Header). Ends f (length file)) leads.1 (ends_ok prefix (length file) unit e2)))))

-- the prefix of such a file leads to its sound
abbrev pub leads_of : (file : List ℕ) (r : Content) (order : BitOrder) → IsDsf file r order → Leads file (stated_sound file order)
leads_of file r order h = record {
  order = order;
  heads = record { first = h.first; first_is = h.first_is; second = h.second; second_long = h.second_long; third = h.third; third_long = h.third_long; format_is = h.format_is };
  limits = record { version_is = h.version_is; some_channel = h.some_channel; six_channels = h.six_channels; rate_low = h.rate_low; rate_high = h.rate_high; order_is = h.order_is; block_is = h.block_is; not_long = h.not_long };
  fits = h.in_chunk;
  holds = record { fields = omega (arith, h.second_long, h.in_file); head = omega (arith, h.in_file) };
  stated = refl;
}

pub prefix_read : (file : List ℕ) (r : Content) (order : BitOrder) → IsDsf file r order → file_header file ≡ Ok (stated_header file order)
prefix_read file r order h = let l = leads_of file r order h in prefix_again file order l.heads l.limits l.holds l.fits

pub dsf_is_read : (file : List ℕ) (r : Content) (order : BitOrder) → IsDsf file r order → recording_of file ≡ Ok (r, order)
unfolding recording_of
dsf_is_read file r order h =
    let made : stated file (stated_header file order) ≡ r = λ i. record {
      rate = sym h.rate_read i;
      channels = sym h.channels_read i;
      ids = sym h.ids_read i;
      layout = sym h.layout_read i;
      marks = sym h.no_marks i;
      others = sym h.no_others i;
      tag = sym h.tag_read i;
    } in
    rw (prefix_read file r order h, ends_again (stated_header file order) (length file) (record { enough = h.in_file; tag = h.after })) (ap (λ (c : Content). done (c, order)) made)
