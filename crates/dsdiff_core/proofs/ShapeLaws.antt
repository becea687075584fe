-- What is read keeps to the rules of a recording.
use Rattle.std.proofs.Common.{◌≡◌, ℕ, zero, suc, ◌+◌, ◌*◌, ◌/◌, ◌^◌, ◌<◌, ◌≤◌, Bool, true, false, not, List, [], ◌∷◌, ◌++◌, length, get_or, map, replicate, refl, sym, ap, subst, ◌∙◌, arith}
use Rattle.std.specs.Prelude.{All, filter}
use Rattle.std.specs.List.{range_with_len}
use Rattle.std.proofs.Math.Nat.{zero-div}
use Rattle.std.proofs.lemmas.List.{append-nil}
use Rattle.std.proofs.lemmas.List.Elements.{All-append, All-map, All-weaker, filter-append, filter_passes}
use Rattle.std.proofs.lemmas.List.FromFn.{length-map-range_with_len, get_or-map-range_with_len}
use Rattle.chunk_core.specs.Chunks.{Chunk}
use Rattle.dsd_bits.specs.declared.marks.Place.{Place}
use Rattle.dsd_bits.specs.declared.marks.Place.TheVariants.{Property, Master, Form}
use Rattle.dsd_bits.specs.Channels.{IsLevel, count_of}
use Rattle.dsd_bits.specs.Contents.{Content, MarkContent, OtherContent}
use Rattle.dsd_bits.specs.Lacing.{laced_bit, unlaced, unlaced_all}
use Rattle.dsd_bits.specs.Layouts.{layout_channels, usual_layout}
use Rattle.dsd_bits.specs.Shape.{HasShape, IsDescription, at_place, has_part, same_place}
use Rattle.dsd_bits.proofs.LayoutLaws.{usual_layout_fits}
use Rattle.dsdiff_core.specs.Others.{kept, other_in}

-- those of a place's chunks that are kept
abbrev passed : Place → List Chunk → List Chunk
passed p cs = filter (λ c. not (has_part p c.id c.content)) cs

-- ---- channels

channel_long : (sound : List ℕ) (n c : ℕ) → length (unlaced sound n c) ≡ 8 * (length sound / n)
channel_long sound n c = length-map-range_with_len (laced_bit sound n c) 0 (8 * (length sound / n))

pub count_is : (sound : List ℕ) (n : ℕ) → 1 ≤ n → count_of (unlaced_all sound n) ≡ 8 * (length sound / n)
count_is sound n some = ap length (get_or-map-range_with_len (unlaced sound n) 0 n 0 0 [] (omega arith) refl) ∙ channel_long sound n 0

pub level_is : (sound : List ℕ) (n : ℕ) → 1 ≤ n → IsLevel (unlaced_all sound n)
level_is sound n some = record {
  same = All-map (λ (channel : List Bool). length channel ≡ count_of (unlaced_all sound n)) (unlaced sound n) (range_with_len 0 n) (λ k d lt. channel_long sound n (get_or (range_with_len 0 n) k d) ∙ sym (count_is sound n some));
}

-- n lists of nothing
empties : (f : ℕ → List Bool) → ((k : ℕ) → f k ≡ []) → (a n : ℕ) → map f (range_with_len a n) ≡ replicate n []
empties f none a zero = refl
empties f none a (suc n) = rw (none a, empties f none (a + 1) n) refl

-- no sound bytes are channels of no bits
pub silent : (n : ℕ) → unlaced_all [] n ≡ replicate n []
silent n = empties (unlaced [] n) (λ c. rw (zero-div n) refl) 0 n

-- ---- what is kept

stays : (p q : Place) (cs : List Chunk) → same_place q p ≡ true → filter (λ o. same_place o.place p) (map (other_in q) cs) ≡ map (other_in q) cs
stays p q [] e = refl
stays p q (c ∷ cs) e = rw e (ap (λ (rest : List OtherContent). other_in q c ∷ rest) (stays p q cs e))

goes : (p q : Place) (cs : List Chunk) → same_place q p ≡ false → filter (λ o. same_place o.place p) (map (other_in q) cs) ≡ []
goes p q [] e = refl
goes p q (c ∷ cs) e = rw e (goes p q cs e)

abbrev all_kept : List Chunk → List Chunk → List Chunk → List OtherContent
all_kept a b c = kept Property a ++ (kept Master b ++ kept Form c)

apart : (p : Place) (a b c : List Chunk) → at_place p (all_kept a b c) ≡ at_place p (kept Property a) ++ (at_place p (kept Master b) ++ at_place p (kept Form c))
apart p a b c =
    filter-append (λ o. same_place o.place p) (kept Property a) (kept Master b ++ kept Form c)
    ∙ ap (λ (rest : List OtherContent). at_place p (kept Property a) ++ rest) (filter-append (λ o. same_place o.place p) (kept Master b) (kept Form c))

in_order : (a b c : List Chunk) → all_kept a b c ≡ at_place Property (all_kept a b c) ++ (at_place Master (all_kept a b c) ++ at_place Form (all_kept a b c))
in_order a b c =
    let pa : at_place Property (kept Property a) ≡ kept Property a = stays Property Property (passed Property a) refl in
    let pb : at_place Property (kept Master b) ≡ [] = goes Property Master (passed Master b) refl in
    let pc : at_place Property (kept Form c) ≡ [] = goes Property Form (passed Form c) refl in
    let ma : at_place Master (kept Property a) ≡ [] = goes Master Property (passed Property a) refl in
    let mb : at_place Master (kept Master b) ≡ kept Master b = stays Master Master (passed Master b) refl in
    let mc : at_place Master (kept Form c) ≡ [] = goes Master Form (passed Form c) refl in
    let fa : at_place Form (kept Property a) ≡ [] = goes Form Property (passed Property a) refl in
    let fb : at_place Form (kept Master b) ≡ [] = goes Form Master (passed Master b) refl in
    let fc : at_place Form (kept Form c) ≡ kept Form c = stays Form Form (passed Form c) refl in
    let p : at_place Property (all_kept a b c) ≡ kept Property a = apart Property a b c ∙ rw (pa, pb, pc) (append-nil (kept Property a)) in
    let m : at_place Master (all_kept a b c) ≡ kept Master b = apart Master a b c ∙ rw (ma, mb, mc) (append-nil (kept Master b)) in
    let f : at_place Form (all_kept a b c) ≡ kept Form c = apart Form a b c ∙ rw (fa, fb, fc) refl in
    rw (p, m, f) refl

not_true : (b : Bool) → not b ≡ true → b ≡ false
not_true true e = absurd cc
not_true false e = refl

abbrev NoPart : OtherContent → Type 0
NoPart o = has_part o.place o.id o.bytes ≡ false

no_part : (p : Place) (cs : List Chunk) → All NoPart (kept p cs)
no_part p cs =
    All-map NoPart (other_in p) (filter (λ c. not (has_part p c.id c.content)) cs)
    (All-weaker (λ (c : Chunk). not (has_part p c.id c.content) ≡ true) (λ (c : Chunk). NoPart (other_in p c)) (λ c e. not_true (has_part p c.id c.content) e) (filter (λ c. not (has_part p c.id c.content)) cs) (filter_passes (λ (c : Chunk). not (has_part p c.id c.content)) cs))

-- ---- the whole

pub shape_is : (rate number layout : ℕ) (channels : List (List Bool)) (ids : List (List ℕ)) (sound tag : List ℕ) (marks : List MarkContent) (others : List OtherContent) (a b c : List Chunk)
    → 1000000 ≤ rate → rate ≤ 50000000 → 1 ≤ number → number ≤ 6 → length ids ≡ number → channels ≡ unlaced_all sound number → 8 * (length sound / number) ≤ 2 ^ 36 → layout ≡ usual_layout number
    → All (λ mark. length mark.text < 2 ^ 32) marks → others ≡ all_kept a b c
    → HasShape (record { rate = rate; channels = channels; ids = ids; layout = layout; marks = marks; others = others; tag = tag })
shape_is rate number layout channels ids sound tag marks others a b c low high some six named made short usual texts kept_are =
    let long : length channels ≡ number = ap length made ∙ length-map-range_with_len (unlaced sound number) 0 number in
    record {
      rate_low = low;
      rate_high = high;
      some_channel = omega (arith, long);
      six_channels = omega (arith, long);
      level = subst IsLevel (sym made) (level_is sound number some);
      in_limit = omega (arith, ap count_of made, count_is sound number some, short);
      id_for_each = named ∙ sym long;
      layout_fits = ap layout_channels usual ∙ usual_layout_fits number six ∙ sym long;
      short_texts = texts;
      in_order = rw kept_are (in_order a b c);
      no_parts = rw kept_are (All-append NoPart (kept Property a) (kept Master b ++ kept Form c) (no_part Property a) (All-append NoPart (kept Master b) (kept Form c) (no_part Master b) (no_part Form c)));
    }

pub description_is : (rate count layout : ℕ) (ids : List (List ℕ)) (tag : List ℕ) (marks : List MarkContent) (others : List OtherContent) (a b c : List Chunk)
    → 1000000 ≤ rate → rate ≤ 50000000 → 1 ≤ length ids → length ids ≤ 6 → count ≤ 2 ^ 36 → layout ≡ usual_layout (length ids) → All (λ mark. length mark.text < 2 ^ 32) marks → others ≡ all_kept a b c
    → IsDescription (record { rate = rate; count = count; ids = ids; layout = layout; marks = marks; others = others; tag = tag })
description_is rate count layout ids tag marks others a b c low high some six few usual texts kept_are = record {
  rate_low = low;
  rate_high = high;
  some_channel = some;
  six_channels = six;
  in_limit = few;
  layout_fits = ap layout_channels usual ∙ usual_layout_fits (length ids) six;
  short_texts = texts;
  in_order = rw kept_are (in_order a b c);
  no_parts = rw kept_are (All-append NoPart (kept Property a) (kept Master b ++ kept Form c) (no_part Property a) (All-append NoPart (kept Master b) (kept Form c) (no_part Master b) (no_part Form c)));
}

-- contents of equal parts, and of no tag
pub same_content : (rate : ℕ) (ids : List (List ℕ)) (channels channels' : List (List Bool)) (layout layout' : ℕ) (marks marks' : List MarkContent) (others others' : List OtherContent) (tag : List ℕ)
    → channels ≡ channels' → layout ≡ layout' → marks ≡ marks' → others ≡ others' → tag ≡ []
    → (let r : Content = record { rate = rate; channels = channels; ids = ids; layout = layout; marks = marks; others = others; tag = tag } in r) ≡ record { rate = rate; channels = channels'; ids = ids; layout = layout'; marks = marks'; others = others'; tag = [] }
same_content rate ids channels channels' layout layout' marks marks' others others' tag c l m o t = rw (c, l, m, o, t) refl
