-- Bits that are given group by group of a recording whose end isn't known.
use Rattle.std.proofs.Common.{◌≡◌, inl, inr, ℕ, ◌+◌, ◌-◌, ◌*◌, ◌/◌, ◌≤◌, List, [], ◌++◌, length, take, drop, Result, Ok, Err, OnOk, sym, refl, ap, ap₂, ◌∙◌, arith, length-append, length-take, length-drop, zero-mul}
use Rattle.std.proofs.Math.Nat.{add-mul, mul-le-mul_right, mul_assoc, mul_comm}
use Rattle.std.proofs.Math.Seq.{take-add}
use Rattle.std.proofs.lemmas.Bool.{cases_lt}
use Rattle.std.proofs.lemmas.List.{drop-append-le, drop-drop, nil_from_length, take-append-le, take_all}
use Rattle.std.proofs.lemmas.Nat.{div-mul-add}
use Rattle.dsd_bits.specs.declared.interleaving.Interleaving.TheVariants.{Bytes}
use Rattle.dsd_bits.specs.Sounds.{sound_size}
use Rattle.native_core.specs.Native.{frame_number, frame_size, native_of, unit_of}
use Rattle.native_core.specs.declared.layout.Layout.{Layout}
use Rattle.native_core.proofs.NativeLaws.{native_has_size, native_joins}
use Rattle.native_core.proofs.RunLaws.{frames_of_group, less_times}
use Rattle.joined_core.specs.Bits.{HasGivenBits, groups_size, joined_bits}
use Rattle.joined_core.specs.declared.bits.BitGiver.{BitGiver}

-- the bytes of groups are those of their bits
pub group_bytes : (n groups : ℕ) → sound_size Bytes n (groups * 32768) ≡ groups_size n groups
group_bytes n groups =
    let e : groups * 32768 / 8 ≡ groups * 4096 = omega arith in
    ap (λ m. m * n) e ∙ mul_assoc groups 4096 n ∙ ap (λ m. groups * m) (mul_comm 4096 n)

pub times_div : (m n : ℕ) → 1 ≤ n → m * n / n ≡ m
times_div m n some = let none : m * n ≡ m * n + 0 = omega arith in ap (λ k. k / n) none ∙ div-mul-add m n 0 (omega (arith, some))

-- whole groups lie in whole frames
pub groups_fit : (n groups frames : ℕ) → 1 ≤ n → groups_size n groups ≤ frames * n → groups * 4096 ≤ frames
groups_fit n groups frames some inside = elim (cases_lt frames (groups * 4096)) [
  | inl less ↦
      let size : groups_size n groups ≡ groups * 4096 * n = ap (λ m. groups * m) (mul_comm n 4096) ∙ sym (mul_assoc groups 4096 n) in
      let more : (frames + 1) * n ≤ groups * 4096 * n = mul-le-mul_right n (omega (arith, less)) in
      let parts : (frames + 1) * n ≡ frames * n + n = grind arith in
      absurd (omega (arith, size, more, parts, inside, some))
  | inr is ↦ is
]

module _ (g : BitGiver) (some : 1 ≤ g.channels) (before given : List ℕ) (h : HasGivenBits before given g) where
  abbrev n : ℕ
  n = g.channels

  abbrev used : ℕ
  used = groups_size n h.groups

  abbrev made : ℕ → List ℕ → List ℕ
  made count bytes = native_of g.layout Bytes n count bytes

  first_long : length (take used before) ≡ sound_size Bytes n (h.groups * 32768)
  first_long = omega (arith, length-take used before, h.inside) ∙ sym (group_bytes n h.groups)

  -- what was given, and the frames of the bits after it
  on : (count : ℕ) (all more : List ℕ) → take used all ≡ take used before → take (length more) (drop used all) ≡ more → length more ≡ sound_size Bytes n count
      → given ++ made count more ≡ made (h.groups * 32768 + count) (take (used + length more) all)
  on count all more first is long =
      ap (λ xs. xs ++ made count more) h.given_is
      ∙ sym (native_joins g.layout Bytes n (h.groups * 32768) count (take used before) more some (omega arith) first_long long)
      ∙ ap (made (h.groups * 32768 + count)) (sym (take-add used (length more) all ∙ ap₂ (λ (xs ys : List ℕ). xs ++ ys) first is))

  -- ---- more bytes
  module _ (bytes : List ℕ) where
    held_is : g.part.items ++ bytes ≡ drop used (before ++ bytes)
    held_is = ap (λ xs. xs ++ bytes) h.part ∙ sym (drop-append-le used before bytes h.inside)

    held_long : length (g.part.items ++ bytes) + used ≡ length (before ++ bytes)
    held_long = omega (arith, ap length held_is, length-drop used (before ++ bytes), h.inside, length-append before bytes)

    pub given_on : (k : ℕ) (q : BitGiver) → groups_size n k ≤ length (g.part.items ++ bytes) → q.layout ≡ g.layout → q.channels ≡ g.channels → q.fed ≡ g.fed + length bytes → q.part.items ≡ drop (groups_size n k) (g.part.items ++ bytes)
        → HasGivenBits (before ++ bytes) (given ++ made (k * 32768) (take (groups_size n k) (g.part.items ++ bytes))) q
    given_on k q few layout channels fed part =
        let whole = take (groups_size n k) (g.part.items ++ bytes) in
        let both : groups_size n (h.groups + k) ≡ used + groups_size n k = add-mul h.groups k (n * 4096) in
        let bits : (h.groups + k) * 32768 ≡ h.groups * 32768 + k * 32768 = add-mul h.groups k 32768 in
        let long : length whole ≡ groups_size n k = omega (arith, length-take (groups_size n k) (g.part.items ++ bytes), few) in
        let there : take (length whole) (drop used (before ++ bytes)) ≡ whole = ap₂ (λ (m : ℕ) (xs : List ℕ). take m xs) long (sym held_is) in
        let size : groups_size q.channels (h.groups + k) ≡ used + groups_size n k = ap (λ m. groups_size m (h.groups + k)) channels ∙ both in
        record {
          groups = h.groups + k;
          inside = omega (arith, size, held_long, few);
          fed = omega (arith, fed, h.fed, length-append before bytes);
          part = part ∙ ap (drop (groups_size n k)) held_is ∙ drop-drop (groups_size n k) used (before ++ bytes) ∙ ap (λ m. drop m (before ++ bytes)) (sym size);
          given_is = on (k * 32768) (before ++ bytes) whole (take-append-le used before bytes h.inside) there (long ∙ sym (group_bytes n k))
              ∙ ap₂ (λ (b m : ℕ). made b (take m (before ++ bytes))) (sym bits) (ap (λ m. used + m) long ∙ sym size)
              ∙ ap₂ (λ (l : Layout) (c : ℕ). native_of l Bytes c ((h.groups + k) * 32768) (take (groups_size q.channels (h.groups + k)) (before ++ bytes))) (sym layout) (sym channels);
        }

  -- ---- all bytes of a recording that begins so
  module _ (all : List ℕ) (first : take used all ≡ take used before) (enough : used ≤ length all) (frames : ℕ) (long : length all ≡ frames * n) where
    abbrev rest : List ℕ
    rest = drop used all

    size : used ≡ h.groups * 4096 * n
    size = ap (λ m. h.groups * m) (mul_comm n 4096) ∙ sym (mul_assoc h.groups 4096 n)

    pub rest_frames : length rest ≡ (frames - h.groups * 4096) * n
    rest_frames = omega (arith, length-drop used all, long, size, less_times frames (h.groups * 4096) n)

    fits : h.groups * 4096 ≤ frames
    fits = groups_fit n h.groups frames some (omega (arith, enough, long))

    pub joined_is : given ++ made ((frames - h.groups * 4096) * 8) rest ≡ joined_bits g.layout n all
    joined_is =
        let m = frames - h.groups * 4096 in
        let long_rest : length rest ≡ sound_size Bytes n (m * 8) = let e : m ≡ m * 8 / 8 = omega arith in rest_frames ∙ ap (λ k. k * n) e in
        let number : length all / n ≡ frames = ap (λ k. k / n) long ∙ times_div frames n some in
        let bits : h.groups * 32768 + m * 8 ≡ length all / n * 8 = omega (arith, fits, number) in
        on (m * 8) all rest first (take_all (length rest) rest (omega arith)) long_rest
        ∙ ap₂ (λ (b : ℕ) (xs : List ℕ). made b xs) bits (take_all (used + length rest) all (omega (arith, length-drop used all)))

-- before the first byte nothing is given
pub none_given : (g : BitGiver) → 1 ≤ g.channels → g.fed ≡ 0 → g.part.items ≡ [] → HasGivenBits [] [] g
none_given g some fed part =
    let n = g.channels in
    let none : groups_size n 0 ≡ 0 = zero-mul (n * 4096) in
    let empty : take (groups_size n 0) [] ≡ [] = ap (λ m. take m []) none in
    let size : length {A = ℕ} [] ≡ sound_size Bytes n (0 * 32768) = sym (group_bytes n 0 ∙ none) in
    let frames : frame_number g.layout (0 * 32768) ≡ 0 = frames_of_group g.layout 0 ∙ zero-mul (32768 / unit_of g.layout) in
    let long = native_has_size g.layout Bytes n (0 * 32768) [] some size (λ _. omega arith) ∙ ap (λ m. m * frame_size g.layout n) frames ∙ zero-mul (frame_size g.layout n) in
    record {
      groups = 0;
      inside = omega (arith, none);
      fed = fed;
      part = part ∙ sym (ap (λ m. drop m []) none);
      given_is = sym (ap (native_of g.layout Bytes n (0 * 32768)) empty ∙ nil_from_length (native_of g.layout Bytes n (0 * 32768) []) long);
    }

-- what holds if a call succeeds
pub on_map : {E A B : Type 0} (r : Result Unit E) → (A → B) → OnOk r A → OnOk r B
on_map (Ok x) f a = f a
on_map (Err e) f a = tt

-- all bits are given at the end
pub all_given : (g : BitGiver) → 1 ≤ g.channels → (part : ℕ) → part ≡ length g.part.items → (front : List ℕ) → front ≡ take (part / g.channels * g.channels) g.part.items → (before given : List ℕ) (frames : ℕ) → length before ≡ frames * g.channels → HasGivenBits before given g
    → given ++ native_of g.layout Bytes g.channels (part / g.channels * 8) front ≡ joined_bits g.layout g.channels before
all_given g some part part_is front front_is before given frames long h =
    let n = g.channels in
    let m = frames - h.groups * 4096 in
    let rest : length g.part.items ≡ m * n = ap length h.part ∙ rest_frames g some before given h before refl h.inside frames long in
    let number : part / n ≡ m = ap (λ k. k / n) (part_is ∙ rest) ∙ times_div m n some in
    let size : part / n * n ≡ length g.part.items = ap (λ k. k * n) number ∙ sym rest in
    let whole : front ≡ drop (groups_size n h.groups) before = front_is ∙ take_all (part / n * n) g.part.items (omega (arith, size)) ∙ h.part in
    ap₂ (λ (b : ℕ) (xs : List ℕ). given ++ native_of g.layout Bytes n b xs) (ap (λ k. k * 8) number) whole ∙ joined_is g some before given h before refl h.inside frames long

-- what was given comes first
pub bits_first : (g : BitGiver) → 1 ≤ g.channels → (before given rest : List ℕ) (frames : ℕ) → HasGivenBits before given g → length (before ++ rest) ≡ frames * g.channels
    → (more : List ℕ) × (joined_bits g.layout g.channels (before ++ rest) ≡ given ++ more)
bits_first g some before given rest frames h long =
    let used = groups_size g.channels h.groups in
    let first = take-append-le used before rest h.inside in
    let enough : used ≤ length (before ++ rest) = omega (arith, h.inside, length-append before rest) in
    (_, sym (joined_is g some before given h (before ++ rest) first enough frames long))
