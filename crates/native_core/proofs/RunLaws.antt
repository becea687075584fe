-- Bits that are given group by group.
use Rattle.std.proofs.Common.{◌≡◌, inl, inr, eqb, false, ℕ, zero, suc, ◌+◌, ◌-◌, ◌*◌, ◌/◌, ◌<◌, ◌≤◌, min, List, [], ◌∷◌, ◌++◌, length, take, drop, sym, ap, ap₂, ◌∙◌, arith, length-take, zero-mul}
use Rattle.std.specs.Int.{div_ceil}
use Rattle.std.proofs.Math.Nat.{add-mul, div-mul-le_self, mul-le-mul_right, mul_assoc, mul_comm}
use Rattle.std.proofs.Math.Seq.{take-add, take-append_seam}
use Rattle.std.proofs.lemmas.Bool.{cases_lt, eqb-false}
use Rattle.std.proofs.lemmas.List.{drop-append-le, drop_all, take-append-le}
use Rattle.dsd_bits.specs.declared.interleaving.Interleaving.{Interleaving}
use Rattle.dsd_bits.specs.declared.interleaving.Interleaving.TheVariants.{Bytes, Blocks}
use Rattle.dsd_bits.specs.declared.sound.Sound.{Sound}
use Rattle.dsd_bits.specs.Sounds.{IsSound, sound_size}
use Rattle.interleave_core.proofs.GroupLaws.{size_on}
use Rattle.native_core.specs.declared.layout.Layout.{Layout}
use Rattle.native_core.specs.declared.layout.Layout.TheVariants as layouts
use Rattle.native_core.specs.Native.{frame_number, native_of, unit_of}
use Rattle.native_core.specs.Runs.{frames_size, group_frames, group_size}
use Rattle.native_core.proofs.NativeLaws.{native_has_size, native_joins}

-- ---- sizes
pub groups_size : (o : Interleaving) (n g : ℕ) → sound_size o n (g * 32768) ≡ g * (n * 4096)
groups_size Bytes n g = let e : g * 32768 / 8 ≡ g * 4096 = omega arith in ap (λ m. m * n) e ∙ mul_assoc g 4096 n ∙ ap (λ m. g * m) (mul_comm 4096 n)
groups_size (Blocks order) n g = let e : div_ceil (g * 32768) 32768 ≡ g = omega arith in ap (λ m. m * n * 4096) e ∙ mul_assoc g n 4096

-- the bytes of the groups and those of the bits after them are all
pub size_after : (o : Interleaving) (n count g : ℕ) → g * 32768 ≤ count → sound_size o n count ≡ g * (n * 4096) + sound_size o n (count - g * 32768)
size_after o n count g some =
    let parts : count ≡ g * 32768 + (count - g * 32768) = omega (arith, some) in
    ap (sound_size o n) parts ∙ size_on o n (g * 32768) (count - g * 32768) (omega arith) ∙ ap (λ m. m + sound_size o n (count - g * 32768)) (groups_size o n g)

-- groups that are whole before the sound's end have bits of it alone
pub before_end : (o : Interleaving) (n count g k : ℕ) → 1 ≤ n → (g + k) * (n * 4096) < sound_size o n count → (g + k) * 32768 ≤ count
before_end Bytes n count g k some inside = elim (cases_lt ((g + k) * 4096) (count / 8)) [
  | inl less ↦ omega (arith, less)
  | inr more ↦
      let over : count / 8 * n ≤ (g + k) * 4096 * n = mul-le-mul_right n more in
      let same : (g + k) * 4096 * n ≡ (g + k) * (n * 4096) = mul_assoc (g + k) 4096 n ∙ ap (λ m. (g + k) * m) (mul_comm 4096 n) in
      absurd (omega (arith, over, same, inside))
]
before_end (Blocks order) n count g k some inside = elim (cases_lt (g + k) (div_ceil count 32768)) [
  | inl less ↦ omega (arith, less)
  | inr more ↦
      let over : div_ceil count 32768 * (n * 4096) ≤ (g + k) * (n * 4096) = mul-le-mul_right (n * 4096) more in
      let same : div_ceil count 32768 * (n * 4096) ≡ div_ceil count 32768 * n * 4096 = sym (mul_assoc (div_ceil count 32768) n 4096) in
      absurd (omega (arith, over, same, inside))
]

-- the whole groups of so many bytes
pub groups_inside : (o : Interleaving) (n count g size : ℕ) → 1 ≤ n → g * (n * 4096) + size < sound_size o n count → g * 32768 + size / (n * 4096) * 32768 ≤ count
groups_inside o n count g size some inside =
    let k = size / (n * 4096) in
    let least : k * (n * 4096) ≤ size = div-mul-le_self size (n * 4096) in
    let both : (g + k) * (n * 4096) ≡ g * (n * 4096) + k * (n * 4096) = add-mul g k (n * 4096) in
    omega (arith, before_end o n count g k some (omega (arith, both, least, inside)))

pub less_times : (a b c : ℕ) → (a - b) * c ≡ a * c - b * c
less_times a b c = elim (cases_lt a b) [
  | inl less ↦
      let none : a - b ≡ 0 = omega arith in
      let most : a * c ≤ b * c = mul-le-mul_right c (omega arith) in
      ap (λ n. n * c) none ∙ zero-mul c ∙ omega (arith, most)
  | inr more ↦
      let parts : b + (a - b) ≡ a = omega arith in
      omega (arith, add-mul b (a - b) c, ap (λ n. n * c) parts)
]

-- ---- frames of whole groups
pub frames_of_group : (layout : Layout) (g : ℕ) → frame_number layout (g * 32768) ≡ g * (32768 / unit_of layout)
frames_of_group (layouts.Bytes order) g = omega arith
frames_of_group layouts.Dop g = omega arith

pub frames_add : (layout : Layout) (g k : ℕ) → frame_number layout ((g + k) * 32768) ≡ frame_number layout (g * 32768) + frame_number layout (k * 32768)
frames_add (layouts.Bytes order) g k = omega arith
frames_add layouts.Dop g k = omega arith

-- ---- lists
drop_both : (n : ℕ) (xs ys : List ℕ) → drop n (xs ++ ys) ≡ drop n xs ++ drop (n - length xs) ys
drop_both zero xs ys = let none : zero - length xs ≡ 0 = omega arith in ap (λ k. xs ++ drop k ys) (sym none)
drop_both (suc n) [] ys = let all : suc n ≡ suc n - length {A = ℕ} [] = omega arith in ap (λ k. drop k ys) all
drop_both (suc n) (x ∷ xs) ys = let less : n - length xs ≡ suc n - length (x ∷ xs) = omega arith in drop_both n xs ys ∙ ap (λ k. drop n xs ++ drop k ys) less

-- what is left out is at most all
drop_min : (n m : ℕ) (xs : List ℕ) → m ≡ min n (length xs) → drop m xs ≡ drop n xs
drop_min n m xs is = elim (cases_lt n (length xs)) [
  | inl less ↦ let same : m ≡ n = omega (arith, is, less) in ap (λ k. drop k xs) same
  | inr more ↦ drop_all m xs (omega (arith, is, more)) ∙ sym (drop_all n xs more)
]

-- what is appended, but for its first bytes
pub left_out : (out made : List ℕ) (kept added cut n : ℕ) → kept ≡ length out → added ≡ length made → cut ≡ min n added → take kept (out ++ made) ++ drop (kept + cut) (out ++ made) ≡ out ++ drop n made
left_out out made kept added cut n kept_is added_is cut_is =
    let rest : kept + cut - length out ≡ cut = omega (arith, kept_is) in
    let least : cut ≡ min n (length made) = cut_is ∙ ap (λ k. min n k) added_is in
    ap₂ (λ (xs ys : List ℕ). xs ++ ys) (ap (λ k. take k (out ++ made)) kept_is ∙ take-append_seam out made)
    (drop_both (kept + cut) out made ∙ ap₂ (λ (xs : List ℕ) (k : ℕ). xs ++ drop k made) (drop_all (kept + cut) out (omega (arith, kept_is))) rest ∙ drop_min n cut made least)

-- ---- more bytes
module _ (layout : Layout) (s : Sound) (sound : IsSound s) (start g : ℕ) (came part bytes : List ℕ) (long : length came ≡ g * group_size s + length part) (part_is : part ≡ drop (g * group_size s) came) where
  abbrev all : List ℕ
  all = came ++ bytes

  abbrev held : List ℕ
  held = part ++ bytes

  abbrev used : ℕ → ℕ
  used b = sound_size s.interleaving s.channels b

  pub held_is : held ≡ drop (g * group_size s) all
  held_is = ap (λ xs. xs ++ bytes) part_is ∙ sym (drop-append-le (g * group_size s) came bytes (omega (arith, long)))

  first_is : take (g * group_size s) all ≡ take (g * group_size s) came
  first_is = take-append-le (g * group_size s) came bytes (omega (arith, long))

  first_long : length (take (g * group_size s) came) ≡ sound_size s.interleaving s.channels (g * 32768)
  first_long = omega (arith, length-take (g * group_size s) came, long) ∙ sym (groups_size s.interleaving s.channels g)

  pub given_long : length (group_frames layout s came g) ≡ frames_size layout s (frame_number layout (g * 32768))
  given_long = native_has_size layout s.interleaving s.channels (g * 32768) (take (g * group_size s) came) sound.some_channel first_long (λ _. omega arith)

  -- the frames of the groups and those of more bits
  frames_on : (b : ℕ) → used b ≤ length held
      → native_of layout s.interleaving s.channels (g * 32768 + b) (take (g * group_size s + used b) all) ≡ group_frames layout s came g ++ native_of layout s.interleaving s.channels b (take (used b) held)
  frames_on b few =
      let parts : take (g * group_size s + used b) all ≡ take (g * group_size s) came ++ take (used b) held = take-add (g * group_size s) (used b) all ∙ ap₂ (λ (xs ys : List ℕ). xs ++ take (used b) ys) first_is (sym held_is) in
      ap (native_of layout s.interleaving s.channels (g * 32768 + b)) parts
      ∙ native_joins layout s.interleaving s.channels (g * 32768) b (take (g * group_size s) came) (take (used b) held) sound.some_channel (omega arith) first_long (omega (arith, length-take (used b) held, few))

  -- what is given then
  pub given_on : (b skip : ℕ) (given : List ℕ) → used b ≤ length held → skip ≡ frames_size layout s start - frames_size layout s (frame_number layout (g * 32768)) → given ≡ drop (frames_size layout s start) (group_frames layout s came g)
      → given ++ drop skip (native_of layout s.interleaving s.channels b (take (used b) held)) ≡ drop (frames_size layout s start) (native_of layout s.interleaving s.channels (g * 32768 + b) (take (g * group_size s + used b) all))
  given_on b skip given few skip_is given_is =
      let made = native_of layout s.interleaving s.channels b (take (used b) held) in
      let left : skip ≡ frames_size layout s start - length (group_frames layout s came g) = omega (arith, skip_is, given_long) in
      ap₂ (λ (xs : List ℕ) (k : ℕ). xs ++ drop k made) given_is left
      ∙ sym (drop_both (frames_size layout s start) (group_frames layout s came g) made)
      ∙ ap (drop (frames_size layout s start)) (sym (frames_on b few))

-- a sound whose bytes have not all come
pub not_yet : (fed more size came : ℕ) {all : ℕ} → all + more ≤ size → eqb (fed + more) size ≡ false → fed ≡ all → came ≡ all + more → came < size
not_yet fed more size came few other same is = elim (cases_lt (fed + more) size) [
  | inl less ↦ omega (arith, less, same, is)
  | inr all_came ↦ absurd (eqb-false (fed + more) size other (omega (arith, few, same, all_came)))
]
