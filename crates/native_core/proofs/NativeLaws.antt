-- Frames of channels, in two parts, and how many there are.
use Rattle.std.proofs.Common.{◌≡◌, ◌⊎◌, inl, inr, ℕ, ◌*◌, ◌/◌, ◌%◌, ◌≤◌, Bool, List, ◌++◌, length, map, sym, refl, ap, ap₂, ◌∙◌, arith}
use Rattle.std.specs.Int.{div_ceil}
use Rattle.std.proofs.Math.Nat.{mul_assoc, mul_comm}
use Rattle.std.proofs.lemmas.List.{length-map, map-append}
use Rattle.dsd_bits.specs.Blocks.{ordered}
use Rattle.dsd_bits.specs.Lacing.{laced}
use Rattle.dsd_bits.specs.Sounds.{sound_channels}
use Rattle.interleave_core.proofs.JoinLaws.{Appended, taken}
use Rattle.native_core.specs.declared.layout.Layout.{Layout}
use Rattle.native_core.specs.declared.layout.Layout.TheVariants as layouts
use Rattle.native_core.specs.Native.{NativeHasSize, NativeJoins, all_filled, dop_samples, frame_number, frame_size, native}
use Rattle.native_core.proofs.ChannelLaws.{Has, all_whole, filled_has, laced_long, laced_on, sound_has}
use Rattle.native_core.proofs.DopLaws.{dop_long, dop_on}

-- ---- in two parts
joined : (layout : Layout) (all first more : List (List Bool)) (n a : ℕ) → 1 ≤ n → a % 32768 ≡ 0 → Appended all first more n a → native layout all ≡ native layout first ++ native layout more
joined (layouts.Bytes order) all first more n a some whole h =
    ap (map (ordered order)) (laced_on 8 all first more n a (inl refl) some whole (omega (arith, whole)) h) ∙ map-append (ordered order) (laced (all_filled 8 first)) (laced (all_filled 8 more))
joined layouts.Dop all first more n a some whole h =
    let is : (16 ≡ 8) ⊎ (16 ≡ 16) = inr refl in
    let units : a % 16 ≡ 0 = omega (arith, whole) in
    let k = a / 32 in
    let has : Has first n a = record { number = h.first_long; bits = h.bits } in
    let size : length (laced (all_filled 16 first)) ≡ 2 * (2 * k * n) =
    ap (λ xs. length (laced xs)) (all_whole 16 first n a is units has) ∙ laced_long first n a some has ∙ ap (λ m. m * n) (let m : a / 8 ≡ 2 * (2 * k) = omega (arith, whole) in m) ∙ mul_assoc 2 (2 * k) n in
    ap₂ (λ (m : ℕ) (bs : List ℕ). dop_samples m bs) h.all_long (laced_on 16 all first more n a is some whole units h)
    ∙ dop_on n k (laced (all_filled 16 first)) (laced (all_filled 16 more)) some size
    ∙ sym (ap₂ (λ (m m' : ℕ). dop_samples m (laced (all_filled 16 first)) ++ dop_samples m' (laced (all_filled 16 more))) h.first_long h.more_long)

pub native_joins : NativeJoins
native_joins layout from n a b first more some whole size more_size =
    joined layout _ _ _ n a some whole (taken from n a b first more whole size more_size)

-- ---- how many
sized : (layout : Layout) (channels : List (List Bool)) (n count : ℕ) → 1 ≤ n → Has channels n count → length (native layout channels) ≡ frame_number layout count * frame_size layout n
sized (layouts.Bytes order) channels n count some h =
    length-map (laced (all_filled 8 channels)) (ordered order)
    ∙ laced_long (all_filled 8 channels) n (div_ceil count 8 * 8) some (filled_has 8 channels n count (inl refl) h)
    ∙ ap (λ m. m * n) (let m : div_ceil count 8 * 8 / 8 ≡ div_ceil count 8 = omega arith in m)
sized layouts.Dop channels n count some h =
    let d = div_ceil count 16 in
    let bytes : length (laced (all_filled 16 channels)) ≡ 2 * (d * n) =
    laced_long (all_filled 16 channels) n (d * 16) some (filled_has 16 channels n count (inr refl) h) ∙ ap (λ m. m * n) (let m : d * 16 / 8 ≡ 2 * d = omega arith in m) ∙ mul_assoc 2 d n in
    dop_long (length channels) (laced (all_filled 16 channels))
    ∙ (let m : length (laced (all_filled 16 channels)) / 2 * 3 ≡ d * n * 3 = omega (arith, bytes) in m)
    ∙ mul_assoc d n 3 ∙ ap (λ m. d * m) (mul_comm n 3)

pub native_has_size : NativeHasSize
native_has_size layout from n count bytes some size whole =
    sized layout (sound_channels from n count bytes) n count some (sound_has from n count bytes some size whole)
