-- Lemmas about the laced sound bytes of some frames.
use Rattle.std.proofs.Common.{◌≡◌, ℕ, ◌+◌, ◌*◌, ◌/◌, ◌%◌, ◌≤◌, Bool, List, [], ◌∷◌, ◌++◌, map, length, get_or, slice_index, length-append, refl, sym, ap, ◌∙◌, arith}
use Rattle.std.proofs.lemmas.List.FromFn.{length-map-range_with_len}
use Rattle.std.proofs.lemmas.Nat.{mul-le}
use Rattle.std.proofs.Math.Nat.{add-mul}
use Rattle.std.specs.Int.{div_ceil}
use Rattle.std.specs.List.{range_with_len}
use Rattle.dsd_bits.specs.Channels.{count_of}
use Rattle.dsd_bits.specs.Lacing.{frame_number, laced, laced_byte, laced_part, picked}
use Rattle.dsd_bits.specs.Packing.{packed, packed_byte}
use Rattle.dsd_bits.proofs.BlockLemmas.{map_range_join}
use Rattle.dsd_bits.proofs.LacingLemmas.{map_range_same}

-- some frames more
pub laced_part_join : (channels : List (List Bool)) (m k : ℕ) → laced_part channels 0 m ++ laced_part channels m k ≡ laced_part channels 0 (m + k)
laced_part_join channels m k =
    let n = length channels in
    let f : ℕ → ℕ = laced_byte channels in
    let z : 0 * n ≡ 0 = omega arith in
    ap (λ a. map f (range_with_len a (m * n)) ++ laced_part channels m k) z ∙ map_range_join f f (m * n) (m * n) (k * n) (λ j h. refl) ∙ ap (λ s. map f (range_with_len 0 s)) (sym (add-mul m k n)) ∙ ap (λ a. map f (range_with_len a ((m + k) * n))) (sym z)

-- all frames, as many as the first channel has bytes
pub laced_whole : (channels : List (List Bool)) (first : List Bool) (bytes : List ℕ) (m : ℕ) → bytes ≡ packed first → first ≡ get_or channels 0 [] → count_of channels % 8 ≡ 0 → m ≡ length bytes → laced_part channels 0 m ≡ laced channels
laced_whole channels first bytes m are is whole all =
    let f : ℕ → ℕ = laced_byte channels in
    let n = length channels in
    let z : 0 * n ≡ 0 = omega arith in
    let size : m ≡ frame_number channels = all ∙ ap length are ∙ length-map-range_with_len (packed_byte first) 0 (div_ceil (length first) 8) ∙ omega (arith, ap length is, whole) in
    ap (λ a. map f (range_with_len a (m * n))) z ∙ ap (λ k. map f (range_with_len 0 (k * n))) size

-- one channel laced is its bytes
pub laced_one : (channels : List (List Bool)) → length channels ≡ 1 → count_of channels % 8 ≡ 0 → packed (get_or channels 0 []) ≡ laced channels
laced_one [] one whole = absurd (omega arith)
laced_one (x ∷ []) one whole =
    let size : div_ceil (length x) 8 ≡ length x / 8 * 1 = omega arith in
    ap (λ m. map (packed_byte x) (range_with_len 0 m)) size ∙ map_range_same _ (packed_byte x) (laced_byte (x ∷ [])) (λ i h.
    let place : i % 1 ≡ 0 = omega arith in
    let own : i / 1 ≡ i = omega arith in
    rw (place, own) refl)
laced_one (x ∷ y ∷ r) one whole = absurd (omega arith)

-- how many bytes there are, and room for some frames more
pub room_for_part : (channels : List (List Bool)) (out old : List ℕ) (m k frames len old_len room : ℕ) → out ≡ old ++ laced_part channels 0 m → len ≡ length out → old_len ≡ length old → m + k ≤ frames → old_len + frames * length channels ≤ room → len + k * length channels ≤ room
room_for_part channels out old m k frames len old_len room e long old_long few enough =
    let n = length channels in
    let size : len ≡ old_len + m * n = long ∙ ap length e ∙ length-append old (laced_part channels 0 m) ∙ omega (arith, old_long, length-map-range_with_len (laced_byte channels) (0 * n) (m * n)) in
    omega (arith, size, add-mul m k n, mul-le (m + k) n frames n few (omega arith), enough)

pub picked_join : (bytes : List ℕ) (channels c m k : ℕ) → picked bytes channels c 0 m ++ picked bytes channels c m k ≡ picked bytes channels c 0 (m + k)
picked_join bytes channels c m k =
    let f : ℕ → ℕ = λ frame. slice_index bytes (frame * channels + c) in
    map_range_join f f m m k (λ j h. refl)
