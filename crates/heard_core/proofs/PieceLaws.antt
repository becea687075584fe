-- The pieces of a decoder's taps.
use Rattle.std.proofs.Common.{◌≡◌, ℕ, ◌+◌, ◌-◌, ◌*◌, ◌/◌, ◌%◌, ◌^◌, ◌<◌, ◌≤◌, min, ℤ, pos, inl, inr, Bool, List, length, get_or, take, drop, ap, ap₂, sym, ◌∙◌, arith, length-drop}
use Rattle.std.specs.Int.{div_ceil}
use Rattle.std.proofs.lemmas.Bool.{cases_lt}
use Rattle.std.proofs.lemmas.List.{take_all}
use Rattle.std.proofs.lemmas.List.FromFn.{get_or-map-range_with_len, length-map-range_with_len}
use Rattle.fir_core.specs.Convolution.{conv}
use Rattle.fir_core.specs.Decimator.{Decimator, decimator}
use Rattle.fir_core.specs.Places.{sums_from}
use Rattle.fir_core.specs.Sources.{ArePlayable}
use Rattle.fir_core.specs.Windows.{aligned}
use Rattle.heard_core.specs.Pieces.{all_pieces, padded, part, piece}
use Rattle.heard_core.specs.declared.piece.Piece.{Piece}

part_is : (taps : List ℤ) (p end : ℕ) → end ≡ min (4096 * p + 4096) (length taps) → 4096 * p < length taps → take (end - 4096 * p) (drop (4096 * p) taps) ≡ part taps p
part_is taps p end is within =
    let rest = drop (4096 * p) taps in
    elim (cases_lt 4096 (length rest)) [
      | inl more ↦ let all : end - 4096 * p ≡ 4096 = omega (arith, is, more, length-drop (4096 * p) taps) in ap (λ n. take n rest) all
      | inr last ↦ take_all (end - 4096 * p) rest (omega (arith, is, last, length-drop (4096 * p) taps)) ∙ sym (take_all 4096 rest last)
    ]

-- a part and its tables
pub piece_is : (taps : List ℤ) (k end : ℕ) (d : Decimator) (tables : List ℤ) → end ≡ min (4096 * (k / 8) + 4096) (length taps) → 4096 * (k / 8) < length taps
    → d ≡ decimator (take (end - 4096 * (k / 8)) (drop (4096 * (k / 8)) taps)) 8 (k % 8) 0 24 → tables ≡ aligned d.taps d.delay
    → (let made : Piece = record { taps = d; tables = tables } in made) ≡ piece taps k
piece_is taps k end d tables is within made laid =
    let same : d ≡ decimator (part taps (k / 8)) 8 (k % 8) 0 24 = made ∙ ap (λ ts. decimator ts 8 (k % 8) 0 24) (part_is taps (k / 8) end is within) in
    let both : Decimator → List ℤ → Piece = λ x y. record { taps = x; tables = y } in
    ap₂ both same (laid ∙ ap (λ x. aligned x.taps x.delay) same)

-- ---- all pieces
pub length-all_pieces : (taps : List ℤ) → length (all_pieces taps) ≡ 8 * div_ceil (length taps) 4096
length-all_pieces taps = length-map-range_with_len (piece (padded taps)) 0 (8 * div_ceil (length taps) 4096)

-- one of them
pub piece_at : (taps : List ℤ) (xs : List Piece) (k : ℕ) (x : Piece) → xs ≡ all_pieces taps → k < 8 * div_ceil (length taps) 4096 → get_or xs k x ≡ piece (padded taps) k
piece_at taps xs k x all h = ap (λ (ys : List Piece). get_or ys k x) all ∙ get_or-map-range_with_len (piece (padded taps)) 0 (8 * div_ceil (length taps) 4096) k k x h (omega arith)

module _ (x : Piece) (taps : List ℤ) (k : ℕ) (is : x ≡ piece taps k) where
  pub tables_are : x.tables ≡ aligned x.taps.taps x.taps.delay
  tables_are = ap (λ (y : Piece). y.tables) is ∙ sym (ap (λ (y : Piece). aligned y.taps.taps y.taps.delay) is)

  pub piece_playable : (first number : ℕ) → k % 8 ≡ first % 8 → number * 8 + first ≤ 2 ^ 37 → ArePlayable x.taps first number
  piece_playable first number same reach =
      let factor : x.taps.factor ≡ 8 = ap (λ (y : Piece). y.taps.factor) is in
      let delay : x.taps.delay ≡ k % 8 = ap (λ (y : Piece). y.taps.delay) is in
      record { reach = rw factor reach; phase = omega (arith, delay, same) }

  pub piece_sum : (bits : List Bool) (first number i : ℕ) → i < number → get_or (sums_from x.taps bits first number) i (pos 0) ≡ conv (part taps (k / 8)) bits (i * 8 + first)
  piece_sum bits first number i h =
      ap (λ (y : Piece). get_or (sums_from y.taps bits first number) i (pos 0)) is
      ∙ get_or-map-range_with_len (λ j. conv (part taps (k / 8)) bits (j * 8 + first)) 0 number i i (pos 0) h (omega arith)
