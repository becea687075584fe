-- Sums from rows: a byte at a time, in each window that contains it.
use Rattle.std.proofs.Common.{[], ◌∷◌, ◌≡◌, ℕ, zero, suc, ◌+◌, ◌-◌, ◌*◌, ◌/◌, ◌%◌, ◌^◌, ◌<◌, ◌≤◌, ◌⊎◌, ℤ, pos, ◌+ℤ◌, inl, inr, map, unsigned_abs, List, length, get_or, take, drop, sum_by, refl, sym, ap, ap₂, ◌∙◌, arith, subst, length-drop, FitsSigned, to_z, of_z, w32}
use Rattle.std.proofs.Math.Nat.{mul-le-mul_right}
use Rattle.std.proofs.lemmas.Bool.{cases_lt}
use Rattle.std.specs.Simd.Lanes.{zip2}
use Rattle.std.proofs.lemmas.List.{drop_all, get_or-drop, take_all}
use Rattle.std.proofs.lemmas.List.FromFn.{get_or-map-range_with_len, length-map-range_with_len}
use Rattle.std.proofs.lemmas.Nat.{div-mul-add, mod-mul-add, mul-le}
use Rattle.fir_core.specs.Blocks.{ArePlaces, HasEntries, IsAfter, IsReached, sum_within}
use Rattle.fir_core.specs.Lookup.{AreRowEntries, IsLaid, IsSpot, entry_of, groups_at, last_group, lookup, row_entry, row_place, sum_before}
use Rattle.fir_core.specs.declared.lookup.Block.{Block}
use Rattle.fir_core.specs.declared.lookup.Spot.{Spot}
use Rattle.fir_core.specs.Signed.{dot, bits_of, bits_of_byte}
use Rattle.fir_core.specs.Windows.{aligned, window_sum}
use Rattle.fir_core.proofs.Dot.{abs_sum_split, dot_bound, part_small, dot_group}
use Rattle.std.proofs.lemmas.Int.{fits_signed_from_abs}
use Rattle.fir_core.proofs.InPlace.{read_back}
use Rattle.fir_core.proofs.LaneSums.{AreLanes, lane_is, length-lanes, words_added, wrap_add}
use Rattle.fir_core.proofs.TileLaws.{whole_step}
use Rattle.fir_core.proofs.WindowLaws.{abs_sum_aligned, length-aligned}

-- without a group nothing is added, and a group after the taps adds nothing
pub no_last : (hs : List ℤ) (number byte : ℕ) → length hs % 8 ≡ 0 → (number ≡ 0) ⊎ (length hs / 8 < number) → pos 0 ≡ last_group hs number byte
no_last hs zero byte whole none = refl
no_last hs (suc group) byte whole (inl none) = absurd (omega (arith, none))
no_last hs (suc group) byte whole (inr past) = sym (ap (λ gs. dot (take 8 gs) (bits_of_byte byte)) (drop_all (8 * group) hs (omega (arith, past))))

pub last_small : (hs : List ℤ) (number byte : ℕ) → sum_by unsigned_abs hs ≤ 2 ^ 30 → unsigned_abs (last_group hs number byte) ≤ 2 ^ 30
last_small hs zero byte small = omega arith
last_small hs (suc group) byte small = omega (arith, dot_bound (take 8 (drop (8 * group) hs)) (bits_of_byte byte), part_small hs (8 * group) 8 small)

-- byte p in the sum of the window that begins at byte i: nothing if the byte is before the window
pub one_more_byte : (hs : List ℤ) (bytes : List ℕ) (p i : ℕ) → p < length bytes
    → window_sum (take (8 * (p + 1 - i)) hs) bytes i ≡ window_sum (take (8 * (p - i)) hs) bytes i +ℤ last_group hs (p + 1 - i) (get_or bytes p 0)
one_more_byte hs bytes p i within = elim (cases_lt p i) [
  | inl before ↦
      let none : p + 1 - i ≡ 0 = omega arith in
      let nothing : p - i ≡ 0 = omega arith in
      ap (λ (n : ℕ). window_sum (take (8 * n) hs) bytes i) none
      ∙ sym (ap₂ (λ (m n : ℕ). window_sum (take (8 * m) hs) bytes i +ℤ last_group hs n (get_or bytes p 0)) nothing none)
  | inr inside ↦
      let next : p + 1 - i ≡ (p - i) + 1 = omega arith in
      let last : p + 1 - i ≡ suc (p - i) = omega arith in
      let place : i + (p - i) ≡ p = omega arith in
      ap (λ (n : ℕ). window_sum (take (8 * n) hs) bytes i) next
      ∙ dot_group hs (drop i bytes) (p - i) (omega (arith, length-drop i bytes))
      ∙ ap (λ (b : ℕ). window_sum (take (8 * (p - i)) hs) bytes i +ℤ dot (take 8 (drop (8 * (p - i)) hs)) (bits_of_byte b)) (get_or-drop i bytes (p - i) 0 ∙ ap (λ j. get_or bytes j 0) place)
      ∙ sym (ap (λ (n : ℕ). window_sum (take (8 * (p - i)) hs) bytes i +ℤ last_group hs n (get_or bytes p 0)) last)
]

-- ---- a byte's row
pub in_rows : (row number width column : ℕ) → row < number → column < width → row * width + column < number * width
in_rows row number width column below within = let e : (row + 1) * width ≤ number * width = mul-le-mul_right width (omega arith) in omega arith

ends_after : (d step p window place j : ℕ) → IsSpot step p window place → d + j ≡ window + 1 → d * step + (place + 1) - step ≡ p + 1 - j * step
ends_after d step p window place j spot back = let f = ap (λ (n : ℕ). n * step) back in omega (arith, spot.at, spot.inside)

-- how many groups of window j a byte ends
pub ends_groups : (step span p window place j : ℕ) → IsSpot step p window place → window < j + span → groups_at step span place (j + span - (window + 1)) ≡ p + 1 - j * step
ends_groups step span p window place j spot reached = elim (cases_lt window j) [
  | inl after ↦
      let none : span - (j + span - (window + 1)) ≡ 0 = omega arith in
      let begins : (window + 1) * step ≤ j * step = mul-le-mul_right step (omega arith) in
      ap (λ (n : ℕ). n * step + (place + 1) - step) none ∙ omega (arith, spot.at, spot.inside)
  | inr inside ↦
      let turned : span - (j + span - (window + 1)) ≡ window + 1 - j = omega arith in
      ap (λ (n : ℕ). n * step + (place + 1) - step) turned ∙ ends_after (window + 1 - j) step p window place j spot (omega arith)
]

pub length-lookup : (hs : List ℤ) (step span : ℕ) → length (lookup hs step span) ≡ 256 * step * (span + 8) + 4
length-lookup hs step span = length-map-range_with_len (row_entry hs step span) 0 (256 * step * (span + 8) + 4)

pub row_within : (step place byte : ℕ) → place < step → byte < 256 → 256 * place + byte < 256 * step
row_within step place byte inside small = omega arith

-- where a byte's row begins, and what is in a column of it
module _ (hs entries : List ℤ) (step span place byte : ℕ) (laid : IsLaid hs entries step span) (inside : place < step) (small : byte < 256) where
  pub row_fits : 4 + (256 * place + byte) * (span + 8) + (span + 8) ≤ length entries
  row_fits =
      let long : length entries ≡ 256 * step * (span + 8) + 4 = ap length laid.laid ∙ length-lookup hs step span in
      let below : 256 * place + byte + 1 ≤ 256 * step = omega (arith, row_within step place byte inside small) in
      let row : (256 * place + byte + 1) * (span + 8) ≤ (256 * step) * (span + 8) = mul-le-mul_right (span + 8) below in
      omega arith

  pub column_is : (column : ℕ) → column < span + 8 → get_or entries (4 + (256 * place + byte) * (span + 8) + column) (pos 0) ≡ last_group hs (groups_at step span place column) byte
  column_is column below =
      let row = 256 * place + byte in
      let at = row * (span + 8) + column in
      let r : row < 256 * step = row_within step place byte inside small in
      let q : row / 256 ≡ place = omega arith in
      let b : row % 256 ≡ byte = omega arith in
      let after : (4 + row * (span + 8) + column) - 4 ≡ at = omega arith in
      let within : at < 256 * step * (span + 8) = in_rows row (256 * step) (span + 8) column r below in
      ap (λ t. get_or t (4 + row * (span + 8) + column) (pos 0)) laid.laid
      ∙ get_or-map-range_with_len (row_entry hs step span) 0 (256 * step * (span + 8) + 4) (4 + row * (span + 8) + column) (4 + row * (span + 8) + column) (pos 0) (omega arith) (omega arith)
      ∙ ap (λ i. last_group hs (groups_at step span (i / (span + 8) / 256) (i % (span + 8))) (i / (span + 8) % 256)) after
      ∙ ap₂ (λ (m n : ℕ). last_group hs (groups_at step span (m / 256) n) (m % 256)) (div-mul-add row (span + 8) column below) (mod-mul-add row (span + 8) column below)
      ∙ ap₂ (λ (m n : ℕ). last_group hs (groups_at step span m column) n) q b

pub few_entries : (hs entries : List ℤ) (step span : ℕ) → IsLaid hs entries step span → length entries ≤ 2 ^ 26
few_entries hs entries step span laid = omega (arith, ap length laid.laid ∙ length-lookup hs step span, mul-le (256 * step) (span + 8) 32768 1032 (omega (arith, laid.most)) (omega (arith, laid.narrow)))

-- what it has from the column of a window on
pub place_has : (spot : Spot) (j byte : ℕ) → byte ≡ get_or spot.bytes.now spot.p 0 → byte < 256 → IsReached spot j → HasEntries spot j (row_place spot.lookup.span spot.window spot.place byte j)
unfolding entry_of
place_has spot j byte is small reached number last =
    let lookup = spot.lookup in
    let row = 4 + (256 * spot.place + byte) * (lookup.span + 8) in
    record {
      within = omega (arith, row_fits lookup.taps.now lookup.entries.now lookup.step lookup.span spot.place byte lookup.laid spot.spot.inside small, reached.begun, last);
      each = λ k h.
          let next : row_place lookup.span spot.window spot.place byte j + k ≡ row + (j + k + lookup.span - (spot.window + 1)) = omega (arith, reached.begun) in
          ap (λ i. get_or lookup.entries.now i (pos 0)) next
          ∙ column_is lookup.taps.now lookup.entries.now lookup.step lookup.span spot.place byte lookup.laid spot.spot.inside small (j + k + lookup.span - (spot.window + 1)) (omega (arith, reached.begun, h, last))
          ∙ ap₂ (last_group lookup.taps.now) (ends_groups lookup.step lookup.span spot.p spot.window spot.place (j + k) spot.spot (omega (arith, reached.begun))) is;
    }

-- a window begins with each byte at most
pub windows_rise : (step p d window place next after : ℕ) → IsSpot step p window place → IsSpot step (p + d) next after → (window ≤ next) × (next ≤ window + d)
windows_rise step p d window place next after spot then =
    let most : d ≤ d * step = omega (arith, mul-le d 1 d step (omega arith) (omega (arith, spot.inside))) in (
      elim (cases_lt next window) [
        | inl less ↦ let e : (next + 1) * step ≤ window * step = mul-le-mul_right step (omega arith) in absurd (omega (arith, spot.at, then.at, then.inside))
        | inr up ↦ up
      ],
      elim (cases_lt (window + d) next) [
        | inl past ↦ let e : (window + d + 1) * step ≤ next * step = mul-le-mul_right step (omega arith) in absurd (omega (arith, spot.at, then.at, spot.inside, most))
        | inr up ↦ up
      ],
    )

-- a byte after another, by its place from the first
pub spot_of : (d : ℕ) (one two : Spot) → IsAfter d one two → IsSpot one.lookup.step (one.p + d) two.window two.place
spot_of d one two after = rw (← after.lookup, ← after.p) two.spot

pub spots_rise : (d : ℕ) (one two : Spot) → IsAfter d one two → (one.window ≤ two.window) × (two.window ≤ one.window + d)
spots_rise d one two after = windows_rise one.lookup.step one.p d one.window one.place two.window two.place one.spot (spot_of d one two after)

pub after_more : (d e : ℕ) (one two three : Spot) → IsAfter d one two → IsAfter e two three → IsAfter (d + e) one three
after_more d e one two three first second = record { lookup = second.lookup ∙ first.lookup; bytes = second.bytes ∙ first.bytes; p = omega (arith, first.p, second.p) }

pub entries_after : (d : ℕ) (one two : Spot) (j number at : ℕ) → IsAfter d one two → HasEntries two j at → j + number ≤ one.window + 9 → AreRowEntries one.lookup.taps.now one.bytes.now one.lookup.step one.lookup.entries.now (one.p + d) j number at
entries_after d one two j number at after has last = rw (← after.lookup, ← after.bytes, ← after.p) (has number (omega (arith, last, spots_rise d one two after)))

pub places_after : (d : ℕ) (spot one : Spot) (j number : ℕ) (at : List ℕ) → IsAfter d spot one → ArePlaces one j at → j + number ≤ spot.window + 9
    → (b : ℕ) → b < 4 → AreRowEntries spot.lookup.taps.now spot.bytes.now spot.lookup.step spot.lookup.entries.now (spot.p + (d + b)) j number (get_or at b 0)
places_after d spot one j number at after has last b h =
    let place : one.p + b ≡ spot.p + (d + b) = omega (arith, after.p) in
    rw (← place, ← after.lookup, ← after.bytes) (has b number h (omega (arith, last, spots_rise d spot one after)))

-- the windows of a byte's row, and those of a byte after it
pub is_reached : (k start : ℕ) (here last : Spot) → IsAfter k here last → k ≤ 7 → start ≡ last.window + 1 - here.lookup.span → IsReached here start
is_reached k start here last after few is = record { begun = omega (arith, is, spots_rise k here last after); near = omega (arith, is, few, spots_rise k here last after) }

pub by_four : (P : ℕ → ℕ → Type 0) (a b c d : ℕ) → P 0 a → P 1 b → P 2 c → P 3 d → (k : ℕ) → k < 4 → P k (get_or (a ∷ b ∷ c ∷ d ∷ []) k 0)
by_four P a b c d p q r s zero h = p
by_four P a b c d p q r s (suc zero) h = q
by_four P a b c d p q r s (suc (suc zero)) h = r
by_four P a b c d p q r s (suc (suc (suc zero))) h = s
by_four P a b c d p q r s (suc (suc (suc (suc k)))) h = absurd (omega (arith, h))

-- ---- the windows that contain eight bytes
-- where steps are eights of bytes, the last of eight has at least seven before it in its step
seven_before : (step p window place : ℕ) → p % 8 ≡ 0 → step % 8 ≡ 0 → p + 7 ≡ window * step + place → window * step ≤ p
seven_before step p window place eights whole at = omega (arith, whole_step window step whole)

-- a window that ends before them
pub ends_before : (step span size p window place j : ℕ) → p % 8 ≡ 0 → IsSpot step (p + 7) window place → size ≤ span * step → (0 < step % 8 → size + 7 ≤ span * step) → j + span ≤ window → size + j * step ≤ p
ends_before step span size p window place j eights spot wide loose early =
    let e : (j + span) * step ≤ window * step = mul-le-mul_right step early in
    elim (cases_lt 0 (step % 8)) [
      | inl odd ↦ let more = loose odd in omega (arith, spot.at, more)
      | inr whole ↦ omega (arith, seven_before step p window place eights (omega arith) spot.at)
    ]

-- a window is no further on than its bytes
pub window_before : (step p window place : ℕ) → IsSpot step p window place → window ≤ p
window_before step p window place spot = omega (arith, spot.at, mul-le window 1 window step (omega arith) (omega (arith, spot.inside)))

-- a window that begins after them
pub begins_after : (step p window place j : ℕ) → IsSpot step p window place → window < j → p < j * step
begins_after step p window place j spot late = let e : (window + 1) * step ≤ j * step = mul-le-mul_right step (omega arith) in omega (arith, spot.at, spot.inside)

-- the last of n windows is among those that a byte before its end can reach
pub window_reaches : (step span size p window place limit : ℕ) → IsSpot step p window place → size ≤ span * step → p + 1 + step ≤ limit * step + size → window + 1 ≤ limit + span
window_reaches step span size p window place limit spot wide reached = elim (cases_lt window (limit + span)) [
  | inl before ↦ omega arith
  | inr past ↦ let e : (limit + span) * step ≤ window * step = mul-le-mul_right step past in absurd (omega (arith, spot.at, spot.inside))
]

pub entry_small : (hs : List ℤ) (bytes : List ℕ) (step p j : ℕ) → sum_by unsigned_abs hs ≤ 2 ^ 30 → unsigned_abs (entry_of hs bytes step p j) ≤ 2 ^ 30
unfolding entry_of
entry_small hs bytes step p j small = last_small hs (p + 1 - j * step) (get_or bytes p 0) small

pub sum_small : (hs : List ℤ) (bytes : List ℕ) (step p j : ℕ) → sum_by unsigned_abs hs ≤ 2 ^ 30 → unsigned_abs (sum_before hs bytes step p j) ≤ 2 ^ 30
unfolding sum_before
sum_small hs bytes step p j small =
    omega (arith, small, dot_bound (take (8 * (p - j * step)) hs) (bits_of (drop (j * step) bytes)), abs_sum_split (8 * (p - j * step)) hs)

pub next_sum : (hs : List ℤ) (bytes : List ℕ) (step p j : ℕ) → p < length bytes → sum_before hs bytes step p j +ℤ entry_of hs bytes step p j ≡ sum_before hs bytes step (p + 1) j
unfolding sum_before entry_of
next_sum hs bytes step p j within = sym (one_more_byte hs bytes p (j * step) within)

-- an entry in a sum
module _ (hs : List ℤ) (bytes : List ℕ) (step p j : ℕ) (small : sum_by unsigned_abs hs ≤ 2 ^ 30) (within : p < length bytes) (entry s : ℤ) (is : entry ≡ entry_of hs bytes step p j) (so_far : s ≡ sum_before hs bytes step p j) where
  both : s +ℤ to_z w32 (of_z w32 entry) ≡ sum_before hs bytes step (p + 1) j
  both = ap₂ ◌+ℤ◌ so_far (read_back entry _ is (entry_small hs bytes step p j small)) ∙ next_sum hs bytes step p j within

  pub byte_fits : FitsSigned w32 (s +ℤ to_z w32 (of_z w32 entry))
  byte_fits = subst (FitsSigned w32) (sym both) (fits_signed_from_abs w32 _ (omega (arith, sum_small hs bytes step (p + 1) j small)))

  pub byte_is : to_z w32 (of_z w32 (s +ℤ to_z w32 (of_z w32 entry))) ≡ sum_before hs bytes step (p + 1) j
  byte_is = read_back _ _ both (sum_small hs bytes step (p + 1) j small)

-- the entry of a byte of a block for one of the block's windows
pub block_entry : (block : Block) (b j : ℕ) → b < 8 → block.start ≤ j → j < block.start + block.number
    → get_or block.lookup.entries.now (get_or block.at b 0 + (j - block.start)) (pos 0) ≡ entry_of block.lookup.taps.now block.bytes.now block.lookup.step (block.p + b) j
block_entry block b j below from to =
    let window : block.start + (j - block.start) ≡ j = omega (arith, from) in
    (block.block.each b below).each (j - block.start) (omega (arith, from, to)) ∙ ap (entry_of block.lookup.taps.now block.bytes.now block.lookup.step (block.p + b)) window

-- lanes that hold eight sums, to which the entries of a byte are added
pub lanes_added : (block : Block) (b j : ℕ) (lanes : List ℕ) → b < 8 → block.start ≤ j → j + 8 ≤ block.start + block.number → AreLanes (sum_within block b) j lanes
    → AreLanes (sum_within block (b + 1)) j (zip2 wrap_add lanes (map (of_z w32) (take 8 (drop (get_or block.at b 0 + (j - block.start)) block.lookup.entries.now))))
lanes_added block b j lanes below from to before =
    let hs = block.lookup.taps.now in
    let bytes = block.bytes.now in
    let step = block.lookup.step in
    let entries = block.lookup.entries.now in
    let small = block.lookup.laid.small in
    let p = block.p + b in
    let k = get_or block.at b 0 + (j - block.start) in
    let within : p < length bytes = omega (arith, block.block.within, below) in
    let room : k + 8 ≤ length entries = omega (arith, (block.block.each b below).within, from, to) in
    record {
      long = length-lanes lanes entries k before.long room;
      each = λ l h.
          let place : get_or block.at b 0 + (j + l - block.start) ≡ k + l = omega (arith, from) in
          let next : p + 1 ≡ block.p + (b + 1) = omega arith in
          let is : get_or entries (k + l) (pos 0) ≡ entry_of hs bytes step p (j + l) = ap (λ m. get_or entries m (pos 0)) (sym place) ∙ block_entry block b (j + l) below (omega (arith, from)) (omega (arith, to, h)) in
          lane_is lanes entries k before.long room l h ∙ ap₂ (λ x y. wrap_add x (of_z w32 y)) (before.each l h) is
          ∙ words_added (sum_before hs bytes step p (j + l)) (entry_of hs bytes step p (j + l)) (sum_small hs bytes step p (j + l) small) (entry_small hs bytes step p (j + l) small)
          (subst (λ z. unsigned_abs z ≤ 2 ^ 30) (sym (next_sum hs bytes step p (j + l) within)) (sum_small hs bytes step (p + 1) (j + l) small))
          ∙ ap (of_z w32) (next_sum hs bytes step p (j + l) within ∙ ap (λ m. sum_before hs bytes step m (j + l)) next);
    }

-- ---- the sums before and after
-- before the first byte
pub none_before : (hs : List ℤ) (bytes : List ℕ) (step j : ℕ) → sum_before hs bytes step 0 j ≡ pos 0
unfolding sum_before
none_before hs bytes step j = let none : 0 - j * step ≡ 0 = omega arith in ap (λ (n : ℕ). window_sum (take (8 * n) hs) bytes (j * step)) none

-- the window begins after byte p
pub not_begun : (hs : List ℤ) (bytes : List ℕ) (step p q j : ℕ) → p ≤ j * step → q ≤ j * step → sum_before hs bytes step p j ≡ sum_before hs bytes step q j
unfolding sum_before
not_begun hs bytes step p q j before then =
    let same : p - j * step ≡ q - j * step = omega arith in
    ap (λ (n : ℕ). window_sum (take (8 * n) hs) bytes (j * step)) same

-- the window ends before byte p
pub whole_window : (hs : List ℤ) (bytes : List ℕ) (step p j : ℕ) → length hs % 8 ≡ 0 → length hs / 8 + j * step ≤ p → sum_before hs bytes step p j ≡ window_sum hs bytes (j * step)
unfolding sum_before
whole_window hs bytes step p j whole past = ap (λ xs. window_sum xs bytes (j * step)) (take_all (8 * (p - j * step)) hs (omega arith))

pub all_before : (hs : List ℤ) (bytes : List ℕ) (step p q j : ℕ) → length hs % 8 ≡ 0 → length hs / 8 + j * step ≤ p → length hs / 8 + j * step ≤ q → sum_before hs bytes step p j ≡ sum_before hs bytes step q j
all_before hs bytes step p q j whole past then = whole_window hs bytes step p j whole past ∙ sym (whole_window hs bytes step q j whole then)

-- taps with their rows
pub is_laid : (h taps entries : List ℤ) (n step span : ℕ) → taps ≡ aligned h n → 1 ≤ length h → length h ≤ 4096 → sum_by unsigned_abs h ≤ 2 ^ 30 → 1 ≤ step → step ≤ 128 → length taps / 8 ≤ span * step → (0 < step % 8 → length taps / 8 + 7 ≤ span * step) → span ≤ 1024 → span % 8 ≡ 0 → entries ≡ lookup taps step span
    → IsLaid taps entries step span
is_laid h taps entries n step span e some few small least most wide loose narrow eights made =
    let size = ap length e ∙ length-aligned h n in
    record {
      whole = omega (arith, size);
      some = omega (arith, size);
      few = omega (arith, size);
      small = rw e (omega (arith, abs_sum_aligned h n));
      least = least;
      most = most;
      wide = wide;
      loose = loose;
      narrow = narrow;
      eights = eights;
      laid = made;
    }
