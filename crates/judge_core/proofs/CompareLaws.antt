-- How compared lists relate.
use Rattle.std.proofs.Common.{◌≡◌, ℕ, ◌+◌, ◌-◌, ◌*◌, ◌/◌, ◌%◌, ◌<◌, ◌≤◌, ◌==◌, if◌then◌else◌, Bool, true, false, List, [], ◌∷◌, ◌++◌, length, get_or, map, take, inl, inr, sym, ap, ◌∙◌, arith}
use Rattle.std.proofs.lemmas.Bool.{cases_lt}
use Rattle.std.proofs.lemmas.List.{get_or-map, get_or_past, length-map, take_more}
use Rattle.std.proofs.lemmas.List.FromFn.{get_or-map-range_with_len, length-map-range_with_len}
use Rattle.std.specs.Int.{bit_at, div_ceil}
use Rattle.dsd_bits.specs.Packing.{packed, packed_bit, packed_byte, unpacked}
use Rattle.dsd_bits.specs.Shifting.{byte_from}
use Rattle.dsd_bits.proofs.ShiftingLemmas.{bit_of_byte_from}
use Rattle.dsd_bits.specs.Contents.{MarkContent, mark_content}
use Rattle.dsd_bits.specs.declared.marks.Mark.{Mark}

mark_is : (a : List Mark) (i : ℕ) (x : Mark) (d : MarkContent) → i < length a → x ≡ get_or a i x → get_or (map mark_content a) i d ≡ mark_content x
mark_is a i x d lt is = get_or-map mark_content a i x d lt ∙ ap mark_content (sym is)

-- marks at the same place of lists that hold the same hold the same
pub same_at : (a b : List Mark) (i : ℕ) (x y : Mark) → map mark_content a ≡ map mark_content b → i < length a → i < length b → x ≡ get_or a i x → y ≡ get_or b i y → mark_content x ≡ mark_content y
same_at a b i x y e lt lt2 is is2 = sym (mark_is a i x (mark_content x) lt is) ∙ ap (λ l. get_or l i (mark_content x)) e ∙ mark_is b i y (mark_content x) lt2 is2

-- one mark more
pub marks_more : (a : List Mark) (i : ℕ) (x : Mark) → i < length a → x ≡ get_or a i x → take (i + 1) (map mark_content a) ≡ take i (map mark_content a) ++ mark_content x ∷ []
marks_more a i x lt is =
    take_more (map mark_content a) i (mark_content x) (omega (arith, length-map a mark_content)) ∙ ap (λ q. take i (map mark_content a) ++ q ∷ []) (mark_is a i x (mark_content x) lt is)

bit_of : (x : List Bool) (p : List ℕ) (i : ℕ) → x ≡ unpacked p (length x) → i < length x → get_or x i false ≡ packed_bit p i
bit_of x p i e there = ap (λ l. get_or l i false) e ∙ get_or-map-range_with_len (packed_bit p) 0 (length x) i i false there (omega arith)

-- packed bits are bytes
worth_most : (b : Bool) (worth : ℕ) → (if b then worth else 0) ≤ worth
worth_most true worth = omega arith
worth_most false worth = omega arith

byte_small : (xs : List Bool) (j : ℕ) → packed_byte xs j < 256
byte_small xs j =
    let most = λ (i worth : ℕ). worth_most (get_or xs i false) worth in
    let i = 8 * j in
    omega (arith, most i 128, most (i + 1) 64, most (i + 2) 32, most (i + 3) 16, most (i + 4) 8, most (i + 5) 4, most (i + 6) 2, most (i + 7) 1)

pub packed_small : (xs : List Bool) (p : List ℕ) → p ≡ packed xs → (k : ℕ) → get_or p k 0 < 256
packed_small xs p is k =
    let n = div_ceil (length xs) 8 in
    elim (cases_lt k n) [
      | inl low ↦ omega (arith, ap (λ l. get_or l k 0) is, get_or-map-range_with_len (packed_byte xs) 0 n k k 0 low (omega arith), byte_small xs k)
      | inr past ↦ omega (arith, ap (λ l. get_or l k 0) is, get_or_past (packed xs) k 0 (omega (arith, past, length-map-range_with_len (packed_byte xs) 0 n)))
    ]

-- bits whose eights from two places on are the same are the same there
pub same_eights : (x y : List Bool) (p q : List ℕ) (i j n : ℕ) → x ≡ unpacked p (length x) → y ≡ unpacked q (length y) → ((k : ℕ) → get_or p k 0 < 256) → ((k : ℕ) → get_or q k 0 < 256) → i + 8 * n ≤ length x → j + 8 * n ≤ length y
    → ((k : ℕ) → k < n → byte_from p (i + 8 * k) ≡ byte_from q (j + 8 * k)) → (k : ℕ) → k < 8 * n → get_or x (i + k) false ≡ get_or y (j + k) false
same_eights x y p q i j n ex ey small_p small_q inside_x inside_y same k lt =
    let m = k / 8 in
    let r = k % 8 in
    let low : r < 8 = omega arith in
    let left : i + 8 * m + r ≡ i + k = omega arith in
    let right : j + 8 * m + r ≡ j + k = omega arith in
    bit_of x p (i + k) ex (omega (arith, inside_x, lt)) ∙ ap (packed_bit p) (sym left) ∙ sym (bit_of_byte_from p small_p (i + 8 * m) r low)
    ∙ ap (λ b. bit_at b (7 - r) == 1) (same m (omega (arith, lt)))
    ∙ bit_of_byte_from q small_q (j + 8 * m) r low ∙ ap (packed_bit q) right ∙ sym (bit_of y q (j + k) ey (omega (arith, inside_y, lt)))
