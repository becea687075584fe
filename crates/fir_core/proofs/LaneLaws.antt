-- One byte of bits over one chunk of taps, and the end of the chunks.
use Rattle.std.proofs.Common.{[], ◌∷◌, ◌++◌, FitsSigned, zero, suc, ◌^◌, sum_by, ◌≡◌, ◌+◌, ◌*◌, ◌/◌, ◌-◌, ◌<◌, ◌≤◌, length, unsigned_abs, ℕ, List, ℤ, pos, ◌+ℤ◌, to_z, of_z, map, Bool, ap, ap₂, sym, ◌∙◌, subst, arith, w32, take, drop, get_or}
use Rattle.std.specs.Int.{int_wrap}
use Rattle.std.specs.List.{range_with_len}
use Rattle.std.specs.Simd.{first_chunks}
use Rattle.std.specs.Simd.Lanes.{Each1, zip2, fold_l}
use Rattle.std.proofs.lemmas.Int.{ints, to_z-of_z, int_wrap_fits, int_wrap-add_same}
use Rattle.std.proofs.lemmas.List.{drop-drop, length-take-le, length-drop, take_rest}
use Rattle.std.proofs.lemmas.List.Sums.{sum_by-cons}
use Rattle.std.proofs.lemmas.List.FromFn.{map-range_with_len_more}
use Rattle.std.proofs.lemmas.Simd.{Each1-chunk}
use Rattle.fir_core.specs.Signed.{signed, bits_of_byte, bits_of, dot}
use Rattle.fir_core.proofs.Dot.{dot_split, drop_bits, dot_group, dot_fits}
use Rattle.fir_core.proofs.LaneSums.{wrap_add, lanes_sum, AllFit, added, added_fit, folded, byte_sum}

-- the taps of a group
nth_chunk : {X : Type 0} (n k : ℕ) (xs : List X) (i : ℕ) (d : List X) → i < k → get_or (first_chunks n k xs) i d ≡ take n (drop (n * i) xs)
nth_chunk n zero xs i d l = absurd (omega arith)
nth_chunk n (suc k) xs zero d l = let e : n * 0 ≡ 0 = omega arith in ap (λ m. take n (drop m xs)) (sym e)
nth_chunk n (suc k) xs (suc i) d l = nth_chunk n k (drop n xs) i d (omega arith) ∙ ap (take n) (drop-drop (n * i) n xs) ∙ (let e : n + n * i ≡ n * suc i = omega arith in ap (λ m. take n (drop m xs)) e)

abs_sum_each : (hs : List ℤ) → sum_by unsigned_abs hs ≤ 2 ^ 30 → Each1 (λ h. unsigned_abs h ≤ 2 ^ 30) hs
abs_sum_each [] l = tt
abs_sum_each (h ∷ hs) l = (omega (arith, sum_by-cons unsigned_abs h hs), abs_sum_each hs (omega (arith, sum_by-cons unsigned_abs h hs)))

pub chunk_small : (hs : List ℤ) (i : ℕ) → i < length hs / 8 → sum_by unsigned_abs hs ≤ 2 ^ 30 → Each1 (λ h. unsigned_abs h ≤ 2 ^ 30) (get_or (first_chunks 8 (length hs / 8) hs) i [])
chunk_small hs i l small =
    subst (Each1 (λ h. unsigned_abs h ≤ 2 ^ 30)) (sym (nth_chunk 8 (length hs / 8) hs i [] l))
    (Each1-chunk (λ h. unsigned_abs h ≤ 2 ^ 30) (8 * i) 8 hs (abs_sum_each hs small))

pub chunk_step : (hs : List ℤ) (bytes lanes : List ℕ) (i : ℕ) (block : List ℤ)
    → length lanes ≡ 8 → AllFit lanes → int_wrap w32 (lanes_sum lanes) ≡ int_wrap w32 (dot (take (8 * i) hs) (bits_of bytes))
    → i < length hs / 8 → length hs ≤ 8 * length bytes → sum_by unsigned_abs hs ≤ 2 ^ 30
    → block ≡ zip2 signed (bits_of_byte (get_or bytes i 0)) (get_or (first_chunks 8 (length hs / 8) hs) i [])
    → record {
      sized : length (zip2 wrap_add lanes (map (of_z w32) block)) ≡ 8;
      fit : AllFit (zip2 wrap_add lanes (map (of_z w32) block));
      right : int_wrap w32 (lanes_sum (zip2 wrap_add lanes (map (of_z w32) block))) ≡ int_wrap w32 (dot (take (8 * (i + 1)) hs) (bits_of bytes));
    }
chunk_step hs bytes lanes i block sized fit right l m small is =
    let ch : List ℤ = take 8 (drop (8 * i) hs) in
    let bits : List Bool = bits_of_byte (get_or bytes i 0) in
    let long : length ch ≡ 8 = length-take-le 8 (drop (8 * i) hs) (omega (arith, length-drop (8 * i) hs)) in
    let same : block ≡ zip2 signed bits ch = is ∙ ap (zip2 signed bits) (nth_chunk 8 (length hs / 8) hs i [] l) in
    let each : Each1 (λ h. unsigned_abs h ≤ 2 ^ 30) ch = Each1-chunk (λ h. unsigned_abs h ≤ 2 ^ 30) (8 * i) 8 hs (abs_sum_each hs small) in
    let sum = byte_sum bits ch (sym long) each in
    let ys : List ℕ = map (of_z w32) (zip2 signed bits ch) in
    let even : length lanes ≡ length ys = omega (arith, sum.2) in
    let next = added_fit lanes ys even in
    let value : int_wrap w32 (lanes_sum (zip2 wrap_add lanes ys)) ≡ int_wrap w32 (dot (take (8 * (i + 1)) hs) (bits_of bytes)) =
    added lanes ys even fit sum.1
    ∙ int_wrap-add_same w32 (lanes_sum lanes) (dot (take (8 * i) hs) (bits_of bytes)) (lanes_sum ys) right
    ∙ ap (λ z. int_wrap w32 (dot (take (8 * i) hs) (bits_of bytes) +ℤ z)) sum.0
    ∙ ap (int_wrap w32) (sym (dot_group hs bytes i (omega arith))) in
    record {
      sized = ap (λ b. length (zip2 wrap_add lanes (map (of_z w32) b))) same ∙ next.1 ∙ sized;
      fit = subst (λ (b : List ℤ). AllFit (zip2 wrap_add lanes (map (of_z w32) b))) (sym same) next.0;
      right = ap (λ b. int_wrap w32 (lanes_sum (zip2 wrap_add lanes (map (of_z w32) b)))) same ∙ value;
    }

-- what the lanes and the rest add up to
pub ends : (hs rest : List ℤ) (bytes lanes : List ℕ) (n i : ℕ) (r : ℤ)
    → AllFit lanes → int_wrap w32 (lanes_sum lanes) ≡ int_wrap w32 (dot (take (8 * i) hs) (bits_of bytes))
    → n ≤ i → i ≤ n → n ≡ length hs / 8 → rest ≡ drop (length hs / 8 * 8) hs → sum_by unsigned_abs hs ≤ 2 ^ 30
    → r ≡ dot rest (bits_of (take (length bytes - n) (drop n bytes)))
    → dot hs (bits_of bytes) ≡ to_z w32 (fold_l wrap_add 0 lanes) +ℤ r
ends hs rest bytes lanes n i r fit right le ge is back small tail =
    let same : i ≡ n = omega arith in
    let cut : length hs / 8 * 8 ≡ 8 * i = omega arith in
    let lead : pos 0 +ℤ lanes_sum lanes ≡ lanes_sum lanes = omega (arith, ints) in
    let front : to_z w32 (fold_l wrap_add 0 lanes) ≡ dot (take (8 * i) hs) (bits_of bytes) =
    folded 0 lanes (omega arith) fit ∙ ap (int_wrap w32) lead ∙ right ∙ int_wrap_fits w32 _ (dot_fits hs (bits_of bytes) (8 * i) small) in
    let past : r ≡ dot (drop (8 * i) hs) (drop (8 * i) (bits_of bytes)) =
    tail ∙ (λ z. dot ((back ∙ ap (λ m. drop m hs) cut) z) (bits_of (take_rest bytes n z)))
    ∙ ap (λ m. dot (drop (8 * i) hs) (bits_of (drop m bytes))) (sym same)
    ∙ ap (dot (drop (8 * i) hs)) (sym (drop_bits i bytes)) in
    dot_split (8 * i) hs (bits_of bytes) ∙ (λ z. sym front z +ℤ sym past z)

-- one sample more
pub pushed : (f : ℕ → ℤ) (items items' : List ℤ) (j : ℕ) (r : ℤ) → FitsSigned w32 r → items ≡ map f (range_with_len 0 j) → r ≡ f j → items' ≡ items ++ to_z w32 (of_z w32 r) ∷ [] → items' ≡ map f (range_with_len 0 (j + 1))
pushed f items items' j r fits so_far is e =
    e ∙ ap₂ (λ xs x. xs ++ x ∷ []) so_far (to_z-of_z w32 r fits ∙ is) ∙ sym (map-range_with_len_more f 0 j j (omega arith))
