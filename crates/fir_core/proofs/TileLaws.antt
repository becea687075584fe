-- Runs of sums and samples: in parts, and by the sums of windows.
use Rattle.std.proofs.Common.{◌≡◌, ℕ, ◌+◌, ◌-◌, ◌*◌, ◌/◌, ◌%◌, ◌^◌, ◌<◌, ◌≤◌, ℤ, pos, inl, inr, unsigned_abs, Bool, List, ◌++◌, map, length, get_or, take, drop, replicate, reverse, sum_by, sym, ap, ap₂, ◌∙◌, arith, length-append, length-drop}
use Rattle.std.specs.Int.{div_ceil, saturate_to_bits}
use Rattle.std.specs.List.{range_with_len}
use Rattle.std.proofs.Math.Nat.{mul-le-mul_right, mul_assoc}
use Rattle.std.proofs.Math.Seq.{get_or-append_right}
use Rattle.std.proofs.lemmas.Bool.{cases_lt}
use Rattle.std.proofs.lemmas.Grind.{div_ceil_times}
use Rattle.std.proofs.lemmas.List.{drop-drop, get_or_append_left, get_or-map, length-map, length-take}
use Rattle.std.proofs.lemmas.List.FromFn.{fill_by_all, get_or-map-range_with_len, length-map-range_with_len}
use Rattle.std.proofs.lemmas.Slice.{take-put_mid}
use borrow.Rule.Slice.PartMut.{put_mid}
use Rattle.dsd_bits.specs.Packing.{unpacked}
use Rattle.fir_core.specs.Convolution.{conv}
use Rattle.fir_core.specs.Decimator.{Decimator, sample_at, samples_of}
use Rattle.fir_core.specs.Places.{sample_of, samples_from, sums_from}
use Rattle.fir_core.specs.Rounding.{round_clip, rounded}
use Rattle.fir_core.specs.Signed.{bits_of, dot}
use Rattle.fir_core.specs.Windows.{aligned, window_size, window_sum, window_sums}
use Rattle.fir_core.proofs.Sums.{abs_sum_below}
use Rattle.fir_core.proofs.WindowLaws.{conv_by_window, length-aligned}

pub next_product : (i n f : ℕ) → i < n → i * f + f ≤ n * f
next_product i n f h = let e : (i + 1) * f ≤ n * f = mul-le-mul_right f (omega arith) in omega arith

-- a number of places that is rounded up
pub below_ceil : (i a f : ℕ) → 0 < f → i < div_ceil a f → i * f < a
below_ceil i a f some h = omega (arith, next_product i (div_ceil a f) f h, div_ceil_times a f some)

pub whole_step : (i factor : ℕ) → factor % 8 ≡ 0 → i * factor ≡ 8 * (i * (factor / 8))
whole_step i factor whole =
    let e : factor ≡ factor / 8 * 8 = omega arith in
    let f : i * factor ≡ (i * (factor / 8)) * 8 = ap (λ m. i * m) e ∙ sym (mul_assoc i (factor / 8) 8) in
    omega arith

-- ---- a run in two parts
-- values of f, the first at a place and each further one a step after the one before
abbrev run : (ℕ → ℤ) → ℕ → ℕ → ℕ → List ℤ
run f step first number = map (λ i. f (i * step + first)) (range_with_len 0 number)

length-run : (f : ℕ → ℤ) (step first number : ℕ) → length (run f step first number) ≡ number
length-run f step first number = length-map-range_with_len (λ i. f (i * step + first)) 0 number

in_run : (f : ℕ → ℤ) (step first number i : ℕ) → i < number → get_or (run f step first number) i (pos 0) ≡ f (i * step + first)
in_run f step first number i h = get_or-map-range_with_len (λ j. f (j * step + first)) 0 number i i (pos 0) h (omega arith)

pub length-samples : (d : Decimator) (bits : List Bool) (first number : ℕ) → length (samples_from d bits first number) ≡ number
length-samples d bits first number = length-run (sample_of d bits) d.factor first number

pub sample_in : (d : Decimator) (bits : List Bool) (first number i : ℕ) → i < number → get_or (samples_from d bits first number) i (pos 0) ≡ sample_of d bits (i * d.factor + first)
sample_in d bits first number i h = in_run (sample_of d bits) d.factor first number i h

run_split : (f : ℕ → ℤ) (step first m n : ℕ) → run f step first m ++ run f step (m * step + first) n ≡ run f step first (m + n)
run_split f step first m n =
    let front = run f step first m in
    let back = run f step (m * step + first) n in
    let long = length-run f step first m in
    fill_by_all (λ i. f (i * step + first)) (front ++ back) (m + n) (pos 0)
    (length-append front back ∙ ap₂ ◌+◌ long (length-run f step (m * step + first) n))
    (λ k h. elim (cases_lt k m) [
      | inl below ↦ get_or_append_left front back (pos 0) k (omega arith) ∙ in_run f step first m k below
      | inr past ↦
          let part : (k - m) * step + (m * step + first) ≡ k * step + first =
          (let e : (k - m) + m ≡ k = omega arith in let e' = ap (λ (x : ℕ). x * step) e in omega arith) in
          get_or-append_right front back k (pos 0) (omega arith) ∙ ap (λ j. get_or back (k - j) (pos 0)) long ∙ in_run f step (m * step + first) n (k - m) (omega arith) ∙ ap f part
    ])

pub length-sums_from : (d : Decimator) (bits : List Bool) (first number : ℕ) → length (sums_from d bits first number) ≡ number
length-sums_from d bits first number = length-run (conv d.taps bits) d.factor first number

pub sums_split : (d : Decimator) (bits : List Bool) (first m n : ℕ) → sums_from d bits first m ++ sums_from d bits (m * d.factor + first) n ≡ sums_from d bits first (m + n)
sums_split d bits first m n = run_split (conv d.taps bits) d.factor first m n

pub samples_split : (d : Decimator) (bits : List Bool) (first m n : ℕ) → samples_from d bits first m ++ samples_from d bits (m * d.factor + first) n ≡ samples_from d bits first (m + n)
samples_split d bits first m n = run_split (sample_of d bits) d.factor first m n

-- ---- sums, and the samples that they become
pub small_sums : (d : Decimator) (bits : List Bool) (first number k : ℕ) → sum_by unsigned_abs d.taps ≤ 2 ^ 30 → k < number → unsigned_abs (get_or (sums_from d bits first number) k (pos 0)) ≤ 2 ^ 30
small_sums d bits first number k small h =
    rw (in_run (conv d.taps bits) d.factor first number k h) (omega (arith, abs_sum_below d.taps bits (k * d.factor + first) (length d.taps) (omega arith)))

pub sums_rounded : (d : Decimator) (bits : List Bool) (first number : ℕ) → map (λ sum. round_clip sum d.shift d.width) (sums_from d bits first number) ≡ samples_from d bits first number
sums_rounded d bits first number =
    let done : ℤ → ℤ = λ sum. round_clip sum d.shift d.width in
    let sums = sums_from d bits first number in
    let long = length-run (conv d.taps bits) d.factor first number in
    fill_by_all (λ i. sample_of d bits (i * d.factor + first)) (map done sums) number (pos 0) (length-map sums done ∙ long)
    (λ k h. get_or-map done sums k (pos 0) (pos 0) (omega arith) ∙ ap done (in_run (conv d.taps bits) d.factor first number k h))

-- ---- the sums of windows
aligned_by_phase : (h : List ℤ) (n m : ℕ) → n % 8 ≡ m % 8 → aligned h n ≡ aligned h m
aligned_by_phase h n m e =
    ap (λ (r : ℕ). let b = 7 - r in let before = 8 * div_ceil (length h + b) 8 - (length h + b) in replicate before (pos 0) ++ reverse h ++ replicate b (pos 0)) e

same_size : (number n m : ℕ) → n % 8 ≡ m % 8 → window_size number n ≡ window_size number m
same_size number n m e = ap (λ r. div_ceil (number + (7 - r)) 8) e

-- the convolution at a place of a run, from the bytes on with which the run's first window begins
pub conv_in_run : (d : Decimator) (bytes : List ℕ) (count first i : ℕ) → d.factor % 8 ≡ 0 → first % 8 ≡ d.delay % 8 → window_size (length d.taps) d.delay ≤ first / 8 + 1 → i * d.factor + first < count → count ≤ 8 * length bytes
    → conv d.taps (unpacked bytes count) (i * d.factor + first) ≡ window_sum (aligned d.taps d.delay) (drop (first / 8 + 1 - window_size (length d.taps) d.delay) bytes) (i * (d.factor / 8))
conv_in_run d bytes count first i whole phase begins inside enough =
    let n = i * d.factor + first in
    let move = i * (d.factor / 8) in
    let size = window_size (length d.taps) d.delay in
    let at = first / 8 + 1 - size in
    let product : i * d.factor ≡ 8 * move = whole_step i d.factor whole in
    let same : n % 8 ≡ d.delay % 8 = omega arith in
    let place : n / 8 + 1 ≡ (at + move) + size = omega arith in
    conv_by_window d.taps bytes count n (at + move) (place ∙ ap (λ m. (at + move) + m) (sym (same_size (length d.taps) n d.delay same))) inside enough
    ∙ ap (λ hs. window_sum hs bytes (at + move)) (aligned_by_phase d.taps n d.delay same)
    ∙ ap (λ bs. dot (aligned d.taps d.delay) (bits_of bs)) (sym (drop-drop move at bytes))

-- the window of a place of a run ends within the bytes
pub window_within : (i factor first count size long : ℕ) → factor % 8 ≡ 0 → size ≤ first / 8 + 1 → i * factor + first < count → count ≤ 8 * long → i * (factor / 8) + size + (first / 8 + 1 - size) ≤ long
window_within i factor first count size long whole begins inside enough = omega (arith, whole_step i factor whole)

pub length-sums : (hs : List ℤ) (bytes : List ℕ) (step number : ℕ) → length (window_sums hs bytes step number) ≡ number
length-sums hs bytes step number = length-map-range_with_len (λ i. window_sum hs bytes (i * step)) 0 number

pub run_by_windows : (d : Decimator) (bytes front : List ℕ) (count first number : ℕ) → d.factor % 8 ≡ 0 → first % 8 ≡ d.delay % 8 → window_size (length d.taps) d.delay ≤ first / 8 + 1 → ((i : ℕ) → i < number → i * d.factor + first < count) → count ≤ 8 * length bytes
    → front ≡ drop (first / 8 + 1 - window_size (length d.taps) d.delay) bytes
    → window_sums (aligned d.taps d.delay) front (d.factor / 8) number ≡ sums_from d (unpacked bytes count) first number
run_by_windows d bytes front count first number whole phase begins inside enough is =
    fill_by_all (λ i. conv d.taps (unpacked bytes count) (i * d.factor + first)) (window_sums (aligned d.taps d.delay) front (d.factor / 8) number) number (pos 0) (length-sums (aligned d.taps d.delay) front (d.factor / 8) number)
    (λ k h.
    get_or-map-range_with_len (λ i. window_sum (aligned d.taps d.delay) front (i * (d.factor / 8))) 0 number k k (pos 0) h (omega arith)
    ∙ ap (λ bs. window_sum (aligned d.taps d.delay) bs (k * (d.factor / 8))) is
    ∙ sym (conv_in_run d bytes count first k whole phase begins (inside k h) enough))

-- how many bytes the aligned taps need
pub size_is : (hs taps h : List ℤ) (n : ℕ) → hs ≡ taps → taps ≡ aligned h n → length hs / 8 ≡ window_size (length h) n
size_is hs taps h n e f = omega (arith, ap length (e ∙ f), length-aligned h n)

-- ---- where the windows lie within the bytes
pub early_enough : (early factor first size : ℕ) → factor % 8 ≡ 0 → 8 ≤ factor → early ≡ div_ceil ((size - 1) - first / 8) (factor / 8) → size ≤ (early * factor + first) / 8 + 1
early_enough early factor first size whole least is =
    let a = (size - 1) - first / 8 in
    let up = (div_ceil_times a (factor / 8) (omega arith)).0 in
    let reaches : a ≤ early * (factor / 8) = rw is up in
    omega (arith, whole_step early factor whole)

pub late_enough : (i early late factor first count : ℕ) → 0 < factor → late ≤ div_ceil (count - first) factor → early ≤ late → i < late - early → i * factor + (early * factor + first) < count
late_enough i early late factor first count some is order h =
    let below : (i + early) * factor < count - first = below_ceil (i + early) (count - first) factor some (omega arith) in
    omega arith

pub place_reaches : (i number factor first most : ℕ) → i ≤ number → number * factor + first ≤ most → i * factor + first ≤ most
place_reaches i number factor first most h reach = let e : i * factor ≤ number * factor = mul-le-mul_right factor h in omega arith

pub rest_reaches : (rest late number factor first most : ℕ) → rest + late ≡ number → number * factor + first ≤ most → rest * factor + (late * factor + first) ≤ most
rest_reaches rest late number factor first most e reach = let f = ap (λ (x : ℕ). x * factor) e in omega arith

pub same_phase : (early factor first delay : ℕ) → factor % 8 ≡ 0 → first % 8 ≡ delay % 8 → (early * factor + first) % 8 ≡ delay % 8
same_phase early factor first delay whole phase = omega (arith, whole_step early factor whole)

pub parts : (early late factor first : ℕ) → early ≤ late → late * factor + first ≡ (late - early) * factor + (early * factor + first)
parts early late factor first order = let e : (late - early) + early ≡ late = omega arith in let f = ap (λ (x : ℕ). x * factor) e in omega arith

pub part_reaches : (start end number factor first most : ℕ) → start ≤ end → end ≤ number → number * factor + first ≤ most → (end - start) * factor + (start * factor + first) ≤ most
part_reaches start end number factor first most order within reach = let e : end * factor ≤ number * factor = mul-le-mul_right factor within in omega (arith, parts start end factor first order)

-- one more tile
pub one_more_tile : (d : Decimator) (bits : List Bool) (first start end : ℕ) (xs ys : List ℤ) → start ≤ end → end ≤ length xs → take start xs ≡ samples_from d bits first start → ys ≡ samples_from d bits (start * d.factor + first) (end - start)
    → take end (put_mid start (end - start) xs ys) ≡ samples_from d bits first end
one_more_tile d bits first start end xs ys order within before is =
    let long : length ys ≡ end - start = ap length is ∙ length-samples d bits (start * d.factor + first) (end - start) in
    let all : start + (end - start) ≡ end = omega arith in
    take-put_mid start (end - start) xs ys end (omega arith) (omega arith)
    ∙ ap₂ ◌++◌ before is ∙ samples_split d bits first start (end - start) ∙ ap (samples_from d bits first) all

pub tile_length : (start end : ℕ) (xs : List ℤ) → end ≤ length xs → length (take (end - start) (drop start xs)) ≡ end - start
tile_length start end xs within = omega (arith, length-take (end - start) (drop start xs), length-drop start xs)

-- the convolution at a place whose window lies within the bytes, by the taps in the order of the bits
pub conv_at : (h reversed : List ℤ) (bits : List Bool) (bytes : List ℕ) (count n delay : ℕ) → reversed ≡ aligned h delay → n % 8 ≡ delay % 8 → bits ≡ unpacked bytes count → length reversed / 8 ≤ n / 8 + 1 → n < count → count ≤ 8 * length bytes
    → conv h bits n ≡ dot reversed (bits_of (drop (n / 8 + 1 - length reversed / 8) bytes))
conv_at h reversed bits bytes count n delay is phase packed early late enough =
    let at = n / 8 + 1 - length reversed / 8 in
    let size : length reversed ≡ 8 * window_size (length h) delay = ap length is ∙ length-aligned h delay in
    let place : n / 8 + 1 ≡ at + window_size (length h) n = omega (arith, size, same_size (length h) n delay phase) in
    ap (λ bs. conv h bs n) packed ∙ conv_by_window h bytes count n at place late enough ∙ ap (λ hs. window_sum hs bytes at) (aligned_by_phase h n delay phase ∙ sym is)

-- ---- samples by their numbers
pub numbered : (d : Decimator) (bits : List Bool) (j number : ℕ) → samples_from d bits (j * d.factor + d.delay) number ≡ samples_of d bits j number
numbered d bits j number =
    sym (fill_by_all (λ i. sample_of d bits (i * d.factor + (j * d.factor + d.delay))) (samples_of d bits j number) number (pos 0) (length-map-range_with_len (sample_at d bits) j number)
    (λ k h.
    let place : (j + k) * d.factor + d.delay ≡ k * d.factor + (j * d.factor + d.delay) = omega arith in
    get_or-map-range_with_len (sample_at d bits) j number k (j + k) (pos 0) h (omega arith) ∙ ap (sample_of d bits) place))

pub numbers_reach : (j number count factor delay : ℕ) → 0 < factor → factor ≤ 1024 → delay ≤ 4096 → count ≤ 2 ^ 36 → j + number ≤ div_ceil count factor → number * factor + (j * factor + delay) ≤ 2 ^ 37
numbers_reach j number count factor delay some few near limit within =
    let e : (j + number) * factor ≤ div_ceil count factor * factor = mul-le-mul_right factor within in
    let up = (div_ceil_times count factor some).1 in
    omega arith

-- a sample by its sum, and the sum that was rounded
pub sample_stated : (d e : Decimator) (bits : List Bool) (index : ℕ) (sum most : ℤ) → d ≡ e → sum ≡ conv d.taps bits (index * d.factor + d.delay) → most ≡ rounded sum d.shift → saturate_to_bits (d.width - 1) most ≡ sample_at e bits index
sample_stated d e bits index sum most same s m = ap (saturate_to_bits (d.width - 1)) (m ∙ ap (λ z. rounded z d.shift) s) ∙ ap (λ (f : Decimator). sample_at f bits index) same
