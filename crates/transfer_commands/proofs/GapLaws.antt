-- Where the bytes of a channel lie among those of the sound, by their number in the channel.
use Rattle.std.proofs.Common.{◌≡◌, ℕ, ◌+◌, ◌-◌, ◌*◌, ◌/◌, ◌%◌, ◌^◌, ◌<◌, ◌≤◌, ◌⊎◌, inl, inr, arith, subst}
use Rattle.std.proofs.Math.Nat.{div-mul-le_self, mul-le-mul_left, mul-le-mul_right}
use Rattle.std.proofs.lemmas.Bool.{cases_lt}
use Rattle.std.proofs.lemmas.Nat.{le-div, mod_below}

module _ (n channels a b : ℕ) (some : 1 ≤ n) (ordered : a ≤ b) where
  later : a / n ≤ b / n
  later = le-div (a / n) b n (omega (arith, some)) (omega (arith, div-mul-le_self a n, ordered))

  -- the groups before that of a byte lie before each later byte of any channel
  pub before_place : (c : ℕ) → (a / n) * (n * channels) ≤ (b / n * channels + c) * n + b % n
  before_place c =
      let groups : (a / n) * (n * channels) ≤ (b / n) * (n * channels) = mul-le-mul_right (n * channels) later in
      let spread : (b / n * channels + c) * n ≡ (b / n) * (n * channels) + c * n = grind arith in
      omega (arith, groups, spread)

  -- each earlier byte of any channel lies in the groups up to that of a byte
  pub up_to_place : (c : ℕ) → c < channels → (a / n * channels + c) * n + a % n < (b / n + 1) * (n * channels)
  up_to_place c less =
      let spread : (a / n * channels + c) * n ≡ (a / n) * (n * channels) + c * n = grind arith in
      let channel : (c + 1) * n ≤ channels * n = mul-le-mul_right n (omega (arith, less)) in
      let one : (c + 1) * n ≡ c * n + n = grind arith in
      let turned : channels * n ≡ n * channels = grind arith in
      let groups : (a / n + 1) * (n * channels) ≤ (b / n + 1) * (n * channels) = mul-le-mul_right (n * channels) (omega (arith, later)) in
      let more : (a / n + 1) * (n * channels) ≡ (a / n) * (n * channels) + n * channels = grind arith in
      omega (arith, spread, channel, one, turned, groups, more, mod_below a n (omega (arith, some)))

-- the same where the size of a group and of all of them may stop at a limit
pub before_all : (n part channels a g r : ℕ) → 1 ≤ n → n ≡ part → g ≤ n * channels → r ≤ a / n * g → (c p : ℕ) → a ≤ p → r ≤ (p / part * channels + c) * part + p % part
before_all n part channels a g r some is group few c p later =
    let whole : a / n * g ≤ a / n * (n * channels) = mul-le-mul_left (a / n) group in
    subst (λ k. r ≤ (p / k * channels + c) * k + p % k) is (omega (arith, few, whole, before_place n channels a p some later c))

pub up_to_all : (n part channels a g r : ℕ) → 1 ≤ n → n ≤ 4096 → n ≡ part → channels ≤ 6 → (n * channels < 2 ^ 64 - 1 → n * channels ≤ g) → (r < 2 ^ 64 - 1 → (a / n + 1) * g ≤ r) → (c p : ℕ) → c < channels → p ≤ a
    → ((p / part * channels + c) * part + p % part < r) ⊎ (2 ^ 64 - 1 ≤ r)
up_to_all n part channels a g r some small is six group all c p less earlier = elim (cases_lt r (2 ^ 64 - 1)) [
  | inl below ↦ (
      let product : n * channels ≤ 4096 * channels = mul-le-mul_right channels small in
      let whole : (a / n + 1) * (n * channels) ≤ (a / n + 1) * g = mul-le-mul_left (a / n + 1) (group (omega (arith, product, six))) in
      inl (subst (λ k. (p / k * channels + c) * k + p % k < r) is (omega (arith, all below, whole, up_to_place n channels p a some earlier c less))))
  | inr most ↦ inr most
]

-- ---- bits that a frame reads
-- none lies far before the first frame
pub not_before : (start factor j i tap delay : ℕ) → start ≤ j → tap ≤ 4096 → i + tap ≡ j * factor + delay → start * factor ≤ i + 4096
not_before start factor j i tap delay ordered few at = let most : start * factor ≤ j * factor = mul-le-mul_right factor ordered in omega (arith, most, few, at)

-- none lies far after the last
pub not_after : (stop factor j i tap delay : ℕ) → j < stop → delay ≤ 4096 → i + tap ≡ j * factor + delay → i ≤ stop * factor + 4096
not_after stop factor j i tap delay below few at = let most : j * factor ≤ stop * factor = mul-le-mul_right factor (omega (arith, below)) in omega (arith, most, few, at)

-- it lies no later than a bit after them, or than the last number
pub is_before : (i last to : ℕ) → i ≤ last → i ≤ 2 ^ 36 → (last ≤ to) ⊎ (2 ^ 64 - 1 ≤ to) → i / 8 ≤ to / 8
is_before i last to few low either = elim either [
  | inl more ↦ omega (arith, few, more)
  | inr most ↦ omega (arith, low, most)
]
