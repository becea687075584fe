-- Whole groups of blocks, one after the other: how many bytes they are.
use Rattle.std.proofs.Common.{◌≡◌, ℕ, ◌+◌, ◌-◌, ◌*◌, ◌/◌, ◌%◌, ◌≤◌, ◌⊎◌, inl, inr, min, sym, ap, ◌∙◌, arith}
use Rattle.std.specs.Int.{div_ceil}
use Rattle.std.proofs.lemmas.Bool.{cases_lt}
use Rattle.std.proofs.Math.Nat.{add-mul, mul_assoc, mul_comm, mul-le-mul_right}
use Rattle.dsd_bits.specs.declared.interleaving.Interleaving.{Interleaving}
use Rattle.dsd_bits.specs.declared.interleaving.Interleaving.TheVariants.{Bytes, Blocks}
use Rattle.dsd_bits.specs.Sounds.{sound_size}

-- the bytes of whole groups and those after them are as many as those of all
pub size_on : (interleaving : Interleaving) (n a b : ℕ) → a % 32768 ≡ 0 → sound_size interleaving n (a + b) ≡ sound_size interleaving n a + sound_size interleaving n b
size_on Bytes n a b whole = let bytes : (a + b) / 8 ≡ a / 8 + b / 8 = omega arith in ap (λ k. k * n) bytes ∙ add-mul (a / 8) (b / 8) n
size_on (Blocks order) n a b whole =
    let groups : div_ceil (a + b) 32768 ≡ div_ceil a 32768 + div_ceil b 32768 = omega arith in
    ap (λ k. k * n * 4096) groups ∙ ap (λ k. k * 4096) (add-mul (div_ceil a 32768) (div_ceil b 32768) n) ∙ add-mul (div_ceil a 32768 * n) (div_ceil b 32768 * n) 4096

-- those of as many groups as fit are at most a block
pub size_fits : (interleaving : Interleaving) (n bits most : ℕ) → bits ≤ most → most % 32768 ≡ 0 → most / 32768 * n ≤ 16 → sound_size interleaving n bits ≤ 65536
size_fits Bytes n bits most few whole fits =
    let k = most / 32768 in
    let below : bits / 8 * n ≤ k * 4096 * n = mul-le-mul_right n (omega arith) in
    let turned : k * 4096 * n ≡ k * n * 4096 = mul_assoc k 4096 n ∙ ap (λ m. k * m) (mul_comm 4096 n) ∙ sym (mul_assoc k n 4096) in
    omega (arith, below, turned, fits)
size_fits (Blocks order) n bits most few whole fits =
    let k = most / 32768 in
    let below : div_ceil bits 32768 * n ≤ k * n = mul-le-mul_right n (omega arith) in
    omega (arith, below, fits)

-- what is read at a time is whole groups, or all that is left
pub last_groups : (left most bits : ℕ) → most % 32768 ≡ 0 → bits ≡ min left most → (bits % 32768 ≡ 0) ⊎ (left - bits ≡ 0)
last_groups left most bits whole is = elim (cases_lt left most) [
  | inl less ↦ inr (omega (arith, is, less))
  | inr more ↦ inl (let same : bits ≡ most = omega (arith, is, more) in ap (λ n. n % 32768) same ∙ whole)
]
