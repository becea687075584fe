-- Places of marks as signed numbers.
use Rattle.std.proofs.Common.{◌≡◌, ℕ, ◌+◌, ◌*◌, ◌^◌, ◌/◌, ◌%◌, ◌<◌, ◌≤◌, ◌∙◌, ap, List, arith}
use Rattle.std.proofs.Math.Nat.{div-add-mod'}
use Rattle.std.specs.Prelude.{ℤ, pos, ◌+ℤ◌}
use Rattle.std.specs.Int.{w32, w64, cast_signed, cast_unsigned}
use Rattle.std.specs.Int.RustNames.{FitsSigned}
use Rattle.std.proofs.lemmas.Int.{ints}
use Rattle.dsdiff_core.specs.MarkPlaces.{IsAt, title_mark}

-- the samples of a mark's time are few
pub few_samples : (hours minutes seconds rate : ℕ) → hours < 2 ^ 16 → minutes < 2 ^ 8 → seconds < 2 ^ 8 → rate < 2 ^ 32
    → ((hours * 60 + minutes) * 60 + seconds) * rate < 2 ^ 61
few_samples hours minutes seconds rate h m s r = grind arith

-- a number and a signed offset of 32 bits, added in 64 bits
pub widened_sum : (n : ℕ) (offset : ℤ) → n < 2 ^ 62 → FitsSigned w32 offset
    → cast_signed w64 (cast_unsigned w64 (cast_signed w64 n +ℤ cast_signed w64 (cast_unsigned w64 (cast_signed w32 (cast_unsigned w32 offset))))) ≡ pos n +ℤ offset
widened_sum n offset h f = omega (arith, ints)

plus_nothing : (n : ℕ) → pos n +ℤ pos 0 ≡ pos n
plus_nothing n = omega (arith, ints)

-- the mark of a title is at its place
pub title_at : (place rate : ℕ) (text : List ℕ) → 1 ≤ rate → IsAt (title_mark place rate text) rate place
title_at place rate text some =
    let seconds = place / rate in
    let time : (seconds / 3600 * 60 + seconds / 60 % 60) * 60 + seconds % 60 ≡ seconds = omega arith in
    let whole : ((seconds / 3600 * 60 + seconds / 60 % 60) * 60 + seconds % 60) * rate + place % rate ≡ place = rw time (omega (arith, div-add-mod' place rate)) in
    ap (λ n. pos n +ℤ pos 0) whole ∙ plus_nothing place
