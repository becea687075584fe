-- The sums and the samples of what is played.
use Rattle.std.specs.Prelude.{◌≡◌, ℕ, ◌+◌, ◌*◌, ◌%◌, ◌^◌, ◌≤◌, ℤ, List}
use Rattle.dsd_bits.specs.Packing.{unpacked}
use Rattle.fir_core.specs.Decimator.{Decimator}
use Rattle.fir_core.specs.Places.{samples_from, sums_from}
use Rattle.fir_core.specs.declared.source.Source.{Source}

-- n of its sums, the first at this place
abbrev pub sums_over : Source → ℕ → ℕ → List ℤ
sums_over source first number = sums_from source.taps.now (unpacked source.bytes.now source.count) first number

-- n of its samples, the first at this place
abbrev pub samples_over : Source → ℕ → ℕ → List ℤ
samples_over source first number = samples_from source.taps.now (unpacked source.bytes.now source.count) first number

-- n samples can be summed from a place on: it has the place in its byte that the delay has, and they end within 2^37
-- bits
pub record ArePlayable (d : Decimator) (first number : ℕ) : Type 0 where
  pub reach : number * d.factor + first ≤ 2 ^ 37
  pub phase : first % 8 ≡ d.delay % 8
