-- Where bytes hold samples: each at a place, counted in samples of a width.
use Rattle.std.specs.Prelude.{◌≡◌, ◌≢◌, ℕ, ◌+◌, ◌*◌, ◌/◌, ◌<◌, ℤ, pos, List, slice_index, slice_index_or}
use Rattle.wave_core.specs.Texts.{sample_bytes}

-- the bytes hold a sample at a place
abbrev pub HasSample : ℕ → ℕ → ℤ → List ℕ → Type 0
HasSample width place value bytes = (k : ℕ) → k < width / 8 → slice_index bytes (place * (width / 8) + k) ≡ slice_index (sample_bytes width value) k

-- the bytes hold the first n samples at the places that a function names
abbrev pub HasSamples : ℕ → (ℕ → ℕ) → ℕ → List ℤ → List ℕ → Type 0
HasSamples width place number samples bytes = (i k : ℕ) → i < number → k < width / 8 → slice_index bytes (place i * (width / 8) + k) ≡ slice_index (sample_bytes width (slice_index_or samples i (pos 0))) k

-- the bytes at all other places are unchanged
abbrev pub SameButAt : ℕ → ℕ → List ℕ → List ℕ → Type 0
SameButAt width place old new = (p k : ℕ) → p ≢ place → k < width / 8 → slice_index new (p * (width / 8) + k) ≡ slice_index old (p * (width / 8) + k)

-- the samples of all other channels are unchanged
abbrev pub SameButOf : ℕ → ℕ → ℕ → List ℕ → List ℕ → Type 0
SameButOf width channels c old new = (i d k : ℕ) → d < channels → d ≢ c → k < width / 8 → slice_index new ((i * channels + d) * (width / 8) + k) ≡ slice_index old ((i * channels + d) * (width / 8) + k)
