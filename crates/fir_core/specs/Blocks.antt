-- Neighbouring bytes, by the windows that contain them, and the sums that they contribute to.
use Rattle.std.specs.Prelude.{◌≡◌, ℕ, ◌+◌, ◌*◌, ◌/◌, ◌<◌, ◌≤◌, ℤ, pos, List, length, slice_index, slice_index_or}
use Rattle.fir_core.specs.Lookup.{AreRowEntries, sum_before}
use Rattle.fir_core.specs.declared.lookup.Block.{Block}
use Rattle.fir_core.specs.declared.lookup.Spot.{Spot}

-- the byte n places after another
pub record IsAfter (number : ℕ) (one two : Spot) : Type 0 where
  pub lookup : two.lookup ≡ one.lookup
  pub bytes : two.bytes ≡ one.bytes
  pub p : two.p ≡ one.p + number

-- a byte and the three after it
pub record AreFour (spot one two three four : Spot) : Type 0 where
  pub first : one ≡ spot
  pub second : IsAfter 1 spot two
  pub third : IsAfter 2 spot three
  pub fourth : IsAfter 3 spot four

-- window j is among those that a byte's row has
pub record IsReached (spot : Spot) (j : ℕ) : Type 0 where
  pub begun : spot.window < j + spot.lookup.span
  pub near : j ≤ spot.window + 8

-- a byte's row has at a place what the byte adds to the windows from window j on
abbrev pub HasEntries : Spot → ℕ → ℕ → Type 0
HasEntries spot j at = (number : ℕ) → j + number ≤ spot.window + 9 → AreRowEntries spot.lookup.taps.now spot.bytes.now spot.lookup.step spot.lookup.entries.now spot.p j number at

-- the rows of a byte and of the three after it have at these places what each of them adds
abbrev pub ArePlaces : Spot → ℕ → List ℕ → Type 0
ArePlaces spot j at = (b number : ℕ) → b < 4 → j + number ≤ spot.window + 9 → AreRowEntries spot.lookup.taps.now spot.bytes.now spot.lookup.step spot.lookup.entries.now (spot.p + b) j number (slice_index at b)

-- the block of the eight bytes from a byte on, with all windows below a limit that contain one of them
pub record IsBlockOf (spot : Spot) (limit : ℕ) (block : Block) : Type 0 where
  pub lookup : block.lookup ≡ spot.lookup
  pub bytes : block.bytes ≡ spot.bytes
  pub p : block.p ≡ spot.p
  pub within : block.limit ≡ limit
  pub done : (j : ℕ) → j < block.start → length spot.lookup.taps.now / 8 + j * spot.lookup.step ≤ spot.p
  pub rest : (j : ℕ) → block.start + block.number ≤ j → j < limit → spot.p + 8 ≤ j * spot.lookup.step

-- n windows from window j on are among those of a block
pub record AreOf (block : Block) (j number : ℕ) : Type 0 where
  pub from : block.start ≤ j
  pub to : j + number ≤ block.start + block.number

-- the sums of the windows over the bytes before a byte
abbrev pub AreSummed : Spot → List ℤ → Type 0
AreSummed spot sums = (j : ℕ) → j < length sums → slice_index_or sums j (pos 0) ≡ sum_before spot.lookup.taps.now spot.bytes.now spot.lookup.step spot.p j

-- the sum of a window over the bytes before a block and n of the block's
abbrev pub sum_within : Block → ℕ → ℕ → ℤ
sum_within block number j = sum_before block.lookup.taps.now block.bytes.now block.lookup.step (block.p + number) j

-- the sums of the windows before window j include a block's bytes, and the others those before it
pub record AreAdded (block : Block) (j : ℕ) (sums : List ℤ) : Type 0 where
  pub long : length sums ≡ block.limit
  pub done : (k : ℕ) → k < j → slice_index_or sums k (pos 0) ≡ sum_within block 8 k
  pub rest : (k : ℕ) → j ≤ k → k < length sums → slice_index_or sums k (pos 0) ≡ sum_within block 0 k
