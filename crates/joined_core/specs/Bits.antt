-- What is given of a recording that comes as a byte of each channel in turn, and whose end isn't known before.
use Rattle.std.specs.Prelude.{◌≡◌, ◌<◌, ◌≤◌, ℕ, ◌+◌, ◌*◌, ◌/◌, ◌^◌, List, ◌++◌, drop, length, take}
use Rattle.dsd_bits.specs.declared.interleaving.Interleaving.TheVariants.{Bytes}
use Rattle.native_core.specs.Native.{native_of}
use Rattle.native_core.specs.declared.layout.Layout.{Layout}
use Rattle.joined_core.specs.declared.bits.BitGiver.{BitGiver}

-- the bits of a recording of n channels with these sound bytes, in this layout
abbrev pub joined_bits : Layout → ℕ → List ℕ → List ℕ
joined_bits layout n bytes = native_of layout Bytes n (length bytes / n * 8) bytes

-- ---- bits
-- how many bytes of n channels are in so many groups of 4096 bytes a channel
abbrev pub groups_size : ℕ → ℕ → ℕ
groups_size n groups = groups * (n * 4096)

-- after these bytes, these frames were given: those of the groups before the one of which it keeps bytes
pub record HasGivenBits (bytes given : List ℕ) (g : BitGiver) : Type 0 where
  pub groups : ℕ
  pub inside : groups_size g.channels groups ≤ length bytes
  pub fed : g.fed ≡ length bytes
  pub part : g.part.items ≡ drop (groups_size g.channels groups) bytes
  pub given_is : given ≡ native_of g.layout Bytes g.channels (groups * 32768) (take (groups_size g.channels groups) bytes)

-- what holds of each that gives bits
pub record IsBitGiver (g : BitGiver) : Type 0 where
  pub some : 1 ≤ g.channels
  pub six : g.channels ≤ 6
  pub few : g.fed < 2 ^ 33 * g.channels
  pub part : length g.part.items ≤ g.fed

-- after these bytes more was given, in the same layout
pub record TakesBits (old : BitGiver) (bytes out_old out_new : List ℕ) (new : BitGiver) : Type 0 where
  pub ready : IsBitGiver new
  pub layout : new.layout ≡ old.layout
  pub channels : new.channels ≡ old.channels
  pub fed : new.fed ≡ old.fed + length bytes
  pub more : List ℕ
  pub appends : out_new ≡ out_old ++ more
  pub gives : (before given : List ℕ) → HasGivenBits before given old → HasGivenBits (before ++ bytes) (given ++ more) new

-- if the recording ends with a whole byte of each channel, all its bits were given
pub record FinishesBits (g : BitGiver) (out_old out_new : List ℕ) : Type 0 where
  pub more : List ℕ
  pub appends : out_new ≡ out_old ++ more
  pub all : (bytes given : List ℕ) (frames : ℕ) → length bytes ≡ frames * g.channels → HasGivenBits bytes given g → given ++ more ≡ joined_bits g.layout g.channels bytes
