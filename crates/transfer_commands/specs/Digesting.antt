-- What a digester has of a sound that comes.
use Rattle.std.specs.Prelude.{◌≡◌, ℕ, ◌<◌, Bool, List, [], ◌++◌, get_or, length}
use Rattle.sha2.specs.Hashers.{Holds256}
use Rattle.sha2.specs.declared.Sha256.{Sha256}
use Rattle.dsd_bits.specs.Packing.{packed}
use Rattle.dsd_bits.specs.Sounds.{sound_channels}
use Rattle.dsd_bits.specs.declared.sound.Sound.{Sound}
use Rattle.transfer_commands.specs.declared.digesting.Digester.{Digester}

-- there is a hasher for each channel, and it holds the channel's packed bits
pub record HoldEach (hashers : List Sha256) (channels : List (List Bool)) : Type 0 where
  pub number : length hashers ≡ length channels
  pub each : (c : ℕ) (h : Sha256) → c < length channels → Holds256 (get_or hashers c h) (packed (get_or channels c []))

-- after these bytes of a sound its digester has a hasher for each channel, which holds the bits that came
abbrev pub IsDigesting : Digester → Sound → ℕ → List ℕ → Type 0
IsDigesting k s done bytes = HoldEach k.hashers.items (sound_channels s.interleaving s.channels done bytes)

-- ---- stages
-- so many hashers hold nothing
pub record HoldNothing (hashers : List Sha256) (number : ℕ) : Type 0 where
  pub long : length hashers ≡ number
  pub each : (c : ℕ) (h : Sha256) → c < number → Holds256 (get_or hashers c h) []

-- each hasher holds what it held, and the packed bits of its channel behind that
pub record AreUpdated (channels : List (List Bool)) (old new : List Sha256) : Type 0 where
  pub number : length new ≡ length old
  pub each : (c : ℕ) (h : Sha256) (m : List ℕ) → c < length old → Holds256 (get_or old c h) m → Holds256 (get_or new c h) (m ++ packed (get_or channels c []))
