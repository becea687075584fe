-- What a keeper holds of a sound while it is read.
use Rattle.std.specs.Prelude.{◌≡◌, ℕ, ◌%◌, ◌<◌, ◌≤◌, Bool, List, length}
use Rattle.dsd_bits.specs.declared.interleaving.Interleaving.TheVariants.{Bytes}
use Rattle.dsd_bits.specs.declared.sound.Sound.{Sound}
use Rattle.dsd_bits.specs.Sounds.{IsSound, sound_channels, sound_size}
use Rattle.sound_core.specs.Stretches.{AreStretches, items_of}
use Rattle.dsd_bits.specs.declared.stretches.BitRange.{BitRange}
use Rattle.sound_core.specs.declared.keeper.Keeper.{Keeper}

-- after these bytes of a sound, which are whole groups of blocks or all of it, these are the stretches of their
-- channels
pub record Keeps (s : Sound) (ranges : List BitRange) (done : ℕ) (stretches : List (List (List Bool))) (bytes : List ℕ) : Type 0 where
  pub is_sound : IsSound s
  pub whole : s.interleaving ≡ Bytes → s.count % 8 ≡ 0
  pub within : done ≤ s.count
  pub groups : done < s.count → done % 32768 ≡ 0
  pub size : length bytes ≡ sound_size s.interleaving s.channels done
  pub kept : AreStretches (sound_channels s.interleaving s.channels done bytes) ranges stretches

-- the keeper holds the stretches of its ranges, and the ranges are those of the first keeper
pub record IsKeeping (first k : Keeper) (s : Sound) (done : ℕ) (bytes : List ℕ) : Type 0 where
  pub same : k.ranges.now ≡ first.ranges.now
  pub keeps : Keeps s k.ranges.now done (items_of k.stretches.items) bytes
