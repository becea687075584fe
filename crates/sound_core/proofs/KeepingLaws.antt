-- What is kept of a sound are the stretches of its channels.
use Rattle.std.proofs.Common.{◌≡◌, List, ℕ, Option, Some, None, subst}
use Rattle.chunk_core.specs.declared.inlet.Inlet.{Inlet}
use Rattle.dsd_bits.specs.Sounds.{sound_channels}
use Rattle.dsd_bits.specs.Stretches.{stretches_of}
use Rattle.dsd_bits.specs.declared.stretches.BitRange.{BitRange}
use Rattle.sound_core.specs.Keepers.{IsKeeping}
use Rattle.sound_core.specs.Keeping.{IsKeptOf, KeepsFile, KeepsGiven}
use Rattle.sound_core.specs.Outlines.{Surroundings, with_sound}
use Rattle.sound_core.specs.Sinks.{IsTakenOf, TakesFile, TakesGiven}
use Rattle.sound_core.specs.Stretches.{items_of}
use Rattle.sound_core.specs.declared.keeper.Keeper.{Keeper}
use Rattle.sound_core.proofs.KeeperLaws.{same_stretches}

-- a keeper that took a whole sound
module _ (first k : Keeper) (o : Surroundings) (ranges : List BitRange) (own : first.ranges.now ≡ ranges) where
  taken_kept : (file : List ℕ) → IsTakenOf (IsKeeping first k) o file → IsKeptOf o ranges (items_of k.stretches.items) file
  taken_kept file (sound, stands, has) = (
    sound,
    stands,
    subst (λ rs. items_of k.stretches.items ≡ stretches_of (with_sound o.recording o.sound sound).channels rs) own
        (subst (λ rs. items_of k.stretches.items ≡ stretches_of (with_sound o.recording o.sound sound).channels rs) has.same (same_stretches (sound_channels o.sound.interleaving o.sound.channels o.sound.count sound) k.ranges.now (items_of k.stretches.items) has.keeps.kept)),
  )

  pub file_kept : (left : Option (List ℕ)) → TakesFile (IsKeeping first k) left o → KeepsFile left o ranges (items_of k.stretches.items)
  file_kept None (stated, h) = (stated, tt)
  file_kept (Some file) (stated, h) = (stated, taken_kept file h)

  pub given_kept : {R : Type 0} (left : R → Option (List ℕ)) (i j : Inlet R) → TakesGiven (IsKeeping first k) left i j o → KeepsGiven left i j o ranges (items_of k.stretches.items)
  given_kept left i j (read, reads, h) = (read, reads, taken_kept read h)
