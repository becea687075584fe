-- Stretches of a file's sound: the bits of each channel in ranges of places.
use Rattle.std.specs.Prelude.{◌≡◌, ℕ, Bool, List, Option, IfSome}
use Rattle.chunk_core.specs.declared.inlet.Inlet.{Inlet}
use Rattle.sound_core.specs.Outlines.{AreStated, IsPlacedIn, Surroundings, around_of, with_sound}
use Rattle.sound_core.specs.Reads.{Reads}
use Rattle.dsd_bits.specs.Stretches.{stretches_of}
use Rattle.sound_core.specs.Stretches.{items_of}
use Rattle.dsd_bits.specs.declared.stretches.BitRange.{BitRange}
use Rattle.sound_core.specs.declared.keeping.Kept.{Kept}

-- the stretches that were kept
abbrev pub stretches_in : Kept → List (List (List Bool))
stretches_in k = items_of k.stretches.items

-- the file is some sound in the surroundings, and these are the stretches of its channels
abbrev pub IsKeptOf : Surroundings → List BitRange → List (List (List Bool)) → List ℕ → Type 0
IsKeptOf o ranges kept file = (sound : List ℕ) × IsPlacedIn o file sound × (kept ≡ stretches_of (with_sound o.recording o.sound sound).channels ranges)

-- the surroundings describe what a file holds; the reader's file, if it is known, is some sound in them, and these are
-- the stretches of its channels
abbrev pub KeepsFile : Option (List ℕ) → Surroundings → List BitRange → List (List (List Bool)) → Type 0
KeepsFile left_old o ranges kept = AreStated o × IfSome left_old (IsKeptOf o ranges kept)

-- the reader returned some bytes, which are some sound in the surroundings, and these are the stretches of its
-- channels; this also holds if its bytes aren't known
abbrev pub KeepsGiven : {R : Type 0} → (R → Option (List ℕ)) → Inlet R → Inlet R → Surroundings → List BitRange → List (List (List Bool)) → Type 0
KeepsGiven left old new o ranges kept = (read : List ℕ) × Reads left old new read × IsKeptOf o ranges kept read

-- the outline describes what a file holds; the reader's file, if it is known, is some sound in it, and these are the
-- stretches of its channels
abbrev pub HoldsStretches : Option (List ℕ) → List BitRange → Kept → Type 0
HoldsStretches left_old ranges k = KeepsFile left_old (around_of k.outline) ranges (stretches_in k)

-- the reader returned some bytes, which are some sound in the outline, and these are the stretches of its channels;
-- this also holds if its bytes aren't known
abbrev pub GivesStretches : {R : Type 0} → (R → Option (List ℕ)) → Inlet R → Inlet R → List BitRange → Kept → Type 0
GivesStretches left old new ranges k = KeepsGiven left old new (around_of k.outline) ranges (stretches_in k)
