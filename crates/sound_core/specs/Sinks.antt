-- What takes a sound while its file is read once.
use Rattle.std.specs.Prelude.{◌≡◌, ◌⊎◌, ℕ, ◌+◌, ◌-◌, ◌%◌, ◌<◌, ◌≤◌, min, Bool, true, false, List, ◌++◌, drop, length, Option, IfSome}
use Rattle.chunk_core.specs.Inlets.{inlet_given, inlet_reader}
use Rattle.chunk_core.specs.declared.inlet.Inlet.{Inlet}
use Rattle.dsd_bits.specs.declared.interleaving.Interleaving.TheVariants.{Bytes}
use Rattle.dsd_bits.specs.declared.sound.Sound.{Sound}
use Rattle.dsd_bits.specs.Sounds.{IsSound, sound_size}
use Rattle.sound_core.specs.Faults.{IsSinkFault, StopsReading}
use Rattle.sound_core.specs.Files.{GivesNone, LeadsToSound}
use Rattle.sound_core.specs.Outlines.{AreStated, IsOutlineFault, IsPlacedIn, Surroundings, around_of}
use Rattle.sound_core.specs.Readers.{FallsShort, IsPassFault, Passes}
use Rattle.sound_core.specs.Reads.{Reads}
use Rattle.sound_core.specs.declared.fault.StreamFault.{StreamFault}
use Rattle.sound_core.specs.declared.fault.StreamFault.TheVariants.{FileRefused}
use Rattle.sound_core.specs.declared.outline.Outline.{Outline}
use Rattle.sound_core.specs.declared.part.SoundPart.{SoundPart}
use Rattle.sound_core.specs.declared.reader.SoundReader.{SoundReader}

-- these bytes of a sound came: `done` bits of each channel, which are whole groups of blocks, or all of it
pub record IsFed (s : Sound) (done : ℕ) (bytes : List ℕ) : Type 0 where
  pub is_sound : IsSound s
  pub whole : s.interleaving ≡ Bytes → s.count % 8 ≡ 0
  pub within : done ≤ s.count
  pub groups : done < s.count → done % 32768 ≡ 0
  pub size : length bytes ≡ sound_size s.interleaving s.channels done

-- how many bytes of the sound the first n bytes of its file hold
abbrev pub sound_given : Sound → ℕ → ℕ
sound_given s given = min (given - s.start) s.size

-- ---- the next part of a sound

-- the sink has what some first sink became after the bytes before the part
abbrev pub HasBefore : {S : Type 0} → (S → S → Sound → ℕ → List ℕ → Type 0) → SoundPart → S → Type 0
HasBefore {S} has part now = (first : S) × (before : List ℕ) × IsFed part.sound part.done before × has first now part.sound part.done before

-- whichever bytes came before the part, the sink has these after them
abbrev pub HasNext : {S : Type 0} → (S → S → Sound → ℕ → List ℕ → Type 0) → SoundPart → S → S → List ℕ → Type 0
HasNext {S} has part old new bytes = (first : S) (before : List ℕ) → IsFed part.sound part.done before → has first old part.sound part.done before → has first new part.sound (part.done + part.bits) (before ++ bytes)

-- whichever bytes came before the part, the sink refused these after them
abbrev pub RefusesNext : {S : Type 0} → (S → S → Sound → ℕ → List ℕ → Type 0) → (S → S → Sound → List ℕ → StreamFault → Type 0) → SoundPart → S → S → List ℕ → StreamFault → Type 0
RefusesNext {S} has refused part old new bytes f = (first : S) (before : List ℕ) → IsFed part.sound part.done before → has first old part.sound part.done before → refused first new part.sound (before ++ bytes) f

-- ---- if a file was read to its end
-- the file is some sound in the surroundings, and the sink has its bytes
abbrev pub IsTakenOf : (Sound → ℕ → List ℕ → Type 0) → Surroundings → List ℕ → Type 0
IsTakenOf has o file = (sound : List ℕ) × IsPlacedIn o file sound × has o.sound o.sound.count sound

-- the surroundings describe what a file holds; the reader's file, if it is known, is some sound in them, and the sink
-- has the bytes of that sound
abbrev pub TakesFile : (Sound → ℕ → List ℕ → Type 0) → Option (List ℕ) → Surroundings → Type 0
TakesFile has left o = AreStated o × IfSome left (IsTakenOf has o)

-- the reader returned some bytes, which are some sound in the surroundings, and the sink has its bytes; this also holds
-- if the reader's bytes aren't known
abbrev pub TakesGiven : {R : Type 0} → (Sound → ℕ → List ℕ → Type 0) → (R → Option (List ℕ)) → Inlet R → Inlet R → Surroundings → Type 0
TakesGiven has left old new o = (read : List ℕ) × Reads left old new read × IsTakenOf has o read

-- the outline describes what a file holds; the inlet's file, if it is known, is some sound in it, and the sink has the
-- bytes of that sound
abbrev pub TakesOutline : {R : Type 0} → (Sound → ℕ → List ℕ → Type 0) → (R → Option (List ℕ)) → Inlet R → Outline → Type 0
TakesOutline has left old o = TakesFile has (left (inlet_reader old)) (around_of o)

-- the inlet returned some bytes, which are some sound in the outline, and the sink has its bytes; this also holds if
-- the inlet's bytes aren't known
abbrev pub GivesOutline : {R : Type 0} → (Sound → ℕ → List ℕ → Type 0) → (R → Option (List ℕ)) → Inlet R → Inlet R → Outline → Type 0
GivesOutline has left old new o = TakesGiven has left old new (around_of o)

-- ---- if it was not
-- the file describes this sound, whose bytes begin with these
pub record BeginsSound (s : Sound) (came file : List ℕ) : Type 0 where
  pub prefix : List ℕ
  pub rest : List ℕ
  pub file_is : file ≡ prefix ++ rest
  pub states : LeadsToSound prefix s
  pub more : List ℕ
  pub sound_is : drop s.start prefix ++ rest ≡ came ++ more

-- no byte of the sound came to the sink, which is unchanged
pub record NoneCame {S : Type 0} (left : Option (List ℕ)) (given_old given_new : ℕ) (old new : S) (f : StreamFault) : Type 0 where
  pub same : new ≡ old
  pub fault : IsOutlineFault left f
  pub none : StopsReading f → GivesNone left given_old given_new

-- the sink has the bytes that came, and the reading ended after them; if it stopped for a device, at most 65,536
-- further bytes of the sound were read
pub record ReadingEnds {S : Type 0} (left : Option (List ℕ)) (given : ℕ) (has : S → S → Sound → ℕ → List ℕ → Type 0) (old new : S) (s : Sound) (came : List ℕ) (f : StreamFault) : Type 0 where
  pub done : ℕ
  pub fed : IsFed s done came
  pub taken : has old new s done came
  pub fault : IsOutlineFault left f
  pub pace : StopsReading f → sound_given s given ≤ length came + 65536

-- the sink refused what came, with a fault of its own
pub record SinkRefuses {S : Type 0} (refused : S → S → Sound → List ℕ → StreamFault → Type 0) (old new : S) (s : Sound) (came : List ℕ) (f : StreamFault) : Type 0 where
  pub own : IsSinkFault f
  pub refuses : refused old new s came f

-- some bytes of the sound came to the sink, and no more
pub record SomeCame {S : Type 0} (left : Option (List ℕ)) (given_old given_new : ℕ) (has : S → S → Sound → ℕ → List ℕ → Type 0) (refused : S → S → Sound → List ℕ → StreamFault → Type 0) (old new : S) (f : StreamFault) : Type 0 where
  pub sound : Sound
  pub came : List ℕ
  pub few : length came ≤ sound.size
  pub begins : IfSome left (BeginsSound sound came)
  pub how : ReadingEnds left (given_new - given_old) has old new sound came f ⊎ SinkRefuses refused old new sound came f

-- the sink refused the file for a sound that begins with some bytes
abbrev pub RefusesFile : {S : Type 0} → (S → S → Sound → List ℕ → StreamFault → Type 0) → S → S → Type 0
RefusesFile refused old new = (s : Sound) × (came : List ℕ) × refused old new s came FileRefused

-- why a file is not taken to its end, and what the sink is then
abbrev pub StopsTaking : {S : Type 0} → (S → S → Sound → ℕ → List ℕ → Type 0) → (S → S → Sound → List ℕ → StreamFault → Type 0) → Option (List ℕ) → ℕ → ℕ → S → S → StreamFault → Type 0
StopsTaking has refused left given_old given_new old new f = NoneCame left given_old given_new old new f ⊎ SomeCame left given_old given_new has refused old new f

-- why an inlet's file is not taken to its end, and what the sink is then
abbrev pub StopsFile : {R S : Type 0} → (R → Option (List ℕ)) → (S → S → Sound → ℕ → List ℕ → Type 0) → (S → S → Sound → List ℕ → StreamFault → Type 0) → Inlet R → Inlet R → S → S → StreamFault → Type 0
StopsFile left has refused i j old new f = StopsTaking has refused (left (inlet_reader i)) (inlet_given i) (inlet_given j) old new f

-- ---- stages
-- the bytes of a part of a sound were read, and taken by a sink that had what came before
pub record TakesPart {R S : Type 0} (left : R → Option (List ℕ)) (has : S → S → Sound → ℕ → List ℕ → Type 0) (i j : Inlet R) (old new : S) (part : SoundPart) (ahead_old ahead_new : List ℕ) : Type 0 where
  pub passes : Passes left i j (sound_size part.sound.interleaving part.sound.channels part.bits) ahead_old ahead_new
  pub taken : HasNext has part old new passes.passed

-- the bytes of a part of a sound were read, and the sink refused them
pub record RefusesPart {R S : Type 0} (left : R → Option (List ℕ)) (has : S → S → Sound → ℕ → List ℕ → Type 0) (refused : S → S → Sound → List ℕ → StreamFault → Type 0) (i j : Inlet R) (old new : S) (part : SoundPart) (ahead_old ahead_new : List ℕ) (f : StreamFault) : Type 0 where
  pub passes : Passes left i j (sound_size part.sound.interleaving part.sound.channels part.bits) ahead_old ahead_new
  pub own : IsSinkFault f
  pub refuses : RefusesNext has refused part old new passes.passed f

-- n bytes were not read to their end; the sink is unchanged
pub record StopsBefore {R S : Type 0} (left : R → Option (List ℕ)) (i j : Inlet R) (old new : S) (n : ℕ) (ahead : List ℕ) (f : StreamFault) : Type 0 where
  pub same : new ≡ old
  pub fault : IsPassFault (left (inlet_reader i)) n ahead f
  pub pace : StopsReading f → inlet_given j + length ahead ≤ inlet_given i + n

-- a part was not taken, for one of these two reasons
abbrev pub StopsPart : {R S : Type 0} → (R → Option (List ℕ)) → (S → S → Sound → ℕ → List ℕ → Type 0) → (S → S → Sound → List ℕ → StreamFault → Type 0) → Inlet R → Inlet R → S → S → SoundPart → List ℕ → List ℕ → StreamFault → Type 0
StopsPart left has refused i j old new part ahead_old ahead_new f = StopsBefore left i j old new (sound_size part.sound.interleaving part.sound.channels part.bits) ahead_old f
    ⊎ RefusesPart left has refused i j old new part ahead_old ahead_new f

-- the first bytes of a sound were read, which are `bits` bits of each channel, and taken
pub record TakesSome {R S : Type 0} (left : R → Option (List ℕ)) (has : S → S → Sound → ℕ → List ℕ → Type 0) (s : Sound) (i j : Inlet R) (old new : S) (bits : ℕ) (ahead_old ahead_new : List ℕ) : Type 0 where
  pub passes : Passes left i j (sound_size s.interleaving s.channels bits) ahead_old ahead_new
  pub fed : IsFed s bits passes.passed
  pub taken : has old new s bits passes.passed

-- the reading ended in the sound, after what the sink has
pub record EndsInSound {R S : Type 0} (left : R → Option (List ℕ)) (has : S → S → Sound → ℕ → List ℕ → Type 0) (s : Sound) (i j : Inlet R) (old new : S) (came ahead : List ℕ) (f : StreamFault) : Type 0 where
  pub done : ℕ
  pub fed : IsFed s done came
  pub taken : has old new s done came
  pub fault : IsPassFault (left (inlet_reader i)) s.size ahead f
  pub pace : StopsReading f → inlet_given j + length ahead ≤ inlet_given i + (length came + 65536)

-- a sound was not taken to its end
pub record StopsSound {R S : Type 0} (left : R → Option (List ℕ)) (has : S → S → Sound → ℕ → List ℕ → Type 0) (refused : S → S → Sound → List ℕ → StreamFault → Type 0) (s : Sound) (i j : Inlet R) (old new : S) (ahead : List ℕ) (f : StreamFault) : Type 0 where
  pub came : List ℕ
  pub few : length came ≤ s.size
  pub begins : IfSome (left (inlet_reader i)) (λ xs. (more : List ℕ) × (ahead ++ xs ≡ came ++ more))
  pub how : EndsInSound left has s i j old new came ahead f ⊎ SinkRefuses refused old new s came f

-- the file ends before a part of its sound does; the sink is as it was
pub record EndsInPart {R S : Type 0} (left : R → Option (List ℕ)) (i j : Inlet R) (old new : S) (part : SoundPart) (ahead : List ℕ) : Type 0 where
  pub same : new ≡ old
  pub short : FallsShort left i j (sound_size part.sound.interleaving part.sound.channels part.bits) ahead

-- the file ends before its sound does: the reading ended so, and all that there is was read
pub record EndsShort {R S : Type 0} (left : R → Option (List ℕ)) (has : S → S → Sound → ℕ → List ℕ → Type 0) (refused : S → S → Sound → List ℕ → StreamFault → Type 0) (s : Sound) (i j : Inlet R) (old new : S) (ahead : List ℕ) : Type 0 where
  pub stops : StopsSound left has refused s i j old new ahead FileRefused
  pub short : FallsShort left i j s.size ahead

-- ---- from one state of a reader and a sink to a later one

-- if the result is true, the next part was read, and the sink took it
abbrev pub TakesRead : {R S : Type 0} → (R → Option (List ℕ)) → (S → S → Sound → ℕ → List ℕ → Type 0) → SoundReader R → SoundReader R → S → S → SoundPart → Bool → Type 0
TakesRead left has r q old new part full = full ≡ true → TakesPart left has r.inlet.now q.inlet.now old new part r.ahead.now.items q.ahead.now.items

-- if the result is false, the file ended before the part did
abbrev pub EndsInRead : {R S : Type 0} → (R → Option (List ℕ)) → SoundReader R → SoundReader R → S → S → SoundPart → Bool → Type 0
EndsInRead left r q old new part full = full ≡ false → EndsInPart left r.inlet.now q.inlet.now old new part r.ahead.now.items

-- if the fault is `FileRefused`, the next part was read, and the sink refused it
abbrev pub RefusesRead : {R S : Type 0} → (R → Option (List ℕ)) → (S → S → Sound → ℕ → List ℕ → Type 0) → (S → S → Sound → List ℕ → StreamFault → Type 0) → SoundReader R → SoundReader R → S → S → SoundPart → StreamFault → Type 0
RefusesRead left has refused r q old new part f = f ≡ FileRefused → RefusesPart left has refused r.inlet.now q.inlet.now old new part r.ahead.now.items q.ahead.now.items f

-- the next part was not taken, because of this fault
abbrev pub StopsRead : {R S : Type 0} → (R → Option (List ℕ)) → (S → S → Sound → ℕ → List ℕ → Type 0) → (S → S → Sound → List ℕ → StreamFault → Type 0) → SoundReader R → SoundReader R → S → S → SoundPart → StreamFault → Type 0
StopsRead left has refused r q old new part f = StopsPart left has refused r.inlet.now q.inlet.now old new part r.ahead.now.items q.ahead.now.items f

-- if the result is true, the whole sound was read, and the sink took it
abbrev pub TakesSound : {R S : Type 0} → (R → Option (List ℕ)) → (S → S → Sound → ℕ → List ℕ → Type 0) → Sound → SoundReader R → SoundReader R → S → S → Bool → Type 0
TakesSound left has s r q old new whole = whole ≡ true → TakesSome left has s r.inlet.now q.inlet.now old new s.count r.ahead.now.items q.ahead.now.items

-- if the result is false, the file ended before the sound did
abbrev pub CutsSound : {R S : Type 0} → (R → Option (List ℕ)) → (S → S → Sound → ℕ → List ℕ → Type 0) → (S → S → Sound → List ℕ → StreamFault → Type 0) → Sound → SoundReader R → SoundReader R → S → S → Bool → Type 0
CutsSound left has refused s r q old new whole = whole ≡ false → EndsShort left has refused s r.inlet.now q.inlet.now old new r.ahead.now.items

-- the sound was not taken to its end, because of this fault
abbrev pub BreaksOff : {R S : Type 0} → (R → Option (List ℕ)) → (S → S → Sound → ℕ → List ℕ → Type 0) → (S → S → Sound → List ℕ → StreamFault → Type 0) → Sound → SoundReader R → SoundReader R → S → S → StreamFault → Type 0
BreaksOff left has refused s r q old new f = StopsSound left has refused s r.inlet.now q.inlet.now old new r.ahead.now.items f
