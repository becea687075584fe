-- What a file holds besides its sound, and where that is.
use Rattle.std.specs.Prelude.{◌≡◌, ◌≢◌, ◌⊎◌, ℕ, ◌+◌, ◌%◌, ◌<◌, Bool, true, List, [], ◌++◌, drop, length, nat_lt, replicate, take, Option, Some, IfSome, ⊤}
use Rattle.std.specs.Io.KnownBytes.{IsAtEnd}
use Rattle.chunk_core.specs.Inlets.{inlet_reader}
use Rattle.chunk_core.specs.declared.inlet.Inlet.{Inlet}
use Rattle.dsd_bits.specs.declared.interleaving.Interleaving.{Interleaving}
use Rattle.dsd_bits.specs.declared.interleaving.Interleaving.TheVariants.{Bytes, Blocks}
use Rattle.dsd_bits.specs.declared.sound.Sound.{Sound}
use Rattle.dsd_bits.specs.Contents.{Content}
use Rattle.dsd_bits.specs.Sounds.{IsSound, sound_channels}
use Rattle.dsdiff_core.specs.Files.{IsDsdiff}
use Rattle.dsdiff_core.specs.Headers.{left_after}
use Rattle.dsf_core.specs.Fields.{stated_tag}
use Rattle.dsf_core.specs.Files.{IsDsf}
use Rattle.sound_core.specs.Files.{IsRefused, LeadsToSound}
use Rattle.sound_core.specs.Reads.{Reads}
use Rattle.sound_core.specs.declared.fault.StreamFault.{StreamFault}
use Rattle.sound_core.specs.declared.fault.StreamFault.TheVariants.{FileRefused, ReadFailed, TurnLimit, Memory}
use Rattle.sound_core.specs.declared.outline.AfterSound.{AfterSound}
use Rattle.sound_core.specs.declared.outline.Outline.{Outline}
use Rattle.sound_core.specs.declared.reader.SoundReader.{SoundReader}

-- the bytes around a sound, and what they say
pub record Surroundings : Type 0 where
  pub sound : Sound
  pub head : List ℕ
  pub gap : ℕ
  pub back : List ℕ
  pub ends : Bool
  pub recording : Content

-- the surroundings of an outline in memory
abbrev pub around_of : Outline → Surroundings
around_of o = record {
  sound = o.sound;
  head = o.head.items;
  gap = o.gap;
  back = o.back.items;
  ends = o.ends;
  recording = o.recording;
}

-- the file holds this recording: a DSDIFF file if the sound is in frames, or a DSF file whose blocks have their bits in
-- this order
abbrev pub HoldsIn : Interleaving → List ℕ → Content → Type 0
HoldsIn Bytes file r = IsDsdiff file r
HoldsIn (Blocks order) file r = IsDsf file r order

-- the recording with the channels in these sound bytes
abbrev pub with_sound : Content → Sound → List ℕ → Content
with_sound r s bytes = record r { channels = sound_channels s.interleaving s.channels s.count bytes }

-- the file is these sound bytes in their surroundings: the head, the sound, a gap whose bytes do not matter, what was
-- kept after it, and any further bytes if the file need not end there
pub record IsPlacedIn (o : Surroundings) (file sound : List ℕ) : Type 0 where
  pub gap : List ℕ
  pub rest : List ℕ
  pub file_is : file ≡ o.head ++ (sound ++ (gap ++ (o.back ++ rest)))
  pub sound_long : length sound ≡ o.sound.size
  pub gap_long : length gap ≡ o.gap
  pub ended : o.ends ≡ true → rest ≡ []

-- what is kept of the bytes after a file's sound: the rest of a DSDIFF form, or all of them if they are fewer, and then
-- the file ends after them; or the tag of a DSF file, which ends after it
abbrev pub KeepsAfter : Interleaving → Surroundings → List ℕ → Type 0
KeepsAfter Bytes o file = (o.gap ≡ 0) × (o.back ≡ take (left_after o.head o.sound.size) (drop (o.sound.start + o.sound.size) file)) × (o.ends ≡ nat_lt (length (drop (o.sound.start + o.sound.size) file)) (left_after o.head o.sound.size))
KeepsAfter (Blocks order) o file = (o.back ≡ stated_tag file) × (o.ends ≡ true)

-- the surroundings describe every file that is some sound in them: what is kept of it after its sound, and the
-- recording that it holds, with the channels of that sound
pub record AreStated (o : Surroundings) : Type 0 where
  pub states : LeadsToSound o.head o.sound
  pub start : o.sound.start ≡ length o.head
  pub is_sound : IsSound o.sound
  pub whole : o.sound.interleaving ≡ Bytes → o.sound.count % 8 ≡ 0
  pub silent : o.recording.channels ≡ replicate o.sound.channels []
  pub keeps : (file sound : List ℕ) → IsPlacedIn o file sound → KeepsAfter o.sound.interleaving o file
  pub holds : (file sound : List ℕ) → IsPlacedIn o file sound → HoldsIn o.sound.interleaving file (with_sound o.recording o.sound sound)

-- the file is some sound in the surroundings
abbrev pub AreAround : Surroundings → List ℕ → Type 0
AreAround o file = (sound : List ℕ) × IsPlacedIn o file sound

-- ---- stages

-- after a sound, the file was read to its end, and its tag was kept: the bytes from `place` on, or none if that is 0
pub record ReadsTag {R : Type 0} (left : R → Option (List ℕ)) (old new : Inlet R) (place stop : ℕ) (back_old back_new : List ℕ) (gap : ℕ) : Type 0 where
  pub passed : List ℕ
  pub read : List ℕ
  pub reads : Reads left old new read
  pub at_end : IsAtEnd (left (inlet_reader new))
  pub parts : back_old ++ read ≡ passed ++ back_new
  pub long : length passed ≡ gap
  pub none : place ≡ 0 → back_new ≡ []
  pub at_place : place ≢ 0 → stop + gap ≡ place

-- the tag would begin before the end of the sound, or after the end of the file, up to which all was read
pub record StopsAtTag {R : Type 0} (left : R → Option (List ℕ)) (old new : Inlet R) (place stop : ℕ) (back : List ℕ) : Type 0 where
  pub read : List ℕ
  pub reads : Reads left old new read
  pub some : place ≢ 0
  pub how : (place < stop) ⊎ ((stop + length (back ++ read) < place) × IsAtEnd (left (inlet_reader new)))

-- a fault where a tag is read: `FileRefused` if the tag would begin before the end of the sound or after that of the
-- file, or a fault of reading
abbrev pub IsTagFault : Option (List ℕ) → ℕ → ℕ → List ℕ → StreamFault → Type 0
IsTagFault left_old place stop back FileRefused = IfSome left_old (λ left. (place ≢ 0) × ((place < stop) ⊎ (stop + length (back ++ left) < place)))
IsTagFault left_old place stop back ReadFailed = ⊤
IsTagFault left_old place stop back TurnLimit = ⊤
IsTagFault left_old place stop back Memory = ⊤
IsTagFault left_old place stop back _ = ⊥

-- the surroundings of a sound with this head and these bytes after it
abbrev pub with_ends : Sound → List ℕ → List ℕ → AfterSound → Surroundings
with_ends s head back b = record { sound = s; head = head; gap = b.gap; back = back; ends = b.ends; recording = b.recording }

-- after a head, a sound and the bytes in `back`, the rest of the file was read as far as it matters: the surroundings
-- describe the file, whichever bytes the sound has
pub record Surrounds {R : Type 0} (left : R → Option (List ℕ)) (old new : Inlet R) (back : List ℕ) (o : Surroundings) : Type 0 where
  pub read : List ℕ
  pub reads : Reads left old new read
  pub stated : AreStated o
  pub given : (sound : List ℕ) → length sound ≡ o.sound.size → IsPlacedIn o (o.head ++ (sound ++ (back ++ read))) sound
  pub stands : (sound rest : List ℕ) → length sound ≡ o.sound.size → left (inlet_reader new) ≡ Some rest → IsPlacedIn o (o.head ++ (sound ++ (back ++ (read ++ rest)))) sound

-- a fault where the rest of a file is read: `FileRefused` if the file holds no recording, whichever bytes the sound
-- has, or a fault of reading
abbrev pub IsRestFault : Option (List ℕ) → Sound → List ℕ → List ℕ → StreamFault → Type 0
IsRestFault left_old s head back FileRefused = IfSome left_old (λ left. (sound : List ℕ) → length sound ≡ s.size → IsRefused (head ++ (sound ++ (back ++ left))))
IsRestFault left_old s head back ReadFailed = ⊤
IsRestFault left_old s head back TurnLimit = ⊤
IsRestFault left_old s head back Memory = ⊤
IsRestFault left_old s head back _ = ⊥

-- ---- from one state of a reader to a later one

-- the file was read to its end, and the buffer is its tag, `gap` bytes after the sound, or is empty if it has none
abbrev pub BuffersTag : {R : Type 0} → (R → Option (List ℕ)) → SoundReader R → SoundReader R → ℕ → ℕ → ℕ → Type 0
BuffersTag left old new place stop gap = ReadsTag left old.inlet.now new.inlet.now place stop old.ahead.now.items new.ahead.now.items gap

-- if the fault is `FileRefused`, the tag would begin before the end of the sound, or after that of the file
abbrev pub MissesTag : {R : Type 0} → (R → Option (List ℕ)) → SoundReader R → SoundReader R → ℕ → ℕ → StreamFault → Type 0
MissesTag left old new place stop f = f ≡ FileRefused → StopsAtTag left old.inlet.now new.inlet.now place stop old.ahead.now.items

-- a fault where a reader reads the tag
abbrev pub IsFaultAtTag : {R : Type 0} → (R → Option (List ℕ)) → SoundReader R → ℕ → ℕ → StreamFault → Type 0
IsFaultAtTag left old place stop f = IsTagFault (left (inlet_reader old.inlet.now)) place stop old.ahead.now.items f

-- the rest of the file was read after its sound, and the buffer is what is kept of it
abbrev pub BuffersRest : {R : Type 0} → (R → Option (List ℕ)) → SoundReader R → SoundReader R → Sound → List ℕ → AfterSound → Type 0
BuffersRest left old new s head b = Surrounds left old.inlet.now new.inlet.now old.ahead.now.items (with_ends s head new.ahead.now.items b)

-- the rest of the file was read after this head and sound, and the outline is that of the file
abbrev pub OutlinesRest : {R : Type 0} → (R → Option (List ℕ)) → SoundReader R → SoundReader R → Sound → List ℕ → Outline → Type 0
OutlinesRest left old new s head o = (o.sound ≡ s) × (o.head.items ≡ head) × Surrounds left old.inlet.now new.inlet.now old.ahead.now.items (around_of o)

-- a fault where a reader reads the rest of a file after its sound
abbrev pub IsFaultAfter : {R : Type 0} → (R → Option (List ℕ)) → SoundReader R → Sound → List ℕ → StreamFault → Type 0
IsFaultAfter left old s head f = IsRestFault (left (inlet_reader old.inlet.now)) s head old.ahead.now.items f

-- ---- the whole file

-- the surroundings describe what a file holds, and the reader's file, if it is known, is some sound in them
abbrev pub SurroundsFile : Option (List ℕ) → Surroundings → Type 0
SurroundsFile left_old o = AreStated o × IfSome left_old (AreAround o)

-- the reader returned some bytes, as many as were counted, which are some sound in the surroundings; this also holds if
-- its bytes aren't known
abbrev pub SurroundsGiven : {R : Type 0} → (R → Option (List ℕ)) → Inlet R → Inlet R → Surroundings → Type 0
SurroundsGiven left old new o = (read : List ℕ) × Reads left old new read × AreAround o read

-- a fault where a whole file is read: `FileRefused` if it holds no recording, or a fault of reading
abbrev pub IsOutlineFault : Option (List ℕ) → StreamFault → Type 0
IsOutlineFault left_old FileRefused = IfSome left_old IsRefused
IsOutlineFault left_old ReadFailed = ⊤
IsOutlineFault left_old TurnLimit = ⊤
IsOutlineFault left_old Memory = ⊤
IsOutlineFault left_old _ = ⊥
