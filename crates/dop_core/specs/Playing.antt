-- What is played of a reader's file as DoP samples, and which faults apply.
use Rattle.std.specs.Prelude.{◌≡◌, ◌≢◌, ℕ, ◌+◌, ◌-◌, ◌*◌, ◌%◌, ◌<◌, ◌≤◌, ◌^◌, List, ◌++◌, length, Option, IfSome, ⊤}
use Rattle.std.specs.Io.KnownBytes.{Appends}
use Rattle.chunk_core.specs.Inlets.{inlet_given, inlet_reader}
use Rattle.chunk_core.specs.Outlets.{AppendsPrefix, outlet_writer}
use Rattle.chunk_core.specs.declared.inlet.Inlet.{Inlet}
use Rattle.chunk_core.specs.declared.outlet.Outlet.{Outlet}
use Rattle.dsd_bits.specs.Channels.{count_of}
use Rattle.dsd_bits.specs.Contents.{Content}
use Rattle.dsd_bits.specs.declared.sound.Sound.{Sound}
use Rattle.dsd_bits.specs.Sounds.{sound_size}
use Rattle.sound_core.specs.Faults.{IsFromOutside, StopsReading}
use Rattle.sound_core.specs.Files.{HoldsRecording, IsRefused, LeadsToSound}
use Rattle.sound_core.specs.Reads.{Reads}
use Rattle.sound_core.specs.Sinks.{sound_given}
use Rattle.sound_core.specs.declared.fault.StreamFault.{StreamFault}
use Rattle.sound_core.specs.declared.fault.StreamFault.TheVariants.{FileRefused, RateNotDivided, TooLarge, ReadFailed, WriteFailed, TurnLimit, Memory}
use Rattle.dop_core.specs.Writing.{FitsDop, dop_riff_size, dop_text, frames_of}

-- the file holds a recording whose rate 16 divides, and these bytes are the WAVE file of its bits, whose sizes fit
pub record PlaysDop (file bytes : List ℕ) : Type 0 where
  pub recording : Content
  pub file_holds : HoldsRecording file recording
  pub divided : recording.rate % 16 ≡ 0
  pub fits : FitsDop (length recording.channels) (count_of recording.channels)
  pub text : bytes ≡ dop_text recording.rate recording.channels

-- the prefix of the file describes a sound of which this is so
pub record HasSoundThat (P : Sound → Type 0) (file : List ℕ) : Type 0 where
  pub prefix : List ℕ
  pub rest : List ℕ
  pub sound : Sound
  pub file_is : file ≡ prefix ++ rest
  pub states : LeadsToSound prefix sound
  pub is_so : P sound

-- 16 does not divide the rate
abbrev pub IsNotDivided : Sound → Type 0
IsNotDivided s = s.rate % 16 ≢ 0

-- 16 divides the rate, and the sizes don't fit
abbrev pub IsTooLarge : Sound → Type 0
IsTooLarge s = (s.rate % 16 ≡ 0) × (2 ^ 32 ≤ dop_riff_size s.channels s.count)

-- this fault applies; a device, the number of reads and memory don't depend on the file
abbrev pub DopApplies : List ℕ → StreamFault → Type 0
DopApplies file FileRefused = IsRefused file
DopApplies file RateNotDivided = HasSoundThat IsNotDivided file
DopApplies file TooLarge = HasSoundThat IsTooLarge file
DopApplies file ReadFailed = ⊤
DopApplies file WriteFailed = ⊤
DopApplies file TurnLimit = ⊤
DopApplies file Memory = ⊤

-- this fault applies to the reader's file, if that is known
abbrev pub DopAppliesBy : Option (List ℕ) → StreamFault → Type 0
DopAppliesBy left f = IfSome left (λ file. DopApplies file f)

-- a file that can be played is refused only for memory, a device or the number of reads
abbrev pub DopOnlyFromOutsideBy : Option (List ℕ) → StreamFault → Type 0
DopOnlyFromOutsideBy left f = IfSome left (λ file. (bytes : List ℕ) → PlaysDop file bytes → IsFromOutside f)

-- a prefix of these bytes was written: the header, and the samples of the first bits of each channel, which have at least
-- n bytes of the sound
pub record WritesSamples (s : Sound) (n : ℕ) (bytes : List ℕ) (held_old held_new : Option (List ℕ)) : Type 0 where
  pub prefix : List ℕ
  pub back : List ℕ
  pub parts : bytes ≡ prefix ++ back
  pub written : Appends held_old held_new prefix
  pub done : ℕ
  pub near : n ≤ sound_size s.interleaving s.channels done
  pub size : length prefix ≡ 68 + frames_of done * (3 * s.channels)

-- if more than 65,536 bytes of the sound of a file that can be played were read, what was written lags by at most that
-- many: it holds the header, and the samples of the bytes before
abbrev pub DopKeepsUpBy : Option (List ℕ) → ℕ → Option (List ℕ) → Option (List ℕ) → Type 0
DopKeepsUpBy left given held_old held_new = IfSome left (λ file. (bytes : List ℕ) (s : Sound) → PlaysDop file bytes → LeadsToSound file s → 65536 < sound_given s given
    → WritesSamples s (sound_given s given - 65536) bytes held_old held_new)

-- n bytes were written, which are what the reader's file plays, if that is known
abbrev pub DopPlaysFile : Option (List ℕ) → Option (List ℕ) → Option (List ℕ) → ℕ → Type 0
DopPlaysFile left held_old held_new n = IfSome left (λ file. (bytes : List ℕ) × PlaysDop file bytes × (n ≡ length bytes) × Appends held_old held_new bytes)

-- the reader returned some bytes, and what they play was written; this also holds if its bytes aren't known
abbrev pub DopPlaysGiven : {R : Type 0} → (R → Option (List ℕ)) → Inlet R → Inlet R → Option (List ℕ) → Option (List ℕ) → ℕ → Type 0
DopPlaysGiven left old new held_old held_new n = (read : List ℕ) × (bytes : List ℕ) × Reads left old new read × PlaysDop read bytes × (n ≡ length bytes) × Appends held_old held_new bytes

-- a prefix of whatever the file plays was written
abbrev pub DopWritesPrefix : Option (List ℕ) → Option (List ℕ) → Option (List ℕ) → Type 0
DopWritesPrefix left held_old held_new = IfSome left (λ file. (bytes : List ℕ) → PlaysDop file bytes → AppendsPrefix held_old held_new bytes)

-- ---- from an inlet to an outlet

-- what the inlet's file plays was written to the outlet, if the file is known
abbrev pub DopPlaysTo : {R W : Type 0} → (R → Option (List ℕ)) → (W → Option (List ℕ)) → Inlet R → Outlet W → Outlet W → ℕ → Type 0
DopPlaysTo left held inlet old new = DopPlaysFile (left (inlet_reader inlet)) (held (outlet_writer old)) (held (outlet_writer new))

-- what the bytes play that were read from the inlet was written to the outlet
abbrev pub DopPlaysReadTo : {R W : Type 0} → (R → Option (List ℕ)) → (W → Option (List ℕ)) → Inlet R → Inlet R → Outlet W → Outlet W → ℕ → Type 0
DopPlaysReadTo left held inlet_old inlet_new old new = DopPlaysGiven left inlet_old inlet_new (held (outlet_writer old)) (held (outlet_writer new))

-- a prefix of whatever the inlet's file plays was written to the outlet
abbrev pub DopWritesPrefixTo : {R W : Type 0} → (R → Option (List ℕ)) → (W → Option (List ℕ)) → Inlet R → Outlet W → Outlet W → Type 0
DopWritesPrefixTo left held inlet old new = DopWritesPrefix (left (inlet_reader inlet)) (held (outlet_writer old)) (held (outlet_writer new))

-- if this fault stops the reading, what was written lags what was read by at most 65,536 bytes of the sound
abbrev pub DopLags : {R W : Type 0} → (R → Option (List ℕ)) → (W → Option (List ℕ)) → Inlet R → Inlet R → Outlet W → Outlet W → StreamFault → Type 0
DopLags left held inlet_old inlet_new old new f = StopsReading f
    → DopKeepsUpBy (left (inlet_reader inlet_old)) (inlet_given inlet_new - inlet_given inlet_old) (held (outlet_writer old)) (held (outlet_writer new))
