-- What is played of a reader's file, and which faults apply.
use Rattle.std.specs.Prelude.{◌≡◌, ◌≢◌, ℕ, ◌-◌, ◌*◌, ◌/◌, ◌%◌, ◌≤◌, ◌⊎◌, List, ◌++◌, length, slice_range, Option, Some, None, IfSome, ⊤}
use Rattle.std.specs.Io.KnownBytes.{Appends}
use Rattle.chunk_core.specs.Inlets.{inlet_reader}
use Rattle.chunk_core.specs.Outlets.{AppendsPrefix, outlet_writer}
use Rattle.chunk_core.specs.declared.inlet.Inlet.{Inlet}
use Rattle.chunk_core.specs.declared.outlet.Outlet.{Outlet}
use Rattle.dsd_bits.specs.declared.interleaving.Interleaving.TheVariants.{Bytes}
use Rattle.dsd_bits.specs.declared.sound.Sound.{Sound}
use Rattle.dsd_bits.specs.Contents.{Content}
use Rattle.dsd_bits.specs.Sounds.{HasSound, IsSound, sound_bytes}
use Rattle.fir_core.specs.Decimator.{Decimator}
use Rattle.player_core.specs.Frames.{frame_count, frames}
use Rattle.player_core.specs.Laws.{total_frames}
use Rattle.player_core.specs.Parts.{part_file}
use Rattle.player_core.specs.Ranges.{IsInside, IsOutside, number_of, stop_of, whole_range}
use Rattle.player_core.specs.Samples.{pcm}
use Rattle.player_core.specs.declared.range.WaveRange.{WaveRange}
use Rattle.wave_core.specs.Contents.{Pcm}
use Rattle.wave_core.specs.Heads.{FitsIn, limit_of, size_in, text_in}
use Rattle.wave_core.specs.declared.head.WaveHead.{WaveHead}
use Rattle.sound_core.specs.Faults.{IsFromOutside}
use Rattle.sound_core.specs.Files.{HoldsRecording, IsRefused, LeadsToSound}
use Rattle.sound_core.specs.Readers.{CanFail, RunsOut}
use Rattle.sound_core.specs.Reads.{Reads}
use Rattle.sound_core.specs.declared.fault.StreamFault.{StreamFault}
use Rattle.sound_core.specs.declared.fault.StreamFault.TheVariants.{FileRefused, RateNotDivided, TooLarge, ReadFailed, WriteFailed, TurnLimit, Memory}

-- the samples of the frames of a recording from one on, up to another that is not among them: a slice of those of all
-- its frames
abbrev pub part_pcm : Content → Decimator → ℕ → ℕ → Pcm
part_pcm r d start stop = record {
  channels = length r.channels;
  rate = r.rate / d.factor;
  width = d.width;
  samples = slice_range (frames d r.channels) (start * length r.channels) (stop * length r.channels);
}

-- the samples of a range of a recording's frames
abbrev pub range_pcm : Content → Decimator → WaveRange → Pcm
range_pcm r d range = part_pcm r d range.start (stop_of range (frame_count d r.channels))

-- the file holds a recording that has these frames, whose rate the factor divides, and these bytes are the text of a
-- WAVE file of their samples
pub record PlaysBy (d : Decimator) (range : WaveRange) (file bytes : List ℕ) : Type 0 where
  pub recording : Content
  pub file_holds : HoldsRecording file recording
  pub rate_divided : recording.rate % d.factor ≡ 0
  pub inside : IsInside range (frame_count d recording.channels)
  pub text : text_in range.head (range_pcm recording d range) ≡ Some bytes

-- the prefix of the file describes a sound that lacks frames of the range
pub record IsOutsideOf (d : Decimator) (range : WaveRange) (file : List ℕ) : Type 0 where
  pub prefix : List ℕ
  pub rest : List ℕ
  pub sound : Sound
  pub file_is : file ≡ prefix ++ rest
  pub states : LeadsToSound prefix sound
  pub outside : IsOutside range (total_frames d sound)

-- some sound lacks frames of the range
abbrev pub IsLackedBySome : Decimator → WaveRange → Type 0
IsLackedBySome d range = (s : Sound) × IsOutside range (total_frames d s)

-- the prefix of the file describes a sound whose rate the factor does not divide
pub record IsNotDivided (d : Decimator) (file : List ℕ) : Type 0 where
  pub prefix : List ℕ
  pub rest : List ℕ
  pub sound : Sound
  pub file_is : file ≡ prefix ++ rest
  pub states : LeadsToSound prefix sound
  pub not_divided : sound.rate % d.factor ≢ 0

-- the prefix of the file describes a sound with these frames whose rate the factor divides, and the sizes of their WAVE
-- file do not fit
pub record IsTooLarge (d : Decimator) (range : WaveRange) (file : List ℕ) : Type 0 where
  pub prefix : List ℕ
  pub rest : List ℕ
  pub sound : Sound
  pub file_is : file ≡ prefix ++ rest
  pub states : LeadsToSound prefix sound
  pub inside : IsInside range (total_frames d sound)
  pub divided : sound.rate % d.factor ≡ 0
  pub large : limit_of range.head ≤ size_in range.head sound.channels d.width (number_of range (total_frames d sound))

-- this fault applies; a device, the number of reads and memory don't depend on the file
abbrev pub Applies : Decimator → WaveRange → List ℕ → StreamFault → Type 0
Applies d range file FileRefused = IsRefused file ⊎ IsOutsideOf d range file
Applies d range file RateNotDivided = IsNotDivided d file
Applies d range file TooLarge = IsTooLarge d range file
Applies d range file ReadFailed = ⊤
Applies d range file WriteFailed = ⊤
Applies d range file TurnLimit = ⊤
Applies d range file Memory = ⊤

-- this fault applies to the reader's file, if that is known
abbrev pub AppliesBy : Option (List ℕ) → Decimator → WaveRange → StreamFault → Type 0
AppliesBy left d range f = IfSome left (λ file. Applies d range file f)

-- why playing reaches its limit: no further failure of the outlet can be counted, or the reads run out
abbrev pub IsLimited : {R W : Type 0} → Outlet W → Inlet R → Inlet R → Type 0
IsLimited outlet inlet_old inlet_new = (CanFail outlet → ⊥) ⊎ RunsOut inlet_old inlet_new

-- a file that can be played is refused only for memory, a device or the number of reads
abbrev pub OnlyFromOutsideBy : Option (List ℕ) → Decimator → WaveRange → StreamFault → Type 0
OnlyFromOutsideBy left d range f = IfSome left (λ file. (bytes : List ℕ) → PlaysBy d range file bytes → IsFromOutside f)

-- ---- laws

-- all frames of a recording are all that is played of it, and no sound lacks any of them
pub record WholeIsAll : Type 0 where
  pub samples : (r : Content) (d : Decimator) → range_pcm r d whole_range ≡ pcm r d
  pub inside : (d : Decimator) (file : List ℕ) → IsOutsideOf d whole_range file → ⊥
  pub lacked : (d : Decimator) → IsLackedBySome d whole_range → ⊥

-- what is played of a part of a recording in a file: the WAVE file around the bytes of the part's frames, or nothing
-- where its sizes are too large
pub record IsPartPlayed (file : List ℕ) (r : Content) (s : Sound) (head : WaveHead) (d : Decimator) (start stop : ℕ) : Type 0 where
  pub whole : FitsIn head s.channels d.width (stop - start) → text_in head (part_pcm r d start stop) ≡ Some (part_file head d s start stop (sound_bytes file s))
  pub too_large : limit_of head ≤ size_in head s.channels d.width (stop - start) → text_in head (part_pcm r d start stop) ≡ None

-- the part of the sound of a recording in a file is all that is played of that part
abbrev pub PartIsPlayed : Type 0
PartIsPlayed = (file : List ℕ) (r : Content) (s : Sound) (head : WaveHead) (d : Decimator) (start stop : ℕ) → HasSound file r s → IsSound s → (s.interleaving ≡ Bytes → s.count % 8 ≡ 0) → 8 ≤ d.factor → start ≤ stop → stop ≤ total_frames d s → IsPartPlayed file r s head d start stop

-- ---- whatever it is that says what a file plays

-- n bytes were written, and are what the reader's file plays, if it is known
abbrev pub PlaysFile : Option (List ℕ) → (List ℕ → List ℕ → Type 0) → Option (List ℕ) → Option (List ℕ) → ℕ → Type 0
PlaysFile left Plays held_old held_new n = IfSome left (λ file. (bytes : List ℕ) × Plays file bytes × (n ≡ length bytes) × Appends held_old held_new bytes)

-- the reader returned some bytes, and what they play was written; this also holds if its bytes aren't known
abbrev pub PlaysGiven : {R : Type 0} → (R → Option (List ℕ)) → Inlet R → Inlet R → (List ℕ → List ℕ → Type 0) → Option (List ℕ) → Option (List ℕ) → ℕ → Type 0
PlaysGiven left old new Plays held_old held_new n = (read : List ℕ) × (bytes : List ℕ) × Reads left old new read × Plays read bytes × (n ≡ length bytes) × Appends held_old held_new bytes

-- a prefix of whatever the file plays was written
abbrev pub WritesPrefix : Option (List ℕ) → (List ℕ → List ℕ → Type 0) → Option (List ℕ) → Option (List ℕ) → Type 0
WritesPrefix left Plays held_old held_new = IfSome left (λ file. (bytes : List ℕ) → Plays file bytes → AppendsPrefix held_old held_new bytes)

-- ---- what is played from an inlet to an outlet

-- what the inlet's file plays was written to the outlet, if the file is known
abbrev pub PlaysTo : {R W : Type 0} → (R → Option (List ℕ)) → (W → Option (List ℕ)) → (List ℕ → List ℕ → Type 0) → Inlet R → Outlet W → Outlet W → ℕ → Type 0
PlaysTo left held Plays inlet old new = PlaysFile (left (inlet_reader inlet)) Plays (held (outlet_writer old)) (held (outlet_writer new))

-- what the bytes play that were read from the inlet was written to the outlet; this also holds if its bytes aren't
-- known
abbrev pub PlaysReadTo : {R W : Type 0} → (R → Option (List ℕ)) → (W → Option (List ℕ)) → (List ℕ → List ℕ → Type 0) → Inlet R → Inlet R → Outlet W → Outlet W → ℕ → Type 0
PlaysReadTo left held Plays inlet_old inlet_new old new = PlaysGiven left inlet_old inlet_new Plays (held (outlet_writer old)) (held (outlet_writer new))

-- a prefix of whatever the inlet's file plays was written to the outlet
abbrev pub WritesPrefixTo : {R W : Type 0} → (R → Option (List ℕ)) → (W → Option (List ℕ)) → (List ℕ → List ℕ → Type 0) → Inlet R → Outlet W → Outlet W → Type 0
WritesPrefixTo left held Plays inlet old new = WritesPrefix (left (inlet_reader inlet)) Plays (held (outlet_writer old)) (held (outlet_writer new))
