-- How far what is written may lag what was read.
use Rattle.std.specs.Prelude.{◌≡◌, ℕ, ◌+◌, ◌-◌, ◌*◌, ◌/◌, ◌<◌, ◌≤◌, List, ◌++◌, length, Option, IfSome, Err}
use Rattle.std.specs.Io.KnownBytes.{Appends}
use Rattle.dsd_bits.specs.declared.sound.Sound.{Sound}
use Rattle.fir_core.specs.Decimator.{Decimator}
use Rattle.player_core.specs.Groups.{place_in}
use Rattle.player_core.specs.Ranges.{HasFrame}
use Rattle.player_core.specs.declared.range.WaveRange.{WaveRange}
use Rattle.wave_core.specs.Heads.{header_size_in}
use Rattle.wave_core.specs.Sizes.{block_align}
use Rattle.sound_core.specs.Files.{LeadsToSound}
use Rattle.sound_core.specs.Sinks.{sound_given}
use Rattle.player_core.specs.Playing.{PlaysBy, Applies, WritesPrefix}
use Rattle.chunk_core.specs.Inlets.{inlet_given, inlet_reader}
use Rattle.chunk_core.specs.Outlets.{outlet_failures, outlet_writer}
use Rattle.chunk_core.specs.declared.inlet.Inlet.{Inlet}
use Rattle.chunk_core.specs.declared.outlet.Outlet.{Outlet}
use Rattle.sound_core.specs.Faults.{IsBeforeWriting, StopsReading, failed_writes}
use Rattle.sound_core.specs.declared.fault.StreamFault.{StreamFault}

-- the first n bytes of the sound hold bit i of every channel
abbrev pub IsWithinBytes : Sound → ℕ → ℕ → Type 0
IsWithinBytes s n i = (c : ℕ) → c < s.channels → place_in s.interleaving s.channels c (i / 8) < n

-- the first `size` bytes of the WAVE file of a range hold its header, and each of its frames whose place is in the first
-- n bytes of the sound
pub record HoldsFrames (d : Decimator) (s : Sound) (range : WaveRange) (n size : ℕ) : Type 0 where
  pub header : header_size_in range.head s.channels d.width ≤ size
  pub frames : (j : ℕ) → HasFrame range j → IsWithinBytes s n (j * d.factor + d.delay) → header_size_in range.head s.channels d.width + (j + 1 - range.start) * block_align s.channels d.width ≤ size

-- a prefix of these bytes was written that holds them
abbrev pub WritesFrames : Decimator → Sound → WaveRange → ℕ → List ℕ → Option (List ℕ) → Option (List ℕ) → Type 0
WritesFrames d s range n bytes held_old held_new = (prefix : List ℕ) × (back : List ℕ) × (bytes ≡ prefix ++ back) × Appends held_old held_new prefix × HoldsFrames d s range n (length prefix)

-- if more than 131,072 bytes of the sound of a file that can be played were read, what was written lags by at most that
-- many: it holds the header, and each frame of the range whose place is in the bytes before
abbrev pub KeepsUpBy : Option (List ℕ) → Decimator → WaveRange → ℕ → Option (List ℕ) → Option (List ℕ) → Type 0
KeepsUpBy left d range given held_old held_new = IfSome left (λ file. (bytes : List ℕ) (s : Sound) → PlaysBy d range file bytes → LeadsToSound file s → 131072 < sound_given s given
    → WritesFrames d s range (sound_given s given - 131072) bytes held_old held_new)

-- if this fault stops the reading, what was written lags what was read by at most 131,072 bytes of the sound, as
-- `KeepsUpBy` says
abbrev pub Lags : {R W : Type 0} → (R → Option (List ℕ)) → (W → Option (List ℕ)) → Decimator → WaveRange → Inlet R → Inlet R → Outlet W → Outlet W → StreamFault → Type 0
Lags left held d range inlet_old inlet_new old new f = StopsReading f
    → KeepsUpBy (left (inlet_reader inlet_old)) d range (inlet_given inlet_new - inlet_given inlet_old) (held (outlet_writer old)) (held (outlet_writer new))

-- ---- stages

-- why a file is not played to its end: a fault applies, and a prefix of what it plays was written, which keeps up with
-- the reading
pub record PlayFails {W : Type 0} (held : W → Option (List ℕ)) (left : Option (List ℕ)) (d : Decimator) (range : WaveRange) (given : ℕ) (old new : Outlet W) (f : StreamFault) : Type 0 where
  pub fault : IfSome left (λ file. Applies d range file f)
  pub unwritten : IsBeforeWriting f → outlet_writer new ≡ outlet_writer old
  pub prefix : WritesPrefix left (PlaysBy d range) (held (outlet_writer old)) (held (outlet_writer new))
  pub keeps_up : StopsReading f → KeepsUpBy left d range given (held (outlet_writer old)) (held (outlet_writer new))
  pub failures : outlet_failures new ≡ outlet_failures old + failed_writes {X = Unit {0}} (Err f)
