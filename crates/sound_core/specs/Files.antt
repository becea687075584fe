-- The files that are read: what they hold, and what their first bytes, the prefix, say.
use Rattle.std.specs.Prelude.{◌≡◌, ℕ, ◌+◌, ◌%◌, ◌≤◌, ◌⊎◌, List, ◌++◌, length, Option, IfSome, ⊤}
use Rattle.chunk_core.specs.Inlets.{inlet_given, inlet_reader}
use Rattle.chunk_core.specs.declared.inlet.Inlet.{Inlet}
use Rattle.dsd_bits.specs.declared.blocks.BitOrder.{BitOrder}
use Rattle.dsd_bits.specs.declared.interleaving.Interleaving.{Interleaving}
use Rattle.dsd_bits.specs.declared.interleaving.Interleaving.TheVariants.{Bytes, Blocks}
use Rattle.dsd_bits.specs.declared.sound.Sound.{Sound}
use Rattle.dsd_bits.specs.Contents.{Content}
use Rattle.dsd_bits.specs.Sounds.{HasSound, IsSound}
use Rattle.dsdiff_core.specs.Files.{IsDsdiff}
use Rattle.dsdiff_core.specs.Headers as dsdiff
use Rattle.dsf_core.specs.Files.{IsDsf}
use Rattle.dsf_core.specs.Headers as dsf
use Rattle.sound_core.specs.Faults.{StopsReading}
use Rattle.sound_core.specs.declared.fault.StreamFault.{StreamFault}
use Rattle.sound_core.specs.declared.fault.StreamFault.TheVariants.{FileRefused, ReadFailed, TurnLimit, Memory}

-- the file is a DSDIFF or a DSF file that holds this recording
abbrev pub HoldsRecording : List ℕ → Content → Type 0
HoldsRecording file r = IsDsdiff file r ⊎ ((order : BitOrder) × IsDsf file r order)

-- the file holds a recording
abbrev pub HoldsSomeRecording : List ℕ → Type 0
HoldsSomeRecording file = (r : Content) × HoldsRecording file r

-- the file holds no recording
abbrev pub IsRefused : List ℕ → Type 0
IsRefused file = (r : Content) → HoldsRecording file r → ⊥

-- the prefix of a DSDIFF file, or of a DSF file if the sound is in blocks, describes this sound as its format does
abbrev pub StatesSoundAs : Interleaving → List ℕ → Sound → Type 0
StatesSoundAs Bytes prefix s = dsdiff.StatesSound prefix s
StatesSoundAs (Blocks order) prefix s = dsf.StatesSound prefix s

-- the head of a file describes this sound, and ends where the sound starts
pub record IsHeaderOf (head : List ℕ) (s : Sound) : Type 0 where
  pub leads : StatesSoundAs s.interleaving head s
  pub start : s.start ≡ length head

-- the prefix of a file describes this sound, which starts in it or at its end, and every recording of a file that
-- begins like this has it
pub record LeadsToSound (prefix : List ℕ) (s : Sound) : Type 0 where
  pub leads : StatesSoundAs s.interleaving prefix s
  pub is_sound : IsSound s
  pub whole : s.interleaving ≡ Bytes → s.count % 8 ≡ 0
  pub within : s.start ≤ length prefix
  pub has : (rest : List ℕ) (r : Content) → HoldsRecording (prefix ++ rest) r → HasSound (prefix ++ rest) r s

-- in every file that begins with these bytes and holds a recording, the sound starts after them
abbrev pub IsBeforeSound : List ℕ → Type 0
IsBeforeSound prefix = (rest : List ℕ) (s : Sound) → HoldsSomeRecording (prefix ++ rest) → LeadsToSound (prefix ++ rest) s → length prefix ≤ s.start

-- no byte of the sound was read
abbrev pub GivesNone : Option (List ℕ) → ℕ → ℕ → Type 0
GivesNone left_old given_old given_new = IfSome left_old (λ file. (s : Sound) → HoldsSomeRecording file → LeadsToSound file s → given_new ≤ given_old + s.start)

-- if the fault ended the reading, no byte of the sound was read
abbrev pub StopsBeforeSound : {R : Type 0} → (R → Option (List ℕ)) → Inlet R → Inlet R → StreamFault → Type 0
StopsBeforeSound left old new f = StopsReading f → GivesNone (left (inlet_reader old)) (inlet_given old) (inlet_given new)

-- a fault where the prefix of a file is read: `FileRefused` if the file holds no recording, or a fault of reading
abbrev pub IsHeaderFault : Option (List ℕ) → StreamFault → Type 0
IsHeaderFault left_old FileRefused = IfSome left_old IsRefused
IsHeaderFault left_old ReadFailed = ⊤
IsHeaderFault left_old TurnLimit = ⊤
IsHeaderFault left_old Memory = ⊤
IsHeaderFault left_old _ = ⊥
