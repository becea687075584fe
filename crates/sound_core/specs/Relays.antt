-- What is written of a file whose outline is known, and which faults apply.
use Rattle.std.specs.Prelude.{◌≡◌, ℕ, ◌+◌, ◌-◌, ◌%◌, ◌<◌, ◌^◌, List, ◌++◌, length, Option, IfSome, Err, ⊤}
use Rattle.std.specs.Io.KnownBytes.{Appends}
use Rattle.chunk_core.specs.declared.inlet.Inlet.{Inlet}
use Rattle.chunk_core.specs.declared.outlet.Outlet.{Outlet}
use Rattle.chunk_core.specs.Outlets.{outlet_failures, outlet_writer}
use Rattle.dsd_bits.specs.declared.interleaving.Interleaving.{Interleaving}
use Rattle.dsd_bits.specs.declared.interleaving.Interleaving.TheVariants.{Bytes}
use Rattle.dsd_bits.specs.declared.sound.Sound.{Sound}
use Rattle.interleave_core.specs.Reinterleaving.{reinterleaved}
use Rattle.sound_core.specs.Faults.{failed_writes}
use Rattle.sound_core.specs.Outlines.{AreAround, IsPlacedIn, Surroundings}
use Rattle.sound_core.specs.Reads.{Reads}
use Rattle.sound_core.specs.declared.fault.StreamFault.{StreamFault}
use Rattle.sound_core.specs.declared.fault.StreamFault.TheVariants.{FileRefused, ReadFailed, WriteFailed, TurnLimit, Memory}
use Rattle.sound_core.specs.declared.relaying.NewFile.{NewFile}
use Rattle.sound_core.specs.declared.relaying_sink.RelayingSink.{RelayingSink}

-- the bytes of a sound, re-interleaved
abbrev pub reinterleaved_sound : Sound → Interleaving → List ℕ → List ℕ
reinterleaved_sound s to sound = reinterleaved s.interleaving to s.channels s.count sound

-- what is written of a file with this sound: a head, the sound re-interleaved, a tail
abbrev pub relayed : NewFile → Sound → List ℕ → List ℕ
relayed target s sound = target.head.now ++ (reinterleaved_sound s target.interleaving sound ++ target.tail.now)

-- the reader's file, if it is known, is some sound in the outline, and what is made of that sound was written
abbrev pub Relays : Option (List ℕ) → NewFile → Surroundings → Option (List ℕ) → Option (List ℕ) → Type 0
Relays left target o held_old held_new = IfSome left (λ file. (sound : List ℕ) × IsPlacedIn o file sound × Appends held_old held_new (relayed target o.sound sound))

-- the reader returned some bytes, as many as were counted, which are some sound in the outline, and what is made of
-- that sound was written; this also holds if its bytes aren't known
abbrev pub RelaysGiven : {R : Type 0} → (R → Option (List ℕ)) → Inlet R → Inlet R → NewFile → Surroundings → Option (List ℕ) → Option (List ℕ) → Type 0
RelaysGiven left old new target o held_old held_new = (read : List ℕ) × (sound : List ℕ) × Reads left old new read × IsPlacedIn o read sound × Appends held_old held_new (relayed target o.sound sound)

-- bytes, if they are known, grew by a prefix of these, and after a failed write not by all of them
abbrev pub AppendsUntil : Option (List ℕ) → Option (List ℕ) → List ℕ → StreamFault → Type 0
AppendsUntil held_old held_new all fault = (prefix : List ℕ) × (back : List ℕ) × (all ≡ prefix ++ back) × (fault ≡ WriteFailed → 0 < length back) × Appends held_old held_new prefix

-- whatever sound in the outline the file is, a prefix of what is made of it was written, and after a failed write not
-- all of it
abbrev pub RelaysPrefix : Option (List ℕ) → NewFile → Surroundings → Option (List ℕ) → Option (List ℕ) → StreamFault → Type 0
RelaysPrefix left target o held_old held_new fault = IfSome left (λ file. (sound : List ℕ) → IsPlacedIn o file sound → AppendsUntil held_old held_new (relayed target o.sound sound) fault)

-- a fault where a file is relayed: `FileRefused` if the file is no sound in the outline, or a fault of a device, the
-- number of reads or memory
abbrev pub IsRelayFault : Option (List ℕ) → Surroundings → StreamFault → Type 0
IsRelayFault left o FileRefused = IfSome left (λ file. AreAround o file → ⊥)
IsRelayFault left o ReadFailed = ⊤
IsRelayFault left o WriteFailed = ⊤
IsRelayFault left o TurnLimit = ⊤
IsRelayFault left o Memory = ⊤
IsRelayFault left o _ = ⊥

-- ---- the sink that relays a sound while its file is read

-- the sink may begin: one more failure can be counted, and a sound that is written in frames ends with whole bytes
pub record MayBegin {W : Type 0} (k : RelayingSink W) : Type 0 where
  pub outlet : outlet_failures k.outlet.now < 2 ^ 64 - 1
  pub whole : k.target.interleaving ≡ Bytes → k.sound.count % 8 ≡ 0

-- the sink wrote its head and then these bytes, the first `done` bits of each channel, re-interleaved; no write failed
pub record IsRelaying {W : Type 0} (held : W → Option (List ℕ)) (first now : RelayingSink W) (s : Sound) (done : ℕ) (bytes : List ℕ) : Type 0 where
  pub same : now.outlet.ghost_name ≡ first.outlet.ghost_name
  pub target : now.target ≡ first.target
  pub own : s ≡ first.sound
  pub ready : MayBegin first
  pub written : Appends (held (outlet_writer first.outlet.now)) (held (outlet_writer now.outlet.now)) (first.target.head.now ++ reinterleaved s.interleaving first.target.interleaving s.channels done bytes)
  pub failures : outlet_failures now.outlet.now ≡ outlet_failures first.outlet.now

-- a fault of the sink itself: `FileRefused` for another sound than its own, or a fault of a device or memory
abbrev pub IsOwnFault : Sound → Sound → StreamFault → Type 0
IsOwnFault own s FileRefused = s ≡ own → ⊥
IsOwnFault own s WriteFailed = ⊤
IsOwnFault own s Memory = ⊤
IsOwnFault own s _ = ⊥

-- the sink refused a sound that begins with these bytes, for a fault of its own; a prefix of what is made of the sound
-- was written, and after a failed write not all of it
pub record RefusesRelaying {W : Type 0} (held : W → Option (List ℕ)) (first now : RelayingSink W) (s : Sound) (came : List ℕ) (f : StreamFault) : Type 0 where
  pub same : now.outlet.ghost_name ≡ first.outlet.ghost_name
  pub fault : IsOwnFault first.sound s f
  pub prefix : s ≡ first.sound → (rest : List ℕ) → length (came ++ rest) ≡ s.size → AppendsUntil (held (outlet_writer first.outlet.now)) (held (outlet_writer now.outlet.now)) (relayed first.target s (came ++ rest)) f
  pub failures : outlet_failures now.outlet.now ≡ outlet_failures first.outlet.now + failed_writes {X = Unit {0}} (Err f)

-- ---- stages

-- the bytes around the sound are the same; of those that don't matter there are equally many
pub record IsSameAround (o p : Surroundings) : Type 0 where
  pub gap : o.gap ≡ p.gap
  pub ends : o.ends ≡ p.ends
  pub head : o.head ≡ p.head
  pub back : o.back ≡ p.back

-- why a file is not relayed to its end: the fault applies, and a prefix of what is made of the file was written
pub record RelayFails {W : Type 0} (held : W → Option (List ℕ)) (left : Option (List ℕ)) (target : NewFile) (o : Surroundings) (old new : Outlet W) (f : StreamFault) : Type 0 where
  pub fault : IsRelayFault left o f
  pub prefix : RelaysPrefix left target o (held (outlet_writer old)) (held (outlet_writer new)) f
  pub failures : outlet_failures new ≡ outlet_failures old + failed_writes {X = Unit {0}} (Err f)
