-- The sink that plays a sound as DoP samples to an outlet while its file is read.
use Rattle.std.specs.Prelude.{◌≡◌, ℕ, ◌+◌, ◌-◌, ◌%◌, ◌<◌, ◌^◌, List, ◌++◌, length, Option, Err, ⊤}
use Rattle.std.specs.Io.KnownBytes.{Appends}
use Rattle.chunk_core.specs.Inlets.{inlet_given, inlet_reader}
use Rattle.chunk_core.specs.Outlets.{AppendsPrefix, outlet_failures, outlet_writer}
use Rattle.chunk_core.specs.declared.inlet.Inlet.{Inlet}
use Rattle.dsd_bits.specs.declared.sound.Sound.{Sound}
use Rattle.native_core.specs.Native.{native_of}
use Rattle.native_core.specs.declared.layout.Layout.TheVariants.{Dop}
use Rattle.sound_core.specs.Faults.{IsBeforeWriting, StopsReading, failed_writes}
use Rattle.sound_core.specs.declared.fault.StreamFault.{StreamFault}
use Rattle.sound_core.specs.declared.fault.StreamFault.TheVariants.{RateNotDivided, TooLarge, WriteFailed, Memory}
use Rattle.dop_core.specs.Writing.{FitsDop, dop_head, dop_tail}
use Rattle.dop_core.specs.Playing.{DopAppliesBy, DopKeepsUpBy, DopPlaysReadTo, DopPlaysTo, DopWritesPrefix, IsNotDivided, IsTooLarge}
use Rattle.dop_core.specs.declared.sink.DopSink.{DopSink}

-- the bytes before the samples of a sound
abbrev pub head_of_sound : Sound → List ℕ
head_of_sound s = dop_head s.rate s.channels s.count

-- the samples of the first `done` bits of each channel
abbrev pub samples_of : Sound → ℕ → List ℕ → List ℕ
samples_of s done bytes = native_of Dop s.interleaving s.channels done bytes

-- the WAVE file of a sound with these bytes
abbrev pub file_of_sound : Sound → List ℕ → List ℕ
file_of_sound s bytes = head_of_sound s ++ (samples_of s s.count bytes ++ dop_tail s.channels s.count)

-- 16 divides the rate, the sizes fit, and what is before the samples was written
pub record OpensDop (s : Sound) (held_old held_new : Option (List ℕ)) : Type 0 where
  pub divided : s.rate % 16 ≡ 0
  pub fits : FitsDop s.channels s.count
  pub written : Appends held_old held_new (head_of_sound s)

-- after these bytes, the first `done` bits of each channel of a sound whose rate 16 divides and whose sizes fit, their
-- samples were written; no write failed
pub record IsDopPlaying {W : Type 0} (held : W → Option (List ℕ)) (first now : DopSink W) (s : Sound) (done : ℕ) (bytes : List ℕ) : Type 0 where
  pub same : now.outlet.ghost_name ≡ first.outlet.ghost_name
  pub divided : s.rate % 16 ≡ 0
  pub fits : FitsDop s.channels s.count
  pub ready : outlet_failures first.outlet.now < 2 ^ 64 - 1
  pub written : Appends (held (outlet_writer first.outlet.now)) (held (outlet_writer now.outlet.now)) (head_of_sound s ++ samples_of s done bytes)
  pub failures : outlet_failures now.outlet.now ≡ outlet_failures first.outlet.now

-- a fault of the header: 16 does not divide the rate; it does, but the sizes do not fit; or the header is not written
abbrev pub IsDopFault : Sound → StreamFault → Type 0
IsDopFault s RateNotDivided = IsNotDivided s
IsDopFault s TooLarge = IsTooLarge s
IsDopFault s WriteFailed = ⊤
IsDopFault s Memory = ⊤
IsDopFault s _ = ⊥

-- the sink refused a sound that begins with these bytes, for this fault, which applies; a prefix of what any sound plays
-- that begins so was written, and nothing if the fault comes before that
pub record RefusesDop {W : Type 0} (held : W → Option (List ℕ)) (first now : DopSink W) (s : Sound) (came : List ℕ) (f : StreamFault) : Type 0 where
  pub same : now.outlet.ghost_name ≡ first.outlet.ghost_name
  pub fault : IsDopFault s f
  pub unwritten : IsBeforeWriting f → outlet_writer now.outlet.now ≡ outlet_writer first.outlet.now
  pub prefix : (rest : List ℕ) → length (came ++ rest) ≡ s.size → AppendsPrefix (held (outlet_writer first.outlet.now)) (held (outlet_writer now.outlet.now)) (file_of_sound s (came ++ rest))
  pub failures : outlet_failures now.outlet.now ≡ outlet_failures first.outlet.now + failed_writes {X = Unit {0}} (Err f)

-- ---- a file that is read into the sink

-- why a file is not played to its end: a fault applies, and a prefix of what it plays was written, which keeps up with
-- the reading
pub record DopFails {R W : Type 0} (left : R → Option (List ℕ)) (held : W → Option (List ℕ)) (inlet : Inlet R) (given : ℕ) (old new : DopSink W) (f : StreamFault) : Type 0 where
  pub fault : DopAppliesBy (left (inlet_reader inlet)) f
  pub unwritten : IsBeforeWriting f → outlet_writer new.outlet.now ≡ outlet_writer old.outlet.now
  pub prefix : DopWritesPrefix (left (inlet_reader inlet)) (held (outlet_writer old.outlet.now)) (held (outlet_writer new.outlet.now))
  pub keeps_up : StopsReading f → DopKeepsUpBy (left (inlet_reader inlet)) given (held (outlet_writer old.outlet.now)) (held (outlet_writer new.outlet.now))
  pub failures : outlet_failures new.outlet.now ≡ outlet_failures old.outlet.now + failed_writes {X = Unit {0}} (Err f)

-- what the inlet's file plays was written
abbrev pub SinkPlays : {R W : Type 0} → (R → Option (List ℕ)) → (W → Option (List ℕ)) → Inlet R → DopSink W → DopSink W → ℕ → Type 0
SinkPlays left held inlet old new = DopPlaysTo left held inlet old.outlet.now new.outlet.now

-- what the bytes play that were read from the inlet was written
abbrev pub SinkPlaysRead : {R W : Type 0} → (R → Option (List ℕ)) → (W → Option (List ℕ)) → Inlet R → Inlet R → DopSink W → DopSink W → ℕ → Type 0
SinkPlaysRead left held inlet_old inlet_new old new = DopPlaysReadTo left held inlet_old inlet_new old.outlet.now new.outlet.now

-- why a file is not played to its end, after the bytes that the inlet has counted
abbrev pub SinkFails : {R W : Type 0} → (R → Option (List ℕ)) → (W → Option (List ℕ)) → Inlet R → Inlet R → DopSink W → DopSink W → StreamFault → Type 0
SinkFails left held inlet_old inlet_new old new f = DopFails left held inlet_old (inlet_given inlet_new - inlet_given inlet_old) old new f
