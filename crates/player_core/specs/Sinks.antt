-- The sink that plays frames of a sound to an outlet while its file is read.
use Rattle.std.specs.Prelude.{◌≡◌, ◌≢◌, ◌⊎◌, ℕ, ◌+◌, ◌-◌, ◌%◌, ◌<◌, ◌≤◌, ◌^◌, List, [], ◌++◌, drop, length, Option, Some, Err, ⊤}
use Rattle.std.specs.Io.KnownBytes.{Appends}
use Rattle.chunk_core.specs.Inlets.{inlet_given, inlet_reader}
use Rattle.chunk_core.specs.Outlets.{AppendsPrefix, outlet_failures, outlet_writer}
use Rattle.chunk_core.specs.declared.inlet.Inlet.{Inlet}
use Rattle.dsd_bits.specs.declared.sound.Sound.{Sound}
use Rattle.dsd_bits.specs.Sounds.{IsSound}
use Rattle.fir_core.specs.Decimator.{Decimator}
use Rattle.wave_core.specs.Heads.{FitsIn, limit_of, size_in}
use Rattle.sound_core.specs.Faults.{IsBeforeWriting, failed_writes}
use Rattle.sound_core.specs.declared.fault.StreamFault.{StreamFault}
use Rattle.sound_core.specs.declared.fault.StreamFault.TheVariants.{FileRefused, RateNotDivided, TooLarge, WriteFailed, Memory}
use Rattle.player_core.specs.Laws.{total_frames}
use Rattle.player_core.specs.Pace.{PlayFails}
use Rattle.player_core.specs.Parts.{frames_sound, part_file}
use Rattle.player_core.specs.PartView.{IsPartComplete, IsPartFed, IsPartOf, IsPartPlayer, part_due, part_start}
use Rattle.player_core.specs.Playing.{PlaysBy, PlaysReadTo, PlaysTo}
use Rattle.player_core.specs.Ranges.{IsInside, IsOutside, number_of, stop_of}
use Rattle.player_core.specs.Wave.{sound_header, wave_file_size}
use Rattle.player_core.specs.declared.parts.PartPlayer.{PartPlayer}
use Rattle.player_core.specs.declared.range.WaveRange.{WaveRange}
use Rattle.player_core.specs.declared.sink.PlayingSink.{PlayingSink}

-- the frames of a range of a sound's frames, as a sound of their own
abbrev pub range_sound : Decimator → Sound → WaveRange → Sound
range_sound d s range = frames_sound d s (number_of range (total_frames d s))

-- the WAVE file of a range of a sound's frames
abbrev pub range_file : Decimator → Sound → WaveRange → List ℕ → List ℕ
range_file d s range bytes = part_file range.head d s range.start (stop_of range (total_frames d s)) bytes

-- after these bytes of a sound that has the frames, whose rate the factor divides and whose sizes fit, the player was
-- fed those from its start on; the header was written, and the frames that are due
pub record IsFeeding {W : Type 0} (held : W → Option (List ℕ)) (first now : PlayingSink W) (s : Sound) (bytes : List ℕ) : Type 0 where
  pub same : now.outlet.ghost_name ≡ first.outlet.ghost_name
  pub taps : now.taps ≡ first.taps
  pub range : now.range ≡ first.range
  pub is_sound : IsSound s
  pub divided : s.rate % first.taps.now.factor ≡ 0
  pub inside : IsInside first.range (total_frames first.taps.now s)
  pub fits : FitsIn first.range.head s.channels first.taps.now.width (number_of first.range (total_frames first.taps.now s))
  pub player : PartPlayer
  pub player_is : now.player.now ≡ Some player
  pub is_player : IsPartPlayer player
  pub plays : IsPartOf first.taps.now s first.range.start (stop_of first.range (total_frames first.taps.now s)) player
  pub fed : IsPartFed player (drop (part_start player) bytes)
  pub came : now.came ≡ length bytes
  pub written : Appends (held (outlet_writer first.outlet.now)) (held (outlet_writer now.outlet.now)) (sound_header first.range.head first.taps.now (range_sound first.taps.now s first.range) ++ part_due player (drop (part_start player) bytes))
  pub ready : outlet_failures first.outlet.now < 2 ^ 64 - 1
  pub failures : outlet_failures now.outlet.now ≡ outlet_failures first.outlet.now

-- after these bytes of a sound the player was fed the first of them: all, or as many as the frames need
pub record IsPlaying {W : Type 0} (held : W → Option (List ℕ)) (first now : PlayingSink W) (s : Sound) (bytes : List ℕ) : Type 0 where
  pub looked_at : List ℕ
  pub passed_over : List ℕ
  pub bytes_are : bytes ≡ looked_at ++ passed_over
  pub feeding : IsFeeding held first now s looked_at
  pub all_or_complete : (passed_over ≡ []) ⊎ IsPartComplete feeding.player

-- a fault of the header: the sound lacks frames; the factor does not divide the rate; neither is so, but the sizes do
-- not fit; or the header is not written
abbrev pub IsPlayingFault : Decimator → Sound → WaveRange → StreamFault → Type 0
IsPlayingFault d s range FileRefused = IsOutside range (total_frames d s)
IsPlayingFault d s range RateNotDivided = s.rate % d.factor ≢ 0
IsPlayingFault d s range TooLarge = IsInside range (total_frames d s) × (s.rate % d.factor ≡ 0) × (limit_of range.head ≤ size_in range.head s.channels d.width (number_of range (total_frames d s)))
IsPlayingFault d s range WriteFailed = ⊤
IsPlayingFault d s range Memory = ⊤
IsPlayingFault d s range _ = ⊥

-- it was refused for this fault, which applies; a prefix of what any sound plays that begins with these bytes was
-- written, and nothing if the fault comes before that
pub record RefusesPlaying {W : Type 0} (held : W → Option (List ℕ)) (first now : PlayingSink W) (s : Sound) (came : List ℕ) (f : StreamFault) : Type 0 where
  pub same : now.outlet.ghost_name ≡ first.outlet.ghost_name
  pub fault : IsPlayingFault first.taps.now s first.range f
  pub unwritten : IsBeforeWriting f → outlet_writer now.outlet.now ≡ outlet_writer first.outlet.now
  pub prefix : (rest : List ℕ) → length (came ++ rest) ≡ s.size → AppendsPrefix (held (outlet_writer first.outlet.now)) (held (outlet_writer now.outlet.now)) (range_file first.taps.now s first.range (came ++ rest))
  pub failures : outlet_failures now.outlet.now ≡ outlet_failures first.outlet.now + failed_writes {X = Unit {0}} (Err f)

-- the WAVE file of n bytes of the frames of these sound bytes was written
pub record FinishesPlaying {W : Type 0} (held : W → Option (List ℕ)) (first now : PlayingSink W) (s : Sound) (bytes : List ℕ) (n : ℕ) : Type 0 where
  pub same : now.outlet.ghost_name ≡ first.outlet.ghost_name
  pub written : Appends (held (outlet_writer first.outlet.now)) (held (outlet_writer now.outlet.now)) (range_file first.taps.now s first.range bytes)
  pub failures : outlet_failures now.outlet.now ≡ outlet_failures first.outlet.now
  pub size : n ≡ wave_file_size first.range.head first.taps.now (range_sound first.taps.now s first.range)

-- ---- a file that is read into the sink

-- what the inlet's file plays was written
abbrev pub SinkPlays : {R W : Type 0} → (R → Option (List ℕ)) → (W → Option (List ℕ)) → Inlet R → PlayingSink W → PlayingSink W → ℕ → Type 0
SinkPlays left held inlet old new = PlaysTo left held (PlaysBy old.taps.now old.range) inlet old.outlet.now new.outlet.now

-- what the bytes play that were read from the inlet was written
abbrev pub SinkPlaysRead : {R W : Type 0} → (R → Option (List ℕ)) → (W → Option (List ℕ)) → Inlet R → Inlet R → PlayingSink W → PlayingSink W → ℕ → Type 0
SinkPlaysRead left held inlet_old inlet_new old new = PlaysReadTo left held (PlaysBy old.taps.now old.range) inlet_old inlet_new old.outlet.now new.outlet.now

-- why the inlet's file is not played to its end
abbrev pub SinkFails : {R W : Type 0} → (R → Option (List ℕ)) → (W → Option (List ℕ)) → Inlet R → Inlet R → PlayingSink W → PlayingSink W → StreamFault → Type 0
SinkFails left held inlet_old inlet_new old new f = PlayFails held (left (inlet_reader inlet_old)) old.taps.now old.range (inlet_given inlet_new - inlet_given inlet_old) old.outlet.now new.outlet.now f

-- ---- a sink that has all bytes of a sound

-- the sink has all bytes of this sound
abbrev pub HasAll : {W : Type 0} → (W → Option (List ℕ)) → PlayingSink W → Sound → Type 0
HasAll held now s = (first : _) × (bytes : List ℕ) × IsPlaying held first now s bytes × (length bytes ≡ s.size)

-- a sink with all bytes of this sound finishes it
abbrev pub FinishesAll : {W : Type 0} → (W → Option (List ℕ)) → PlayingSink W → PlayingSink W → Sound → ℕ → Type 0
FinishesAll held old new s n = (first : _) (bytes : List ℕ) → IsPlaying held first old s bytes → length bytes ≡ s.size → FinishesPlaying held first new s bytes n

-- a sink with all bytes of this sound refuses to finish it
abbrev pub RefusesAll : {W : Type 0} → (W → Option (List ℕ)) → PlayingSink W → PlayingSink W → Sound → StreamFault → Type 0
RefusesAll held old new s f = (first : _) (bytes : List ℕ) → IsPlaying held first old s bytes → length bytes ≡ s.size → RefusesPlaying held first new s bytes f
