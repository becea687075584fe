-- A sink of a joined sound that has all bytes of the sound itself.
use Rattle.std.specs.Prelude.{◌≡◌, ◌≤◌, ◌⊎◌, ℕ, ◌+◌, List, ◌++◌, Option, Some, Err, length}
use Rattle.dsd_bits.specs.declared.sound.Sound.{Sound}
use Rattle.dsd_bits.specs.Sounds.{IsSound}
use Rattle.player_core.specs.Between.{AppliesBetweenBy, IsJoined, IsJoining, IsJoiningFault, PlaysBetween, channels_after, channels_before, in_frames, own_range, with_range}
use Rattle.chunk_core.specs.Inlets.{inlet_reader}
use Rattle.chunk_core.specs.Outlets.{AppendsPrefix, outlet_failures, outlet_writer}
use Rattle.chunk_core.specs.declared.inlet.Inlet.{Inlet}
use Rattle.chunk_core.specs.declared.outlet.Outlet.{Outlet}
use Rattle.fir_core.specs.Decimator.{Decimator}
use Rattle.player_core.specs.PartView.{part_start}
use Rattle.player_core.specs.Pieces.{IsBetweenFrames, IsInPlace}
use Rattle.player_core.specs.Playing.{PlaysReadTo, PlaysTo, WritesPrefix}
use Rattle.player_core.specs.Sinks.{FinishesPlaying, IsPlaying, RefusesPlaying, range_file}
use Rattle.player_core.specs.declared.joining.JoiningSink.{JoiningSink}
use Rattle.player_core.specs.declared.joining.Neighbours.{Neighbours}
use Rattle.player_core.specs.declared.parts.PartPlayer.{PartPlayer}
use Rattle.player_core.specs.declared.piece.Piece.{Piece}
use Rattle.player_core.specs.declared.sink.PlayingSink.{PlayingSink}
use Rattle.sound_core.specs.Faults.{IsBeforeWriting, failed_writes}
use Rattle.sound_core.specs.declared.fault.StreamFault.{StreamFault}
use Rattle.wave_core.specs.declared.head.WaveHead.{WaveHead}

-- ---- a sink that plays and takes more bytes
-- it has some bytes of a sound, which has room for n more
abbrev pub MayTake : {W : Type 0} → (W → Option (List ℕ)) → PlayingSink W → ℕ → Type 0
MayTake held now n = (first : _) × (s : Sound) × (before : List ℕ) × IsPlaying held first now s before × (length before + n ≤ s.size)

-- blocks of n channels can be pushed as they are
abbrev pub TakesBlocks : {W : Type 0} → PlayingSink W → ℕ → Type 0
TakesBlocks now n = (p : PartPlayer) → now.player.now ≡ Some p → (part_start p ≤ now.came) × IsBetweenFrames p.player n

-- a piece can be pushed as it is
abbrev pub MayPush : {W : Type 0} → PlayingSink W → Piece → Type 0
MayPush now piece = (p : PartPlayer) → now.player.now ≡ Some p → IsInPlace p now.came piece

-- whatever it had before, it has these after it
abbrev pub PushesOn : {W : Type 0} → (W → Option (List ℕ)) → PlayingSink W → PlayingSink W → List ℕ → Type 0
PushesOn held old new bytes = (first : _) (s : Sound) (before : List ℕ) → IsPlaying held first old s before → IsPlaying held first new s (before ++ bytes)

-- whatever it had before, it refused these after it
abbrev pub RefusesPush : {W : Type 0} → (W → Option (List ℕ)) → PlayingSink W → PlayingSink W → List ℕ → StreamFault → Type 0
RefusesPush held old new bytes f = (first : _) (s : Sound) (before : List ℕ) → IsPlaying held first old s before → RefusesPlaying held first new s (before ++ bytes) f

-- ---- a sink of a joined sound
-- the WAVE file that it plays of a joined sound, by all bytes of the sound itself
abbrev pub joined_file : {W : Type 0} → JoiningSink W → Sound → Sound → List ℕ → List ℕ
joined_file first s j bytes = range_file first.playing.now.taps.now j (own_range first.playing.now.range.head first.playing.now.taps.now first.around s) (first.around.before.now ++ (in_frames s s.count bytes ++ first.around.after.now))

-- nothing was written, or a prefix of what is played of each sound that begins with these bytes
abbrev pub WritesJoined : {W : Type 0} → (W → Option (List ℕ)) → JoiningSink W → JoiningSink W → Sound → List ℕ → Type 0
WritesJoined held first now s came = (outlet_writer now.playing.now.outlet.now ≡ outlet_writer first.playing.now.outlet.now)
    ⊎ ((j : Sound) × IsJoined first.around s j × ((rest : List ℕ) → length (came ++ rest) ≡ s.size → AppendsPrefix (held (outlet_writer first.playing.now.outlet.now)) (held (outlet_writer now.playing.now.outlet.now)) (joined_file first s j (came ++ rest))))

-- it refused a sound that begins with these bytes for this fault, which applies; no more was written, and nothing if
-- the fault comes before that
pub record RefusesJoining {W : Type 0} (held : W → Option (List ℕ)) (first now : JoiningSink W) (s : Sound) (came : List ℕ) (f : StreamFault) : Type 0 where
  pub reference : now.playing.ghost_name ≡ first.playing.ghost_name
  pub same : now.playing.now.outlet.ghost_name ≡ first.playing.now.outlet.ghost_name
  pub fault : IsJoiningFault first.playing.now.range.head first.playing.now.taps.now first.around s f
  pub unwritten : IsBeforeWriting f → outlet_writer now.playing.now.outlet.now ≡ outlet_writer first.playing.now.outlet.now
  pub written : WritesJoined held first now s came
  pub failures : outlet_failures now.playing.now.outlet.now ≡ outlet_failures first.playing.now.outlet.now + failed_writes {X = Unit {0}} (Err f)

-- what it plays of a file
abbrev pub PlaysAround : {W : Type 0} → JoiningSink W → List ℕ → List ℕ → Type 0
PlaysAround p = PlaysBetween p.playing.now.range.head p.playing.now.taps.now p.around.rate (channels_before p.around) (channels_after p.around)

-- it has all bytes of this sound
abbrev pub HasAllOfJoined : {W : Type 0} → (W → Option (List ℕ)) → JoiningSink W → Sound → Type 0
HasAllOfJoined held now s = IsSound s × ((first : _) × (bytes : List ℕ) × IsJoining held first now s s.count bytes × (length bytes ≡ s.size))

-- all that is played of the joined sound was written, whichever bytes the sound itself had
abbrev pub EndsJoined : {W : Type 0} → (W → Option (List ℕ)) → JoiningSink W → JoiningSink W → Sound → ℕ → Type 0
EndsJoined held old new s n = (first : _) (bytes : List ℕ) → IsJoining held first old s s.count bytes → length bytes ≡ s.size
    → (j : Sound) × IsJoined first.around s j × (new.playing.ghost_name ≡ first.playing.ghost_name) × FinishesPlaying held (with_range first.playing.now (own_range first.playing.now.range.head first.playing.now.taps.now first.around s)) new.playing.now j (first.around.before.now ++ (in_frames s s.count bytes ++ first.around.after.now)) n

-- it refused to end, whichever bytes the sound itself had
abbrev pub RefusesEnd : {W : Type 0} → (W → Option (List ℕ)) → JoiningSink W → JoiningSink W → Sound → StreamFault → Type 0
RefusesEnd held old new s f = (first : _) (bytes : List ℕ) → IsJoining held first old s s.count bytes → length bytes ≡ s.size → RefusesJoining held first new s bytes f

-- what the inlet's file plays between its neighbours was written
abbrev pub JoinedPlays : {R W : Type 0} → (R → Option (List ℕ)) → (W → Option (List ℕ)) → Inlet R → JoiningSink W → JoiningSink W → ℕ → Type 0
JoinedPlays left held inlet old new = PlaysTo left held (PlaysAround old) inlet old.playing.now.outlet.now new.playing.now.outlet.now

-- what the bytes play that were read from the inlet was written
abbrev pub JoinedPlaysRead : {R W : Type 0} → (R → Option (List ℕ)) → (W → Option (List ℕ)) → Inlet R → Inlet R → JoiningSink W → JoiningSink W → ℕ → Type 0
JoinedPlaysRead left held inlet_old inlet_new old new = PlaysReadTo left held (PlaysAround old) inlet_old inlet_new old.playing.now.outlet.now new.playing.now.outlet.now

-- why a file is not played between its neighbours to its end: a fault applies, and a prefix of what it plays was
-- written, and nothing if the fault comes before that
pub record BetweenFails {W : Type 0} (held : W → Option (List ℕ)) (left : Option (List ℕ)) (head : WaveHead) (d : Decimator) (around : Neighbours) (old new : Outlet W) (f : StreamFault) : Type 0 where
  pub fault : AppliesBetweenBy left head d around f
  pub unwritten : IsBeforeWriting f → outlet_writer new ≡ outlet_writer old
  pub prefix : WritesPrefix left (PlaysBetween head d around.rate (channels_before around) (channels_after around)) (held (outlet_writer old)) (held (outlet_writer new))
  pub failures : outlet_failures new ≡ outlet_failures old + failed_writes {X = Unit {0}} (Err f)

-- the same of an inlet's file and a sink
abbrev pub JoinedFails : {R W : Type 0} → (R → Option (List ℕ)) → (W → Option (List ℕ)) → Inlet R → JoiningSink W → JoiningSink W → StreamFault → Type 0
JoinedFails left held inlet old new f = BetweenFails held (left (inlet_reader inlet)) old.playing.now.range.head old.playing.now.taps.now old.around old.playing.now.outlet.now new.playing.now.outlet.now f

-- a sink plays by the same reference to the same outlet
abbrev pub IsSameOutlet : {W : Type 0} → JoiningSink W → JoiningSink W → Type 0
IsSameOutlet old new = (new.playing.ghost_name ≡ old.playing.ghost_name) × (new.playing.now.outlet.ghost_name ≡ old.playing.now.outlet.ghost_name)
