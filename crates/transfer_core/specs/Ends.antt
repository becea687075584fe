-- What was read at a call's inlet, and written at its outlet.
use Rattle.std.specs.Prelude.{◌≡◌, ℕ, ◌-◌, ◌⊎◌, List, Option}
use Rattle.chunk_core.specs.Inlets.{inlet_given, inlet_reader}
use Rattle.chunk_core.specs.Outlets.{outlet_writer}
use Rattle.chunk_core.specs.declared.inlet.Inlet.{Inlet}
use Rattle.chunk_core.specs.declared.outlet.Outlet.{Outlet}
use Rattle.form_core.specs.declared.form.Form.{Form}
use Rattle.player_core.specs.Playing.{PlaysFile, PlaysGiven, WritesPrefix}
use Rattle.player_core.specs.declared.range.WaveRange.{WaveRange}
use Rattle.sound_core.specs.Outlines.{around_of}
use Rattle.sound_core.specs.Readers.{CanFail, RunsOut}
use Rattle.sound_core.specs.declared.outline.Outline.{Outline}
use Rattle.transfer_core.specs.Conversions.{ConvertsGiven, ConvertsPrefix, ConvertsReader}
use Rattle.transfer_core.specs.Streaming.{KeepsUp}

-- the bytes that an inlet has left, if they are known
abbrev pub left_in : {R : Type 0} → (R → Option (List ℕ)) → Inlet R → Option (List ℕ)
left_in left inlet = left (inlet_reader inlet)

-- nothing was written
abbrev pub WritesNothing : {W : Type 0} → Outlet W → Outlet W → Type 0
WritesNothing old new = outlet_writer new ≡ outlet_writer old

-- why no more is read: the outlet can't count one more failure, or the inlet is read no further
abbrev pub AreSpent : {R W : Type 0} → Outlet W → Inlet R → Inlet R → Type 0
AreSpent outlet old new = (CanFail outlet → ⊥) ⊎ RunsOut old new

-- ---- what is played of an inlet's file, whatever it is that says what a file plays

-- n bytes were written, and are what the inlet's file plays, if it is known
abbrev pub PlaysAll : {R W : Type 0} → (R → Option (List ℕ)) → Inlet R → (List ℕ → List ℕ → Type 0) → (W → Option (List ℕ)) → Outlet W → Outlet W → ℕ → Type 0
PlaysAll left inlet Plays contents old new n = PlaysFile (left_in left inlet) Plays (contents (outlet_writer old)) (contents (outlet_writer new)) n

-- some bytes were read, and what they play was written; this also holds if the inlet's bytes aren't known
abbrev pub PlaysRead : {R W : Type 0} → (R → Option (List ℕ)) → Inlet R → Inlet R → (List ℕ → List ℕ → Type 0) → (W → Option (List ℕ)) → Outlet W → Outlet W → ℕ → Type 0
PlaysRead left inlet_old inlet_new Plays contents old new n = PlaysGiven left inlet_old inlet_new Plays (contents (outlet_writer old)) (contents (outlet_writer new)) n

-- a prefix of whatever the inlet's file plays was written
abbrev pub Starts : {R W : Type 0} → (R → Option (List ℕ)) → Inlet R → (List ℕ → List ℕ → Type 0) → (W → Option (List ℕ)) → Outlet W → Outlet W → Type 0
Starts left inlet Plays contents old new = WritesPrefix (left_in left inlet) Plays (contents (outlet_writer old)) (contents (outlet_writer new))

-- what was written lags the sound that was read by at most 131,072 bytes, if the inlet's file can be played
abbrev pub LagsLittle : {R W : Type 0} → (R → Option (List ℕ)) → Inlet R → Inlet R → List ℕ → WaveRange → (W → Option (List ℕ)) → Outlet W → Outlet W → Type 0
LagsLittle left inlet_old inlet_new project range contents old new = KeepsUp (left_in left inlet_old) project range (inlet_given inlet_new - inlet_given inlet_old) (contents (outlet_writer old)) (contents (outlet_writer new))

-- ---- what an inlet's file is converted to

-- what the inlet's file is converted to was written, if it is known, and `dropped` parts of its recording are not in
-- that; it keeps the sound, and all of the recording if none was dropped
abbrev pub ConvertsAll : {R W : Type 0} → (R → Option (List ℕ)) → Inlet R → Form → (W → Option (List ℕ)) → Outlet W → Outlet W → ℕ → Type 0
ConvertsAll left inlet form contents old new dropped = ConvertsReader (left_in left inlet) form (contents (outlet_writer old)) (contents (outlet_writer new)) dropped

-- some bytes were read, and what they are converted to was written and keeps as much; this also holds if the inlet's
-- bytes aren't known
abbrev pub Rewrites : {R W : Type 0} → (R → Option (List ℕ)) → Inlet R → Inlet R → Form → (W → Option (List ℕ)) → Outlet W → Outlet W → ℕ → Type 0
Rewrites left inlet_old inlet_new form contents old new dropped = ConvertsGiven left inlet_old inlet_new form (contents (outlet_writer old)) (contents (outlet_writer new)) dropped

-- a prefix of what the inlet's file is converted to was written, if it is a file of this outline
abbrev pub StartsFile : {R W : Type 0} → (R → Option (List ℕ)) → Inlet R → Outline → Form → (W → Option (List ℕ)) → Outlet W → Outlet W → Type 0
StartsFile left inlet outline form contents old new = ConvertsPrefix (left_in left inlet) (around_of outline) form (contents (outlet_writer old)) (contents (outlet_writer new))
