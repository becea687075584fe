-- The takes of a splice, opened: what is required of their files, and the reading in order, to the cut or the first
-- fault.
use Rattle.std.specs.Prelude.{◌≡◌, ℕ, zero, suc, ◌-◌, ◌%◌, ◌^◌, ◌==◌, ◌&&◌, Bool, true, false, List, [], ◌∷◌, ◌++◌, ◌+◌, Result, Ok, Err, Option, Some, Vec, length, map, nat_le, slice_index_or, ⊤}
use Rattle.std.specs.declared.alloc.Global.{Global}
use Rattle.std.specs.List.{AllZip}
use Rattle.chunk_core.specs.Steps.{◌>>=◌}
use Rattle.dsd_bits.specs.Contents.{Content}
use Rattle.dsd_bits.specs.Shape.{HasShape}
use Rattle.splice_core.specs.Splices.{SpliceContent}
use Rattle.form_core.specs.Forms.{HoldsSome}
use Rattle.form_core.specs.Opening.{opened_of}
use Rattle.form_core.specs.Steps.{FailsUnless, GivesUnless, map_err}
use Rattle.form_core.specs.declared.fault.ReadFault.{ReadFault}
use Rattle.form_core.specs.declared.fault.ReadFault.TheVariants as reads
use Rattle.form_core.specs.declared.form.Form.{Form}
use Rattle.form_core.specs.declared.form.Form.TheVariants.{Dsdiff}
use Rattle.cost_core.specs.Windows.{splice_cue}
use Rattle.cut_core.specs.declared.excerpts.Excerpts.{Excerpts}
use Rattle.cut_core.specs.Cuts.{CutContent, FitTakes, cut_with, master_length}
use Rattle.cut_core.specs.Excerpts.{AreExcerpts, TakeShape, excerpts_content, excerpts_of, shape_at, shape_of, shape_of_cue}
use Rattle.cut_core.specs.Rooms.{HaveRoom, room_at}
use Rattle.cut_core.specs.declared.fault.CutFault.{CutFault}
use Rattle.cut_core.specs.declared.fault.CutFault.TheVariants.{TakeNumber, TakeUnread, TakeMismatch, CueOutside, MasterTooLong, NotWholeBytes, Memory}

-- the bytes of files
abbrev pub file_bytes : List (Vec ℕ Global) → List (List ℕ)
file_bytes files = map (λ (file : Vec ℕ Global). file.items) files

-- a file's fault as the fault of the take of a number
abbrev pub fault_of_take : ℕ → ReadFault → CutFault
fault_of_take number reads.Memory = Memory
fault_of_take number fault = TakeUnread number fault

-- the channels of a DSDIFF file, if one is to be cut, end with a whole byte (DSDIFF 1.5, DSD sound data chunk)
abbrev pub IsWhole : Option Form → SpliceContent → Type 0
IsWhole form splice = form ≡ Some Dsdiff → master_length splice.cues % 8 ≡ 0

-- there are as many files as takes, and each holds its take
pub record AreRead (splice : SpliceContent) (files : List (List ℕ)) (takes : List Content) : Type 0 where
  pub as_many : length files ≡ length splice.takes
  pub held : AllZip HoldsSome files takes

-- the files hold takes that the splice can be cut from, into a file of the form if one is given, and this is the cut
pub record OpensCut (splice : SpliceContent) (files : List (List ℕ)) (form : Option Form) (cut : CutContent) : Type 0 where
  pub takes : List Content
  pub read : AreRead splice files takes
  pub cut_is : cut ≡ cut_with splice takes
  pub fit : FitTakes splice takes
  pub whole : IsWhole form splice
  pub room : HaveRoom splice takes

-- ---- the reading in the order of the faults
-- a test that must hold, or this fault
abbrev pub required : Bool → CutFault → Result ⊤ CutFault
required true fault = Ok tt
required false fault = Err fault

-- the steps of the numbers below n in turn, up to the first fault
abbrev pub each_before : ℕ → (ℕ → Result ⊤ CutFault) → Result ⊤ CutFault
each_before zero step = Ok tt
each_before (suc n) step = do
  before ← each_before n step
  step n

-- the recording that a file holds, the take of a number
abbrev pub take_in : ℕ → List ℕ → Result Content CutFault
take_in number file = do
  opened ← map_err (fault_of_take number) (opened_of file)
  Ok opened.recording

-- the recording that file i holds
abbrev pub take_from : List (List ℕ) → ℕ → Result Content CutFault
take_from files i = take_in i (slice_index_or files i [])

-- the recordings that the first n files hold
abbrev pub takes_before : List (List ℕ) → ℕ → Result (List Content) CutFault
takes_before files zero = Ok []
takes_before files (suc n) = do
  before ← takes_before files n
  last ← take_from files n
  Ok (before ++ last ∷ [])

-- take i is like the first
abbrev pub alike_at : List TakeShape → ℕ → Result ⊤ CutFault
alike_at shapes i = required ((shape_at shapes i).rate == (shape_at shapes 0).rate && (shape_at shapes i).channels == (shape_at shapes 0).channels) (TakeMismatch i)

-- cue i ends within its take
abbrev pub inside_at : SpliceContent → List TakeShape → ℕ → Result ⊤ CutFault
inside_at splice shapes i = required (nat_le (splice_cue splice i).stop (shape_of_cue splice shapes i).count) (CueOutside i)

-- each cue ends within its take, or the first that doesn't
abbrev pub all_inside : SpliceContent → List TakeShape → Result ⊤ CutFault
all_inside splice shapes = each_before (length splice.cues) (inside_at splice shapes)

-- each bridge has room, or the first room that is missing
abbrev pub all_have_room : SpliceContent → List TakeShape → Result ⊤ CutFault
all_have_room splice shapes = each_before (length splice.cues - 1) (room_at splice shapes)

-- the channels of a file of the form, if one is given, end with a whole byte
abbrev pub whole_in : Option Form → SpliceContent → Bool
whole_in (Some Dsdiff) splice = master_length splice.cues % 8 == 0
whole_in form splice = true

-- whether a splice and takes of these shapes can be cut, into a file of the form if one is given, or the first fault
unfoldable pub fitting : Option Form → SpliceContent → List TakeShape → Result ⊤ CutFault
fitting form splice shapes = do
  alike ← each_before (length shapes) (alike_at shapes)
  inside ← each_before (length splice.cues) (inside_at splice shapes)
  in_limit ← required (nat_le (master_length splice.cues) (2 ^ 36)) MasterTooLong
  whole ← required (whole_in form splice) NotWholeBytes
  each_before (length splice.cues - 1) (room_at splice shapes)

-- the cut of a splice and its takes, or their first fault
unfoldable pub cut_from : Option Form → SpliceContent → List Content → Result CutContent CutFault
cut_from form splice takes = do
  fits ← fitting form splice (map shape_of takes)
  Ok (cut_with splice takes)

-- the takes of a splice, as many as it names, or the first fault
unfoldable pub takes_of : SpliceContent → List (List ℕ) → Result (List Content) CutFault
takes_of splice files = do
  as_many ← required (length files == length splice.takes) TakeNumber
  takes_before files (length files)

-- the cut of a splice and files, or the first fault: number of takes, reading, likeness, cues, the master's length,
-- whole bytes, room by rising cue
unfoldable pub cut_of : SpliceContent → List (List ℕ) → Option Form → Result CutContent CutFault
cut_of splice files form = do
  takes ← takes_of splice files
  cut_from form splice takes

-- a call read what the splice reads of the take that the steps return, unless memory ran out
abbrev pub ReturnsExcerpts : SpliceContent → ℕ → Result Excerpts CutFault → Result Content CutFault → Type 0
ReturnsExcerpts splice number (Ok h) steps = (r : Content) × (steps ≡ Ok r) × HasShape r × (excerpts_content h ≡ excerpts_of splice number r)
ReturnsExcerpts splice number (Err fault) steps = FailsUnless Memory fault steps

-- what a call read, if anything, is what the splice reads of some recording, the take of a number
abbrev pub IsOfTake : SpliceContent → ℕ → Result Excerpts CutFault → Type 0
IsOfTake splice number (Ok h) = (r : Content) × HasShape r × (excerpts_content h ≡ excerpts_of splice number r)
IsOfTake splice number (Err fault) = ⊤

-- what a call read, if anything, is what the splice reads of some recordings, the first n takes
abbrev pub IsOfTakes : SpliceContent → ℕ → Result (Vec Excerpts Global) CutFault → Type 0
IsOfTakes splice n (Ok hs) = (whole : List Content) × AreExcerpts splice whole hs.items × (length whole ≡ n)
IsOfTakes splice n (Err fault) = ⊤

-- a call read what the splice reads of the takes that the steps return, unless memory ran out
abbrev pub ReturnsAllExcerpts : SpliceContent → Result (Vec Excerpts Global) CutFault → Result (List Content) CutFault → Type 0
ReturnsAllExcerpts splice (Ok hs) steps = (takes : List Content) × (steps ≡ Ok takes) × AreExcerpts splice takes hs.items
ReturnsAllExcerpts splice (Err fault) steps = FailsUnless Memory fault steps

-- a call read what the splice reads of the takes that files hold, or returned their first fault, unless memory ran out
abbrev pub ReturnsTakes : SpliceContent → List (List ℕ) → Result (Vec Excerpts Global) CutFault → Type 0
ReturnsTakes splice files result = ReturnsAllExcerpts splice result (takes_of splice files)

-- the cut that the steps return was returned, or their fault, unless memory ran out
abbrev pub GivesCut : Result CutContent CutFault → Result CutContent CutFault → Type 0
GivesCut result steps = GivesUnless Memory (λ cut. cut) result steps

-- the cut of each list of takes of which this was read was returned, or its first fault, unless memory ran out
abbrev pub GivesCutOf : Option Form → SpliceContent → List Excerpts → Result CutContent CutFault → Type 0
GivesCutOf form splice hs result = (whole : List Content) → AreExcerpts splice whole hs → GivesCut result (cut_from form splice whole)

-- if something was read of the takes of some files, and something of the file after them, both together are what was
-- read of all, up to the first fault
abbrev pub AddsExcerpts : Result (Vec Excerpts Global) CutFault → Result Excerpts CutFault → Result (Vec Excerpts Global) CutFault → Type 0
AddsExcerpts takes next result = (splice : SpliceContent) (files : List (List ℕ)) (file : List ℕ)
    → ReturnsAllExcerpts splice takes (takes_before files (length files))
    → ReturnsExcerpts splice (length files) next (take_in (length files) file)
    → ReturnsAllExcerpts splice result (takes_before (files ++ file ∷ []) (length files + 1))

-- if something was read of the first n takes, and something of the take of number n, both together are of the first
-- n + 1 takes
abbrev pub AddsTake : Result (Vec Excerpts Global) CutFault → Result Excerpts CutFault → Result (Vec Excerpts Global) CutFault → Type 0
AddsTake takes next result = (splice : SpliceContent) (n : ℕ) → IsOfTakes splice n takes → IsOfTake splice n next → IsOfTakes splice (n + 1) result
