-- What a splice reads of the files of its takes, under their names.
use Rattle.std.specs.Prelude.{◌≡◌, ℕ, List, [], Option, IfSome, Result, Ok, Err, Vec, length, slice_index_or}
use Rattle.std.specs.declared.alloc.Global.{Global}
use Rattle.dsd_bits.specs.Contents.{Content}
use Rattle.dsd_bits.specs.Shape.{HasShape}
use Rattle.sound_core.specs.Keeping.{IsKeptOf, stretches_in}
use Rattle.sound_core.specs.Outlines.{AreStated, around_of}
use Rattle.sound_core.specs.declared.keeping.Kept.{Kept}
use Rattle.splice_core.specs.Splices.{SpliceContent, splice_content}
use Rattle.form_core.specs.Forms.{HoldsSome}
use Rattle.cut_core.specs.declared.fault.CutFault.{CutFault}
use Rattle.cut_core.specs.declared.excerpts.Excerpts.{Excerpts}
use Rattle.cut_core.specs.Excerpts.{excerpts_content, excerpts_of, ranges_of}
use Rattle.cut_core.specs.Opening.{IsOfTakes, ReturnsExcerpts, ReturnsAllExcerpts, take_in, takes_before, takes_of}
use Rattle.request_core.specs.Projects.{SaysSplice}
use Rattle.folder_core.specs.Files.{AreReadOf, IsReadOf, View}
use Rattle.transfer_commands.specs.Sources.{AreSources}
use Rattle.transfer_commands.specs.declared.sources.Sources.{Sources}

-- the file holds a recording, the take of a number, and this is what a splice reads of it
pub record HoldsExcerpts (splice : SpliceContent) (number : ℕ) (file : List ℕ) (excerpts : Excerpts) : Type 0 where
  pub recording : Content
  pub holds : HoldsSome file recording
  pub shape : HasShape recording
  pub are_excerpts : excerpts_content excerpts ≡ excerpts_of splice number recording

-- this was read of a file in one pass; or it is the file's fault, as that of the take with this number
abbrev pub AreExcerptsIn : SpliceContent → ℕ → List ℕ → Result Excerpts CutFault → Type 0
AreExcerptsIn splice number file (Ok excerpts) = HoldsExcerpts splice number file excerpts
AreExcerptsIn splice number file (Err fault) = take_in number file ≡ Err fault

-- this was read of what a reader has left, if that is known, or is its fault
abbrev pub AreExcerptsLeft : Option (List ℕ) → SpliceContent → ℕ → Result Excerpts CutFault → Type 0
AreExcerptsLeft left splice number excerpts = IfSome left (λ file. AreExcerptsIn splice number file excerpts)

-- some bytes hold what was read, or have this fault
abbrev pub AreExcerptsInSome : SpliceContent → ℕ → Result Excerpts CutFault → Type 0
AreExcerptsInSome splice number excerpts = (file : List ℕ) × AreExcerptsIn splice number file excerpts

-- this was read, in one pass, of bytes of a name, or is their fault
pub record StreamsRead (old : View) (splice : SpliceContent) (number : ℕ) (name : List ℕ) (excerpts : Result Excerpts CutFault) : Type 0 where
  pub file : List ℕ
  pub file_read : IsReadOf old name file
  pub are_excerpts : AreExcerptsIn splice number file excerpts

-- this was read of bytes of a name, the take of a number, or is their fault
pub record ReadsExcerpts (old : View) (splice : SpliceContent) (number : ℕ) (name : List ℕ) (excerpts : Result Excerpts CutFault) : Type 0 where
  pub file : List ℕ
  pub file_read : IsReadOf old name file
  pub reads_excerpts : ReturnsExcerpts splice number excerpts (take_in number file)

-- the same of the take of this number that a splice names
abbrev pub ReadsTake : View → SpliceContent → ℕ → Result Excerpts CutFault → Type 0
ReadsTake old splice number excerpts = ReadsExcerpts old splice number (slice_index_or splice.takes number []) excerpts

-- this was read of bytes of these names, the first takes, or is the first fault of what they hold
pub record ReadsAllExcerpts (old : View) (splice : SpliceContent) (names : List (List ℕ)) (excerpts : Result (Vec Excerpts Global) CutFault) : Type 0 where
  pub files : List (List ℕ)
  pub read : AreReadOf old names files
  pub reads_excerpts : ReturnsAllExcerpts splice excerpts (takes_before files (length files))

-- the same of all takes that a splice names
abbrev pub ReadsTakes : View → SpliceContent → Result (Vec Excerpts Global) CutFault → Type 0
ReadsTakes old splice excerpts = ReadsAllExcerpts old splice splice.takes excerpts

-- what was read, if anything, is what a splice reads of some recordings, as many as the takes that it names
abbrev pub AreOfTakes : SpliceContent → Result (Vec Excerpts Global) CutFault → Type 0
AreOfTakes splice excerpts = IsOfTakes splice (length splice.takes) excerpts

-- a text that was read of the project describes this splice, and this was read of bytes of the takes that it names, or
-- is the first fault of what they hold
pub record ReadsSourceExcerpts (project_name : List ℕ) (old : View) (splice : SpliceContent) (excerpts : Result (Vec Excerpts Global) CutFault) : Type 0 where
  pub project : List ℕ
  pub takes : List (List ℕ)
  pub sources : AreSources project_name old project takes
  pub project_says : SaysSplice project splice
  pub reads_excerpts : ReturnsAllExcerpts splice excerpts (takes_of splice takes)

-- the same of a splice and of what it reads, as they were returned
abbrev pub ReadsSources : List ℕ → View → Sources → Type 0
ReadsSources project_name old found = ReadsSourceExcerpts project_name old (splice_content found.splice) found.takes

-- the same of what was returned
abbrev pub AreOfItsTakes : Sources → Type 0
AreOfItsTakes found = AreOfTakes (splice_content found.splice) found.takes

-- ---- stages
-- what a splice reads of a take, whichever splice and take these are, if what it reads was kept of the take's file
abbrev pub KeepsExcerpts : Kept → Excerpts → Type 0
KeepsExcerpts kept excerpts = (splice : SpliceContent) (number : ℕ) (file : List ℕ) → AreStated (around_of kept.outline)
    → IsKeptOf (around_of kept.outline) (ranges_of splice number) (stretches_in kept) file → HoldsExcerpts splice number file excerpts
