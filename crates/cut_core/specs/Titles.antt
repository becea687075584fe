-- The marks of a master's titles.
use Rattle.std.specs.Prelude.{◌≡◌, ℕ, ◌+◌, List, [], ◌∷◌, ◌++◌, Option, Some, None, map}
use Rattle.dsd_bits.specs.Contents.{MarkContent, mark_content}
use Rattle.dsd_bits.specs.declared.marks.Mark.{Mark}
use Rattle.dsdiff_core.specs.MarkPlaces.{title_mark}
use Rattle.splice_core.specs.Cues.{CueContent}
use Rattle.cut_core.specs.Cuts.{CutContent, span}

-- the mark of a title at a place, if there is a title
abbrev pub mark_of_title : ℕ → ℕ → Option (List ℕ) → List MarkContent
mark_of_title rate place None = []
mark_of_title rate place (Some text) = title_mark place rate text ∷ []

-- the marks of cues, the first of which starts at a place: one for each title, at its cue's first bit
unfoldable pub titles_from : ℕ → ℕ → List CueContent → List MarkContent
titles_from rate place [] = []
titles_from rate place (cue ∷ cues) = mark_of_title rate place cue.title ++ titles_from rate (place + span cue) cues

-- the marks of a master at a rate
abbrev pub titles : ℕ → List CueContent → List MarkContent
titles rate cues = titles_from rate 0 cues

-- the marks of a cut's titles, at the rate of its takes
abbrev pub titles_of : CutContent → List MarkContent
titles_of cut = titles cut.first.rate cut.splice.cues

-- the mark of a cue's title, if it has one, was added at a place
abbrev pub AddsTitle : ℕ → ℕ → CueContent → List Mark → List Mark → Type 0
AddsTitle rate place cue old new = map mark_content new ≡ map mark_content old ++ mark_of_title rate place cue.title
