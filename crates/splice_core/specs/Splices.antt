-- What a splice holds.
use Rattle.std.specs.Prelude.{ℕ, ℤ, List, map, string_bytes}
use Rattle.splice_core.specs.declared.splice.Splice.{Splice}
use Rattle.splice_core.specs.Cues.{CueContent, cue_content}

-- a splice: its weights, the bytes of the takes' names, and its cues
pub record SpliceContent : Type 0 where
  pub weights : List ℤ
  pub takes : List (List ℕ)
  pub cues : List CueContent

-- what a splice holds
abbrev pub splice_content : Splice → SpliceContent
splice_content s = record { weights = s.weights.items; takes = map string_bytes s.takes.items; cues = map cue_content s.cues.items }
