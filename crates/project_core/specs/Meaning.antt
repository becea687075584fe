-- What a project text says, without an order of reading.
use Rattle.std.specs.Prelude.{◌≡◌, ℕ, ℤ, List, [], ◌∷◌, map, length, Option, Some, None, codes, option_map, ◌⊎◌}
use Rattle.std.specs.List.{AllZip}
use Rattle.toml.specs.Data.{Data, string, array, table, Members, get_member}
use Rattle.toml.specs.View.{items_of}
use Rattle.fir_core.specs.Decimator.{Decimator, IsWithinLimits}
use Rattle.project_core.specs.declared.key.Key.TheVariants as keys
use Rattle.project_core.specs.Keys.{key_name, top_keys, decimate_keys, splice_keys, cue_keys}
use Rattle.project_core.specs.Tables.{FindsOnly, Has, Lacks, number, numbers, table_in, texts}
use Rattle.splice_core.specs.declared.cue.Target.{Target}
use Rattle.splice_core.specs.declared.cue.Target.TheVariants.{Fade, Line}
use Rattle.splice_core.specs.Cues.{CueContent, IsCueWithin, IsSplicing}
use Rattle.splice_core.specs.Splices.{SpliceContent}
use Rattle.project_core.specs.Projects.{ProjectContent}

-- a table describes this decimator
pub record IsDecimate (t : Members) (d : Decimator) : Type 0 where
  pub no_others : FindsOnly decimate_keys t
  pub taps : Has t keys.Taps (numbers d.taps)
  pub factor : Has t keys.Factor (number d.factor)
  pub delay : Has t keys.Delay (number d.delay)
  pub shift : Has t keys.Shift (number d.shift)
  pub width : Has t keys.Width (number d.width)
  pub limits : IsWithinLimits d

-- a target as it is named in a text
abbrev pub target_name : Target → List ℕ
target_name Fade = codes "fade"
target_name (Line a b) = codes "line"

-- the two ends of a line, if the target is one
abbrev pub line_ends : Target → Option (List ℤ)
line_ends Fade = None
line_ends (Line a b) = Some (a ∷ b ∷ [])

-- a table describes this cue, for a number of weights and of takes; without a bridge it is a plain cut, and without a
-- target its target is the fade
pub record IsCue (weights takes : ℕ) (t : Members) (c : CueContent) : Type 0 where
  pub no_others : FindsOnly cue_keys t
  pub take : Has t keys.Take (number c.take)
  pub start : Has t keys.Start (number c.start)
  pub stop : Has t keys.Stop (number c.stop)
  pub bridge : Has t keys.Bridge (number c.bridge) ⊎ (Lacks t keys.Bridge × (c.bridge ≡ 0))
  pub target : Has t keys.Target (string (target_name c.target)) ⊎ (Lacks t keys.Target × (c.target ≡ Fade))
  pub line : get_member (key_name keys.Line) t ≡ option_map numbers (line_ends c.target)
  pub title : get_member (key_name keys.Title) t ≡ option_map string c.title
  pub limits : IsCueWithin weights takes c

-- a table describes this splice: weights, the names of takes, and a table for each cue
pub record IsSplice (t : Members) (s : SpliceContent) : Type 0 where
  pub no_others : FindsOnly splice_keys t
  pub weights : Has t keys.Weights (numbers s.weights)
  pub takes : Has t keys.Takes (texts s.takes)
  pub cues : (ts : List Members) × Has t keys.Cue (array (items_of (map table ts))) × AllZip (IsCue (length s.weights) (length s.takes)) ts s.cues
  pub limits : IsSplicing s.weights (length s.takes) s.cues

-- no value means nothing; a value must be a table, of which P holds with what is there
abbrev pub SaysOptional : {A : Type 0} → (Members → A → Type 0) → Option Data → Option A → Type 0
SaysOptional P None None = Unit {0}
SaysOptional P None (Some x) = ⊥
SaysOptional P (Some d) None = ⊥
SaysOptional P (Some d) (Some x) = (t : Members) × (d ≡ table t) × P t x

-- a document describes this project: each of its two tables is there exactly if the project has it
pub record IsProjectTable (t : Members) (p : ProjectContent) : Type 0 where
  pub no_others : FindsOnly top_keys t
  pub decimate : SaysOptional IsDecimate (get_member (key_name keys.Decimate) t) p.decimate
  pub splice : SaysOptional IsSplice (get_member (key_name keys.Splice) t) p.splice

-- the bytes are a text that describes this project
abbrev pub IsProject : List ℕ → ProjectContent → Type 0
IsProject bytes p = (t : Members) × (table_in bytes ≡ Some t) × IsProjectTable t p
