-- Cues, and the limits of a splice.
use Rattle.std.specs.Prelude.{◌≡◌, ℕ, ◌+◌, ◌-◌, ◌^◌, ◌<◌, ◌≤◌, ℤ, unsigned_abs, List, length, slice_get, All, Option, Some, None, option_map, string_bytes}
use Rattle.std.specs.List.{sum_by}
use Rattle.splice_core.specs.declared.cue.Cue.{Cue}
use Rattle.splice_core.specs.declared.cue.Target.{Target}
use Rattle.splice_core.specs.declared.cue.Target.TheVariants.{Line}

-- a cue: the number of its take, its first bit and the place after its last, the length of its bridge, what the bridge leads to, and its title's bytes
pub record CueContent : Type 0 where
  pub take : ℕ
  pub start : ℕ
  pub stop : ℕ
  pub bridge : ℕ
  pub target : Target
  pub title : Option (List ℕ)

-- what a cue holds
abbrev pub cue_content : Cue → CueContent
cue_content c = record { take = c.take; start = c.start; stop = c.stop; bridge = c.bridge; target = c.target; title = option_map string_bytes c.title }

-- the limits of a line
pub record IsLine (a b : ℤ) : Type 0 where
  pub a_fits : unsigned_abs a ≤ 4096
  pub b_fits : unsigned_abs b ≤ 4096

-- a target within its limits: those of a line, if it is one
abbrev pub IsTarget : Target → Type 0
IsTarget target = (a b : ℤ) → target ≡ Line a b → IsLine a b

-- the limits of a cue, for a number of weights and of takes
pub record IsCueWithin (weights takes : ℕ) (c : CueContent) : Type 0 where
  pub take_is_there : c.take < takes
  pub start_fits : c.start ≤ 2 ^ 36
  pub stop_fits : c.stop ≤ 2 ^ 36
  pub bridge_fits : c.bridge ≤ 4096
  pub target_fits : IsTarget c.target
  pub title_fits : (t : List ℕ) → c.title ≡ Some t → length t ≤ 255
  pub long_enough : c.start + weights ≤ c.stop + 1

-- the limits of weights: 2 to 12, with absolute values that add up to at most 4096
pub record AreWeights (weights : List ℤ) : Type 0 where
  pub two_weights : 2 ≤ length weights
  pub few_weights : length weights ≤ 12
  pub small_sum : sum_by unsigned_abs weights ≤ 4096

-- the bridge of a cue, or 0 if there is none
abbrev pub bridge_or : Option CueContent → ℕ
bridge_or None = 0
bridge_or (Some c) = c.bridge

-- the bridge of the last cue
abbrev pub last_bridge : List CueContent → ℕ
last_bridge cues = bridge_or (slice_get cues (length cues - 1))

-- the limits of a splice, for a number of takes
pub record IsSplicing (weights : List ℤ) (takes : ℕ) (cues : List CueContent) : Type 0 where
  pub weights_fit : AreWeights weights
  pub some_takes : 1 ≤ takes
  pub few_takes : takes ≤ 16
  pub some_cues : 1 ≤ length cues
  pub few_cues : length cues ≤ 256
  pub each_fits : All (IsCueWithin (length weights) takes) cues
  pub no_last_bridge : last_bridge cues ≡ 0
