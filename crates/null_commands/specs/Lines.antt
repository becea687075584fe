-- The lines that are printed of a null test.
use Rattle.std.specs.Prelude.{◌≡◌, ℕ, ℤ, ◌+◌, ◌≤◌, ◌⊎◌, List, [], ◌∷◌, ◌++◌, codes, map, Result, Ok, Err}
use Rattle.std.specs.Fmt.{decimal}
use Rattle.std.specs.List.{AllZip, concat}
use Rattle.form_core.specs.declared.fault.ReadFault.{ReadFault}
use Rattle.heard_core.specs.Levels.{IsLevel, level_text}
use Rattle.null_core.specs.declared.stretch.Stretch.{Stretch}
use Rattle.null_core.specs.declared.verdict.Heard.{Heard}
use Rattle.null_core.specs.declared.verdict.Verdict.{Verdict}
use Rattle.null_core.specs.declared.verdict.Verdict.TheVariants.{Accepted, MasterShape, MasterLength, TooLoud, Residual}
use Rattle.null_core.specs.Verdicts.{stretch_lists}
use Rattle.null_commands.specs.declared.tested.Tested.{Tested}

-- the level of a residual to full scale, in decibels; that of 0 is `-inf`
abbrev pub ShowsLevel : ℕ → ℕ → List ℕ → Type 0
ShowsLevel full residual text = ((residual ≡ 0) × (text ≡ codes "-inf")) ⊎ ((1 ≤ residual) × ((k : ℤ) × IsLevel residual full k × (text ≡ level_text k)))

-- the channel of a stretch, and the stretch
pub record Found : Type 0 where
  pub channel : ℕ
  pub stretch : Stretch

-- a stretch of a channel
abbrev pub found_at : ℕ → Stretch → Found
found_at channel stretch = record { channel = channel; stretch = stretch }

-- the stretches of channels, from the channel of a number on
abbrev pub found_from : ℕ → List (List Stretch) → List Found
found_from channel [] = []
found_from channel (stretches ∷ rest) = map (found_at channel) stretches ++ found_from (channel + 1) rest

-- the start of a stretch's line, up to its level: its channel, its first and last place, and its greatest residual
abbrev pub places_text : ℕ → Stretch → List ℕ
places_text channel stretch = codes "channel " ++ decimal channel ++ codes " first " ++ decimal stretch.first ++ codes " last " ++ decimal stretch.last ++ codes " residual " ++ decimal stretch.residual ++ codes " dBFS "

-- the line of a stretch: its channel, its first and last place, its greatest residual, the level of that, and its place
abbrev pub ShowsFound : ℕ → Found → List ℕ → Type 0
ShowsFound full found line = (level : List ℕ) × ShowsLevel full found.stretch.residual level × (line ≡ places_text found.channel found.stretch ++ level ++ codes " place " ++ decimal found.stretch.place)

-- the line of a verdict: the greatest residual of an accepted master and its level, or why it is rejected
abbrev pub ShowsVerdict : ℕ → Verdict → List ℕ → Type 0
ShowsVerdict full (Accepted residual) line = (level : List ℕ) × ShowsLevel full residual level × (line ≡ codes "accepted residual " ++ decimal residual ++ codes " dBFS " ++ level)
ShowsVerdict full (MasterShape found wanted) line = line ≡ codes "rejected MasterShape"
ShowsVerdict full (MasterLength found wanted) line = line ≡ codes "rejected MasterLength"
ShowsVerdict full (TooLoud channel place) line = line ≡ codes "rejected TooLoud " ++ decimal channel ++ codes " " ++ decimal place
ShowsVerdict full (Residual channel place) line = line ≡ codes "rejected Residual " ++ decimal channel ++ codes " " ++ decimal place

-- the lines of stretches, each with its end
pub record ShowsAllFound (full : ℕ) (found : List Found) (text : List ℕ) : Type 0 where
  pub lines : List (List ℕ)
  pub shown : AllZip (ShowsFound full) found lines
  pub text_is : text ≡ concat (map (λ line. line ++ 10 ∷ []) lines)

-- the lines of what is heard, each with its end but the last: those of the stretches by rising channel, and the verdict
pub record ShowsHeard (full : ℕ) (heard : Heard) (text : List ℕ) : Type 0 where
  pub lines : List ℕ
  pub verdict : List ℕ
  pub shown : ShowsAllFound full (found_from 0 (stretch_lists heard)) lines
  pub verdict_shown : ShowsVerdict full heard.verdict verdict
  pub text_is : text ≡ lines ++ verdict

-- the same of a file that may hold no recording
abbrev pub ShowsOpened : ℕ → Result Heard ReadFault → List ℕ → Type 0
ShowsOpened full (Ok heard) text = ShowsHeard full heard text
ShowsOpened full (Err fault) text = text ≡ codes "rejected MasterUnread"

-- the same of a null test of files
abbrev pub ShowsTested : Tested → List ℕ → Type 0
ShowsTested tested text = ShowsOpened tested.full tested.heard text

-- ---- step by step
-- what is appended to a text
abbrev pub Appends : (List ℕ → Type 0) → List ℕ → List ℕ → Type 0
Appends Shows old new = (more : List ℕ) × Shows more × (new ≡ old ++ more)

-- a line with its end
abbrev pub EndsLine : (List ℕ → Type 0) → List ℕ → Type 0
EndsLine Shows text = (line : List ℕ) × Shows line × (text ≡ line ++ 10 ∷ [])
