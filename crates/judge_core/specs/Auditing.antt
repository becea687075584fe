-- What is found in the sound of a master while it is read.
use Rattle.std.specs.Prelude.{◌≡◌, ℕ, ◌+◌, ◌-◌, ◌<◌, ◌≤◌, Bool, List, [], ◌++◌, None, Option, IfSome, length, map, slice_index_or}
use Rattle.std.specs.List.{range_with_len}
use Rattle.chunk_core.specs.declared.inlet.Inlet.{Inlet}
use Rattle.dsd_bits.specs.declared.sound.Sound.{Sound}
use Rattle.dsd_bits.specs.declared.stretches.BitRange.{BitRange}
use Rattle.dsd_bits.specs.Sounds.{sound_channels}
use Rattle.form_core.specs.declared.form.Form.{Form}
use Rattle.cut_core.specs.Cuts.{CutContent, cue_at, master_length, take_channels}
use Rattle.judge_core.specs.declared.finding.Found.{Found}
use Rattle.cut_core.specs.Claims.{bridge_start}
use Rattle.judge_core.specs.Comparing.{FindsOff}
use Rattle.judge_core.specs.Kept.{IsFoundOf, FindAllOff}
use Rattle.sound_core.specs.Keepers.{Keeps}
use Rattle.sound_core.specs.Outlines.{AreStated, IsPlacedIn, around_of, with_sound}
use Rattle.sound_core.specs.Reads.{Reads}
use Rattle.sound_core.specs.Stretches.{items_of}
use Rattle.judge_core.specs.declared.auditing.Audited.{Audited}
use Rattle.judge_core.specs.declared.auditor.Auditor.{Auditor}

-- the range of the bridge after cue i in the master
abbrev pub bridge_range : CutContent → ℕ → BitRange
bridge_range cut i = record { start = bridge_start cut i; stop = bridge_start cut i + (cue_at cut i).bridge }

-- the range of the bridge after each cue but the last
abbrev pub bridge_ranges : CutContent → List BitRange
bridge_ranges cut = map (bridge_range cut) (range_with_len 0 (length cut.splice.cues - 1))

-- ---- a sound that is read
-- a sound has as many channels as the master, and each as many bits
pub record HasMeasure (cut : CutContent) (s : Sound) : Type 0 where
  pub number : s.channels ≡ take_channels cut
  pub long : s.count ≡ master_length cut.splice.cues

-- these are parts of a master's channels, which follow `done` bits
pub record AreParts (cut : CutContent) (done : ℕ) (parts : List (List Bool)) : Type 0 where
  pub number : length parts ≡ take_channels cut
  pub inside : (c : ℕ) → c < take_channels cut → done + length (slice_index_or parts c []) ≤ master_length cut.splice.cues

-- if the old list has for each channel the first bit that isn't that of the cue there, the new list has it for the
-- channels with these parts added
pub record FindMoreOff (cut : CutContent) (done : ℕ) (parts : List (List Bool)) (old new : List (Option ℕ)) : Type 0 where
  pub number : length new ≡ length old
  pub states : (c : ℕ) → c < take_channels cut → (before : List Bool) → length before ≡ done → FindsOff cut c before (slice_index_or old c None) → FindsOff cut c (before ++ slice_index_or parts c []) (slice_index_or new c None)

-- after these bytes of a sound, which are whole groups of blocks or all of it: the stretches of their channels, and if
-- the sound has as many channels and bits as the master, for each channel the first bit that isn't that of the cue
-- there
pub record Audits (cut : CutContent) (s : Sound) (ranges : List BitRange) (done : ℕ) (stretches : List (List (List Bool))) (firsts : List (Option ℕ)) (bytes : List ℕ) : Type 0 where
  pub keeps : Keeps s ranges done stretches bytes
  pub number : length firsts ≡ take_channels cut
  pub states : HasMeasure cut s → FindAllOff cut (sound_channels s.interleaving s.channels done bytes) firsts

-- the auditor's cut and ranges are those of the first one, and it holds what these bytes give
pub record IsAuditing (first a : Auditor) (s : Sound) (done : ℕ) (bytes : List ℕ) : Type 0 where
  pub same : a.cut.now ≡ first.cut.now
  pub ranges : a.keeper.ranges.now ≡ first.keeper.ranges.now
  pub audits : Audits a.cut.now s a.keeper.ranges.now done (items_of a.keeper.stretches.items) a.firsts.items bytes

-- ---- the whole file
-- what was found in a file of this form
abbrev pub found_in : Form → Audited → Found
found_in form a = record { form = form; recording = a.outline.recording; count = a.outline.sound.count; differs = a.differs; kept = a.kept }

-- the file is the outline with some sound, and this was found in the recording with the channels of that sound
abbrev pub IsAuditOf : CutContent → Audited → List ℕ → Type 0
IsAuditOf cut a file = (sound : List ℕ) × IsPlacedIn (around_of a.outline) file sound × ((form : Form) → IsFoundOf cut (found_in form a) (with_sound a.outline.recording a.outline.sound sound))

-- the outline describes a recording; and if the reader's bytes are known, they are a file as in `IsAuditOf`
abbrev pub AuditsFile : Option (List ℕ) → CutContent → Audited → Type 0
AuditsFile left cut a = AreStated (around_of a.outline) × IfSome left (IsAuditOf cut a)

-- the reader returned some bytes, which are a file as in `IsAuditOf`; this also holds if its bytes aren't known
abbrev pub AuditsGiven : {R : Type 0} → (R → Option (List ℕ)) → Inlet R → Inlet R → CutContent → Audited → Type 0
AuditsGiven left old new cut a = (read : List ℕ) × Reads left old new read × IsAuditOf cut a read
