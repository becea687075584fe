-- How a part is found in what was read of a file, or why it isn't.
use Rattle.std.proofs.Common.{◌≡◌, ℕ, inl, inr, List, [], Option, None, Some, Result, Ok, Err, IfOk, subst, sym, ap, ◌∙◌, arith}
use Rattle.std.proofs.lemmas.Option.{slice_get_past}
use Rattle.std.specs.Io.KnownBytes.{prepend_known}
use Rattle.dsd_bits.specs.Contents.{MarkContent}
use Rattle.dsd_bits.specs.declared.sound.Sound.{Sound}
use Rattle.folder_core.specs.Files.{IsGiven, View}
use Rattle.sound_core.specs.Files.{LeadsToSound}
use Rattle.transfer_core.specs.Spans.{AreFramesOf, HaveFrames, IsFrameAt, IsFrameOr, IsNoMarkIn, IsSpanOf, SpanRefused}
use Rattle.transfer_core.specs.declared.frames.PlayedFrames.{PlayedFrames}
use Rattle.place_core.specs.declared.place.Place.{Place}
use Rattle.place_core.specs.declared.place.Place.TheVariants.{Time, Frame, Mark}
use Rattle.transfer_core.specs.declared.spans.Span.{Span}
use Rattle.request_core.specs.declared.span_fault.SpanFault.{SpanFault}
use Rattle.request_core.specs.declared.span_fault.SpanFault.TheVariants.{NoMark, PartOutside, PartReversed}
use Rattle.transfer_commands.specs.Outlining.{IsUnoutlined}
use Rattle.transfer_commands.specs.Gaps.{IsFactorOf}
use Rattle.transfer_commands.specs.PartPlaying.{DescribesRead, FindsSpan, HasSpanInReport, HasSpanInSound, IsFound, IsMark, IsNotInReport, IsNotInSound, IsUnfound, LacksSpan, NamesMark, ReportsRead}
use Rattle.transfer_commands.specs.Reporting.{ReportComesTo}
use Rattle.transfer_commands.specs.declared.fault.CommandFault.{CommandFault}
use Rattle.transfer_commands.specs.declared.fault.CommandFault.TheVariants.{Call, ReadFailed, WriteFailed}
use Rattle.transfer_commands.specs.declared.parts.Part.{Part}
use Rattle.transfer_commands.specs.declared.parts.PartFault.{PartFault}
use Rattle.transfer_commands.specs.declared.parts.PartFault.TheVariants.{Command, Span as Spans}
use Rattle.transfer_commands.specs.declared.reporting.Reported.{Reported}
use Rattle.transfer_commands.proofs.OpeningLaws.{prefix_read}

-- ---- a place has one frame at most
marked_once : {M : Type 0} (frame_of : M → ℕ) (mark : Option M) (a b : ℕ) → (m : M) × (mark ≡ Some m) × (a ≡ frame_of m) → (m : M) × (mark ≡ Some m) × (b ≡ frame_of m) → a ≡ b
marked_once frame_of None a b one other = let none = one.1 in absurd cc
marked_once frame_of (Some m) a b one other =
    let first = one.1 in
    let second = other.1 in
    let same : one.0 ≡ other.0 = cc in
    one.2 ∙ ap frame_of same ∙ sym other.2

frame_at_once : (f : PlayedFrames) (rate : ℕ) (marks : List MarkContent) (place : Place) (a b : ℕ) → IsFrameAt f rate marks place a → IsFrameAt f rate marks place b → a ≡ b
frame_at_once f rate marks (Time nanoseconds) a b one other = one ∙ sym other
frame_at_once f rate marks (Frame number) a b one other = one ∙ sym other
frame_at_once f rate marks (Mark number) a b one other = marked_once _ _ a b one other

frame_or_once : (f : PlayedFrames) (rate : ℕ) (marks : List MarkContent) (usual : ℕ) (place : Option Place) (a b : ℕ) → IsFrameOr f rate marks usual place a → IsFrameOr f rate marks usual place b → a ≡ b
frame_or_once f rate marks usual None a b one other = one ∙ sym other
frame_or_once f rate marks usual (Some place) a b one other = frame_at_once f rate marks place a b one other

-- a mark that isn't there has none
no_frame : (f : PlayedFrames) (rate : ℕ) (marks : List MarkContent) (usual : ℕ) (place : Option Place) (frame : ℕ) → IsNoMarkIn marks place → IsFrameOr f rate marks usual place frame → ⊥
no_frame f rate marks usual None frame none is = absurd none
no_frame f rate marks usual (Some (Time nanoseconds)) frame none is = absurd none
no_frame f rate marks usual (Some (Frame number)) frame none is = absurd none
no_frame f rate marks usual (Some (Mark number)) frame none is =
    let past = slice_get_past marks number none in
    let there = is.1 in
    absurd cc

-- a span that is refused has no frames
span_lacks : (f : PlayedFrames) (rate : ℕ) (marks : List MarkContent) (span : Span) (fault : SpanFault) → SpanRefused f rate marks span fault → (start stop : ℕ) → IsSpanOf f rate marks span start stop → ⊥
span_lacks f rate marks span NoMark (inl none) start stop is = no_frame f rate marks 0 span.from start none is.starts
span_lacks f rate marks span NoMark (inr none) start stop is = no_frame f rate marks f.count span.to stop none is.stops
span_lacks f rate marks span PartOutside h start stop is =
    let from = frame_or_once f rate marks 0 span.from h.0 start h.2.starts is.starts in
    let to = frame_or_once f rate marks f.count span.to h.1 stop h.2.stops is.stops in
    elim h.3 [
      | inl more ↦ omega (arith, more, from, is.ordered, is.inside)
      | inr more ↦ omega (arith, more, to, is.inside)
    ]
span_lacks f rate marks span PartReversed h start stop is =
    let from = frame_or_once f rate marks 0 span.from h.0 start h.2.starts is.starts in
    let to = frame_or_once f rate marks f.count span.to h.1 stop h.2.stops is.stops in
    omega (arith, h.3, from, to, is.ordered)

pub lacking : (project : List ℕ) (span : Span) (fault : SpanFault) (rate count : ℕ) (marks : List MarkContent) (frames : PlayedFrames) → AreFramesOf project rate count frames → SpanRefused frames rate marks span fault → LacksSpan project span fault rate count marks
lacking project span fault rate count marks frames are refused = record { frames = frames; frames_are = are; refused = refused; none = span_lacks frames rate marks span fault refused }

-- ---- whichever marks there are
frame_any : (f : PlayedFrames) (rate : ℕ) (marks : List MarkContent) (place : Place) (frame : ℕ) → IsFrameAt f rate [] place frame → IsFrameAt f rate marks place frame
frame_any f rate marks (Time nanoseconds) frame h = h
frame_any f rate marks (Frame number) frame h = h
frame_any f rate marks (Mark number) frame h = let none = h.1 in absurd cc

frame_or : (f : PlayedFrames) (rate : ℕ) (marks : List MarkContent) (usual : ℕ) (place : Option Place) (frame : ℕ) → IsFrameOr f rate [] usual place frame → IsFrameOr f rate marks usual place frame
frame_or f rate marks usual None frame h = h
frame_or f rate marks usual (Some place) frame h = frame_any f rate marks place frame h

pub span_any : (f : PlayedFrames) (rate : ℕ) (none : List MarkContent) (span : Span) (start stop : ℕ) → none ≡ [] → IsSpanOf f rate none span start stop → (marks : List MarkContent) → IsSpanOf f rate marks span start stop
span_any f rate none span start stop is h marks =
    let k = subst (λ ms. IsSpanOf f rate ms span start stop) is h in
    record {
      starts = frame_or f rate marks 0 span.from start k.starts;
      stops = frame_or f rate marks f.count span.to stop k.stops;
      ordered = k.ordered;
      inside = k.inside;
    }

have_any : (f : PlayedFrames) (rate : ℕ) (marks : List MarkContent) (span : Span) (start stop : ℕ) → HaveFrames f rate [] span start stop → HaveFrames f rate marks span start stop
have_any f rate marks span start stop h = record { starts = frame_or f rate marks 0 span.from start h.starts; stops = frame_or f rate marks f.count span.to stop h.stops }

is_named : (place : Option Place) → IsNoMarkIn [] place → IsMark place
is_named None none = absurd none
is_named (Some (Time nanoseconds)) none = absurd none
is_named (Some (Frame number)) none = absurd none
is_named (Some (Mark number)) none = tt

refused_any : (f : PlayedFrames) (rate : ℕ) (span : Span) (fault : SpanFault) → SpanRefused f rate [] span fault → (NamesMark span → ⊥) → (marks : List MarkContent) → SpanRefused f rate marks span fault
refused_any f rate span NoMark (inl none) unnamed marks = absurd (unnamed (inl (is_named span.from none)))
refused_any f rate span NoMark (inr none) unnamed marks = absurd (unnamed (inr (is_named span.to none)))
refused_any f rate span PartOutside h unnamed marks = (h.0, h.1, have_any f rate marks span h.0 h.1 h.2, h.3)
refused_any f rate span PartReversed h unnamed marks = (h.0, h.1, have_any f rate marks span h.0 h.1 h.2, h.3, h.4)

pub lacking_any : (project : List ℕ) (sound : Sound) (span : Span) (fault : SpanFault) (none : List MarkContent) (frames : PlayedFrames) → none ≡ [] → AreFramesOf project sound.rate sound.count frames → SpanRefused frames sound.rate none span fault
    → IsNotInSound project sound span (Spans fault)
lacking_any project sound span fault none frames is are refused = λ unnamed marks.
    lacking project span fault sound.rate sound.count marks frames are (refused_any frames sound.rate span fault (subst (λ ms. SpanRefused frames sound.rate ms span fault) is refused) unnamed marks)

-- ---- by what is reported of a file
module _ (project name : List ℕ) (view : View) (reported : Reported) (span : Span) (reports : ReportsRead name view reported) where
  pub found_in_report : (r : Result Part PartFault) → IfOk r (λ part. part.project.now ≡ project) → IfOk r (λ part. IsFactorOf part.project.now part.factor) → IfOk r (λ part. HasSpanInReport project reported span part.start part.stop) → IfOk r (IsFound project name view span)
  found_in_report (Ok part) is factor has = (is, factor, inl (reported, reports, has))
  found_in_report (Err fault) is factor has = tt

  pub unfound_in_report : (fault : PartFault) → IsNotInReport project reported span fault → IsUnfound project name view span fault
  unfound_in_report (Command (Call fault)) none = inr (inr (inl (reported, reports, none)))
  unfound_in_report (Command ReadFailed) none = absurd none
  unfound_in_report (Command WriteFailed) none = absurd none
  unfound_in_report (Spans fault) none = inl (reported, reports, none)

-- ---- by the sound that first bytes describe
module _ (project name prefix : List ℕ) (view : View) (left : Option (List ℕ)) (sound : Sound) (span : Span) (given : IsGiven view name (prepend_known prefix left)) (states : LeadsToSound prefix sound) where
  described : DescribesRead name view sound
  described = let read = prefix_read view name prefix left given in record { prefix = prefix; rest = read.0; file_read = read.1; states = states }

  pub found_in_sound : (start stop : ℕ) → HasSpanInSound project sound span start stop → FindsSpan project name view span start stop
  found_in_sound start stop has = inr (sound, described, has)

  pub unfound_in_sound : (NamesMark span → ⊥) → (fault : PartFault) → IsNotInSound project sound span fault → IsUnfound project name view span fault
  unfound_in_sound unnamed (Command (Call fault)) none = inr (inr (inr (sound, described, λ marks. none)))
  unfound_in_sound unnamed (Command ReadFailed) none = absurd none
  unfound_in_sound unnamed (Command WriteFailed) none = absurd none
  unfound_in_sound unnamed (Spans fault) none = inr (sound, described, none unnamed)

-- ---- a file that is not read, or holds no recording
pub unopened_unfound : (project name : List ℕ) (view : View) (span : Span) (f : CommandFault) → IsUnoutlined name view f → IsUnfound project name view span (Command f)
unopened_unfound project name view span (Call fault) (inl none) = inl none
unopened_unfound project name view span (Call fault) (inr is) = inr (inl is)
unopened_unfound project name view span ReadFailed is = tt
unopened_unfound project name view span WriteFailed is = absurd is

pub unreported_unfound : (project name : List ℕ) (old new : View) (span : Span) (f : CommandFault) → ReportComesTo name old new (Err f) → IsUnfound project name old span (Command f)
unreported_unfound project name old new span (Call fault) h = elim h.1 [ inl none ↦ inl none | inr is ↦ inr (inl is) ]
unreported_unfound project name old new span ReadFailed h = tt
unreported_unfound project name old new span WriteFailed h = absurd h
