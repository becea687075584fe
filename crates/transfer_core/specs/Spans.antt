-- Where a part begins and ends, by places in a recording.
use Rattle.std.specs.Prelude.{◌≡◌, ◌≢◌, ℕ, ◌*◌, ◌/◌, ◌%◌, ◌<◌, ◌≤◌, ◌^◌, ◌⊎◌, ℤ, pos, negsuc, List, length, slice_get, Option, Some, None}
use Rattle.std.specs.Int.{div_ceil}
use Rattle.dsd_bits.specs.Contents.{MarkContent}
use Rattle.dsdiff_core.specs.MarkPlaces.{place_of}
use Rattle.fir_core.specs.Decimator.{Decimator}
use Rattle.form_core.specs.Steps.{FailsUnless}
use Rattle.sound_core.specs.declared.fault.StreamFault.TheVariants.{RateNotDivided}
use Rattle.request_core.specs.declared.fault.Fault.{Fault}
use Rattle.request_core.specs.declared.fault.Fault.TheVariants.{Memory, Stream}
use Rattle.place_core.specs.declared.place.Place.{Place}
use Rattle.place_core.specs.declared.place.Place.TheVariants.{Time, Frame, Mark}
use Rattle.transfer_core.specs.declared.frames.PlayedFrames.{PlayedFrames}
use Rattle.transfer_core.specs.declared.spans.Span.{Span}
use Rattle.request_core.specs.declared.span_fault.SpanFault.{SpanFault}
use Rattle.request_core.specs.declared.span_fault.SpanFault.TheVariants.{NoMark, PartOutside, PartReversed}
use Rattle.request_core.specs.Projects.{SaysDecimator, decimator_of_text}

-- the frames that a project plays of `count` bits a channel at this rate, which its factor divides
pub record AreFramesOf (project : List ℕ) (rate count : ℕ) (f : PlayedFrames) : Type 0 where
  pub decimator : Decimator
  pub says : SaysDecimator project decimator
  pub divided : rate % decimator.factor ≡ 0
  pub rate_is : f.rate ≡ rate / decimator.factor
  pub factor_is : f.factor ≡ decimator.factor
  pub count_is : f.count ≡ div_ceil count decimator.factor

-- none are played: the fault is the first of the project and its decimator, or the factor does not divide the rate
abbrev pub FramesRefused : List ℕ → ℕ → Fault → Type 0
FramesRefused project rate fault = FailsUnless Memory fault (decimator_of_text project) ⊎ ((d : Decimator) × SaysDecimator project d × (rate % d.factor ≢ 0) × (fault ≡ Stream RateNotDivided))

-- a place before the recording is its beginning
abbrev pub from_start : ℤ → ℕ
from_start (pos n) = n
from_start (negsuc n) = 0

-- the frame at a place of a recording with these marks: the last that begins at it or before it
abbrev pub IsFrameAt : PlayedFrames → ℕ → List MarkContent → Place → ℕ → Type 0
IsFrameAt f rate marks (Time nanoseconds) frame = frame ≡ nanoseconds * f.rate / 10 ^ 9
IsFrameAt f rate marks (Frame number) frame = frame ≡ number
IsFrameAt f rate marks (Mark number) frame = (m : MarkContent) × (slice_get marks number ≡ Some m) × (frame ≡ from_start (place_of m rate) / f.factor)

-- the place is a mark that isn't there
abbrev pub IsNoMark : List MarkContent → Place → Type 0
IsNoMark marks (Mark number) = length marks ≤ number
IsNoMark marks (Time nanoseconds) = ⊥
IsNoMark marks (Frame number) = ⊥

-- the frame at a place, or this one where no place is named
abbrev pub IsFrameOr : PlayedFrames → ℕ → List MarkContent → ℕ → Option Place → ℕ → Type 0
IsFrameOr f rate marks usual (Some place) frame = IsFrameAt f rate marks place frame
IsFrameOr f rate marks usual None frame = frame ≡ usual

-- the frames from one on, up to another that is not among them, are those between the span's places, and lie in the
-- recording
pub record IsSpanOf (f : PlayedFrames) (rate : ℕ) (marks : List MarkContent) (span : Span) (start stop : ℕ) : Type 0 where
  pub starts : IsFrameOr f rate marks 0 span.from start
  pub stops : IsFrameOr f rate marks f.count span.to stop
  pub ordered : start ≤ stop
  pub inside : stop ≤ f.count

-- the span's places have these frames
pub record HaveFrames (f : PlayedFrames) (rate : ℕ) (marks : List MarkContent) (span : Span) (start stop : ℕ) : Type 0 where
  pub starts : IsFrameOr f rate marks 0 span.from start
  pub stops : IsFrameOr f rate marks f.count span.to stop

-- a place that is named is a mark that isn't there
abbrev pub IsNoMarkIn : List MarkContent → Option Place → Type 0
IsNoMarkIn marks (Some place) = IsNoMark marks place
IsNoMarkIn marks None = ⊥

-- why there is no such part, the first of these: a mark that isn't there; a place after the recording's end; an end
-- before the beginning, where both lie in the recording
abbrev pub SpanRefused : PlayedFrames → ℕ → List MarkContent → Span → SpanFault → Type 0
SpanRefused f rate marks span NoMark = IsNoMarkIn marks span.from ⊎ IsNoMarkIn marks span.to
SpanRefused f rate marks span PartOutside = (start : ℕ) × (stop : ℕ) × HaveFrames f rate marks span start stop × ((f.count < start) ⊎ (f.count < stop))
SpanRefused f rate marks span PartReversed = (start : ℕ) × (stop : ℕ) × HaveFrames f rate marks span start stop × (stop < start) × (start ≤ f.count)
