-- Where marks are (DSDIFF 1.5, marker chunk; the use for titles is this project's).
use Rattle.std.specs.Prelude.{◌≡◌, ℕ, ◌+◌, ◌*◌, ◌/◌, ◌%◌, ℤ, pos, ◌+ℤ◌, List}
use Rattle.dsd_bits.specs.Contents.{MarkContent}

-- the place of a mark at a rate, in samples from the start; it is negative before the start
abbrev pub place_of : MarkContent → ℕ → ℤ
place_of m rate = pos (((m.hours * 60 + m.minutes) * 60 + m.seconds) * rate + m.samples) +ℤ m.offset

-- the mark of a title that starts n samples from the start: a track's start for all channels, its time by whole
-- division
abbrev pub title_mark : ℕ → ℕ → List ℕ → MarkContent
title_mark place rate text = record {
  hours = place / rate / 3600;
  minutes = place / rate / 60 % 60;
  seconds = place / rate % 60;
  samples = place % rate;
  offset = pos 0;
  kind = 0;
  channel = 0;
  flags = 0;
  text = text;
}

-- the mark's place at the rate is n samples from the start
abbrev pub IsAt : MarkContent → ℕ → ℕ → Type 0
IsAt mark rate place = place_of mark rate ≡ pos place
