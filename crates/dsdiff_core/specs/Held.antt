-- Files whose sound isn't in memory.
use Rattle.std.specs.Prelude.{◌≡◌, ◌≤◌, ◌<◌, ℕ, ◌+◌, ◌^◌, ◌⊎◌, true, List, [], ◌++◌, length, replicate}
use Rattle.chunk_core.specs.declared.layout.Span.{Span}
use Rattle.dsd_bits.specs.declared.marks.Place.{Place}
use Rattle.dsd_bits.specs.declared.marks.Place.TheVariants.{Property, Master, Form}
use Rattle.dsd_bits.specs.Ids.{DSD}
use Rattle.dsdiff_core.specs.declared.held.Held.{Held}
use Rattle.dsdiff_core.specs.Headers.{IsAccepted}
use Rattle.dsdiff_core.specs.Located.{EndsAtHead, stated_size}
use Rattle.dsdiff_core.specs.Spans.{span_has}

-- the bytes of the file, with zeros in place of those that aren't in memory
abbrev pub held : Held → List ℕ
held f = f.prefix.now ++ (replicate f.hole 0 ++ f.back.now)

-- its prefix ends after the header of the sound, which isn't in memory, and it has fewer than 2^64 bytes
abbrev pub IsAround : Held → Type 0
IsAround f = EndsAtHead f.prefix.now × (f.hole ≡ stated_size f.prefix.now) × (length f.prefix.now + f.hole + length f.back.now < 2 ^ 64)

-- the whole file is in memory, or the file without its sound
abbrev pub IsHeld : Held → Type 0
IsHeld f = ((f.hole ≡ 0) × (f.back.now ≡ [])) ⊎ IsAround f

-- the span's data are in memory
pub record IsInMemory (f : Held) (s : Span) : Type 0 where
  pub short : s.start + s.size < 2 ^ 64
  pub side : (s.start + s.size ≤ length f.prefix.now) ⊎ ((length f.prefix.now + f.hole ≤ s.start) × (s.start + s.size ≤ length f.prefix.now + f.hole + length f.back.now))

-- the span's data are in memory, or those of a sound in the file
abbrev pub MayBeInMemory : Held → Span → Type 0
MayBeInMemory f s = IsInMemory f s ⊎ ((span_has DSD s ≡ true) × (s.start + s.size ≤ length (held f)))

-- the same for the chunks of a place: only the form has a sound
abbrev pub IsInMemoryFor : Place → Held → Span → Type 0
IsInMemoryFor Property f s = IsInMemory f s
IsInMemoryFor Master f s = IsInMemory f s
IsInMemoryFor Form f s = MayBeInMemory f s

-- the file is the bytes in memory around its sound, and these bytes of sound; if all of it is in memory, it holds no
-- recording
pub record IsParted (file : List ℕ) (f : Held) (sound : List ℕ) : Type 0 where
  pub is_held : IsHeld f
  pub is : file ≡ f.prefix.now ++ (sound ++ f.back.now)
  pub long : length sound ≡ f.hole
  pub located : IsAccepted file → EndsAtHead f.prefix.now × (f.hole ≡ stated_size f.prefix.now)
