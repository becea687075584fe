-- DSDIFF forms whose first chunks already show that the file holds no recording. Their fault is open while a later
-- chunk that is the second of its kind would be reported instead of it.
use Rattle.std.specs.Prelude.{◌≡◌, ◌≤◌, ◌<◌, ◌⊎◌, ℕ, ◌+◌, ◌%◌, Bool, true, false, ◌&&◌, ◌||◌, List, [], ◌∷◌, ◌++◌, length, map, drop, find, MatchOption, Option, is_some, Result, Ok, Err}
use Rattle.chunk_core.specs.declared.layout.Head.{Head}
use Rattle.chunk_core.specs.declared.layout.Span.{Span}
use Rattle.chunk_core.specs.declared.numbers.Order.TheVariants.{Big}
use Rattle.chunk_core.specs.Heads.{IsHeadAt}
use Rattle.chunk_core.specs.Places.{span_chunk}
use Rattle.chunk_core.specs.Reading.{spans_in}
use Rattle.chunk_core.specs.Steps.{◌>>=◌}
use Rattle.dsd_bits.specs.Ids.{FVER, DSD}
use Rattle.dsdiff_core.specs.declared.fault.DsdiffFault.{DsdiffFault}
use Rattle.dsdiff_core.specs.declared.fault.DsdiffFault.TheVariants.{Twice}
use Rattle.dsdiff_core.specs.declared.faulty.FaultyStart.{FaultyStart}
use Rattle.dsdiff_core.specs.Fields.{form_end, form_size}
use Rattle.dsdiff_core.specs.Forms.{known_version}
use Rattle.dsdiff_core.specs.Headers.{form_of, size_at}
use Rattle.dsdiff_core.specs.Properties.{property_of}
use Rattle.dsdiff_core.specs.Spans.{holds_property, once_each, span_has, top_kinds}

-- the first fault of a form's chunks in their version and in the kinds that may occur once, if there is one
abbrev pub kinds_of : List ℕ → List Span → Result (Unit {0}) DsdiffFault
kinds_of file top = known_version (map (span_chunk file) top) >>= λ known. once_each (top_kinds file) [] top

-- the same, and then the first fault of their sound property
abbrev pub judged : List ℕ → List Span → Result (Unit {0}) DsdiffFault
judged file top = kinds_of file top >>= λ kinds. property_of file top >>= λ stated. Ok tt

-- the fault of a form: that of its first chunks, or, where it is open, that of the first later chunk that is the second
-- of its kind
abbrev pub first_fault : DsdiffFault → Bool → Result (Unit {0}) DsdiffFault → DsdiffFault
first_fault fault true (Err second) = second
first_fault fault true (Ok u) = fault
first_fault fault false later = fault

-- the fault after one more chunk with this ID, which may be the second of its kind, and whether the fault is open
abbrev pub fault_with : DsdiffFault → Bool → List ℕ → Bool → DsdiffFault × Bool
fault_with fault true id true = (Twice id, false)
fault_with fault true id false = (fault, true)
fault_with fault false id second = (fault, false)

-- these first chunks have this fault: one of their kinds, or, where it is open, one of their sound property
abbrev pub TellFault : List ℕ → List Span → DsdiffFault → Bool → Type 0
TellFault file lead fault false = (1 ≤ length lead) × (kinds_of file lead ≡ Err fault)
TellFault file lead fault true = (kinds_of file lead ≡ Ok tt) × (is_some (find (holds_property file) lead) ≡ true) × (property_of file lead ≡ Err fault)

-- these first chunks have no such fault
abbrev pub TellNone : List ℕ → List Span → Type 0
TellNone file lead = (fault : DsdiffFault) (is_open : Bool) → TellFault file lead fault is_open → ⊥

-- these are the chunks of a form before a place that is even, in the form and where the last of them ends
pub record AreFirst (prefix : List ℕ) (at : ℕ) (lead : List Span) : Type 0 where
  pub form : form_of prefix ≡ Ok tt
  pub low : 16 ≤ at
  pub even : at % 2 ≡ 0
  pub inside : at ≤ length prefix
  pub in_form : at ≤ 12 + form_size prefix
  pub found : spans_in prefix 16 at ≡ Ok lead

-- the chunks of a form before a place have this fault
abbrev pub HaveFault : List ℕ → ℕ → DsdiffFault → Bool → Type 0
HaveFault prefix at fault is_open = (lead : List Span) × AreFirst prefix at lead × TellFault prefix lead fault is_open

-- there are no such chunks before the place, or they have no fault
abbrev pub HaveNone : List ℕ → ℕ → Type 0
HaveNone prefix at = (fault : DsdiffFault) (is_open : Bool) → HaveFault prefix at fault is_open → ⊥

-- one more chunk of these kinds is the second of one
abbrev pub is_second_after : FaultyStart → Bool → Bool → Bool → Bool
is_second_after s is_version is_property is_sound = (is_version && s.version) || ((is_property && s.property) || ((is_sound && s.sound) || false))

-- whichever chunks follow these first ones, the form has the fault that `s` gives; `s` also says whether a version, a
-- sound property and a sound are among these first chunks
pub record AreJudged (file : List ℕ) (lead : List Span) (s : FaultyStart) : Type 0 where
  pub fault : (later : List Span) → judged file (lead ++ later) ≡ Err (first_fault s.fault s.is_open (once_each (top_kinds file) lead later))
  pub version : s.version ≡ is_some (find (span_has FVER) lead)
  pub property : s.property ≡ is_some (find (holds_property file) lead)
  pub sound : s.sound ≡ is_some (find (span_has DSD) lead)

-- if `s` is what the first chunks show, `next` is what they show with one more chunk of this ID. `is_property` says
-- whether that one is a sound property
abbrev pub JudgesNext : FaultyStart → List ℕ → Bool → FaultyStart → Type 0
JudgesNext s id is_property next = (file : List ℕ) (lead : List Span) (span : Span) → AreJudged file lead s → span.id ≡ id → holds_property file span ≡ is_property → AreJudged file (lead ++ span ∷ []) next

-- where the next chunk begins, after the first ones and their pad
abbrev pub next_place : FaultyStart → ℕ
next_place s = s.end + s.pad

-- the first chunks of the file's form end where `s` says, and give the form the fault that `s` says
pub record IsFaulty (file : List ℕ) (s : FaultyStart) : Type 0 where
  pub form : form_of file ≡ Ok tt
  pub size : s.form ≡ form_size file
  pub low : 16 ≤ s.end
  pub inside : s.end ≤ form_end file
  pub lead : List Span
  pub found : (stop : ℕ) → s.end ≤ stop → spans_in file 16 stop ≡ (spans_in file (next_place s) stop >>= λ later. Ok (lead ++ later))
  pub judges : AreJudged file lead s

-- the first `total` bytes are the whole file, or contain its whole form
abbrev pub IsSeen : List ℕ → ℕ → Type 0
IsSeen file total = (length file ≡ total) ⊎ ((12 + form_size file ≤ total) × (total ≤ length file))

-- the form or the file ends before the next chunk does
abbrev pub EndsInNext : List ℕ → FaultyStart → Type 0
EndsInNext file s = next_place s + 12 ≤ form_end file → form_end file < next_place s + 12 + size_at file (next_place s)

-- this is the header of the next chunk; without one, the form or the file ends before it does
abbrev pub IsNextHead : List ℕ → FaultyStart → Option Head → Type 0
IsNextHead file s next = MatchOption next (form_end file < next_place s + 12) (IsHeadAt Big file (next_place s))

-- these bytes of the file begin with the next chunk: there are at least 16, or they reach the end of the file or the
-- form
pub record AreNext (file : List ℕ) (s : FaultyStart) (bytes : List ℕ) : Type 0 where
  pub more : List ℕ
  pub are : drop (next_place s) file ≡ bytes ++ more
  pub enough : (16 ≤ length bytes) ⊎ (more ≡ []) ⊎ (12 + form_size file ≤ next_place s + length bytes)
