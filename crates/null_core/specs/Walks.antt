-- Walking along a channel, from one edited span to the next.
use Rattle.std.specs.Prelude.{◌≡◌, ◌≢◌, ℕ, ◌+◌, ◌-◌, ◌<◌, ◌≤◌, ◌↔◌, ◌⊎◌, ℤ, Bool, false, List, length, Option, Some, MatchOption, slice_get, slice_index_or}
use Rattle.null_core.specs.declared.alone.Alone.{Alone}
use Rattle.null_core.specs.declared.alone.Source.{Source}
use Rattle.null_core.specs.declared.edited.Span.{Span}
use Rattle.null_core.specs.declared.own.OwnRun.{OwnRun}
use Rattle.null_core.specs.Own.{HasBit, IsAlone, IsEdited, IsHeard, IsOwn, IsOwnAround}
use Rattle.null_core.specs.Parts.{AskedContent, PartContent, part_bit}

-- no take's own bits are asked for at a place
abbrev pub IsNoOnesAlone : List PartContent → ℕ → Type 0
IsNoOnesAlone parts m = (t : ℕ) (o : ℤ) → IsAlone parts t o m → ⊥

-- no take has the master's bit at a place as its own
abbrev pub IsNoOnes : List PartContent → List Bool → ℕ → Type 0
IsNoOnes parts bits m = (t : ℕ) (o : ℤ) → IsOwn parts bits t o m → ⊥

-- the parts that are heard at one place are those that are heard at another
abbrev pub HearSame : List PartContent → ℕ → ℕ → Type 0
HearSame parts m k = (i : ℕ) (p : PartContent) → slice_get parts i ≡ Some p → IsHeard m p ↔ IsHeard k p

-- from a place up to another one the own bits of one source are asked for, or those of none; if it is one, the same parts
-- are heard at all these places
pub record IsAloneFrom (parts : List PartContent) (m : ℕ) (found : Alone) : Type 0 where
  pub some : m < found.until
  pub same : (k : ℕ) → m ≤ k → k < found.until → MatchOption found.source (IsNoOnesAlone parts k) (λ (s : Source). IsAlone parts s.take s.ahead k)
  pub heard : (s : Source) → found.source ≡ Some s → (k : ℕ) → m ≤ k → k < found.until → HearSame parts m k

-- all places of the master from one up to another are a take's own
abbrev pub AreOwn : List PartContent → List Bool → ℕ → ℤ → ℕ → ℕ → Type 0
AreOwn parts bits t o from to = (k : ℕ) → from ≤ k → k < to → IsOwn parts bits t o k

-- from a place up to another one, `high` at most, the master has the own bits of one source, or those of none
pub record IsOwnPiece (parts : List PartContent) (bits : List Bool) (m high : ℕ) (run : OwnRun) : Type 0 where
  pub some : m < run.until
  pub inside : run.until ≤ high
  pub same : (k : ℕ) → m ≤ k → k < run.until → MatchOption run.source (IsNoOnes parts bits k) (λ (s : Source). IsOwn parts bits s.take s.ahead k)

-- the own bits of a source go on from a place up to another one, which is `high`, or they end there
pub record IsOwnTo (parts : List PartContent) (bits : List Bool) (s : Source) (from high to : ℕ) : Type 0 where
  pub after : from ≤ to
  pub inside : to ≤ high
  pub same : AreOwn parts bits s.take s.ahead from to
  pub ends : (to ≡ high) ⊎ (IsOwn parts bits s.take s.ahead to → ⊥)

-- from a place up to another one the master has the own bits of one source, or those of none; that one is `high`, or
-- those of one end there
pub record IsOwnFrom (parts : List PartContent) (bits : List Bool) (m high : ℕ) (run : OwnRun) : Type 0 where
  pub some : m < run.until
  pub inside : run.until ≤ high
  pub same : (k : ℕ) → m ≤ k → k < run.until → MatchOption run.source (IsNoOnes parts bits k) (λ (s : Source). IsOwn parts bits s.take s.ahead k)
  pub ends : (s : Source) → run.source ≡ Some s → (run.until ≡ high) ⊎ (IsOwn parts bits s.take s.ahead run.until → ⊥)

-- from place m up to another one the master has the bits of each part that is heard; that one is `until`, or it hasn't
-- such a part's bit
pub record AreAlikeTo (parts : List PartContent) (bits : List Bool) (m until end : ℕ) : Type 0 where
  pub after : m ≤ end
  pub before : end ≤ until
  pub same : (k : ℕ) → m ≤ k → k < end → HasBit parts bits k
  pub ends : end < until → HasBit parts bits end → ⊥

-- from place m up to another one the master has the bits of a part; that one is `until`, or its bit is another
pub record IsAlikeTo (p : PartContent) (bits : List Bool) (m until end : ℕ) : Type 0 where
  pub after : m ≤ end
  pub before : end ≤ until
  pub same : (k : ℕ) → m ≤ k → k < end → slice_index_or bits k false ≡ part_bit p k
  pub ends : end < until → slice_index_or bits end false ≢ part_bit p end

-- place `past` is place `low`, or the one after a place whose bit isn't the part's
pub record IsPastOther (p : PartContent) (bits : List Bool) (low high past : ℕ) : Type 0 where
  pub after : low ≤ past
  pub before : past ≤ high
  pub other : low < past → slice_index_or bits (past - 1) false ≢ part_bit p (past - 1)

-- place `past` is place `low`, or the one after a place that hasn't the bit of a part that is heard there
pub record IsPastHeard (parts : List PartContent) (bits : List Bool) (low high past : ℕ) : Type 0 where
  pub after : low ≤ past
  pub before : past ≤ high
  pub other : low < past → HasBit parts bits (past - 1) → ⊥

-- place `past` is place `low`, or the one after a place that is no take's own
pub record IsPastOthers (parts : List PartContent) (bits : List Bool) (low high past : ℕ) : Type 0 where
  pub after : low ≤ past
  pub before : past ≤ high
  pub other : low < past → IsNoOnes parts bits (past - 1)

-- the part has all places of the master from one up to another
pub record HasPlaces (p : PartContent) (bits : List Bool) (from to : ℕ) : Type 0 where
  pub begun : p.at ≤ from
  pub in_order : from ≤ to
  pub not_ended : to ≤ p.at + p.size
  pub inside : to ≤ length bits

-- the places from `low` up to `high` are one take's own, and `next` is `low`; or no take's own are all those from the one
-- before `next` on
pub record IsOwnStart (parts : List PartContent) (bits : List Bool) (low high next : ℕ) : Type 0 where
  pub after : low ≤ next
  pub before : next ≤ high
  pub own : next ≡ low → (t : ℕ) × (o : ℤ) × AreOwn parts bits t o low high
  pub other : low < next → (t : ℕ) (o : ℤ) → AreOwn parts bits t o (next - 1) high → ⊥

-- place n isn't edited
abbrev pub IsUnedited : AskedContent → List Bool → ℕ → Type 0
IsUnedited a bits n = (t : ℕ) × (o : ℤ) × IsOwnAround a bits t o n

-- no place from one up to another is edited
abbrev pub AreUnedited : AskedContent → List Bool → ℕ → ℕ → Type 0
AreUnedited a bits from to = (n : ℕ) → from ≤ n → n < to → IsUnedited a bits n

-- the edited places that come next: those of a span, and none before it
pub record IsNextSpan (a : AskedContent) (bits : List Bool) (from : ℕ) (span : Span) : Type 0 where
  pub after : from ≤ span.start
  pub some : span.start < span.stop
  pub inside : span.stop ≤ length bits
  pub before : AreUnedited a bits from span.start
  pub edited : (n : ℕ) → span.start ≤ n → n < span.stop → IsEdited a bits n

-- the first edited place from a place on
pub record IsFirstEdited (a : AskedContent) (bits : List Bool) (from place : ℕ) : Type 0 where
  pub after : from ≤ place
  pub inside : place < length bits
  pub before : AreUnedited a bits from place
  pub edited : IsEdited a bits place

-- the first edited place from a place on, if there is one
abbrev pub FindsEdited : AskedContent → List Bool → ℕ → Option ℕ → Type 0
FindsEdited a bits from found = MatchOption found (AreUnedited a bits from (length bits)) (IsFirstEdited a bits from)

-- the places from one up to another are edited
pub record AreEdited (a : AskedContent) (bits : List Bool) (start stop : ℕ) : Type 0 where
  pub some : start < stop
  pub inside : stop ≤ length bits
  pub each : (n : ℕ) → start ≤ n → n < stop → IsEdited a bits n

-- the next span of edited places from a place on, if there is one
abbrev pub FindsSpan : AskedContent → List Bool → ℕ → Option Span → Type 0
FindsSpan a bits from found = MatchOption found (AreUnedited a bits from (length bits)) (IsNextSpan a bits from)
