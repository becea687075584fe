-- Why the private steps of a reader stop before their end.
use Rattle.std.specs.Prelude.{◌≡◌, ◌≢◌, ℕ, ◌+◌, ◌^◌, ◌<◌, ◌≤◌, ◌⊎◌, Bool, List, length, map, flat_map, slice_index_or, Option, Result, Ok, Err, ⊤, IfSome}
use Rattle.std.specs.Io.KnownBytes.{Consumes}
use Rattle.chunk_core.specs.Inlets.{inlet_reader}
use Rattle.chunk_core.specs.declared.inlet.Inlet.{Inlet}
use Rattle.cost_core.specs.Bridges.{Bridging}
use Rattle.cost_core.specs.StateCosts.{trellis_of}
use Rattle.cost_core.specs.Trellis.{Trellis, cost, states}
use Rattle.cert_core.specs.declared.entry.Place.{Place}
use Rattle.cert_core.specs.declared.verdict.CertReason.{CertReason}
use Rattle.cert_core.specs.declared.verdict.CertReason.TheVariants.{Cut, Bound, Row}
use Rattle.cert_core.specs.declared.stop.Stop.{Stop}
use Rattle.cert_core.specs.declared.stop.Stop.TheVariants.{Reason, Device, Memory}
use Rattle.cost_core.specs.Tables.{row_in}
use Rattle.cert_core.specs.Spelling.{row_text, byte_width, floor, peak, IsTooWide}
use Rattle.cert_core.specs.declared.version.Version.{Version}
use Rattle.cert_core.specs.declared.version.Version.TheVariants.{Two}
use Rattle.cert_core.specs.Entries.{ReadsEntry}
use Rattle.cert_core.specs.Reasons.{StartReason, FirstReason, EndReason, AreClean, Bounded, ReasonInRow, SpellingReason}

-- P holds of the reason, if there is one
abbrev pub OnReason : {T : Type 0} → Result T Stop → (CertReason → Type 0) → Type 0
OnReason (Err (Reason reason)) P = P reason
OnReason (Err Device) P = ⊤
OnReason (Err Memory) P = ⊤
OnReason (Ok x) P = ⊤

-- P holds of the bytes that an inlet has left, known or not, and of the reason, if there is one
abbrev pub OnLeft : {R T : Type 0} → (R → Option (List ℕ)) → Inlet R → Result T Stop → (Option (List ℕ) → CertReason → Type 0) → Type 0
OnLeft left inlet r P = OnReason r (P (left (inlet_reader inlet)))

-- one if a device failed
abbrev pub failed_stops : {T : Type 0} → Result T Stop → ℕ
failed_stops (Err (Reason reason)) = 0
failed_stops (Err Device) = 1
failed_stops (Err Memory) = 0
failed_stops (Ok x) = 0

-- the reason is that known bytes are fewer than n
abbrev pub CutBelow : Option (List ℕ) → ℕ → CertReason → Type 0
CutBelow known n reason = (reason ≡ Cut) × IfSome known (λ bytes. length bytes < n)

-- known bytes have this reason first in an entry's start
abbrev pub InStart : Option (List ℕ) → ℕ → ℕ → ℕ → CertReason → Type 0
InStart known cue channel levels reason = IfSome known (λ bytes. StartReason cue channel levels bytes reason)

-- known bytes have this reason to begin with no row of m values, that of the level
abbrev pub InSpelling : Version → ℕ → ℕ → Option (List ℕ) → CertReason → Type 0
InSpelling v m level known reason = IfSome known (λ bytes. SpellingReason v m level bytes reason)

-- known bytes have this reason to begin with no number and width of a row, that of the level
abbrev pub InForm : ℕ → Option (List ℕ) → CertReason → Type 0
InForm level known reason = IfSome known (λ bytes. ((reason ≡ Cut) × (length bytes < 9)) ⊎ ((reason ≡ Row level) × IsTooWide Two bytes))

-- why numbers over another, of some width, are no row of the level as the second version spells it
abbrev pub RaisedReason : ℕ → ℕ → ℕ → List ℕ → CertReason → Type 0
RaisedReason least width level over reason = ((reason ≡ Bound) × ((q : ℕ) × (q < length over) × (2 ^ 63 < least + slice_index_or over q 0)))
    ⊎ ((reason ≡ Row level) × Bounded (length over) (map (λ v. least + v) over) × ((floor over ≢ 0) ⊎ (width ≢ byte_width (peak over))))

-- known bytes have this reason first in the rows of a table
abbrev pub InRows : Version → Trellis → Option (List ℕ) → CertReason → Type 0
InRows v t known reason = IfSome known (λ bytes. ReasonInRow v t bytes reason)

-- known bytes have this reason first from the cost on
abbrev pub InEnd : Trellis → List ℕ → ℕ → Option (List ℕ) → CertReason → Type 0
InEnd t last found known reason = IfSome known (λ bytes. EndReason t last found bytes reason)

-- known bytes have this reason first in an entry
abbrev pub InEntry : Version → Trellis → ℕ → ℕ → ℕ → Option (List ℕ) → CertReason → Type 0
InEntry v t cue channel found known reason = IfSome known (λ bytes. FirstReason v t cue channel found bytes reason)

-- clean rows of all levels were read, the last of which is `last`
abbrev pub ReadsRows : Version → Trellis → Option (List ℕ) → Option (List ℕ) → List ℕ → Type 0
ReadsRows v t old new last = (rows : List (List ℕ)) × Consumes old new (flat_map (row_text v) rows) × AreClean t rows × (length rows ≡ t.levels + 1) × (last ≡ row_in rows t.levels)

-- an inlet returned such rows of a bridge
abbrev pub PullsRows : {R : Type 0} → (R → Option (List ℕ)) → Inlet R → Inlet R → Version → Bridging → List ℕ → Type 0
PullsRows left old new v d last = ReadsRows v (trellis_of d) (left (inlet_reader old)) (left (inlet_reader new)) last

-- no value of the last row is below the cost, with the cost of ending there
abbrev pub ReachesEnds : Trellis → List ℕ → ℕ → Type 0
ReachesEnds t last cost = (q : ℕ) → q < states t → cost ≤ slice_index_or last q 0 + t.tail q

-- an inlet returned the entry of a place, with a table that is valid for a bridge's bits
abbrev pub PullsEntry : {R : Type 0} → (R → Option (List ℕ)) → Inlet R → Inlet R → Version → Bridging → Place → List Bool → Type 0
PullsEntry left old new v d place bits = ReadsEntry v (trellis_of d) place.cue place.channel bits (left (inlet_reader old)) (left (inlet_reader new))

-- known bytes have this reason first against such an entry
abbrev pub AgainstEntry : Version → Bridging → Place → List Bool → Option (List ℕ) → CertReason → Type 0
AgainstEntry v d place bits known reason = InEntry v (trellis_of d) place.cue place.channel (cost (trellis_of d) bits) known reason
