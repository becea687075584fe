-- What contracts see of a reader of certificates and of its results.
use Rattle.std.specs.Prelude.{◌≡◌, ◌<◌, ℕ, Bool, List, ◌++◌, length, Option, None, Some, Result, Ok, Err, ⊤, IfSome}
use Rattle.chunk_core.specs.Inlets.{PullsBytes, inlet_failures, inlet_reader}
use Rattle.chunk_core.specs.declared.inlet.Inlet.{Inlet}
use Rattle.cost_core.specs.Bridges.{Bridging, bridge_cost}
use Rattle.cost_core.specs.StateCosts.{trellis_of}
use Rattle.cert_core.specs.declared.reader.CertReader.{CertReader}
use Rattle.cert_core.specs.declared.verdict.CertReason.{CertReason}
use Rattle.cert_core.specs.declared.verdict.CertReason.TheVariants.{Extra}
use Rattle.cert_core.specs.declared.verdict.CertVerdict.{CertVerdict}
use Rattle.cert_core.specs.declared.verdict.CertVerdict.TheVariants.{Accepted, Rejected}
use Rattle.cert_core.specs.declared.verdict.CheckFault.{CheckFault}
use Rattle.cert_core.specs.declared.verdict.CheckFault.TheVariants.{Device, Memory}
use Rattle.cert_core.specs.Entries.{BeginsValid, ReadsEntry}
use Rattle.cert_core.specs.Reasons.{HeadReason}
use Rattle.cert_core.specs.Stops.{InEntry}
use Rattle.cert_core.specs.Text.{cert_head}
use Rattle.cert_core.specs.declared.version.Version.{Version}

-- the inlet itself
abbrev pub cert_inlet : {R : Type 0} → CertReader R → Inlet R
cert_inlet reader = reader.inlet

-- the number of reads that failed
abbrev pub check_failures : {R : Type 0} → CertReader R → ℕ
check_failures reader = inlet_failures (cert_inlet reader)

-- P holds of the bytes that are left, if they are known
abbrev pub IfLeft : {R : Type 0} → (R → Option (List ℕ)) → CertReader R → (List ℕ → Type 0) → Type 0
IfLeft left reader P = IfSome (left (inlet_reader (cert_inlet reader))) P

-- whether a head was read
abbrev pub has_read_head : {R : Type 0} → CertReader R → Bool
has_read_head reader = reader.has_head

-- the version in the head
abbrev pub read_version : {R : Type 0} → CertReader R → Version
read_version reader = reader.version

-- P holds of the cost, if the bits were accepted
abbrev pub IfAccepted : Result CertVerdict CheckFault → (ℕ → Type 0) → Type 0
IfAccepted (Ok (Accepted cost)) P = P cost
IfAccepted (Ok (Rejected reason)) P = ⊤
IfAccepted (Err fault) P = ⊤

-- P holds of the reason, if they were rejected
abbrev pub IfRejected : Result CertVerdict CheckFault → (CertReason → Type 0) → Type 0
IfRejected (Ok (Rejected reason)) P = P reason
IfRejected (Ok (Accepted cost)) P = ⊤
IfRejected (Err fault) P = ⊤

-- one if the result is `Device`
abbrev pub failed_checks : {T : Type 0} → Result T CheckFault → ℕ
failed_checks (Err Device) = 1
failed_checks (Err Memory) = 0
failed_checks (Ok x) = 0

-- all is well
abbrev pub IsWell : Result (Option CertReason) CheckFault → Type 0
IsWell result = result ≡ Ok None

-- P holds of the reason, if there is one
abbrev pub IfReason : Result (Option CertReason) CheckFault → (CertReason → Type 0) → Type 0
IfReason (Ok (Some reason)) P = P reason
IfReason (Ok None) P = ⊤
IfReason (Err fault) P = ⊤

-- this is the first reason against the head in the bytes, if they are known
abbrev pub InHead : ℕ → ℕ → Option (List ℕ) → CertReason → Type 0
InHead weights entries known reason = IfSome known (λ bytes. HeadReason weights entries bytes reason)

-- the reason is that bytes are left, if they are known
abbrev pub InRest : Option (List ℕ) → CertReason → Type 0
InRest known reason = (reason ≡ Extra) × IfSome known (λ bytes. 0 < length bytes)

-- the head of a certificate for these numbers of weights and of entries was read, of the reader's version now
abbrev pub ReadsHead : {R : Type 0} → (R → Option (List ℕ)) → CertReader R → CertReader R → ℕ → ℕ → Type 0
ReadsHead left old new weights entries = PullsBytes left (cert_inlet old) (cert_inlet new) (cert_head (read_version new) weights entries)

-- the bytes begin with such a head of no version
abbrev pub HasNoHead : ℕ → ℕ → List ℕ → Type 0
HasNoHead weights entries bytes = (v : Version) → (rest : List ℕ) → bytes ≡ cert_head v weights entries ++ rest → ⊥

-- an entry of the reader's version was read, for a cue and a channel, with a table that is valid for a bridge's bits
abbrev pub ReadsNext : {R : Type 0} → (R → Option (List ℕ)) → CertReader R → CertReader R → Bridging → ℕ → ℕ → List Bool → Type 0
ReadsNext left old new d cue channel bits = ReadsEntry (read_version old) (trellis_of d) cue channel bits (left (inlet_reader (cert_inlet old))) (left (inlet_reader (cert_inlet new)))

-- this is the first reason against such an entry in the bytes that are left, if they are known
abbrev pub IsNextReason : {R : Type 0} → (R → Option (List ℕ)) → CertReader R → Bridging → ℕ → ℕ → List Bool → CertReason → Type 0
IsNextReason left reader d cue channel bits reason = InEntry (read_version reader) (trellis_of d) cue channel (bridge_cost d bits) (left (inlet_reader (cert_inlet reader))) reason

-- the bytes that are left, if they are known, don't begin with such an entry
abbrev pub HasNoNext : {R : Type 0} → (R → Option (List ℕ)) → CertReader R → Bridging → ℕ → ℕ → List Bool → Type 0
HasNoNext left reader d cue channel bits = IfLeft left reader (λ bytes. BeginsValid (read_version reader) (trellis_of d) cue channel bits bytes → ⊥)
