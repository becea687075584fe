-- What contracts see of a writer of certificates, and in which order its calls come while it hasn't failed.
use Rattle.std.specs.Prelude.{ℕ, ◌-◌, ◌^◌, Bool, true, false, List, Option, Result, IsErrOf, if◌then◌else◌}
use Rattle.chunk_core.specs.declared.outlet.Outlet.{Outlet}
use Rattle.chunk_core.specs.Outlets.{Puts, PutsPart, PutsPrefix, outlet_failures}
use Rattle.chunk_core.specs.declared.fused_outlet.FusedFault.{FusedFault}
use Rattle.chunk_core.specs.declared.fused_outlet.FusedFault.TheVariants.{Device}
use Rattle.cert_core.specs.declared.writer.CertWriter.{CertWriter}
use Rattle.chunk_core.specs.FusedOutlets.{fused_outlet, fused_failed}
use Rattle.cert_core.specs.Spelling.{row_text}
use Rattle.cert_core.specs.Text.{cert_head}
use Rattle.cert_core.specs.declared.version.Version.{Version}

-- the outlet itself
abbrev pub cert_outlet : {W : Type 0} → CertWriter W → Outlet W
cert_outlet writer = fused_outlet writer.outlet

-- these bytes were written
abbrev pub Writes : {W : Type 0} → (W → Option (List ℕ)) → CertWriter W → CertWriter W → List ℕ → Type 0
Writes contents old new bytes = Puts contents (cert_outlet old) (cert_outlet new) bytes

-- a prefix of these was written, and not all of them
abbrev pub WritesSome : {W : Type 0} → (W → Option (List ℕ)) → CertWriter W → CertWriter W → List ℕ → Type 0
WritesSome contents old new bytes = PutsPart contents (cert_outlet old) (cert_outlet new) bytes

-- a prefix of these was written, perhaps all of them
abbrev pub WritesUpTo : {W : Type 0} → (W → Option (List ℕ)) → CertWriter W → CertWriter W → List ℕ → Type 0
WritesUpTo contents old new bytes = PutsPrefix contents (cert_outlet old) (cert_outlet new) bytes

-- P holds if a write failed in this call
abbrev pub OnDevice : {T : Type 0} → Result T FusedFault → Type 0 → Type 0
OnDevice result P = IsErrOf result Device → P

-- the number of writes that failed
abbrev pub cert_failures : {W : Type 0} → CertWriter W → ℕ
cert_failures writer = outlet_failures (cert_outlet writer)

-- whether a write failed
abbrev pub has_failed : {W : Type 0} → CertWriter W → Bool
has_failed writer = fused_failed writer.outlet

-- the version in the head
abbrev pub cert_version : {W : Type 0} → CertWriter W → Version
cert_version writer = writer.version

-- the number of weights in the head
abbrev pub cert_weights : {W : Type 0} → CertWriter W → ℕ
cert_weights writer = writer.weights

-- the number of values of a row
abbrev pub row_length : {W : Type 0} → CertWriter W → ℕ
row_length writer = 2 ^ (writer.weights - 1)

-- the number of rows of an entry still to come
abbrev pub rows_left : {W : Type 0} → CertWriter W → ℕ
rows_left writer = writer.rows_left

-- the number of rows that it still accepts or refuses as a sink: those still to come, or after a failed write as many
-- as an entry can have
abbrev pub rows_taken : {W : Type 0} → CertWriter W → ℕ
rows_taken writer = if has_failed writer then 2 ^ 16 else rows_left writer

-- what no row changes: the version, the number of weights, whether the head was written, the number of entries still to
-- begin, whether an entry was begun and not ended, the number of failures of the outlet before
pub record Stage : Type 0 where
  pub version : Version
  pub weights : ℕ
  pub has_head : Bool
  pub entries_left : ℕ
  pub is_open : Bool
  pub failures : ℕ

-- the stage before the head
abbrev pub before_head : Version → ℕ → ℕ → Stage
before_head version weights failures = record { version = version; weights = weights; has_head = false; entries_left = 0; is_open = false; failures = failures }

-- the stage after the next entry was begun
abbrev pub entry_begun : Stage → Stage
entry_begun s = record s { entries_left = s.entries_left - 1; is_open = true }

-- the stage of a writer
abbrev pub stage : {W : Type 0} → CertWriter W → Stage
stage writer = record { version = writer.version; weights = writer.weights; has_head = writer.has_head; entries_left = writer.entries_left; is_open = writer.is_open; failures = writer.failures }

-- how many failures its outlet had before
abbrev pub failures_before : {W : Type 0} → CertWriter W → ℕ
failures_before writer = writer.failures

-- whether the head was written
abbrev pub has_head : {W : Type 0} → CertWriter W → Bool
has_head writer = writer.has_head

-- how many entries are still to begin
abbrev pub entries_left : {W : Type 0} → CertWriter W → ℕ
entries_left writer = writer.entries_left

-- whether an entry was begun and not ended
abbrev pub is_open : {W : Type 0} → CertWriter W → Bool
is_open writer = writer.is_open

-- the head of its certificate, with a number of entries
abbrev pub writer_head : {W : Type 0} → CertWriter W → ℕ → List ℕ
writer_head writer entries = cert_head (cert_version writer) (cert_weights writer) entries

-- a row as its certificate has it
abbrev pub writer_row : {W : Type 0} → CertWriter W → List ℕ → List ℕ
writer_row writer row = row_text (cert_version writer) row
