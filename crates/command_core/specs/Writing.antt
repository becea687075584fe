-- What becomes of the file of a planned master's certificate.
use Rattle.std.specs.Prelude.{ℕ, List}
use Rattle.archive_core.specs.Planning.{CertifiesPlanned}
use Rattle.archive_core.specs.declared.planning.PlannedMaster.{PlannedMaster}
use Rattle.folder_core.specs.Files.{IsPut, IsPutInPart, View}

-- it holds a certificate that shows each bridge of the master to be least
abbrev pub CertifiesWhole : PlannedMaster → List ℕ → View → Type 0
CertifiesWhole planned name new = (cert : List ℕ) × CertifiesPlanned planned cert × IsPut new name cert

-- it is as it was, or holds a prefix of such a certificate
abbrev pub CertifiesPrefix : PlannedMaster → List ℕ → View → View → Type 0
CertifiesPrefix planned name old new = (cert : List ℕ) × CertifiesPlanned planned cert × IsPutInPart name old new cert
