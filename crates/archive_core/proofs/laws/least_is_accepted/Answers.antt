use Rattle.archive_core.proofs.CertificateLaws.{least_is_accepted, one_certificate}
use Rattle.archive_core.proofs.laws.least_is_accepted.Goals as goal

pub returns : goal.returns
returns c = record { one = one_certificate; accepted = least_is_accepted }
