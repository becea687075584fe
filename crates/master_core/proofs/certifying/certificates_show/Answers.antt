use Rattle.master_core.proofs.CertLaws.{certificates_show}
use Rattle.master_core.proofs.certifying.certificates_show.Goals as goal

pub returns : goal.returns
returns c = certificates_show
