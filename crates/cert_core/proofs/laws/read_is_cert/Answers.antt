use Rattle.cert_core.proofs.Composition.{read_is_cert, cert_has_head, cert_is_read, read_more}
use Rattle.cert_core.proofs.laws.read_is_cert.Goals as goal

pub returns-clause-read : goal.returns-clause-read
returns-clause-read c = read_is_cert

pub returns-clause-head : goal.returns-clause-head
returns-clause-head c = cert_has_head

pub returns-clause-only : goal.returns-clause-only
returns-clause-only c = cert_is_read

pub returns-clause-more : goal.returns-clause-more
returns-clause-more c = read_more
