use Rattle.transfer_core.proofs.UnreadFiles.{unread_do_not_matter}
use Rattle.transfer_core.proofs.laws.unread_bytes_do_not_matter.Goals as goal

pub returns : goal.returns
returns c = unread_do_not_matter
