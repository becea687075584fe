use Rattle.command_core.proofs.NullLaws.{checked_and_nulled, files_checked_and_nulled}
use Rattle.command_core.proofs.laws.checked_and_nulled.Goals as goal

pub returns : goal.returns
returns c =
    let bytes_law = checked_and_nulled c.accepted_is_least.ensures.least in
    record { bytes = bytes_law; files = files_checked_and_nulled bytes_law }
