use Rattle.transfer_commands.proofs.ReportLaws.{reported_by_outline}
use Rattle.transfer_commands.proofs.reporting.reported_by.Goals as goal

pub returns : goal.returns
returns c = λ file is. rw (c.form_in-form.ensures, c.with_count.ensures, c.into_description.ensures) (reported_by_outline c.args.outline file is)
