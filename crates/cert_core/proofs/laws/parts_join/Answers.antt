use Rattle.cert_core.proofs.Composition.{parts_are_entry, entries_join, head_and_entries}
use Rattle.cert_core.proofs.laws.parts_join.Goals as goal

pub returns-clause-entry : goal.returns-clause-entry
returns-clause-entry c = parts_are_entry

pub returns-clause-entries : goal.returns-clause-entries
returns-clause-entries c = entries_join

pub returns-clause-whole : goal.returns-clause-whole
returns-clause-whole c = head_and_entries
