use Rattle.std.proofs.Common.{subst}
use Rattle.std.specs.Io.KnownBytes.{Consumes}
use Rattle.chunk_core.specs.Inlets.{inlet_reader}
use Rattle.transfer_commands.proofs.OpeningLaws.{given_left}
use Rattle.transfer_commands.proofs.ReportLaws.{first_of_reader, unoutlined_left}
use Rattle.transfer_commands.proofs.opened.open_prefix.Goals as goal

pub returns-in-Ok-read_prefix-clause-given : goal.returns-in-Ok-read_prefix-clause-given
returns-in-Ok-read_prefix-clause-given g c =
    let view = g.F.Folder.view c.args.folder.now in
    let left = g.F.In.Read.remaining in
    let bytes = c.in-Ok-read_prefix.prefix.bytes.items in
    let reader = inlet_reader c.read_prefix.new.inlet in
    let read = subst (λ i. Consumes (left i) (left reader) bytes) c.new-inlet.ensures.reader c.in-Ok-read_prefix.ensures.read.consumed in
    let given = given_left view c.args.name.now bytes (left c.in-Ok.file) (left reader) c.in-Ok.ensures.bytes read in
    rw (c.opened_of.ensures.prefix, c.opened_of.ensures.file, c.into_inner.ensures) given

pub returns-in-Err-clause-fault : goal.returns-in-Err-clause-fault
returns-in-Err-clause-fault g c =
    let left = g.F.In.Read.remaining in
    unoutlined_left (g.F.Folder.view c.args.folder.now) c.args.name.now (left c.in-Ok.file) c.in-Ok.ensures.bytes c.refusal_of.result
    (c.refusal_of.ensures (left c.in-Ok.file) (first_of_reader left c.in-Ok.file c.new-inlet.result c.read_prefix.new.inlet c.in-Err.unread c.new-inlet.ensures.reader c.in-Err.ensures.named))
