use Rattle.splice_core.specs.Splices.{splice_content}
use Rattle.transfer_commands.proofs.StreamLaws.{streams_found}
use Rattle.transfer_commands.proofs.excerpts.streamed_excerpts.Goals as goal

pub returns-in-Err : goal.returns-in-Err
returns-in-Err g c = record { same = c.open.ensures.same; excerpts = tt; of = tt; fault = tt }

pub returns-in-Ok : goal.returns-in-Ok
returns-in-Ok g c = record {
  same = c.open.ensures.same;
  excerpts = streams_found (g.F.Folder.view c.args.folder.now) (splice_content c.args.splice.now) c.args.number c.args.name.now (g.F.In.Read.remaining c.in-Ok.file) c.in-Ok.ensures.bytes c.reader_excerpts.result c.reader_excerpts.ensures.excerpts c.reader_excerpts.ensures.any_reader;
  of = c.reader_excerpts.ensures.of;
  fault = c.reader_excerpts.ensures.fault;
}
