use Rattle.std.proofs.Common.{inl, refl}
use Rattle.chunk_core.specs.Inlets.{inlet_given, inlet_reader}
use Rattle.sound_core.proofs.TakingLaws.{not_begun}
use Rattle.sound_core.proofs.taking.read_into.Goals as goal

pub returns-then-not-can_count-clause-fault : goal.returns-then-not-can_count-clause-fault
returns-then-not-can_count-clause-fault g c = inl (not_begun (g.R.Read.remaining (inlet_reader c.args.inlet.now)) (inlet_given c.args.inlet.now) c.args.sink.now)

pub new-reader-requires : goal.new-reader-requires
new-reader-requires g c = record {
  counts = c.if-not-can_count.ensures.0 refl;
  size = c.in_ok-block.ensures;
  empty = c.new-ahead.ensures.items;
}

pub take_file-requires : goal.take_file-requires
take_file-requires g c = record { start = c.new-reader.ensures.start; ready = c.requires.sink_ready }
