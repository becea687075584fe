use Rattle.std.proofs.Common.{length-take-le, refl, take, length, arith}
use Rattle.chunk_core.specs.Inlets.{inlet_reader}
use Rattle.cert_core.proofs.Consuming.{short_before}
use Rattle.cert_core.proofs.filling.fill.Goals as goal

pub returns-then-count-buffer-clause-cut : goal.returns-then-count-buffer-clause-cut
returns-then-count-buffer-clause-cut g c = (
  refl,
  short_before (g.R.Read.remaining (inlet_reader c.args.inlet.now)) (g.R.Read.remaining (inlet_reader c.fill.new.self)) (take c.in_ok-count.count c.fill.new.buffer) (length c.fill.new.buffer) c.in_ok-count.ensures.bytes.1
      (c.in_ok-count.ensures.end c.if-count-buffer.true) (omega (arith, c.if-count-buffer.true, length-take-le c.in_ok-count.count c.fill.new.buffer c.in_ok-count.ensures.bytes.0)),
)
