use Rattle.std.proofs.Common.{length-take-le, take, arith}
use Rattle.chunk_core.specs.Inlets.{inlet_reader}
use Rattle.cert_core.specs.Readers.{cert_inlet}
use Rattle.cert_core.proofs.Consuming.{end_before}
use Rattle.cert_core.proofs.reader.CertReader.at_end.Goals as goal

pub returns-then-count-eq0-clause-none : goal.returns-then-count-eq0-clause-none
returns-then-count-eq0-clause-none g c = λ _.
    end_before (g.R.Read.remaining (inlet_reader (cert_inlet c.args.self.now))) (g.R.Read.remaining (inlet_reader c.fill.new.self)) (take c.in-Ok.count c.fill.new.buffer) c.in-Ok.ensures.bytes.1
    (c.in-Ok.ensures.end (omega (arith, c.fill.auto.buffer))) (omega (arith, length-take-le c.in-Ok.count c.fill.new.buffer c.in-Ok.ensures.bytes.0))
