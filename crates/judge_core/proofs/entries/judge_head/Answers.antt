use Rattle.chunk_core.specs.Inlets.{inlet_reader}
use Rattle.std.proofs.Common.{subst}
use Rattle.cert_core.specs.Readers.{cert_inlet}
use Rattle.judge_core.specs.Judging.{JudgesHead}
use Rattle.judge_core.proofs.EntryLaws.{head_judged}
use Rattle.judge_core.proofs.entries.judge_head.Goals as goal

pub returns-clause-judged : goal.returns-clause-judged
returns-clause-judged g c =
    let from = g.R.Read.remaining (inlet_reader (cert_inlet c.args.reader.now)) in
    let to = g.R.Read.remaining (inlet_reader (cert_inlet c.read_head.new.self)) in
    subst (λ n. JudgesHead c.read_head.new.self.version n c.args.entries from to c.in_ok-reason.reason) c.weight_number.ensures.value (head_judged c.read_head.new.self.version c.weight_number.result c.args.entries from to c.in_ok-reason.reason c.in_ok-reason.ensures.none c.in_ok-reason.ensures.reason c.in_ok-reason.ensures.only)
