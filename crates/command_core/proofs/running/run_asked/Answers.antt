use Rattle.std.proofs.Common.{subst, sym}
use Rattle.command_core.specs.Endings.{IsReportedAs}
use Rattle.command_core.specs.Hosts.{State}
use Rattle.command_core.proofs.running.run_asked.Goals as goal

pub returns : goal.returns
returns g c =
    let between = g.H.Host.state c.run-outcome.new.host in
    record {
      outcome = c.run-outcome.result;
      reported = c.report-shown.result.outcome;
      between = between;
      comes = c.run-outcome.ensures;
      printed = subst (λ (s : State). IsReportedAs c.run-outcome.result c.report-shown.result.outcome between s) (sym c.explain.ensures.same) c.report-shown.ensures;
      status_is = c.status.ensures.value;
    }
