use Rattle.std.proofs.Common.{◌≡◌, ◌∙◌, Ok, ap}
use Rattle.std.specs.Io.Buffered.{reader_remaining}
use Rattle.chunk_core.specs.FusedInlets.{fused_reader}
use Rattle.chunk_core.specs.Inlets.{inlet_reader}
use Rattle.cert_core.specs.Readers.{cert_inlet}
use Rattle.judge_core.specs.Finding.{IsFoundIn}
use Rattle.judge_core.proofs.FindLaws.{held_there}
use Rattle.command_core.proofs.JudgingLaws.{buffered_known, judges_by, known_by, least_by}
use Rattle.command_core.proofs.judging.judge_opened.Given.{Over}
use Rattle.command_core.proofs.judging.judge_opened.Goals as goal
use Rattle.command_core.proofs.judging.judge_opened.Goals.{After-check_found-came}

-- what is left to read, before any of it is read, is the certificate
known : (g : Over) (c : After-check_found-came g) → reader_remaining (λ fused. g.R.Read.remaining (fused_reader fused)) (inlet_reader (cert_inlet c.new-reader.result)) ≡ g.R.Read.remaining c.args.cert
known g c =
    ap (reader_remaining (λ fused. g.R.Read.remaining (fused_reader fused))) (ap inlet_reader c.new-reader.ensures.inlet ∙ c.new.ensures.reader)
    ∙ buffered_known (λ fused. g.R.Read.remaining (fused_reader fused)) c.in-Ok.buffered c.new-fused.result (g.R.Read.remaining c.args.cert) c.in-Ok.ensures.inner c.in-Ok.ensures.empty c.in-Ok.ensures.capacity (ap g.R.Read.remaining c.new-fused.ensures.reader)

pub returns-in-Ok-came : goal.returns-in-Ok-came
returns-in-Ok-came g c =
    let cut = c.args.cut.now in
    let found = c.args.found.now in
    let v = c.in-Ok-came.verdict in
    let e = c.in-Ok-came.ensures in
    record {
      least = λ project files file says held.
          let is : IsFoundIn project files cut found file = record { says = says; held = held } in
          least_by project files file (Ok v) (e.master project files file is) (e.least project files file is) (e.joint project files file is);
      judged = λ project files file says held.
          let is : IsFoundIn project files cut found file = record { says = says; held = held_there cut file found held } in
          known_by project files file _ _ (known g (goal.at.returns-in-Ok-came g c).After-check_found-came) v
          (judges_by project files file _ (Ok v) (e.found project files file is) (e.windows project files file is) (e.rejected project files file says held) (e.only project files file says held));
      fault = tt;
    }
