use Rattle.std.proofs.Common.{◌≡◌, ◌∙◌, None, Ok, ap, arith, subst}
use Rattle.std.proofs.lemmas.Result.{err_from_is_err_and}
use Rattle.cut_core.specs.Opening.{file_bytes}
use Rattle.request_core.specs.Cutting.{SaysCut}
use Rattle.cert_core.specs.Readers.{cert_inlet}
use Rattle.chunk_core.specs.Inlets.{inlet_failures, inlet_reader}
use Rattle.judge_core.specs.Accepting.{Accepts, IfMasterAccepted, IfMasterRejected, IsAcceptedAt, RejectsFirst}
use Rattle.judge_core.specs.Finding.{IsFoundHeld, IsFoundIn}
use Rattle.judge_core.proofs.FindLaws.{held_some, held_there}
use Rattle.request_core.proofs.CuttingLaws.{only_memory}
use Rattle.judge_core.proofs.checking.check.Goals as goal
use Rattle.judge_core.proofs.checking.check.Goals.{In-Ok}

pub returns-in_err-cut : goal.returns-in_err-cut
returns-in_err-cut c =
    let p = err_from_is_err_and c.from_residual.result c.from_residual.ensures.1 in
    let is = c.in_err-cut.ensures.exact in
    rw (p.1, p.2) (record {
      found = tt;
      master = tt;
      least = tt;
      joint = tt;
      windows = tt;
      only = λ cost accepts. only_memory c.args.project.now (file_bytes c.args.takes.now) None accepts.cut accepts.says c.in_err-cut.field-0.0 is;
      rejected = tt;
      refused = is;
    })

-- ---- what is answered
-- what is left to read is the master's file, and then the certificate
held : (c : In-Ok) → IsFoundHeld c.in_ok-cut.cut c.args.master.now c.in-Ok.found
held c = subst (λ b. IsFoundHeld c.in_ok-cut.cut b.now c.in-Ok.found) c.new.ensures.reader c.in-Ok.ensures.found

pub check_found-requires : goal.check_found-requires
check_found-requires c = record {
  ready = omega (arith, ap inlet_failures c.new-reader.ensures.inlet, c.new-2.ensures.failures);
  some = held_some c.in_ok-cut.cut c.args.master.now c.in-Ok.found (held (goal.at.check_found-requires c).In-Ok);
}

pub returns-in-Ok-check_found : goal.returns-in-Ok-check_found
returns-in-Ok-check_found c =
    let project = c.args.project.now in
    let files = file_bytes c.args.takes.now in
    let master = c.args.master.now in
    let cut = c.in_ok-cut.cut in
    let v = c.in-Ok-check_found.verdict in
    let says : SaysCut project files None cut = c.in_ok-cut.ensures.found in
    let holds = held (goal.at.returns-in-Ok-check_found c).In-Ok in
    let is : IsFoundIn project files cut c.in-Ok.found master = record { says = says; held = held_there cut master c.in-Ok.found holds } in
    let h = c.in-Ok-check_found.ensures in
    let known : inlet_reader (cert_inlet c.new-reader.result) ≡ c.args.cert = ap inlet_reader c.new-reader.ensures.inlet ∙ c.new-2.ensures.reader in
    record {
      found = subst (λ b. IfMasterAccepted (Ok v) (Accepts project files master b.now)) known (h.found project files master is);
      master = h.master project files master is;
      least = h.least project files master is;
      joint = h.joint project files master is;
      windows = h.windows project files master is;
      only = λ cost. subst (λ b. Accepts project files master b.now cost → IsAcceptedAt cost v) known (h.only project files master says holds cost);
      rejected = subst (λ b. IfMasterRejected (Ok v) (RejectsFirst project files master b.now)) known (h.rejected project files master says holds);
      refused = tt;
    }
