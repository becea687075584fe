use Rattle.std.proofs.Common.{Err, IfOk, List, Ok, arith, inl, refl, subst, ℕ}
use Rattle.chunk_core.specs.Inlets.{inlet_reader}
use Rattle.cert_core.specs.Readers.{cert_inlet}
use Rattle.judge_core.specs.Accepting.{Accepts, ReadsAccepted, RejectsFirst, fault_of_check}
use Rattle.judge_core.specs.Finding.{FindsHeld, IsFoundHeld, IsRefusedFor}
use Rattle.judge_core.specs.declared.verdict.Verdict.TheVariants.{Rejected}
use Rattle.request_core.specs.declared.reason.Reason.TheVariants.{MasterUnread}
use Rattle.judge_core.proofs.CheckLaws.{file_accepts, file_joint, file_least, file_master, file_only, file_rejects, file_windows, not_judged, same_count}
use Rattle.judge_core.proofs.JudgeLaws.{for_known}
use Rattle.judge_core.proofs.checking.check_found.Given.{Over}
use Rattle.judge_core.proofs.checking.check_found.Goals as goal
use Rattle.judge_core.proofs.checking.check_found.Goals.{In-Ok}

-- what was found was found of what the file holds
held : (g : Over) (c : In-Ok g) (master : List ℕ) → IfOk c.args.found.now (FindsHeld c.args.cut.now master) → FindsHeld c.args.cut.now master c.in-Ok.found
held g c master is = subst (λ o. IfOk o (FindsHeld c.args.cut.now master)) c.in-Ok.is is

own : (g : Over) (c : In-Ok g) (master : List ℕ) → IsFoundHeld c.args.cut.now master c.args.found.now → FindsHeld c.args.cut.now master c.in-Ok.found
own g c master is = subst (IsFoundHeld c.args.cut.now master) c.in-Ok.is is

pub returns-in-Ok-judge_found : goal.returns-in-Ok-judge_found
returns-in-Ok-judge_found g c =
    let at = (goal.at.returns-in-Ok-judge_found g c).In-Ok in
    let cut = c.args.cut.now in
    let form = c.in-Ok.found.form in
    let v = c.in-Ok-judge_found.judged in
    let known = g.R.Read.remaining (inlet_reader (cert_inlet c.args.cert.now)) in
    let e = c.in-Ok-judge_found.ensures in
    record {
      found = λ project files master is. let h = held g at master is.held in file_accepts project files master cut is.says form h.recording h.master_holds known v (e.judged h.recording h.found_of);
      master = λ project files master is. let h = held g at master is.held in file_master project files master cut is.says form h.recording h.master_holds v (e.least h.recording h.found_of);
      least = λ project files master is. let h = held g at master is.held in file_least project files master cut is.says form h.recording h.master_holds v (e.least h.recording h.found_of);
      joint = λ project files master is. let h = held g at master is.held in file_joint project files master cut is.says form h.recording h.master_holds v (e.least h.recording h.found_of);
      windows = λ project files master is. let h = held g at master is.held in file_windows project files master cut is.says form h.recording h.master_holds known v (e.judged h.recording h.found_of);
      only = λ project files master says is cost.
          let h = own g at master is in
          file_only project files master cut says form h.recording h.master_holds known v cost (e.judged h.recording h.found_of) (e.only h.recording h.found_of);
      rejected = λ project files master says is. let h = own g at master is in file_rejects project files master cut says form h.recording h.master_holds known v (e.judged h.recording h.found_of);
      refused = tt;
      failures = e.failures;
    }

-- ---- a file that holds no recording
pub returns-in-Err-clause-rejected : goal.returns-in-Err-clause-rejected
returns-in-Err-clause-rejected g c = λ project files master says is.
    let refused : IsRefusedFor master c.in-Err.fault = subst (IsFoundHeld c.args.cut.now master) c.in-Err.is is in
    for_known (g.R.Read.remaining (inlet_reader (cert_inlet c.args.cert.now))) (λ cert. RejectsFirst project files master cert (MasterUnread c.in-Err.fault)) (λ cert. record { cut = c.args.cut.now; says = says; stands = inl (c.in-Err.fault, refl, refused) })

pub returns-in-Err-clause-only : goal.returns-in-Err-clause-only
returns-in-Err-clause-only g c = λ project files master says is cost.
    let refused : IsRefusedFor master c.in-Err.fault = subst (IsFoundHeld c.args.cut.now master) c.in-Err.is is in
    for_known (g.R.Read.remaining (inlet_reader (cert_inlet c.args.cert.now))) (λ cert. Accepts project files master cert cost → ReadsAccepted (Ok (Rejected (MasterUnread c.in-Err.fault))) cost) (λ cert accepts. absurd (refused.nothing accepts.form accepts.recording accepts.master_holds))

-- ---- refusals
pub returns-in-Err-judge_found : goal.returns-in-Err-judge_found
returns-in-Err-judge_found g c =
    let f = c.in-Err-judge_found.fault in
    rw c.fault_of.ensures (record {
      found = λ project files master is. tt;
      master = λ project files master is. tt;
      least = λ project files master is. tt;
      joint = λ project files master is. tt;
      windows = λ project files master is. tt;
      only = λ project files master says is cost. for_known (g.R.Read.remaining (inlet_reader (cert_inlet c.args.cert.now))) (λ bytes. Accepts project files master bytes cost → ReadsAccepted (Err (fault_of_check f)) cost) (λ bytes accepts. not_judged f);
      rejected = λ project files master says is. tt;
      refused = not_judged f;
      failures = omega (arith, c.in-Err-judge_found.ensures.failures, same_count f);
    })
