use Rattle.std.proofs.Common.{◌∙◌, Bool, IfOk, List, add-zero, ap, inl, subst, sym}
use Rattle.std.proofs.lemmas.Result.{err_from_is_err_and}
use Rattle.std.specs.Prelude.{MatchOption}
use Rattle.chunk_core.specs.Inlets.{inlet_reader}
use Rattle.cert_core.specs.Readers.{cert_inlet}
use Rattle.dsd_bits.specs.Contents.{Content}
use Rattle.judge_core.proofs.FoundLaws.{kept_bits}
use Rattle.judge_core.proofs.JudgeLaws.{for_known, judged_least, judged_only, judged_whole, reason_against, some_is}
use Rattle.cut_core.specs.Masters.{IsMasterOf}
use Rattle.judge_core.specs.Checking.{MasterReason}
use Rattle.cut_core.specs.Claims.{IsCertOf}
use Rattle.judge_core.specs.Judging.{JudgesCert, JudgesMaster}
use Rattle.judge_core.specs.Kept.{IsFoundOf, kept_at, kept_items}
use Rattle.judge_core.specs.declared.verdict.Verdict.TheVariants.{Rejected}
use Rattle.judge_core.proofs.finding.judge_found.Given.{Over}
use Rattle.judge_core.proofs.finding.judge_found.Goals as goal
use Rattle.judge_core.proofs.finding.judge_found.Goals.{After-judge_certificate, In-Some}

-- ---- a reason against the recording
reason : (g : Over) (c : In-Some g) (r : Content) → IsFoundOf c.args.cut.now c.args.found.now r → MasterReason c.args.cut.now c.args.found.now.form r c.in-Some.reason
reason g c r is = some_is _ _ c.in_ok-reason.field-0 c.in-Some.reason c.in-Some.is (c.in_ok-reason.ensures.reason r is)

pub returns-in-Some : goal.returns-in-Some
returns-in-Some g c =
    let at = (goal.at.returns-in-Some g c).In-Some in
    record {
      judged = λ r is. for_known (g.R.Read.remaining (inlet_reader (cert_inlet c.args.reader.now))) (λ cert. JudgesMaster c.args.cut.now c.args.found.now.form r cert (Rejected c.in-Some.reason)) (λ cert. inl (reason g at r is));
      least = λ r is. tt;
      only = λ r is master. absurd (reason_against c.args.cut.now c.args.found.now.form r c.in-Some.reason (reason g at r is) master);
      failures = sym (add-zero _);
    }

pub returns-in_err-reason : goal.returns-in_err-reason
returns-in_err-reason g c =
    let p = err_from_is_err_and c.from_residual.result c.from_residual.ensures.1 in
    rw (p.1, p.2) (record {
      judged = λ r is. tt;
      least = λ r is. tt;
      only = λ r is master. for_known (g.R.Read.remaining (inlet_reader (cert_inlet c.args.reader.now))) (λ cert. IsCertOf c.args.cut.now r.channels cert → Unit {0}) (λ cert shown. tt);
      failures = sym (add-zero _);
    })

-- ---- where no reason applies, the recording is the master
master : (g : Over) (c : After-judge_certificate g) (r : Content) → IsFoundOf c.args.cut.now c.args.found.now r → IsMasterOf c.args.cut.now c.args.found.now.form r
master g c r is = subst (λ k. MatchOption k (IsMasterOf c.args.cut.now c.args.found.now.form r) (MasterReason c.args.cut.now c.args.found.now.form r)) c.in_default.is (c.in_ok-reason.ensures.reason r is)

-- and its own bridges were judged
certified : (g : Over) (c : After-judge_certificate g) (r : Content) → IsFoundOf c.args.cut.now c.args.found.now r → IfOk c.judge_certificate.result (JudgesCert c.args.cut.now r.channels (g.R.Read.remaining (inlet_reader (cert_inlet c.args.reader.now))))
certified g c r is =
    let own = master g c r is in
    c.judge_certificate.ensures.judged r.channels (λ p at.
    ap (λ (l : List (List (List Bool))). kept_at l p.channel p.cue) (ap kept_items c.deref.ensures.value) ∙ kept_bits c.args.cut.now r.channels own.shape.as_many_channels (kept_items c.args.found.now.kept.items) (is.kept own.shape own.long) p at)

pub returns : goal.returns
returns g c =
    let cut = c.args.cut.now in
    let fits = c.can_cut.ensures in
    let form = c.args.found.now.form in
    let at = (goal.at.returns g c).After-judge_certificate in
    let known = g.R.Read.remaining (inlet_reader (cert_inlet c.args.reader.now)) in
    let answer = c.judge_certificate.result in
    record {
      judged = λ r is. judged_whole cut fits form r (master g at r is) is.shaped c.places_are_windows.ensures known answer (certified g at r is);
      least = λ r is. judged_least cut fits form r (master g at r is) is.shaped c.places_are_windows.ensures c.least_together.ensures known answer (certified g at r is);
      only = λ r is own. judged_only cut fits form r own is.shaped known answer (certified g at r is);
      failures = c.judge_certificate.ensures.failures;
    }

pub judge_certificate-requires-clause-kept : goal.judge_certificate-requires-clause-kept
judge_certificate-requires-clause-kept g c = rw c.deref.ensures.value (c.in_ok-reason.ensures.kept c.in_default.is)
