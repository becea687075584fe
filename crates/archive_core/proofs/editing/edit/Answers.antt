use Rattle.std.proofs.Common.{◌∙◌, Some, inl, refl, subst}
use Rattle.std.proofs.lemmas.Result.{err_from_is_err_and}
use Rattle.cut_core.specs.Opening.{file_bytes}
use Rattle.request_core.proofs.CuttingLaws.{only_memory}
use Rattle.archive_core.specs.Planning.{CertifiesPlanned}
use Rattle.archive_core.specs.declared.planning.PlannedMaster.{PlannedMaster}
use Rattle.archive_core.proofs.editing.edit.Goals as goal
use Rattle.archive_core.proofs.editing.edit.Goals.{In_ok-cert}

-- ---- refusals
pub returns-in_err-cut : goal.returns-in_err-cut
returns-in_err-cut c =
    let p = err_from_is_err_and c.from_residual.result c.from_residual.ensures.1 in
    let is = c.in_err-cut.ensures.exact in
    rw (p.1, p.2) (record {
      found = tt;
      master = tt;
      certificate = tt;
      accepted = tt;
      joint = tt;
      windows = tt;
      only = λ master cost edits. only_memory c.args.project.now (file_bytes c.args.takes.now) (Some c.args.form) edits.cut edits.says c.in_err-cut.field-0.0 is;
      refused = is;
    })

pub returns-in_err-planned : goal.returns-in_err-planned
returns-in_err-planned c =
    let p = err_from_is_err_and c.from_residual-in_err-planned.result c.from_residual-in_err-planned.ensures.1 in
    let memory = c.in_err-planned.ensures.refused c.args.project.now (file_bytes c.args.takes.now) c.in_ok-cut.ensures.found in
    rw (p.1, p.2) (record {
      found = tt;
      master = tt;
      certificate = tt;
      accepted = tt;
      joint = tt;
      windows = tt;
      only = λ master cost edits. memory;
      refused = inl memory;
    })

pub returns-in_err-master : goal.returns-in_err-master
returns-in_err-master c =
    let p = err_from_is_err_and c.from_residual-in_err-master.result c.from_residual-in_err-master.ensures.1 in
    rw (p.1, p.2) (record {
      found = tt;
      master = tt;
      certificate = tt;
      accepted = tt;
      joint = tt;
      windows = tt;
      only = λ master cost edits. refl;
      refused = inl refl;
    })

pub returns-in_err-cert : goal.returns-in_err-cert
returns-in_err-cert c =
    let p = err_from_is_err_and c.from_residual-in_err-cert.result c.from_residual-in_err-cert.ensures.1 in
    rw (p.1, p.2) (record {
      found = tt;
      master = tt;
      certificate = tt;
      accepted = tt;
      joint = tt;
      windows = tt;
      only = λ master cost edits. refl;
      refused = inl refl;
    })

-- ---- what is answered
-- the plan that the certificate is written of is that of the master
certified : (c : In_ok-cert) → CertifiesPlanned c.in_ok-planned.planned c.in_ok-cert.cert.items
certified c = subst (λ (p : PlannedMaster). CertifiesPlanned p c.in_ok-cert.cert.items) c.master_of.ensures.same c.in_ok-cert.ensures

pub returns : goal.returns
returns c =
    let project = c.args.project.now in
    let files = file_bytes c.args.takes.now in
    let says = c.in_ok-cut.ensures.found in
    let total = c.total-total.ensures in
    let p = c.in_ok-planned.ensures.found project files says in
    let written = c.in_ok-master.ensures.bytes p.file p.is_file in
    let whole = certified (goal.at.returns c).In_ok-cert in
    record {
      found = rw (written, total) p.edits;
      master = rw written p.is_master;
      certificate = rw written (p.certificate c.in_ok-cert.cert.items whole);
      accepted = rw (written, total) (p.accepted c.in_ok-cert.cert.items whole);
      joint = rw (written, total) p.joint;
      windows = rw (written, total) p.windows;
      only = λ master cost edits.
          let both = c.in_ok-planned.ensures.only project files says master cost edits in
          (c.in_ok-master.ensures.bytes master both.0, total ∙ both.1);
      refused = tt;
    }
