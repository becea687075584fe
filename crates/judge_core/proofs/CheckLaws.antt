-- What a check answers is what master and certificate come to.
use Rattle.std.proofs.Common.{◌≡◌, ◌⊎◌, ℕ, inl, inr, IfSome, List, Option, None, Some, Ok, Err, refl, sym, subst, ◌∙◌}
use Rattle.dsd_bits.specs.Contents.{Content}
use Rattle.form_core.specs.declared.form.Form.{Form}
use Rattle.form_core.specs.declared.opening.Opened.{Opened}
use Rattle.form_core.specs.Forms.{HoldsAs}
use Rattle.form_core.proofs.OpeningLaws.{held_is_opened}
use Rattle.cert_core.specs.declared.verdict.CheckFault.{CheckFault}
use Rattle.cert_core.specs.declared.verdict.CheckFault.TheVariants as certs
use Rattle.cert_core.specs.Readers.{failed_checks}
use Rattle.cut_core.specs.Cuts.{CutContent}
use Rattle.judge_core.specs.declared.verdict.Verdict.{Verdict}
use Rattle.judge_core.specs.declared.verdict.Verdict.TheVariants.{Accepted, Rejected}
use Rattle.cut_core.specs.Masters.{IsMasterOf, total_cost}
use Rattle.cut_core.specs.Claims.{IsCertOf}
use Rattle.judge_core.specs.Judging.{AtCost, IsLeastOf, IsNoRejection, JudgesMaster}
use Rattle.sound_core.specs.Faults.{failed_reads}
use Rattle.sound_core.specs.declared.fault.StreamFault.TheVariants.{ReadFailed}
use Rattle.request_core.specs.Faults.{as_stream}
use Rattle.request_core.specs.declared.fault.Fault.TheVariants.{Memory, Stream}
use Rattle.judge_core.specs.Accepting.{Accepts, CostsLeast, CostsWindows, IfMasterAccepted, IfMasterRejected, IsAcceptedAt, IsLeastMaster, IsMaster, RejectsFirst, fault_of_check}
use Rattle.request_core.specs.Cutting.{SaysCut}
use Rattle.request_core.proofs.CuttingLaws.{one_cut, says_cut}

-- what follows for known bytes, and what holds for all
known_on : (known : Option (List ℕ)) (P Q : List ℕ → Type 0) → ((bytes : List ℕ) → P bytes → Q bytes) → IfSome known P → IfSome known Q
known_on None P Q f p = tt
known_on (Some bytes) P Q f p = f bytes p

-- a certificate that was not judged
pub not_judged : (fault : CheckFault) → (fault_of_check fault ≡ Stream ReadFailed) ⊎ (fault_of_check fault ≡ Memory)
not_judged certs.Device = inl refl
not_judged certs.Memory = inr refl

pub same_count : (fault : CheckFault) → failed_reads (as_stream {X = Verdict} (Err (fault_of_check fault))) ≡ failed_checks {T = Verdict} (Err fault)
same_count certs.Device = refl
same_count certs.Memory = refl

-- ---- a file holds one recording in one form
abbrev pub opened_as : Form → Content → Opened
opened_as form r = record { form = form; recording = r }

pub one_held : (file : List ℕ) (form other : Form) (r s : Content) → HoldsAs file form r → HoldsAs file other s → opened_as form r ≡ opened_as other s
one_held file form other r s a b = let both : Ok (opened_as form r) ≡ Ok (opened_as other s) = sym (held_is_opened file form r a) ∙ held_is_opened file other s b in cc

-- ---- the verdict on the files of a project, by that on the recording of a master
module _ (project : List ℕ) (files : List (List ℕ)) (master : List ℕ) (cut : CutContent) (says : SaysCut project files None cut) (form : Form) (r : Content) (holds : HoldsAs master form r) where
  abbrev Judges : Verdict → List ℕ → Type 0
  Judges v cert = JudgesMaster cut form r cert v

  pub file_accepts : (known : Option (List ℕ)) (v : Verdict) → IfSome known (Judges v) → IfMasterAccepted (Ok v) (λ cost. IfSome known (λ cert. Accepts project files master cert cost))
  file_accepts known (Accepted cost) h =
      known_on known (Judges (Accepted cost)) (λ cert. Accepts project files master cert cost) (λ cert j. record { cut = cut; says = says; form = form; recording = r; master_holds = holds; is_master = j.0; shown = j.1; cost_is = j.2 }) h
  file_accepts known (Rejected reason) h = tt

  pub file_windows : (known : Option (List ℕ)) (v : Verdict) → IfSome known (Judges v) → IfMasterAccepted (Ok v) (λ cost. IfSome known (λ cert. CostsWindows project files master cost))
  file_windows known (Accepted cost) h = known_on known (Judges (Accepted cost)) (λ cert. CostsWindows project files master cost) (λ cert j. record { cut = cut; says = says; form = form; recording = r; file_holds = holds; cost_is = j.3 }) h
  file_windows known (Rejected reason) h = tt

  pub file_rejects : (known : Option (List ℕ)) (v : Verdict) → IfSome known (Judges v) → IfMasterRejected (Ok v) (λ reason. IfSome known (λ cert. RejectsFirst project files master cert reason))
  file_rejects known (Accepted cost) h = tt
  file_rejects known (Rejected reason) h = known_on known (Judges (Rejected reason)) (λ cert. RejectsFirst project files master cert reason) (λ cert j. record { cut = cut; says = says; stands = inr (form, r, holds, j) }) h

  pub file_master : (v : Verdict) → AtCost v (IsLeastOf cut form r) → IfMasterAccepted (Ok v) (λ _. IsMaster project files master)
  file_master (Accepted cost) h = record { cut = cut; says = says; form = form; recording = r; file_holds = holds; same_rate = h.is_master.shape.same_rate; made = h.made; titled = h.is_master.titled }
  file_master (Rejected reason) h = tt

  pub file_least : (v : Verdict) → AtCost v (IsLeastOf cut form r) → IfMasterAccepted (Ok v) (λ _. IsLeastMaster project files master)
  file_least (Accepted cost) h = record { cut = cut; says = says; form = form; recording = r; file_holds = holds; least = h.least }
  file_least (Rejected reason) h = tt

  pub file_joint : (v : Verdict) → AtCost v (IsLeastOf cut form r) → IfMasterAccepted (Ok v) (CostsLeast project files master)
  file_joint (Accepted cost) h = record { cut = cut; says = says; form = form; recording = r; file_holds = holds; made = h.made; least = h.joint }
  file_joint (Rejected reason) h = tt

  -- a certificate that shows the bridges of the master is accepted at what its channels cost
  own_only : (cert : List ℕ) (v : Verdict) → Judges v cert → (IsCertOf cut r.channels cert → IsNoRejection v) → IsCertOf cut r.channels cert → IsAcceptedAt (total_cost cut r.channels) v
  own_only cert (Accepted cost) h only shown = h.2
  own_only cert (Rejected reason) h only shown = absurd (only shown)

  pub file_only : (known : Option (List ℕ)) (v : Verdict) (cost : ℕ) → IfSome known (Judges v) → (IsMasterOf cut form r → IfSome known (λ cert. IsCertOf cut r.channels cert → IsNoRejection v)) → IfSome known (λ cert. Accepts project files master cert cost → IsAcceptedAt cost v)
  file_only None v cost h only = tt
  file_only (Some cert) v cost h only = λ accepts.
      let same : accepts.cut ≡ cut = one_cut project files None cut says accepts.cut (says_cut project files None accepts.cut accepts.says) in
      let one : opened_as accepts.form accepts.recording ≡ opened_as form r = one_held master accepts.form form accepts.recording r accepts.master_holds holds in
      let mine : IsMasterOf cut form r = subst (λ (o : Opened). IsMasterOf cut o.form o.recording) one (subst (λ k. IsMasterOf k accepts.form accepts.recording) same accepts.is_master) in
      let shown : IsCertOf cut r.channels cert = subst (λ (o : Opened). IsCertOf cut o.recording.channels cert) one (subst (λ k. IsCertOf k accepts.recording.channels cert) same accepts.shown) in
      let cost_is : cost ≡ total_cost cut r.channels = subst (λ (o : Opened). cost ≡ total_cost cut o.recording.channels) one (subst (λ k. cost ≡ total_cost k accepts.recording.channels) same accepts.cost_is) in
      subst (λ n. IsAcceptedAt n v) (sym cost_is) (own_only cert v h (only mine) shown)
