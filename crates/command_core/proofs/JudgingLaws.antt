-- A certificate that is read through a buffer, and the verdict by it.
use Rattle.std.proofs.Common.{◌≡◌, ℕ, Err, List, [], IfOk, IfSome, Option, None, Result, Some, Ok, refl, subst}
use Rattle.std.specs.Io.Buffered.{reader_buffer, reader_capacity, reader_inner, reader_remaining}
use Rattle.std.specs.declared.io.buffered.BufReader.{BufReader}
use Rattle.judge_core.specs.Accepting.{Accepts, CostsLeast, CostsWindows, IfMasterAccepted, IfMasterRejected, IsLeastMaster, IsMaster, ReadsAccepted, RejectsFirst}
use Rattle.request_core.specs.declared.fault.Fault.{Fault}
use Rattle.judge_core.specs.declared.verdict.Verdict.{Verdict}
use Rattle.judge_core.specs.declared.verdict.Verdict.TheVariants.{Accepted, Rejected}
use Rattle.command_core.specs.Commands.{IsLeastIfAccepted, JudgesBy}

-- a buffer into which nothing was read has left what its reader has left
pub buffered_known : {T A : Type 0} (remaining : T → Option (List ℕ)) (r : BufReader T A) (inner : T) (left : Option (List ℕ)) → reader_inner r ≡ inner → reader_buffer r ≡ [] → reader_capacity r ≡ 65536 → remaining inner ≡ left → reader_remaining remaining r ≡ left
buffered_known remaining r inner None is empty capacity left = rw (capacity, empty, is, left) refl
buffered_known remaining r inner (Some bytes) is empty capacity left = rw (capacity, empty, is, left) refl

-- what is left in it is what is left of the certificate
pub known_by : (project : List ℕ) (files : List (List ℕ)) (master : List ℕ) (buffered left : Option (List ℕ)) → buffered ≡ left → (v : Verdict) → JudgesBy project files master buffered v → JudgesBy project files master left v
known_by project files master buffered left e v h = subst (λ o. JudgesBy project files master o v) e h

-- a verdict is that by whatever certificate is left to read
pub judges_by : (project : List ℕ) (files : List (List ℕ)) (master : List ℕ) (left : Option (List ℕ)) (r : Result Verdict Fault)
    → IfMasterAccepted r (λ cost. IfSome left (λ cert. Accepts project files master cert cost)) → IfMasterAccepted r (λ cost. IfSome left (λ _. CostsWindows project files master cost)) → IfMasterRejected r (λ reason. IfSome left (λ cert. RejectsFirst project files master cert reason)) → ((cost : ℕ) → IfSome left (λ cert. Accepts project files master cert cost → ReadsAccepted r cost)) → IfOk r (JudgesBy project files master left)
judges_by project files master None (Ok verdict) accepts windows rejects only = tt
judges_by project files master (Some cert) (Ok (Accepted cost)) accepts windows rejects only = (accepts, windows)
judges_by project files master (Some cert) (Ok (Rejected reason)) accepts windows rejects only = (rejects, only)
judges_by project files master left (Err fault) accepts windows rejects only = tt

-- what is accepted is least
pub least_by : (project : List ℕ) (files : List (List ℕ)) (master : List ℕ) (r : Result Verdict Fault)
    → IfMasterAccepted r (λ _. IsMaster project files master) → IfMasterAccepted r (λ _. IsLeastMaster project files master) → IfMasterAccepted r (CostsLeast project files master) → IfOk r (IsLeastIfAccepted project files master)
least_by project files master (Ok (Accepted cost)) is least joint = record { is_master = is; least = least; joint = joint }
least_by project files master (Ok (Rejected reason)) is least joint = tt
least_by project files master (Err fault) is least joint = tt
