-- Laws: how the words of the contracts are related.
use Rattle.std.specs.Prelude.{◌≡◌, ℕ, List}
use Rattle.judge_core.specs.Accepting.{Accepts, IsLeastMaster, IsMaster}
use Rattle.archive_core.specs.Editing.{IsCertificate}

-- a master has one certificate that is written for it
abbrev pub OneCertificate : Type 0
OneCertificate = (project : List ℕ) (files : List (List ℕ)) (master one other : List ℕ) → IsCertificate project files master one → IsCertificate project files master other → one ≡ other

-- a master none of whose bridges could cost less is accepted with that certificate, whoever made it
abbrev pub LeastIsAccepted : Type 0
LeastIsAccepted =
    (project : List ℕ) (files : List (List ℕ)) (master cert : List ℕ) → IsMaster project files master → IsLeastMaster project files master → IsCertificate project files master cert → (cost : ℕ) × Accepts project files master cert cost
