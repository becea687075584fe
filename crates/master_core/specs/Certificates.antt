-- The certificate that is written for a master: its text, whoever writes it.
use Rattle.std.specs.Prelude.{ℕ, Bool, List, ◌++◌, All, flat_map, length, map}
use Rattle.cost_core.specs.Limits.{IsBridging}
use Rattle.cost_core.specs.StateCosts.{trellis_of}
use Rattle.trellis_core.specs.Handing.{capped_at}
use Rattle.trellis_core.specs.LeastSums.{least_rows}
use Rattle.cert_core.specs.Certificates.{Claim, IsCert}
use Rattle.cert_core.specs.Text.{Entry, cert_entry, cert_head}
use Rattle.cert_core.specs.declared.version.Version.TheVariants.{Two}
use Rattle.cut_core.specs.Cuts.{CutContent}
use Rattle.cut_core.specs.Claims.{IsLeastClaim, claim_cost, claims}

-- the rows of a claim: for each level and each state the least sum of steps over all lists of bits that lead there, or
-- the cost of the claim's bits if that is less
abbrev pub claim_rows : Claim → List (List ℕ)
claim_rows claim = map (capped_at (claim_cost claim)) (least_rows (trellis_of claim.bridging))

-- the entry of a claim: these rows, and the cost of its bits
abbrev pub claim_entry : Claim → Entry
claim_entry claim = record { cue = claim.cue; channel = claim.channel; levels = claim.bridging.levels; rows = claim_rows claim; cost = claim_cost claim }

-- the bytes of that entry, in the second version
abbrev pub entry_text : Claim → List ℕ
entry_text claim = cert_entry Two (claim_entry claim)

-- the certificate of some claims, for a number of weights: the head of the second version, and then the entry of each
-- claim, in their order
abbrev pub claims_text : ℕ → List Claim → List ℕ
claims_text weights cs = cert_head Two weights (length cs) ++ flat_map entry_text cs

-- the certificate of a master with these channels: that of its bridges, by rising cue and then by rising channel
abbrev pub cert_of : CutContent → List (List Bool) → List ℕ
cert_of cut zs = claims_text (length cut.splice.weights) (claims cut zs)

-- law: the certificate of claims whose bits are least shows them to be least
abbrev pub CertificatesShow : Type 0
CertificatesShow = (weights : ℕ) (cs : List Claim) → All (λ claim. IsBridging claim.bridging) cs → All IsLeastClaim cs → IsCert weights cs (claims_text weights cs)
