-- What the steps of judging return.
use Rattle.std.specs.Prelude.{◌≡◌, ℕ, ◌<◌, Bool, List, ◌++◌, All, IfOk, IfSome, Option, None, Some, Result, Vec, length, map, slice_index_or, take}
use Rattle.std.specs.declared.alloc.Global.{Global}
use Rattle.std.specs.Io.KnownBytes.{Consumes}
use Rattle.std.specs.List.{sum_by}
use Rattle.chunk_core.specs.Inlets.{inlet_reader}
use Rattle.dsd_bits.specs.Contents.{Content}
use Rattle.cost_core.specs.StateCosts.{trellis_of}
use Rattle.cert_core.specs.Certificates.{AreEntries, Claim}
use Rattle.cert_core.specs.Entries.{BeginsValid, ReadsEntry}
use Rattle.cert_core.specs.Readers.{HasNoHead, IfLeft, InHead, cert_inlet, read_version}
use Rattle.cert_core.specs.declared.reader.CertReader.{CertReader}
use Rattle.cert_core.specs.Reasons.{FirstReason}
use Rattle.cert_core.specs.Text.{cert_head}
use Rattle.cert_core.specs.declared.version.Version.{Version}
use Rattle.cert_core.specs.declared.verdict.CertReason.{CertReason}
use Rattle.cert_core.specs.declared.verdict.CertVerdict.{CertVerdict}
use Rattle.cert_core.specs.declared.verdict.CertVerdict.TheVariants as judged
use Rattle.form_core.specs.declared.form.Form.{Form}
use Rattle.cut_core.specs.Cuts.{CutContent}
use Rattle.cut_core.specs.declared.bridges.BridgePlace.{BridgePlace}
use Rattle.judge_core.specs.declared.finding.Found.{Found}
use Rattle.request_core.specs.declared.reason.Reason.TheVariants.{Cert}
use Rattle.judge_core.specs.declared.verdict.Verdict.{Verdict}
use Rattle.judge_core.specs.declared.verdict.Verdict.TheVariants.{Accepted, Rejected}
use Rattle.cut_core.specs.Masters.{IsMasterOf, AreLeastChannels, AreMasterChannels, CostLeast, total_cost}
use Rattle.judge_core.specs.Checking.{CertReasons, IsFirstAgainst}
use Rattle.cut_core.specs.Claims.{AreLeastBridges, IsCertOf, IsLeastClaim, claim_cost, windows_total}
use Rattle.judge_core.specs.Kept.{AreBitsOf, ForFoundOf, claim_from, kept_items}

-- it isn't a rejection
abbrev pub IsNoRejection : Verdict → Type 0
IsNoRejection (Accepted cost) = Unit {0}
IsNoRejection (Rejected reason) = ⊥

-- P holds of the cost, if it is accepted
abbrev pub AtCost : Verdict → (ℕ → Type 0) → Type 0
AtCost (Accepted cost) P = P cost
AtCost (Rejected reason) P = Unit {0}

-- a recording is a master of the cut, none of its bridges could cost less, and no master of the cut costs less than
-- this
pub record IsLeastOf (cut : CutContent) (form : Form) (r : Content) (cost : ℕ) : Type 0 where
  pub is_master : IsMasterOf cut form r
  pub made : AreMasterChannels cut r.channels
  pub least : AreLeastChannels cut r.channels
  pub joint : CostLeast cut r.channels cost

-- such a master, at the cost, if it is accepted
abbrev pub IsLeastAt : CutContent → Form → Content → Verdict → Type 0
IsLeastAt cut form r verdict = AtCost verdict (IsLeastOf cut form r)

-- an accepted master holds the cues, its certificate shows its bridges to be least, and this is their total cost; for a
-- rejected one this is the first reason
abbrev pub JudgesMaster : CutContent → Form → Content → List ℕ → Verdict → Type 0
JudgesMaster cut form r cert (Accepted cost) = IsMasterOf cut form r × IsCertOf cut r.channels cert × (cost ≡ total_cost cut r.channels) × (cost ≡ windows_total cut r.channels)
JudgesMaster cut form r cert (Rejected reason) = IsFirstAgainst cut form r cert reason

-- the head of a certificate of the version was read; or this is the first reason against the head in the bytes, if they
-- are known, and they begin with the head of no version
abbrev pub JudgesHead : Version → ℕ → ℕ → Option (List ℕ) → Option (List ℕ) → Option CertReason → Type 0
JudgesHead v weights number old new None = Consumes old new (cert_head v weights number)
JudgesHead v weights number old new (Some reason) = InHead weights number old reason × IfSome old (HasNoHead weights number)

-- an entry of the version that shows the claim was read, and its bits are least, at this cost
pub record ShowsClaim (v : Version) (claim : Claim) (old new : Option (List ℕ)) (cost : ℕ) : Type 0 where
  pub entry : ReadsEntry v (trellis_of claim.bridging) claim.cue claim.channel claim.bits old new
  pub cost_is : cost ≡ claim_cost claim
  pub least : IsLeastClaim claim

-- this is the first reason against the claim's entry in the bytes, if they are known, and they don't begin with one
-- that shows it
pub record LacksClaim (v : Version) (claim : Claim) (old : Option (List ℕ)) (reason : CertReason) : Type 0 where
  pub first : IfSome old (λ bytes. FirstReason v (trellis_of claim.bridging) claim.cue claim.channel (claim_cost claim) bytes reason)
  pub none : IfSome old (λ bytes. BeginsValid v (trellis_of claim.bridging) claim.cue claim.channel claim.bits bytes → ⊥)

-- the claim is shown, or this is the first reason against its entry
abbrev pub JudgesClaim : Version → Claim → Option (List ℕ) → Option (List ℕ) → CertVerdict → Type 0
JudgesClaim v claim old new (judged.Accepted cost) = ShowsClaim v claim old new cost
JudgesClaim v claim old new (judged.Rejected reason) = LacksClaim v claim old reason

-- entries of the version that show the claims were read, one for each in their order
abbrev pub ReadsEntries : Version → List Claim → Option (List ℕ) → Option (List ℕ) → Type 0
ReadsEntries v cs old new = (entries : List ℕ) × Consumes old new entries × AreEntries v cs entries

-- entries that show the claims were read, and the bits of each are least, at this total cost
pub record ShowsClaims (v : Version) (cs : List Claim) (old new : Option (List ℕ)) (cost : ℕ) : Type 0 where
  pub entries : ReadsEntries v cs old new
  pub cost_is : cost ≡ sum_by claim_cost cs
  pub least : All IsLeastClaim cs

-- the bytes have entries that show the claims before claim k, and this is the first reason why its own entry is wrong
pub record IsWrongFrom (v : Version) (cs : List Claim) (k : ℕ) (reason : CertReason) (bytes : List ℕ) : Type 0 where
  pub claim : Claim
  pub there : k < length cs
  pub claim_is : slice_index_or cs k claim ≡ claim
  pub entries : List ℕ
  pub after : List ℕ
  pub text : bytes ≡ entries ++ after
  pub shown : AreEntries v (take k cs) entries
  pub wrong : FirstReason v (trellis_of claim.bridging) claim.cue claim.channel (claim_cost claim) after reason

-- entries that show the claims were read; or this is the first reason why the entry of one is wrong, and the bytes, if
-- they are known, aren't such entries
abbrev pub JudgesClaims : Version → List Claim → Option (List ℕ) → Option (List ℕ) → Verdict → Type 0
JudgesClaims v cs old new (Accepted cost) = ShowsClaims v cs old new cost
JudgesClaims v cs old new (Rejected (Cert k reason)) = IfSome old (λ bytes. IsWrongFrom v cs k reason bytes × (AreEntries v cs bytes → ⊥))
JudgesClaims v cs old new (Rejected _) = ⊥

-- the bytes, if they are known, are a certificate of the bridges, whose bits are least, at this total cost
pub record ShowsBridges (cut : CutContent) (zs : List (List Bool)) (known : Option (List ℕ)) (cost : ℕ) : Type 0 where
  pub shown : IfSome known (IsCertOf cut zs)
  pub cost_is : cost ≡ windows_total cut zs
  pub least : AreLeastBridges cut zs

-- the bytes are such a certificate; or this is the first reason against them, and they aren't
abbrev pub JudgesCert : CutContent → List (List Bool) → Option (List ℕ) → Verdict → Type 0
JudgesCert cut zs known (Accepted cost) = ShowsBridges cut zs known cost
JudgesCert cut zs known (Rejected reason) = IfSome known (λ cert. CertReasons cut zs cert reason × (IsCertOf cut zs cert → ⊥))

-- ---- what is judged by what a reader of certificates has next, and had before
-- the claim is judged by the next entry, of the reader's version
abbrev pub JudgesNext : {R : Type 0} → (R → Option (List ℕ)) → CertReader R → CertReader R → Claim → CertVerdict → Type 0
JudgesNext left old new claim verdict = JudgesClaim (read_version old) claim (left (inlet_reader (cert_inlet old))) (left (inlet_reader (cert_inlet new))) verdict

-- what was kept for the bridges at these places is judged by the next entries
abbrev pub JudgesKept : {R : Type 0} → (R → Option (List ℕ)) → CertReader R → CertReader R → CutContent → List (Vec (List Bool) Global) → List BridgePlace → Verdict → Type 0
JudgesKept left old new cut kept places verdict = JudgesClaims (read_version old) (map (claim_from cut (kept_items kept)) places) (left (inlet_reader (cert_inlet old))) (left (inlet_reader (cert_inlet new))) verdict

-- the head is judged for a cut and a number of entries
abbrev pub JudgesHeadOf : {R : Type 0} → (R → Option (List ℕ)) → CertReader R → CertReader R → CutContent → ℕ → Option CertReason → Type 0
JudgesHeadOf left old new cut number found = JudgesHead (read_version new) (length cut.splice.weights) number (left (inlet_reader (cert_inlet old))) (left (inlet_reader (cert_inlet new))) found

-- for each master whose bits were kept for its bridges, a call judges them by the certificate that the reader has left
abbrev pub JudgesAllKept : {R E : Type 0} → (R → Option (List ℕ)) → CertReader R → CutContent → List (Vec (List Bool) Global) → Result Verdict E → Type 0
JudgesAllKept left reader cut kept result = (zs : List (List Bool)) → AreBitsOf cut (kept_items kept) zs → IfOk result (JudgesCert cut zs (left (inlet_reader (cert_inlet reader))))

-- for each master of which this was found, a call judges it by the certificate that the reader has left, if its bytes
-- are known
abbrev pub JudgesFound : {R E : Type 0} → (R → Option (List ℕ)) → CertReader R → CutContent → Found → Result Verdict E → Type 0
JudgesFound left reader cut found result = ForFoundOf cut found (λ r. IfOk result (λ verdict. IfLeft left reader (λ cert. JudgesMaster cut found.form r cert verdict)))

-- a call rejects no master of which this was found, if the reader has a certificate of its bridges left
abbrev pub RejectsNoCert : {R E : Type 0} → (R → Option (List ℕ)) → CertReader R → CutContent → Found → Result Verdict E → Type 0
RejectsNoCert left reader cut found result = ForFoundOf cut found (λ r. IsMasterOf cut found.form r → IfLeft left reader (λ cert. IsCertOf cut r.channels cert → IfOk result IsNoRejection))
