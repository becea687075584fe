-- Which recordings are masters of a cut, and the first reason against others.
use Rattle.std.specs.Prelude.{◌≡◌, ◌≢◌, ℕ, ◌<◌, ◌⊎◌, Bool, false, List, [], ◌++◌, Option, MatchOption, length, slice_index_or, take}
use Rattle.std.specs.List.{range_with_len}
use Rattle.dsd_bits.specs.Channels.{count_of}
use Rattle.dsd_bits.specs.Contents.{Content}
use Rattle.form_core.specs.declared.form.Form.{Form}
use Rattle.form_core.specs.declared.form.Form.TheVariants.{Dsdiff}
use Rattle.cost_core.specs.Bridges.{bridge_cost}
use Rattle.cost_core.specs.StateCosts.{trellis_of}
use Rattle.cert_core.specs.Certificates.{AreEntries, Claim}
use Rattle.cert_core.specs.Reasons.{FirstReason, HeadReason}
use Rattle.cert_core.specs.Text.{cert_head}
use Rattle.cert_core.specs.declared.version.Version.{Version}
use Rattle.cert_core.specs.declared.verdict.CertReason.{CertReason}
use Rattle.cut_core.specs.Cuts.{AreAlike, CutContent, master_length}
use Rattle.cut_core.specs.Titles.{titles_of}
use Rattle.request_core.specs.declared.reason.Reason.{Reason}
use Rattle.cut_core.specs.declared.fitting.Shape.{Shape}
use Rattle.request_core.specs.declared.reason.Reason.TheVariants.{MasterShape, MasterLength, MasterMarks, CuedBit, CertHead, Cert, CertExtra}
use Rattle.cut_core.specs.Claims.{claims}
use Rattle.cut_core.specs.Masters.{HoldCues, IsMasterOf, IsTitled, rebuilt}

-- the rate and the number of channels of a recording
abbrev pub shape_of : Content → Shape
shape_of r = record { rate = r.rate; channels = length r.channels }

-- what can be said without its bits: it is like the takes, has as many bits as a master, and the marks of the titles
pub record IsLike (cut : CutContent) (form : Form) (r : Content) (count : ℕ) : Type 0 where
  pub shape : AreAlike cut.first r
  pub long : count ≡ master_length cut.splice.cues
  pub titled : IsTitled cut form r

-- the first reason why a recording isn't like this, with what it has and what the takes or the cues want
abbrev pub OuterReason : CutContent → Form → Content → ℕ → Reason → Type 0
OuterReason cut form r count (MasterShape found wanted) = (AreAlike cut.first r → ⊥) × (found ≡ shape_of r) × (wanted ≡ shape_of cut.first)
OuterReason cut form r count (MasterLength found wanted) =
    AreAlike cut.first r × (count ≢ master_length cut.splice.cues) × (found ≡ count) × (wanted ≡ master_length cut.splice.cues)
OuterReason cut form r count MasterMarks = AreAlike cut.first r × (count ≡ master_length cut.splice.cues) × (form ≡ Dsdiff) × (r.marks ≢ titles_of cut)
OuterReason cut form r count _ = ⊥

-- the first reason why a recording isn't like this, or none if it is
abbrev pub FindsOuterReason : CutContent → Form → Content → ℕ → Option Reason → Type 0
FindsOuterReason cut form r count found = MatchOption found (IsLike cut form r count) (OuterReason cut form r count)

-- the first place where two channels differ
pub record IsFirstDifference (x y : List Bool) (place : ℕ) : Type 0 where
  pub there : place < length x
  pub before : (i : ℕ) → i < place → slice_index_or x i false ≡ slice_index_or y i false
  pub differs : slice_index_or x place false ≢ slice_index_or y place false

-- the channels before channel c hold the cues, and a place is the first where channel c differs from them
pub record IsFirstCuedBit (cut : CutContent) (r : Content) (c place : ℕ) : Type 0 where
  pub there : c < length r.channels
  pub before : HoldCues cut (range_with_len 0 c) (take c r.channels)
  pub differs : IsFirstDifference (slice_index_or r.channels c []) (rebuilt cut c (slice_index_or r.channels c [])) place

-- a certificate for a number of weights and of entries, of either version, begins with entries that show these claims,
-- and continues with these bytes
pub record ShowsUpTo (weights number : ℕ) (cs : List Claim) (cert after : List ℕ) : Type 0 where
  pub version : Version
  pub entries : List ℕ
  pub text : cert ≡ cert_head version weights number ++ (entries ++ after)
  pub shown : AreEntries version cs entries

-- the entries before entry k show their claims, and this is the first reason why entry k is wrong
pub record IsFirstWrong (cut : CutContent) (zs : List (List Bool)) (cert : List ℕ) (k : ℕ) (reason : CertReason) : Type 0 where
  pub claim : Claim
  pub there : k < length (claims cut zs)
  pub claim_is : slice_index_or (claims cut zs) k claim ≡ claim
  pub after : List ℕ
  pub goes_on : ShowsUpTo (length cut.splice.weights) (length (claims cut zs)) (take k (claims cut zs)) cert after
  pub wrong : FirstReason goes_on.version (trellis_of claim.bridging) claim.cue claim.channel (bridge_cost claim.bridging claim.bits) after reason

-- all claims are shown, and more bytes follow
pub record HasMore (cut : CutContent) (zs : List (List Bool)) (cert : List ℕ) : Type 0 where
  pub after : List ℕ
  pub some : 0 < length after
  pub goes_on : ShowsUpTo (length cut.splice.weights) (length (claims cut zs)) (claims cut zs) cert after

-- a recording isn't the master for this reason, and for none before it in the order: shape, length, marks, cued bits; of
-- shape and length it tells what the recording has and what the takes or the cues want
abbrev pub MasterReason : CutContent → Form → Content → Reason → Type 0
MasterReason cut form r (MasterShape found wanted) = (AreAlike cut.first r → ⊥) × (found ≡ shape_of r) × (wanted ≡ shape_of cut.first)
MasterReason cut form r (MasterLength found wanted) =
    AreAlike cut.first r × (count_of r.channels ≢ master_length cut.splice.cues) × (found ≡ count_of r.channels) × (wanted ≡ master_length cut.splice.cues)
MasterReason cut form r MasterMarks =
    AreAlike cut.first r × (count_of r.channels ≡ master_length cut.splice.cues) × (form ≡ Dsdiff) × (r.marks ≢ titles_of cut)
MasterReason cut form r (CuedBit c place) =
    AreAlike cut.first r × (count_of r.channels ≡ master_length cut.splice.cues) × IsTitled cut form r × IsFirstCuedBit cut r c place
MasterReason cut form r _ = ⊥

-- the first reason why a recording isn't the master, or none if it is
abbrev pub FindsReason : CutContent → Form → Content → Option Reason → Type 0
FindsReason cut form r found = MatchOption found (IsMasterOf cut form r) (MasterReason cut form r)

-- a certificate doesn't show a master's bridges to be least for this reason, and for none before it in the order: head,
-- entries, end
abbrev pub CertReasons : CutContent → List (List Bool) → List ℕ → Reason → Type 0
CertReasons cut zs cert (CertHead reason) = HeadReason (length cut.splice.weights) (length (claims cut zs)) cert reason
CertReasons cut zs cert (Cert k reason) = IsFirstWrong cut zs cert k reason
CertReasons cut zs cert CertExtra = HasMore cut zs cert
CertReasons cut zs cert _ = ⊥

-- the first reason against a master that can be read: one against the master, or if there is none, one against the
-- certificate
abbrev pub IsFirstAgainst : CutContent → Form → Content → List ℕ → Reason → Type 0
IsFirstAgainst cut form r cert reason = MasterReason cut form r reason ⊎ (IsMasterOf cut form r × CertReasons cut r.channels cert reason)
