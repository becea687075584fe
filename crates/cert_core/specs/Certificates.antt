-- Which bytes are a certificate that shows the bits of some bridges to be least.
use Rattle.std.specs.Prelude.{◌≡◌, ℕ, Bool, List, [], ◌∷◌, ◌++◌}
use Rattle.cost_core.specs.Bridges.{Bridging}
use Rattle.cost_core.specs.StateCosts.{trellis_of}
use Rattle.cost_core.specs.Tables.{value_in, IsTable}
use Rattle.cost_core.specs.Validity.{IsValid}
use Rattle.cert_core.specs.Entries.{IsEntry}
use Rattle.cert_core.specs.Text.{Entry, cert_text}
use Rattle.cert_core.specs.declared.version.Version.{Version}

-- what an entry is to show: that the bits of the bridge after a cue, in a channel, are least
pub record Claim : Type 0 where
  pub cue : ℕ
  pub channel : ℕ
  pub bridging : Bridging
  pub bits : List Bool

-- the entry is that of the claim, with a table that is valid for its bits
pub record Shows (claim : Claim) (e : Entry) : Type 0 where
  pub cue : e.cue ≡ claim.cue
  pub channel : e.channel ≡ claim.channel
  pub levels : e.levels ≡ claim.bridging.levels
  pub table : IsTable (trellis_of claim.bridging) e.rows
  pub valid : IsValid (trellis_of claim.bridging) (value_in e.rows) e.cost claim.bits

-- there is an entry for each claim, in their order, which shows it
abbrev pub ShowsAll : List Claim → List Entry → Type 0
ShowsAll [] [] = Unit {0}
ShowsAll [] (e ∷ entries) = ⊥
ShowsAll (claim ∷ claims) [] = ⊥
ShowsAll (claim ∷ claims) (e ∷ entries) = Shows claim e × ShowsAll claims entries

-- the bytes are the certificate of some such entries, in one version or the other
abbrev pub IsCert : ℕ → List Claim → List ℕ → Type 0
IsCert weights claims bytes = (v : Version) × (entries : List Entry) × ShowsAll claims entries × (bytes ≡ cert_text v weights entries)

-- the bytes are an entry, in a version, that shows the claim
abbrev pub IsEntryOf : Version → Claim → List ℕ → Type 0
IsEntryOf v claim bytes = IsEntry v (trellis_of claim.bridging) claim.cue claim.channel claim.bits bytes

-- the bytes are such entries, one for each claim in their order, and nothing else
abbrev pub AreEntries : Version → List Claim → List ℕ → Type 0
AreEntries v [] bytes = bytes ≡ []
AreEntries v (claim ∷ claims) bytes = (entry : List ℕ) × (rest : List ℕ) × (bytes ≡ entry ++ rest) × IsEntryOf v claim entry × AreEntries v claims rest
