-- The certificate of chosen bridges, whole and in parts.
use Rattle.std.specs.Prelude.{◌≡◌, ℕ, ◌-◌, ◌^◌, true, false, List, Option, flat_map, length}
use Rattle.std.specs.Io.KnownBytes.{Appends}
use Rattle.chunk_core.specs.Outlets.{AppendsPrefix, outlet_writer}
use Rattle.cost_core.specs.Bridges.{Bridging}
use Rattle.trellis_core.specs.Passes.{HasBuffers}
use Rattle.trellis_core.specs.declared.bridging.Chosen.{Chosen}
use Rattle.cert_core.specs.Certificates.{Claim}
use Rattle.cert_core.specs.Rooms.{room_weights}
use Rattle.cert_core.specs.Writers.{cert_outlet, cert_version, cert_weights, has_failed, has_head, is_open}
use Rattle.cert_core.specs.declared.version.Version.TheVariants.{Two}
use Rattle.cert_core.specs.declared.writer.CertWriter.{CertWriter}
use Rattle.cut_core.specs.Cuts.{CutContent}
use Rattle.cut_core.specs.declared.bridges.BridgePlace.{BridgePlace}
use Rattle.cut_core.specs.Claims.{claim_over}
use Rattle.master_core.specs.Certificates.{claims_text, entry_text}
use Rattle.master_core.specs.Choosing.{chosen_claims}
use Rattle.master_core.specs.declared.certifying.CertifyingRoom.{CertifyingRoom}
use Rattle.master_core.specs.declared.choosing.ChosenBridges.{ChosenBridges}

-- the reserved memory fits the certificate of the cut's bridges
pub record IsRoomOf (cut : CutContent) (room : CertifyingRoom) : Type 0 where
  pub pass_fits : HasBuffers (2 ^ (length cut.splice.weights - 1)) room.pass
  pub row_fits : room_weights room.row ≡ length cut.splice.weights

-- the certificate of chosen bridges
abbrev pub chosen_cert : CutContent → ChosenBridges → List ℕ
chosen_cert cut made = claims_text (length cut.splice.weights) (chosen_claims cut made.places.items made.chosen.items)

-- the bytes are the certificate that shows the chosen bits of each bridge to be least
abbrev pub Certifies : CutContent → ChosenBridges → List ℕ → Type 0
Certifies cut made cert = cert ≡ chosen_cert cut made

-- a writer's bytes, if they are known, grew by this certificate
abbrev pub AppendsCert : CutContent → ChosenBridges → Option (List ℕ) → Option (List ℕ) → Type 0
AppendsCert cut made old new = (cert : List ℕ) × Certifies cut made cert × Appends old new cert

-- a writer's bytes, if they are known, grew by a prefix of this certificate
abbrev pub AppendsCertPrefix : CutContent → ChosenBridges → Option (List ℕ) → Option (List ℕ) → Type 0
AppendsCertPrefix cut made old new = (cert : List ℕ) × Certifies cut made cert × AppendsPrefix old new cert

-- a writer's bytes, if they are known, grew by the entries of these claims
abbrev pub AppendsEntries : List Claim → Option (List ℕ) → Option (List ℕ) → Type 0
AppendsEntries claims old new = Appends old new (flat_map entry_text claims)

-- a writer's bytes, if they are known, grew by a prefix of these entries
abbrev pub AppendsSomeEntries : List Claim → Option (List ℕ) → Option (List ℕ) → Type 0
AppendsSomeEntries claims old new = AppendsPrefix old new (flat_map entry_text claims)

-- the same of the entries of chosen bridges
abbrev pub AddsEntries : CutContent → ChosenBridges → Option (List ℕ) → Option (List ℕ) → Type 0
AddsEntries cut made old new = AppendsEntries (chosen_claims cut made.places.items made.chosen.items) old new

-- the same of a prefix of these
abbrev pub AddsSomeEntries : CutContent → ChosenBridges → Option (List ℕ) → Option (List ℕ) → Type 0
AddsSomeEntries cut made old new = AppendsSomeEntries (chosen_claims cut made.places.items made.chosen.items) old new

-- the bytes of the entry for the bits that were chosen for the bridge at a place
abbrev pub entry_of : BridgePlace → Bridging → Chosen → List ℕ
entry_of place d chosen = entry_text (claim_over place d chosen.bits)

-- P holds of the bytes that a writer of certificates has written before and after, known or not
abbrev pub OnCertBytes : {W : Type 0} → (W → Option (List ℕ)) → CertWriter W → CertWriter W → (Option (List ℕ) → Option (List ℕ) → Type 0) → Type 0
OnCertBytes contents old new P = P (contents (outlet_writer (cert_outlet old))) (contents (outlet_writer (cert_outlet new)))

-- a writer of the second version that has written nothing
pub record IsFresh {W : Type 0} (weights : ℕ) (writer : CertWriter W) : Type 0 where
  pub version_is : cert_version writer ≡ Two
  pub weights_are : cert_weights writer ≡ weights
  pub unbegun : has_head writer ≡ false
  pub closed : is_open writer ≡ false
  pub fine : has_failed writer ≡ false

-- a writer of the second version that has written its head and whole entries, and accepts further ones
pub record IsBetweenEntries {W : Type 0} (weights : ℕ) (writer : CertWriter W) : Type 0 where
  pub version_is : cert_version writer ≡ Two
  pub weights_are : cert_weights writer ≡ weights
  pub begun : has_head writer ≡ true
  pub closed : is_open writer ≡ false
  pub fine : has_failed writer ≡ false
