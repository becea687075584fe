-- The bridges of a master, by their places: their bits, and what a certificate must show of them.
use Rattle.std.specs.Prelude.{ℕ, ◌+◌, ◌-◌, Bool, List, [], All, length, map, slice_index_or, slice_range, take}
use Rattle.std.specs.List.{sum_by}
use Rattle.cost_core.specs.Bridges.{Bridging, IsLeastBridge, bridge_cost}
use Rattle.cert_core.specs.Certificates.{Claim, IsCert}
use Rattle.cut_core.specs.Bridges.{bridges}
use Rattle.cut_core.specs.Cuts.{CutContent, cue_at, span, window}
use Rattle.cut_core.specs.declared.bridges.BridgePlace.{BridgePlace}

-- where the bridge after cue i starts in the master
abbrev pub bridge_start : CutContent → ℕ → ℕ
bridge_start cut i = sum_by span (take i cut.splice.cues) + ((cue_at cut i).stop - (cue_at cut i).start)

-- the bits of the bridge after cue i in a channel of the master
abbrev pub bridge_bits : CutContent → List Bool → ℕ → List Bool
bridge_bits cut z i = slice_range z (bridge_start cut i) (bridge_start cut i + (cue_at cut i).bridge)

-- what must be shown of bits at a place: that they are least for the bridge there
abbrev pub claim_of : CutContent → BridgePlace → List Bool → Claim
claim_of cut p bits = record { cue = p.cue; channel = p.channel; bridging = window cut p.channel p.cue; bits = bits }

-- the same for another bridge at the place
abbrev pub claim_over : BridgePlace → Bridging → List Bool → Claim
claim_over p d bits = record { cue = p.cue; channel = p.channel; bridging = d; bits = bits }

-- what must be shown of the bridge at a place, in a master with these channels
abbrev pub claim_at : CutContent → List (List Bool) → BridgePlace → Claim
claim_at cut zs p = claim_of cut p (bridge_bits cut (slice_index_or zs p.channel []) p.cue)

-- what must be shown of all its bridges, in their order
abbrev pub claims : CutContent → List (List Bool) → List Claim
claims cut zs = map (claim_at cut zs) (bridges cut)

-- the bytes are a certificate of a master's bridges
abbrev pub IsCertOf : CutContent → List (List Bool) → List ℕ → Type 0
IsCertOf cut zs cert = IsCert (length cut.splice.weights) (claims cut zs) cert

-- the bits of a claim are least
abbrev pub IsLeastClaim : Claim → Type 0
IsLeastClaim claim = IsLeastBridge claim.bridging claim.bits

-- what the bits of a claim cost over their window
abbrev pub claim_cost : Claim → ℕ
claim_cost claim = bridge_cost claim.bridging claim.bits

-- no bridge has bits of its length that cost less than its own
abbrev pub AreLeastBridges : CutContent → List (List Bool) → Type 0
AreLeastBridges cut zs = All IsLeastClaim (claims cut zs)

-- the sum over all bridges of what their bits cost over their windows
abbrev pub windows_total : CutContent → List (List Bool) → ℕ
windows_total cut zs = sum_by claim_cost (claims cut zs)
