-- The bits that were chosen for a master's bridges.
use Rattle.std.specs.Prelude.{◌≡◌, ℕ, ◌≤◌, List, [], ◌∷◌, All, length, map}
use Rattle.std.specs.List.{AllZip, sum_by}
use Rattle.cost_core.specs.Bridges.{Bridging, IsFirstLeastBridge, bridge_cost}
use Rattle.cost_core.specs.Limits.{IsBridging}
use Rattle.cert_core.specs.Certificates.{Claim}
use Rattle.trellis_core.specs.declared.bridging.Chosen.{Chosen}
use Rattle.cut_core.specs.Bridges.{IsPlace, bridges}
use Rattle.cut_core.specs.Cuts.{CutContent, cue_at, window}
use Rattle.cut_core.specs.declared.bridges.BridgePlace.{BridgePlace}
use Rattle.cut_core.specs.Claims.{claim_of}
use Rattle.master_core.specs.declared.choosing.ChosenBridges.{ChosenBridges}

-- the first least bits of a bridge, and their cost
pub record IsChosen (d : Bridging) (chosen : Chosen) : Type 0 where
  pub first_least : IsFirstLeastBridge d chosen.bits
  pub cost_is : chosen.cost ≡ bridge_cost d chosen.bits

-- the first least bits of the bridge at a place, and their cost
abbrev pub IsChosenAt : CutContent → BridgePlace → Chosen → Type 0
IsChosenAt cut p chosen = IsChosen (window cut p.channel p.cue) chosen

-- there is a plain cut at the place
abbrev pub IsNoBridge : CutContent → BridgePlace → Type 0
IsNoBridge cut p = (cue_at cut p.cue).bridge ≡ 0

-- the window of the bridge at a place
abbrev pub window_at : CutContent → BridgePlace → Bridging
window_at cut p = window cut p.channel p.cue

-- the first least bits of each bridge, in their order, and their costs
abbrev pub AreChosen : CutContent → List Chosen → Type 0
AreChosen cut xs = AllZip (IsChosenAt cut) (bridges cut) xs

-- what must be shown of chosen bits, place by place
unfoldable pub chosen_claims : CutContent → List BridgePlace → List Chosen → List Claim
chosen_claims cut [] xs = []
chosen_claims cut (p ∷ ps) [] = []
chosen_claims cut (p ∷ ps) (x ∷ xs) = claim_of cut p x.bits ∷ chosen_claims cut ps xs

-- the total cost of chosen bits
abbrev pub chosen_cost : List Chosen → ℕ
chosen_cost xs = sum_by (λ (x : Chosen). x.cost) xs

-- these are the bridges of the cut, each with its window and its first least bits
pub record AreBridgesOf (cut : CutContent) (made : ChosenBridges) : Type 0 where
  pub places_are : made.places.items ≡ bridges cut
  pub each_there : All (IsPlace cut) made.places.items
  pub few : length made.places.items ≤ 1536
  pub windows_are : made.windows.items ≡ map (window_at cut) made.places.items
  pub within : All IsBridging made.windows.items
  pub chosen : AreChosen cut made.chosen.items
