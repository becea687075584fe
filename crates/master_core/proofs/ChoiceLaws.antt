-- Chosen bits, their entries, and that they are in the master.
use Rattle.std.proofs.Common.{◌≡◌, ℕ, zero, suc, ◌+◌, ◌-◌, ◌<◌, Bool, List, [], ◌∷◌, ◌++◌, length, get_or, map, sum_by, take, refl, sym, ap, subst, ◌∙◌, arith}
use Rattle.std.specs.List.{All, AllZip}
use Rattle.std.proofs.lemmas.List.{get_or-map, length-map, map-append, take_more}
use Rattle.std.proofs.lemmas.List.Elements.{All-cons, All-nil}
use Rattle.std.proofs.lemmas.List.Sums.{sum_by-cons, sum_by_push}
use Rattle.cost_core.specs.Bridges.{Bridging, bridge_cost}
use Rattle.cost_core.specs.Limits.{IsBridging}
use Rattle.trellis_core.specs.declared.bridging.Chosen.{Chosen}
use Rattle.cert_core.specs.Certificates.{Claim, IsCert}
use Rattle.cut_core.specs.Bridges.{IsPlace, bridges}
use Rattle.cut_core.specs.Cuts.{CutContent, window}
use Rattle.cut_core.specs.Keeping.{CanCut}
use Rattle.cut_core.specs.declared.bridges.BridgePlace.{BridgePlace}
use Rattle.cut_core.proofs.ZipLaws.{zip_at, zip_long, zip_more, zip_number}
use Rattle.master_core.specs.Certificates.{cert_of, claims_text}
use Rattle.master_core.specs.Certifying.{Certifies}
use Rattle.master_core.specs.Choosing.{AreBridgesOf, AreChosen, IsChosen, IsChosenAt, chosen_claims, chosen_cost, window_at}
use Rattle.master_core.specs.declared.choosing.ChosenBridges.{ChosenBridges}
use Rattle.cut_core.specs.Claims.{IsCertOf, bridge_bits, claim_at, claim_cost, claim_of, claims, windows_total}
use Rattle.master_core.specs.Best.{AreBestChannels, IsBestChannel, IsFirstLeastPart}
use Rattle.cut_core.specs.Masters.{part_at, parts_of}
use Rattle.master_core.proofs.CertLaws.{IsShowable, text_is_cert}
use Rattle.master_core.proofs.MasterLaws.{best_lengths, one_first_least}
use Rattle.cut_core.proofs.ChannelLaws.{bridge_in_channel, part_is, part_number}

-- ---- one bridge more
pub cost_more : (xs : List Chosen) (x : Chosen) (total k : ℕ) → total ≡ chosen_cost xs → k ≡ x.cost → total + k ≡ chosen_cost (xs ++ x ∷ [])
cost_more xs x total k h e = omega (arith, h, e, sum_by_push (λ (y : Chosen). y.cost) xs x)

module _ (cut : CutContent) where
  pub claims_long : (ps : List BridgePlace) (xs : List Chosen) → length xs ≡ length ps → length (chosen_claims cut ps xs) ≡ length ps
  unfolding chosen_claims
  claims_long [] xs e = refl
  claims_long (p ∷ ps) [] e = absurd (omega arith)
  claims_long (p ∷ ps) (x ∷ xs) e = ap suc (claims_long ps xs (omega arith))

  module _ (ps : List BridgePlace) (k : ℕ) (p : BridgePlace) (lt : k < length ps) (is : get_or ps k p ≡ p) where
    next_place : take (k + 1) ps ≡ take k ps ++ p ∷ []
    next_place = take_more ps k p lt ∙ ap (λ (q : BridgePlace). take k ps ++ q ∷ []) is

    pub chosen_more : (xs : List Chosen) (x : Chosen) → AllZip (IsChosenAt cut) (take k ps) xs → IsChosenAt cut p x → AllZip (IsChosenAt cut) (take (k + 1) ps) (xs ++ x ∷ [])
    chosen_more xs x h one = rw next_place (zip_more (IsChosenAt cut) (take k ps) xs p x h one)

    pub window_more : (ds : List Bridging) (d : Bridging) → ds ≡ map (window_at cut) (take k ps) → d ≡ window_at cut p → ds ++ d ∷ [] ≡ map (window_at cut) (take (k + 1) ps)
    window_more ds d h one = rw (h, one, next_place) (sym (map-append (window_at cut) (take k ps) (p ∷ [])))

  -- the claim of a bridge
  pub claim_there : (ps : List BridgePlace) (xs : List Chosen) (k : ℕ) (p : BridgePlace) (x : Chosen) → get_or ps k p ≡ p → get_or xs k x ≡ x → k < length ps → length xs ≡ length ps
      → get_or (chosen_claims cut ps xs) k (claim_of cut p x.bits) ≡ claim_of cut p x.bits
  unfolding chosen_claims
  claim_there [] xs k p x e f lt long = absurd (omega arith)
  claim_there (q ∷ ps) [] k p x e f lt long = absurd (omega arith)
  claim_there (q ∷ ps) (y ∷ xs) zero p x e f lt long = rw (e, f) refl
  claim_there (q ∷ ps) (y ∷ xs) (suc k) p x e f lt long = claim_there ps xs k p x e f (omega arith) (omega arith)

  -- first least bits can be shown to be least
  pub all_showable : (ps : List BridgePlace) (xs : List Chosen) → AllZip (IsChosenAt cut) ps xs → All IsBridging (map (window_at cut) ps) → All IsShowable (chosen_claims cut ps xs)
  unfolding chosen_claims
  all_showable [] [] h within = All-nil IsShowable
  all_showable [] (x ∷ xs) h within = absurd h
  all_showable (p ∷ ps) [] h within = absurd h
  all_showable (p ∷ ps) (x ∷ xs) h within =
      All-cons IsShowable (claim_of cut p x.bits) (chosen_claims cut ps xs) (within 0 (window_at cut p) (omega arith), h.0.first_least.is_least) (all_showable ps xs h.1 (λ k d lt. within (suc k) d (omega arith)))

-- the bridges of a cut
module _ (cut : CutContent) (made : ChosenBridges) (are : AreBridgesOf cut made) where
  pub chosen_there : AllZip (IsChosenAt cut) made.places.items made.chosen.items
  chosen_there = subst (λ (l : List BridgePlace). AllZip (IsChosenAt cut) l made.chosen.items) (sym are.places_are) are.chosen

  pub as_many : length made.chosen.items ≡ length made.places.items
  as_many = zip_long (IsChosenAt cut) made.places.items made.chosen.items chosen_there

  pub as_many_windows : length made.windows.items ≡ length made.places.items
  as_many_windows = ap length are.windows_are ∙ length-map made.places.items (window_at cut)

  pub claim_number : length (chosen_claims cut made.places.items made.chosen.items) ≡ length made.places.items
  claim_number = claims_long cut made.places.items made.chosen.items as_many

  pub showable : All IsShowable (chosen_claims cut made.places.items made.chosen.items)
  showable = all_showable cut made.places.items made.chosen.items chosen_there (subst (All IsBridging) are.windows_are are.within)

  module _ (k : ℕ) (p : BridgePlace) (d : Bridging) (x : Chosen) (lt : k < length made.places.items) (place : get_or made.places.items k p ≡ p) (window : get_or made.windows.items k d ≡ d) (chosen : get_or made.chosen.items k x ≡ x) where
    pub window_is : d ≡ window_at cut p
    window_is =
        sym window ∙ ap (λ (l : List Bridging). get_or l k d) are.windows_are ∙ get_or-map (window_at cut) made.places.items k p d lt ∙ ap (window_at cut) place

    pub chosen_is : IsChosen d x
    chosen_is =
        let there : IsChosenAt cut (get_or made.places.items k p) (get_or made.chosen.items k x) = zip_at (IsChosenAt cut) made.places.items made.chosen.items k p x chosen_there lt in
        let here : IsChosenAt cut p x = subst (λ (q : BridgePlace). IsChosenAt cut q x) place (subst (IsChosenAt cut (get_or made.places.items k p)) chosen there) in
        subst (λ (w : Bridging). IsChosen w x) (sym window_is) here

    pub weights_are : CanCut cut → length d.weights ≡ length cut.splice.weights
    weights_are can =
        let there : IsPlace cut p = subst (IsPlace cut) place (are.each_there k p lt) in
        ap (λ (w : Bridging). length w.weights) window_is ∙ ap length (can.windowed p.channel p.cue there.channel_there there.cue_there).weights

    pub claim_is : get_or (chosen_claims cut made.places.items made.chosen.items) k (record { cue = p.cue; channel = p.channel; bridging = d; bits = x.bits }) ≡ record { cue = p.cue; channel = p.channel; bridging = d; bits = x.bits }
    claim_is = rw window_is (claim_there cut made.places.items made.chosen.items k p x place chosen lt as_many)

-- ---- the chosen bits are in the master
module _ (cut : CutContent) (zs : List (List Bool)) where
  abbrev Stands : BridgePlace → Chosen → Type 0
  Stands p x = x.bits ≡ bridge_bits cut (get_or zs p.channel []) p.cue

  claims_are : (ps : List BridgePlace) (xs : List Chosen) → AllZip Stands ps xs → chosen_claims cut ps xs ≡ map (claim_at cut zs) ps
  unfolding chosen_claims
  claims_are [] [] h = refl
  claims_are [] (x ∷ xs) h = absurd h
  claims_are (p ∷ ps) [] h = absurd h
  claims_are (p ∷ ps) (x ∷ xs) h = rw (h.0, claims_are ps xs h.1) refl

  costs_are : (ps : List BridgePlace) (xs : List Chosen) → AllZip Stands ps xs → AllZip (IsChosenAt cut) ps xs → chosen_cost xs ≡ sum_by claim_cost (map (claim_at cut zs) ps)
  costs_are [] [] h k = refl
  costs_are [] (x ∷ xs) h k = absurd h
  costs_are (p ∷ ps) [] h k = absurd h
  costs_are (p ∷ ps) (x ∷ xs) h k =
      let one : x.cost ≡ claim_cost (claim_at cut zs p) = k.0.cost_is ∙ ap (bridge_cost (window cut p.channel p.cue)) h.0 in
      omega (arith, one, costs_are ps xs h.1 k.1, sum_by-cons (λ (y : Chosen). y.cost) x xs, sum_by-cons claim_cost (claim_at cut zs p) (map (claim_at cut zs) ps))

  module _ (can : CanCut cut) (best : AreBestChannels cut zs) where
    holds_at : (p : BridgePlace) (x : Chosen) → IsPlace cut p → IsChosenAt cut p x → Stands p x
    holds_at p x place chosen =
        let c = p.channel in
        let i = p.cue in
        let there = place.channel_there in
        let cue = place.cue_there in
        let z = zip_number (IsBestChannel cut) _ zs c [] best there in
        let ps = parts_of cut c in
        let d = part_at cut c i in
        let below : i < length cut.splice.cues - 1 = omega arith in
        let inside : i < length ps = omega (arith, part_number cut can c there) in
        let mine = subst (λ p. IsFirstLeastPart p (get_or z.bridges i [])) (part_is cut can c there i d below) (zip_at IsFirstLeastPart ps z.bridges i d [] z.best inside) in
        one_first_least d.bridging.levels (bridge_cost d.bridging) x.bits (get_or z.bridges i []) chosen.first_least mine
        ∙ sym (bridge_in_channel cut can c there (get_or zs c []) z.bridges (best_lengths ps z.bridges z.best) z.made i below)

    all_stand : (ps : List BridgePlace) (xs : List Chosen) → All (IsPlace cut) ps → AllZip (IsChosenAt cut) ps xs → AllZip Stands ps xs
    all_stand [] [] each h = tt
    all_stand [] (x ∷ xs) each h = absurd h
    all_stand (p ∷ ps) [] each h = absurd h
    all_stand (p ∷ ps) (x ∷ xs) each h = (holds_at p x (each 0 p (omega arith)) h.0, all_stand ps xs (λ k d lt. each (suc k) d (omega arith)) h.1)

    module _ (xs : List Chosen) (chosen : AreChosen cut xs) (each : All (IsPlace cut) (bridges cut)) where
      pub claims_stand : chosen_claims cut (bridges cut) xs ≡ claims cut zs
      claims_stand = claims_are (bridges cut) xs (all_stand (bridges cut) xs each chosen)

      pub costs_stand : chosen_cost xs ≡ windows_total cut zs
      costs_stand = costs_are (bridges cut) xs (all_stand (bridges cut) xs each chosen) chosen

-- the certificate of chosen bits that are in a master is that of the master, and shows that its bridges are least
module _ (cut : CutContent) (made : ChosenBridges) (zs : List (List Bool)) (cert : List ℕ) (stands : chosen_claims cut made.places.items made.chosen.items ≡ claims cut zs) (certifies : Certifies cut made cert) where
  pub cert_holds : AreBridgesOf cut made → IsCertOf cut zs cert
  cert_holds are =
      let weights = length cut.splice.weights in
      let mine = chosen_claims cut made.places.items made.chosen.items in
      subst (λ (cs : List Claim). IsCert weights cs cert) stands (subst (IsCert weights mine) (sym certifies) (text_is_cert weights mine (showable cut made are)))

  pub cert_is : cert ≡ cert_of cut zs
  cert_is = certifies ∙ ap (claims_text (length cut.splice.weights)) stands
