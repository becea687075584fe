-- A recording that is judged a master: its channels, and that they are least.
use Rattle.std.proofs.Common.{◌≡◌, ℕ, ◌-◌, ◌<◌, inl, inr, Bool, List, [], length, get_or, map, false, IfOk, IfSome, Option, None, Some, Result, Ok, Err, sym, ap, subst, ◌∙◌, arith}
use Rattle.std.specs.Prelude.{MatchOption}
use Rattle.std.specs.List.{All, range_with_len}
use Rattle.std.proofs.lemmas.Bool.{cases_lt}
use Rattle.std.proofs.lemmas.List.{get_or-map, length-map, nil_from_length}
use Rattle.std.proofs.lemmas.List.FromFn.{get_or-map-range_with_len, length-map-range_with_len}
use Rattle.dsd_bits.specs.Contents.{Content}
use Rattle.dsd_bits.specs.Shape.{HasShape}
use Rattle.cert_core.specs.declared.verdict.CheckFault.{CheckFault}
use Rattle.cost_core.specs.Bridges.{IsLeastBridge, bridge_cost}
use Rattle.cost_core.specs.Channels.{LeastTogether, Part, PlacesAreWindows}
use Rattle.cost_core.specs.Least.{IsLeast}
use Rattle.form_core.specs.declared.form.Form.{Form}
use Rattle.cut_core.specs.Bridges.{bridges, places_after}
use Rattle.cut_core.specs.Cuts.{CutContent, cue_at, take_channels, window}
use Rattle.cut_core.specs.Keeping.{CanCut}
use Rattle.cut_core.specs.declared.bridges.BridgePlace.{BridgePlace}
use Rattle.cut_core.proofs.BridgeLaws.{after_some, all_in_flat, place_of}
use Rattle.cut_core.proofs.ZipLaws.{zip_from, zip_number, zip_numbers}
use Rattle.request_core.specs.declared.reason.Reason.{Reason}
use Rattle.request_core.specs.declared.reason.Reason.TheVariants.{MasterUnread, MasterShape, MasterLength, MasterMarks, CuedBit, CertHead, Cert, CertExtra}
use Rattle.judge_core.specs.declared.verdict.Verdict.{Verdict}
use Rattle.judge_core.specs.declared.verdict.Verdict.TheVariants.{Accepted, Rejected}
use Rattle.cut_core.specs.Masters.{HaveShape, IsMasterOf, rebuilt, AreLeastChannels, AreMasterChannels, IsLeastChannel, IsLeastPart, IsMasterChannel, part_at, parts_of}
use Rattle.judge_core.specs.Checking.{MasterReason}
use Rattle.cut_core.specs.Claims.{AreLeastBridges, IsCertOf, IsLeastClaim, bridge_bits, claim_at}
use Rattle.judge_core.specs.Judging.{AtCost, IsLeastOf, IsNoRejection, JudgesCert, JudgesMaster}
use Rattle.cut_core.proofs.ChannelLaws.{nothing_first}
use Rattle.cut_core.proofs.LeastLaws.{cost_least}
use Rattle.cut_core.proofs.TotalLaws.{own_lengths, own_long, windows_are_total}

-- ---- a reason against a master
pub reason_against : (cut : CutContent) (form : Form) (r : Content) (reason : Reason) → MasterReason cut form r reason → IsMasterOf cut form r → ⊥
reason_against cut form r (MasterShape found wanted) h is = h.0 is.shape
reason_against cut form r (MasterLength found wanted) h is = h.1 is.long
reason_against cut form r MasterMarks h is = h.3 (is.titled h.2)
reason_against cut form r (CuedBit c place) h is =
    let same = zip_number (λ k z. z ≡ rebuilt cut k z) (take_channels cut) r.channels c [] is.cued (omega (arith, h.3.there, is.shape.as_many_channels)) in
    h.3.differs.differs (ap (λ (l : List Bool). get_or l place false) same)
reason_against cut form r (MasterUnread fault) h is = h
reason_against cut form r (CertHead reason) h is = h
reason_against cut form r (Cert k reason) h is = h
reason_against cut form r CertExtra h is = h

-- ---- least bridges
all_before_map : {X Y : Type 0} (P : Y → Type 0) (f : X → Y) (xs : List X) → All P (map f xs) → All (λ x. P (f x)) xs
all_before_map P f xs h = λ k d lt. subst P (get_or-map f xs k d (f d) lt) (h k (f d) (omega (arith, length-map xs f)))

-- the claim of a bridge is among those of a master
least_at : (cut : CutContent) (zs : List (List Bool)) → AreLeastBridges cut zs → (i c : ℕ) → i < length cut.splice.cues - 1 → c < take_channels cut → ((cue_at cut i).bridge ≡ 0 → ⊥)
    → IsLeastBridge (window cut c i) (bridge_bits cut (get_or zs c []) i)
least_at cut zs least i c lt there bridged =
    let number = take_channels cut in
    let P : BridgePlace → Type 0 = λ p. IsLeastBridge (claim_at cut zs p).bridging (claim_at cut zs p).bits in
    let each = all_before_map IsLeastClaim (claim_at cut zs) (bridges cut) least in
    let after = all_in_flat P (places_after cut) (length cut.splice.cues - 1) 0 i (omega arith) (omega arith) each in
    let all = subst (λ l. All P l) (after_some cut i bridged) after in
    let d : BridgePlace = place_of i c in
    subst P (get_or-map-range_with_len {X = BridgePlace} (place_of i) 0 number c c d there (omega arith)) (all c d (omega (arith, length-map-range_with_len {X = BridgePlace} (place_of i) 0 number)))

nothing_least : (levels : ℕ) (cost : List Bool → ℕ) (x : List Bool) → length x ≡ levels → levels ≡ 0 → IsLeast levels cost x
nothing_least levels cost x long none = let empty : x ≡ [] = nil_from_length x (long ∙ none) in rw empty (nothing_first levels cost none).is_least

-- what is known of what is there
pub some_is : {X : Type 0} (P : Type 0) (Q : X → Type 0) (o : Option X) (x : X) → o ≡ Some x → MatchOption o P Q → Q x
some_is P Q o x e h = subst (λ k. MatchOption k P Q) e h

-- what holds for all bytes holds for known ones
pub for_known : (known : Option (List ℕ)) (P : List ℕ → Type 0) → ((bytes : List ℕ) → P bytes) → IfSome known P
for_known None P p = tt
for_known (Some bytes) P p = p bytes

-- ---- a recording that is a master
module _ (cut : CutContent) (can : CanCut cut) (form : Form) (r : Content) (is : IsMasterOf cut form r) (shape : HasShape r) where
  pub have_shape : HaveShape cut r.channels
  have_shape = record { as_many = is.shape.as_many_channels; long = λ k d lt. shape.level.same k d lt ∙ is.long }

  rebuilt_at : (c : ℕ) → c < take_channels cut → get_or r.channels c [] ≡ rebuilt cut c (get_or r.channels c [])
  rebuilt_at c lt = zip_number (λ k x. x ≡ rebuilt cut k x) (take_channels cut) r.channels c [] is.cued lt

  pub channels_made : AreMasterChannels cut r.channels
  channels_made = zip_numbers (IsMasterChannel cut) (take_channels cut) r.channels [] is.shape.as_many_channels (λ c lt. record { bridges = _; lengths = own_lengths cut r.channels can have_shape c lt; made = rebuilt_at c lt })

  pub channels_least : AreLeastBridges cut r.channels → AreLeastChannels cut r.channels
  channels_least least = zip_numbers (IsLeastChannel cut) (take_channels cut) r.channels [] is.shape.as_many_channels (λ c there.
      let n = length cut.splice.cues - 1 in
      let z = get_or r.channels c [] in
      let ps = parts_of cut c in
      let own = map (bridge_bits cut z) (range_with_len 0 n) in
      let d = part_at cut c 0 in
      let many : length own ≡ length ps = length-map-range_with_len (bridge_bits cut z) 0 n ∙ sym (length-map-range_with_len (part_at cut c) 0 n) in
      record {
        bridges = own;
        least = zip_from IsLeastPart ps own d [] many (λ i lt.
            let below : i < n = omega (arith, length-map-range_with_len (part_at cut c) 0 n) in
            let p_is : part_at cut c i ≡ get_or ps i d = sym (get_or-map-range_with_len (part_at cut c) 0 n i i d below (omega arith)) in
            let x_is : bridge_bits cut z i ≡ get_or own i [] = sym (get_or-map-range_with_len (bridge_bits cut z) 0 n i i [] below (omega arith)) in
            let one : IsLeastBridge (window cut c i) (bridge_bits cut z i) = elim (cases_lt 0 (cue_at cut i).bridge) [
              | inl some ↦ least_at cut r.channels least i c below there (λ none. absurd (omega arith))
              | inr none ↦ (let levels = (can.windowed c i there (omega arith)).levels in nothing_least (window cut c i).levels (bridge_cost (window cut c i)) (bridge_bits cut z i) (own_long cut r.channels have_shape c i (omega (arith, is.shape.as_many_channels, there)) (omega arith) ∙ sym levels) (omega (arith, levels)))
            ] in
            subst (λ x. IsLeastBridge (get_or ps i d).bridging x) x_is (subst (λ (p : Part). IsLeastBridge p.bridging (bridge_bits cut z i)) p_is one));
        made = rebuilt_at c there;
      })

  -- a verdict by a certificate that is read
  pub judged_only : (known : Option (List ℕ)) (answer : Result Verdict CheckFault) → IfOk answer (JudgesCert cut r.channels known) → IfSome known (λ cert. IsCertOf cut r.channels cert → IfOk answer IsNoRejection)
  judged_only None answer h = tt
  judged_only (Some cert) (Ok (Accepted cost)) h = λ shown. tt
  judged_only (Some cert) (Ok (Rejected reason)) h = λ shown. absurd (h.1 shown)
  judged_only (Some cert) (Err fault) h = λ shown. tt

  pub judged_whole : PlacesAreWindows → (known : Option (List ℕ)) (answer : Result Verdict CheckFault) → IfOk answer (JudgesCert cut r.channels known) → IfOk answer (λ v. IfSome known (λ cert. JudgesMaster cut form r cert v))
  judged_whole places None (Ok verdict) h = tt
  judged_whole places None (Err fault) h = tt
  judged_whole places (Some cert) (Ok (Accepted cost)) h = (is, h.shown, h.cost_is ∙ windows_are_total cut r.channels can have_shape is.cued places, h.cost_is)
  judged_whole places (Some cert) (Ok (Rejected reason)) h = inr (is, h.0)
  judged_whole places (Some cert) (Err fault) h = tt

  -- what is accepted is least
  pub judged_least : PlacesAreWindows → LeastTogether → (known : Option (List ℕ)) (answer : Result Verdict CheckFault) → IfOk answer (JudgesCert cut r.channels known) → IfOk answer (λ v. AtCost v (IsLeastOf cut form r))
  judged_least places together known (Ok (Accepted cost)) h =
      let least = channels_least h.least in
      record { is_master = is; made = channels_made; least = least; joint = cost_least cut can together r.channels cost least (h.cost_is ∙ windows_are_total cut r.channels can have_shape is.cued places) }
  judged_least places together known (Ok (Rejected reason)) h = tt
  judged_least places together known (Err fault) h = tt
