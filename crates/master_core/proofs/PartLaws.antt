-- A part of a channel in the making, and that there is a best channel.
use Rattle.std.proofs.Common.{◌≡◌, ℕ, zero, suc, ◌+◌, ◌-◌, ◌<◌, ◌≤◌, ◌⊎◌, ◌&&◌, inl, inr, Bool, true, false, eqb, List, [], ◌∷◌, ◌++◌, length, map, slice_range, sum_by, take, append_assoc, refl, sym, ap, ap₂, subst, ◌∙◌, arith}
use Rattle.std.specs.List.{All, AllZip, range_with_len}
use Rattle.std.proofs.lemmas.List.{length-append, length-map}
use Rattle.std.proofs.lemmas.List.Elements.{All-append, All-cons, All-nil}
use Rattle.std.proofs.lemmas.List.FromFn.{map-range_with_len_more}
use Rattle.std.proofs.lemmas.List.Sums.{sum_by_more}
use Rattle.dsd_bits.specs.declared.stretches.BitRange.{BitRange}
use Rattle.dsd_bits.specs.Contents.{Content}
use Rattle.form_core.specs.declared.form.Form.TheVariants.{Dsf}
use Rattle.cost_core.specs.Bridges.{IsFirstLeastBridge, bridge_cost}
use Rattle.cost_core.specs.Channels.{channel}
use Rattle.trellis_core.specs.declared.bridging.Chosen.{Chosen}
use Rattle.cut_core.specs.Bridges.{bridges}
use Rattle.cut_core.specs.Cuts.{CutContent, cue_at, cue_bits, master_length, span, take_channels, window}
use Rattle.cut_core.specs.Keeping.{CanCut}
use Rattle.cut_core.specs.declared.bridges.BridgePlace.{BridgePlace}
use Rattle.cut_core.proofs.BridgeLaws.{no_bridge, other_place, range_more, same_place}
use Rattle.cut_core.proofs.ZipLaws.{zip_long, zip_more, zip_of_map}
use Rattle.master_core.specs.Choosing.{AreChosen, IsChosenAt}
use Rattle.cut_core.specs.Claims.{bridge_start}
use Rattle.master_core.specs.Best.{AreBestChannels, IsBestChannel, IsFirstLeastPart, master_of}
use Rattle.cut_core.specs.Masters.{part_at, total_cost}
use Rattle.master_core.specs.Parting.{IsStepAdded, counted_from, within}
use Rattle.master_core.specs.Writing.{HasOneBest}
use Rattle.cut_core.proofs.ChannelLaws.{channel_on, nothing_first, whole_length}
use Rattle.master_core.proofs.MasterLaws.{one_master}
use Rattle.cut_core.proofs.SliceLaws.{slice-append}

-- ---- a channel up to a bridge
-- the first least bits for the bridge after cue i in channel c
abbrev pub IsBestBridge : CutContent → ℕ → ℕ → List Bool → Type 0
IsBestBridge cut c i x = IsFirstLeastPart (part_at cut c i) x

-- channel c up to a bridge: the first cue, and then n bridges, each with the cue after it
pub record IsPrefixOf (cut : CutContent) (c number : ℕ) (z : List Bool) : Type 0 where
  pub bridges : List (List Bool)
  pub best : AllZip (IsBestBridge cut c) (range_with_len 0 number) bridges
  pub made : z ≡ channel (cue_bits cut c 0) (map (part_at cut c) (range_with_len 0 number)) bridges
  pub long : length z ≡ bridge_start cut number

module _ (cut : CutContent) (can : CanCut cut) (c : ℕ) (there : c < take_channels cut) where
  pub prefix_nothing : 0 < length cut.splice.cues → IsPrefixOf cut c 0 (cue_bits cut c 0)
  unfolding channel
  prefix_nothing some = record { bridges = []; best = tt; made = refl; long = (let e = can.long c 0 there some in omega (arith, e)) }

  pub prefix_more : (i : ℕ) (z x : List Bool) → i + 1 < length cut.splice.cues → IsPrefixOf cut c i z → IsBestBridge cut c i x → length x ≡ (cue_at cut i).bridge → IsPrefixOf cut c (i + 1) (z ++ (x ++ cue_bits cut c (i + 1)))
  prefix_more i z x lt so_far best long =
      let xs = so_far.bridges in
      let d = part_at cut c i in
      let first = cue_bits cut c 0 in
      let ps = map (part_at cut c) (range_with_len 0 i) in
      let zero : 0 + i ≡ i = omega arith in
      let many : length xs ≡ length ps = zip_long (IsBestBridge cut c) (range_with_len 0 i) xs so_far.best ∙ sym (length-map (range_with_len 0 i) (part_at cut c)) in
      let more : map (part_at cut c) (range_with_len 0 (i + 1)) ≡ ps ++ d ∷ [] = map-range_with_len_more (part_at cut c) 0 i i (omega arith) in
      let cue = cue_bits cut c (i + 1) in
      let sums : sum_by span (take (i + 1) cut.splice.cues) ≡ sum_by span (take i cut.splice.cues) + span (cue_at cut i) = sum_by_more span cut.splice.cues i _ (omega arith) in
      record {
        bridges = xs ++ x ∷ [];
        best = rw (range_more 0 i, zero) (zip_more (IsBestBridge cut c) (range_with_len 0 i) xs i x so_far.best best);
        made = ap (λ l. l ++ (x ++ cue)) so_far.made ∙ sym (channel_on first ps xs d x many) ∙ ap (λ l. channel first l (xs ++ x ∷ [])) (sym more);
        long = omega (arith, length-append z (x ++ cue), length-append x cue, so_far.long, long, can.long c (i + 1) there lt, sums);
      }

  -- all of it
  pub prefix_best : (z : List Bool) (n : ℕ) → n + 1 ≡ length cut.splice.cues → IsPrefixOf cut c n z → IsBestChannel cut c z
  prefix_best z n all prefix =
      let last : n ≡ length cut.splice.cues - 1 = omega arith in
      let whole : IsPrefixOf cut c (length cut.splice.cues - 1) z = subst (λ k. IsPrefixOf cut c k z) last prefix in
      let numbers = range_with_len 0 (length cut.splice.cues - 1) in
      record { bridges = whole.bridges; best = zip_of_map IsFirstLeastPart (part_at cut c) numbers whole.bridges whole.best; made = whole.made }

  pub prefix_long : (z : List Bool) (n : ℕ) → n + 1 ≡ length cut.splice.cues → IsPrefixOf cut c n z → length z ≡ master_length cut.splice.cues
  prefix_long z n all prefix = prefix.long ∙ whole_length cut can n all

-- ---- the part of it in a range
pub record IsPrefixPart (cut : CutContent) (c number : ℕ) (range : BitRange) (part : List Bool) : Type 0 where
  pub whole : List Bool
  pub prefix : IsPrefixOf cut c number whole
  pub part_is : part ≡ within range whole

-- one step more
pub part_more : (cut : CutContent) (can : CanCut cut) (c : ℕ) (there : c < take_channels cut) (i : ℕ) (range : BitRange) (before after : List Bool) → i + 1 < length cut.splice.cues
    → IsPrefixPart cut c i range before → IsStepAdded cut (record { cue = i; channel = c }) range before after → IsPrefixPart cut c (i + 1) range after
part_more cut can c there i range before after lt so_far step =
    let z = so_far.whole in
    let x = step.bits in
    let cue = cue_bits cut c (i + 1) in
    let s = range.start in
    let t = range.stop in
    let at : length z ≡ bridge_start cut i = so_far.prefix.long in
    let next : length z + length x ≡ bridge_start cut i + (cue_at cut i).bridge = omega (arith, at, step.long) in
    let joined = slice-append z (x ++ cue) s t in
    let inner = slice-append x cue (s - length z) (t - length z) in
    let start : s - length z - length x ≡ s - (bridge_start cut i + (cue_at cut i).bridge) = omega (arith, next) in
    let stop : t - length z - length x ≡ t - (bridge_start cut i + (cue_at cut i).bridge) = omega (arith, next) in
    let after_is : slice_range cue (s - length z - length x) (t - length z - length x) ≡ within (counted_from range (bridge_start cut i + (cue_at cut i).bridge)) cue = ap₂ (λ (a b : ℕ). slice_range cue a b) start stop in
    let bridge_is : slice_range x (s - length z) (t - length z) ≡ within (counted_from range (bridge_start cut i)) x = ap (λ (n : ℕ). slice_range x (s - n) (t - n)) at in
    record {
      whole = z ++ (x ++ cue);
      prefix = prefix_more cut can c there i z x lt so_far.prefix step.best step.long;
      part_is =
          step.added
          ∙ ap (λ l. (l ++ within (counted_from range (bridge_start cut i)) x) ++ within (counted_from range (bridge_start cut i + (cue_at cut i).bridge)) cue) so_far.part_is
          ∙ append_assoc (within range z) (within (counted_from range (bridge_start cut i)) x) (within (counted_from range (bridge_start cut i + (cue_at cut i).bridge)) cue)
          ∙ sym (joined ∙ ap (λ l. slice_range z s t ++ l) (inner ∙ ap₂ (λ (a b : List Bool). a ++ b) bridge_is after_is));
    }

-- ---- there is one
-- no other
same_best : (cut : CutContent) (xs ys : List (List Bool)) → AreBestChannels cut xs → AreBestChannels cut ys → xs ≡ ys
same_best cut xs ys h k =
    let one = one_master cut Dsf (master_of cut Dsf xs) (master_of cut Dsf ys) (total_cost cut xs) (total_cost cut ys) (record { channels = xs; best = h; recording_is = refl; cost_is = refl }) (record { channels = ys; best = k; recording_is = refl; cost_is = refl }) in
    ap (λ (r : Content). r.channels) one.0

decide : (b : Bool) → (b ≡ true) ⊎ (b ≡ false)
decide true = inl refl
decide false = inr refl

module _ (cut : CutContent) (can : CanCut cut) (chosen : List Chosen) (are : AreChosen cut chosen) where
  -- the bits that were chosen for a place, or it isn't listed
  find : (p : BridgePlace) (ps : List BridgePlace) (xs : List Chosen) → AllZip (IsChosenAt cut) ps xs → ((x : List Bool) × IsFirstLeastBridge (window cut p.channel p.cue) x) ⊎ All (λ q. q ≡ p → ⊥) ps
  find p [] xs h = inr (All-nil (λ q. q ≡ p → ⊥))
  find p (q ∷ ps) [] h = absurd h
  find p (q ∷ ps) (x ∷ xs) h = elim (decide (eqb q.cue p.cue && eqb q.channel p.channel)) [
    | inl same ↦ inl (x.bits, subst (λ (r : BridgePlace). IsFirstLeastBridge (window cut r.channel r.cue) x.bits) (same_place q p same) h.0.first_least)
    | inr other ↦ elim (find p ps xs h.1) [
      | inl found ↦ inl found
      | inr none ↦ inr (All-cons (λ r. r ≡ p → ⊥) q ps (other_place q p other) none)
    ]
  ]

  pub best_bridge : (c i : ℕ) → c < take_channels cut → i + 1 < length cut.splice.cues → (x : List Bool) × IsBestBridge cut c i x
  best_bridge c i there lt = elim (find (record { cue = i; channel = c }) (bridges cut) chosen are) [
    | inl found ↦ found
    | inr none ↦
        let plain : (cue_at cut i).bridge ≡ 0 = no_bridge cut (record { cue = i; channel = c }) lt there none in
        ([], nothing_first (window cut c i).levels (bridge_cost (window cut c i)) ((can.windowed c i there lt).levels ∙ plain))
  ]

  best_prefix : (c n : ℕ) → c < take_channels cut → n < length cut.splice.cues → (z : List Bool) × IsPrefixOf cut c n z
  best_prefix c zero there lt = (cue_bits cut c 0, prefix_nothing cut can c there lt)
  best_prefix c (suc n) there lt =
      let (z, prefix) = best_prefix c n there (omega arith) in
      let below : n + 1 < length cut.splice.cues = omega arith in
      let (x, best) = best_bridge c n there below in
      let e : n + 1 ≡ suc n = omega arith in
      (z ++ (x ++ cue_bits cut c (n + 1)), subst (λ k. IsPrefixOf cut c k (z ++ (x ++ cue_bits cut c (n + 1)))) e (prefix_more cut can c there n z x below prefix best (best.is_least.long ∙ (can.windowed c n there below).levels)))

  some_cue : 1 ≤ length cut.splice.cues
  some_cue = can.splicing.some_cues

  best_channel : (c : ℕ) → c < take_channels cut → (z : List Bool) × (IsBestChannel cut c z × (length z ≡ master_length cut.splice.cues))
  best_channel c there =
      let all : length cut.splice.cues - 1 + 1 ≡ length cut.splice.cues = omega (arith, some_cue) in
      let (z, prefix) = best_prefix c (length cut.splice.cues - 1) there (omega (arith, some_cue)) in
      (z, (prefix_best cut can c there z (length cut.splice.cues - 1) all prefix, prefix_long cut can c there z (length cut.splice.cues - 1) all prefix))

  -- n of them
  best_channels : (n : ℕ) → n ≤ take_channels cut → (zs : List (List Bool)) × (AllZip (IsBestChannel cut) (range_with_len 0 n) zs × All (λ z. length z ≡ master_length cut.splice.cues) zs)
  best_channels zero le = ([], (tt, All-nil (λ z. length z ≡ master_length cut.splice.cues)))
  best_channels (suc n) le =
      let (zs, made) = best_channels n (omega arith) in
      let (z, one) = best_channel n (omega arith) in
      let zero_is : 0 + n ≡ n = omega arith in
      let e : n + 1 ≡ suc n = omega arith in
      let numbers : range_with_len 0 (suc n) ≡ range_with_len 0 n ++ n ∷ [] = ap (range_with_len 0) (sym e) ∙ range_more 0 n ∙ ap (λ (m : ℕ). range_with_len 0 n ++ m ∷ []) zero_is in (
        zs ++ z ∷ [],
        (
          rw numbers (zip_more (IsBestChannel cut) (range_with_len 0 n) zs n z made.0 one.0),
          All-append (λ z. length z ≡ master_length cut.splice.cues) zs (z ∷ []) made.1 (All-cons (λ z. length z ≡ master_length cut.splice.cues) z [] one.1 (All-nil (λ z. length z ≡ master_length cut.splice.cues))),
        ),
      )

  pub one_best : HasOneBest cut
  one_best =
      let (zs, made) = best_channels (take_channels cut) (omega arith) in
      record { channels = zs; best = made.0; long = made.1; only = λ others best. same_best cut others zs best made.0 }
