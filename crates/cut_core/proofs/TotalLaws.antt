-- What the bridges of a master cost: bridge by bridge, and channel by channel.
use Rattle.std.proofs.Common.{◌≡◌, ℕ, zero, suc, ◌+◌, ◌-◌, ◌<◌, ◌≤◌, Bool, cond, eqb, List, [], ◌∷◌, length, get_or, map, flat_map, sum_by, take, inl, inr, refl, sym, ap, ◌∙◌, arith}
use Rattle.std.specs.List.{range_with_len}
use Rattle.std.proofs.lemmas.Bool.{cases_lt, ne_eqb}
use Rattle.std.proofs.lemmas.List.Elements.{All-get_or}
use Rattle.std.proofs.lemmas.List.Sums.{sum_by-append, sum_by-cons, sum_by_more_le}
use Rattle.dsd_bits.proofs.PackingLemmas.{length-slice_range}
use Rattle.cost_core.specs.Bridges.{bridge_cost}
use Rattle.cost_core.specs.Channels.{HaveLengths, Part, PlacesAreWindows, channel_cost, unless_cut, windows_cost}
use Rattle.cut_core.specs.Bridges.{bridges, places_after}
use Rattle.cut_core.specs.Cuts.{CutContent, cue_at, cue_bits, master_length, span, take_channels}
use Rattle.cut_core.specs.Keeping.{CanCut}
use Rattle.cut_core.proofs.BridgeLaws.{after_none, after_some, place_of}
use Rattle.cut_core.proofs.ZipLaws.{zip_number}
use Rattle.cut_core.specs.Masters.{HaveShape, HoldCues, rebuilt, channel_numbers, cost_of, part_at, parts_of, total_cost}
use Rattle.cut_core.specs.Claims.{bridge_bits, bridge_start, claim_at, claim_cost, windows_total}
use Rattle.cut_core.proofs.ChannelLaws.{joined}

-- ---- sums over numbers
same_sums : (f g : ℕ → ℕ) (a n : ℕ) → ((i : ℕ) → a ≤ i → i < a + n → f i ≡ g i) → sum_by f (range_with_len a n) ≡ sum_by g (range_with_len a n)
same_sums f g a zero h = refl
same_sums f g a (suc n) h =
    let rest = same_sums f g (a + 1) n (λ i ge lt. h i (omega arith) (omega arith)) in
    omega (arith, sum_by-cons f a (range_with_len (a + 1) n), sum_by-cons g a (range_with_len (a + 1) n), h a (omega arith) (omega arith), rest)

each_same : (f g : ℕ → ℕ) (xs : List ℕ) → ((i : ℕ) → f i ≡ g i) → sum_by f xs ≡ sum_by g xs
each_same f g [] h = refl
each_same f g (x ∷ xs) h = omega (arith, sum_by-cons f x xs, sum_by-cons g x xs, h x, each_same f g xs h)

zero_sum : (xs : List ℕ) → sum_by (λ i. 0) xs ≡ 0
zero_sum [] = refl
zero_sum (x ∷ xs) = omega (arith, sum_by-cons (λ (i : ℕ). 0) x xs, zero_sum xs)

add_sums : (f g : ℕ → ℕ) (xs : List ℕ) → sum_by (λ i. f i + g i) xs ≡ sum_by f xs + sum_by g xs
add_sums f g [] = omega arith
add_sums f g (x ∷ xs) = omega (arith, sum_by-cons (λ i. f i + g i) x xs, sum_by-cons f x xs, sum_by-cons g x xs, add_sums f g xs)

-- by rows and by columns
exchange : (w : ℕ → ℕ → ℕ) (xs ys : List ℕ) → sum_by (λ i. sum_by (w i) ys) xs ≡ sum_by (λ c. sum_by (λ i. w i c) xs) ys
exchange w [] ys = sym (zero_sum ys)
exchange w (x ∷ xs) ys =
    let first = sum_by-cons (λ i. sum_by (w i) ys) x xs in
    let columns = each_same (λ c. sum_by (λ i. w i c) (x ∷ xs)) (λ c. w x c + sum_by (λ i. w i c) xs) ys (λ c. sum_by-cons (λ i. w i c) x xs) in
    first ∙ ap (λ n. sum_by (w x) ys + n) (exchange w xs ys) ∙ sym (columns ∙ add_sums (w x) (λ c. sum_by (λ i. w i c) xs) ys)

map_sum : {X Y : Type 0} (f : Y → ℕ) (g : X → Y) (xs : List X) → sum_by f (map g xs) ≡ sum_by (λ x. f (g x)) xs
map_sum f g [] = refl
map_sum f g (x ∷ xs) = omega (arith, sum_by-cons f (g x) (map g xs), sum_by-cons (λ y. f (g y)) x xs, map_sum f g xs)

flat_sum : {X : Type 0} (f : X → ℕ) (g : ℕ → List X) (xs : List ℕ) → sum_by f (flat_map g xs) ≡ sum_by (λ i. sum_by f (g i)) xs
flat_sum f g [] = refl
flat_sum f g (x ∷ xs) = omega (arith, sum_by-append f (g x) (flat_map g xs), sum_by-cons (λ i. sum_by f (g i)) x xs, flat_sum f g xs)

-- ---- one channel
windows_sum : (p : ℕ → Part) (x : ℕ → List Bool) (a n : ℕ) → windows_cost (map p (range_with_len a n)) (map x (range_with_len a n)) ≡ sum_by (λ i. unless_cut (p i).bridging (bridge_cost (p i).bridging (x i))) (range_with_len a n)
unfolding windows_cost
windows_sum p x a zero = refl
windows_sum p x a (suc n) = omega (arith, sum_by-cons (λ i. unless_cut (p i).bridging (bridge_cost (p i).bridging (x i))) a (range_with_len (a + 1) n), windows_sum p x (a + 1) n)

have_lengths : (p : ℕ → Part) (x : ℕ → List Bool) (a n : ℕ) → ((i : ℕ) → a ≤ i → i < a + n → length (x i) ≡ (p i).bridging.levels) → HaveLengths (map p (range_with_len a n)) (map x (range_with_len a n))
unfolding HaveLengths
have_lengths p x a zero h = tt
have_lengths p x a (suc n) h = (h a (omega arith) (omega arith), have_lengths p x (a + 1) n (λ i ge lt. h i (omega arith) (omega arith)))

free_cut : (n k : ℕ) → n ≡ 0 → 0 ≡ cond (eqb n 0) 0 k
free_cut n k e = rw e refl

dear_bridge : (n k : ℕ) → (n ≡ 0 → ⊥) → k ≡ cond (eqb n 0) 0 k
dear_bridge n k h = rw (ne_eqb n 0 h) refl

-- ---- all of them
module _ (cut : CutContent) (zs : List (List Bool)) where
  abbrev last : ℕ
  last = length cut.splice.cues - 1

  -- what the bridge after a cue costs in a channel
  abbrev at : ℕ → ℕ → ℕ
  at c i = unless_cut (part_at cut c i).bridging (bridge_cost (part_at cut c i).bridging (bridge_bits cut (get_or zs c []) i))

  after_sum : CanCut cut → (i : ℕ) → i < last → sum_by (λ p. claim_cost (claim_at cut zs p)) (places_after cut i) ≡ sum_by (λ c. at c i) (channel_numbers cut)
  after_sum can i lt = elim (cases_lt 0 (cue_at cut i).bridge) [
    | inl some ↦ (
        let ne : (cue_at cut i).bridge ≡ 0 → ⊥ = λ e. omega arith in
        rw (after_some cut i ne) (map_sum (λ p. claim_cost (claim_at cut zs p)) (place_of i) (channel_numbers cut) ∙ same_sums (λ c. claim_cost (claim_at cut zs (place_of i c))) (λ c. at c i) 0 (take_channels cut) (λ c ge there. dear_bridge (part_at cut c i).bridging.levels _ (λ e. ne (omega (arith, e, (can.windowed c i (omega arith) (omega arith)).levels)))))
        )
    | inr none ↦ (
        let e : (cue_at cut i).bridge ≡ 0 = omega arith in
        rw (after_none cut i e) (sym (zero_sum (channel_numbers cut)) ∙ same_sums (λ c. 0) (λ c. at c i) 0 (take_channels cut) (λ c ge there. free_cut (part_at cut c i).bridging.levels _ ((can.windowed c i (omega arith) (omega arith)).levels ∙ e)))
        )
  ]

  by_places : CanCut cut → windows_total cut zs ≡ sum_by (λ c. sum_by (at c) (range_with_len 0 last)) (channel_numbers cut)
  by_places can =
      map_sum claim_cost (claim_at cut zs) (bridges cut)
      ∙ flat_sum (λ p. claim_cost (claim_at cut zs p)) (places_after cut) (range_with_len 0 last)
      ∙ same_sums (λ i. sum_by (λ p. claim_cost (claim_at cut zs p)) (places_after cut i)) (λ i. sum_by (λ c. at c i) (channel_numbers cut)) 0 last (λ i ge lt. after_sum can i (omega arith))
      ∙ exchange (λ i c. at c i) (range_with_len 0 last) (channel_numbers cut)

  -- a bridge has as many bits as it says
  pub own_long : HaveShape cut zs → (c i : ℕ) → c < length zs → i + 1 < length cut.splice.cues → length (bridge_bits cut (get_or zs c []) i) ≡ (cue_at cut i).bridge
  own_long shape c i there lt =
      let start = bridge_start cut i in
      let z = get_or zs c [] in
      let whole : length z ≡ master_length cut.splice.cues = All-get_or (λ z. length z ≡ master_length cut.splice.cues) zs c [] there shape.long in
      let most : sum_by span (take i cut.splice.cues) + span (cue_at cut i) ≤ master_length cut.splice.cues = sum_by_more_le span cut.splice.cues i _ (omega arith) in
      let one : length (bridge_bits cut z i) ≡ start + (cue_at cut i).bridge - start = length-slice_range z start (start + (cue_at cut i).bridge) (omega arith) in
      omega arith

  pub own_lengths : CanCut cut → HaveShape cut zs → (c : ℕ) → c < take_channels cut → HaveLengths (parts_of cut c) (map (bridge_bits cut (get_or zs c [])) (range_with_len 0 last))
  own_lengths can shape c there =
      have_lengths (part_at cut c) (bridge_bits cut (get_or zs c [])) 0 last (λ i ge lt. own_long shape c i (omega (arith, shape.as_many, there)) (omega arith) ∙ sym (can.windowed c i there (omega arith)).levels)

  module _ (can : CanCut cut) (shape : HaveShape cut zs) (held : HoldCues cut (channel_numbers cut) zs) (places : PlacesAreWindows) where
    row : (c : ℕ) → c < take_channels cut → sum_by (at c) (range_with_len 0 last) ≡ cost_of cut c (get_or zs c [])
    row c there =
        let z = get_or zs c [] in
        let cue = cue_bits cut c 0 in
        let ps = parts_of cut c in
        let own = map (bridge_bits cut z) (range_with_len 0 last) in
        let some = can.splicing.some_cues in
        let holds : z ≡ rebuilt cut c z = zip_number (λ k y. y ≡ rebuilt cut k y) (take_channels cut) zs c [] held there in
        sym (ap (λ l. channel_cost l (length cue) ps) holds ∙ places cue ps own (joined cut can c there last 0 (omega arith)) (own_lengths can shape c there) ∙ windows_sum (part_at cut c) (bridge_bits cut z) 0 last)

    -- the sum over all bridges is that over all channels
    pub windows_are_total : windows_total cut zs ≡ total_cost cut zs
    windows_are_total = by_places can ∙ same_sums (λ c. sum_by (at c) (range_with_len 0 last)) (λ c. cost_of cut c (get_or zs c [])) 0 (take_channels cut) (λ c ge lt. row c (omega arith))
