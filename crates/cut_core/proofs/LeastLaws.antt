-- Least bridges make a master that costs least.
use Rattle.std.proofs.Common.{◌≡◌, ℕ, zero, suc, ◌+◌, ◌-◌, ◌<◌, ◌≤◌, Bool, List, [], ◌∷◌, length, get_or, sum_by, arith}
use Rattle.std.specs.List.{AllZip, range_with_len}
use Rattle.std.proofs.lemmas.List.Sums.{sum_by-cons}
use Rattle.cost_core.specs.Channels.{AreLeast, HaveLengths, LeastTogether, Part}
use Rattle.cut_core.specs.Cuts.{CutContent, cue_bits, take_channels}
use Rattle.cut_core.specs.Keeping.{CanCut}
use Rattle.cut_core.proofs.ZipLaws.{zip_number}
use Rattle.cut_core.specs.Masters.{AreLeastChannels, CostLeast, IsLeastChannel, IsLeastPart, IsMasterChannel, cost_of, parts_of, total_cost}
use Rattle.cut_core.proofs.ChannelLaws.{joined}

-- ---- one channel
least_parts : (ps : List Part) (xs : List (List Bool)) → AllZip IsLeastPart ps xs → HaveLengths ps xs × AreLeast ps xs
unfolding HaveLengths AreLeast
least_parts [] [] h = (tt, tt)
least_parts [] (x ∷ xs) h = absurd h
least_parts (p ∷ ps) [] h = absurd h
least_parts (p ∷ ps) (x ∷ xs) h = let rest = least_parts ps xs h.1 in ((h.0.long, rest.0), (h.0, rest.1))

-- ---- sums
sums_at_most : (f g : ℕ → ℕ) (a n : ℕ) → ((i : ℕ) → a ≤ i → i < a + n → f i ≤ g i) → sum_by f (range_with_len a n) ≤ sum_by g (range_with_len a n)
sums_at_most f g a zero h = omega arith
sums_at_most f g a (suc n) h =
    let rest = sums_at_most f g (a + 1) n (λ i ge lt. h i (omega arith) (omega arith)) in
    omega (arith, sum_by-cons f a (range_with_len (a + 1) n), sum_by-cons g a (range_with_len (a + 1) n), h a (omega arith) (omega arith), rest)

module _ (cut : CutContent) (can : CanCut cut) (together : LeastTogether) where
  channel_least : (c : ℕ) → c < take_channels cut → (z y : List Bool) → IsLeastChannel cut c z → IsMasterChannel cut c y → cost_of cut c z ≤ cost_of cut c y
  channel_least c there z y own other =
      let parts = least_parts (parts_of cut c) own.bridges own.least in
      let are = joined cut can c there (length cut.splice.cues - 1) 0 (omega (arith, can.splicing.some_cues)) in
      rw (own.made, other.made) (together (cue_bits cut c 0) (parts_of cut c) own.bridges other.bridges are parts.0 other.lengths parts.1)

  pub cost_least : (zs : List (List Bool)) (cost : ℕ) → AreLeastChannels cut zs → cost ≡ total_cost cut zs → CostLeast cut zs cost
  cost_least zs cost least is = record {
    own = is;
    least = λ others made. omega (
      arith,
      is,
      sums_at_most (λ c. cost_of cut c (get_or zs c [])) (λ c. cost_of cut c (get_or others c [])) 0 (take_channels cut) (λ c ge lt.
          let there : c < take_channels cut = omega arith in
          channel_least c there (get_or zs c []) (get_or others c []) (zip_number (IsLeastChannel cut) (take_channels cut) zs c [] least there) (zip_number (IsMasterChannel cut) (take_channels cut) others c [] made there)),
    );
  }
