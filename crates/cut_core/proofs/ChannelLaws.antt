-- A channel of a master, part by part, and where its bridges are.
use Rattle.std.proofs.Common.{◌≡◌, ℕ, zero, suc, ◌+◌, ◌-◌, ◌<◌, Bool, List, [], ◌∷◌, ◌++◌, length, get_or, map, slice_get, take, drop, slice_range, sum_by, append_assoc, refl, sym, ap, subst, ◌∙◌, arith}
use Rattle.std.specs.List.{range_with_len}
use Rattle.std.proofs.Math.Seq.{drop-append_seam, take-append_seam}
use Rattle.std.proofs.lemmas.List.{ext_get_or, length-append, length-take-le, nil_from_length, take_all, take_more}
use Rattle.std.proofs.lemmas.List.Sums.{sum_by_more}
use Rattle.std.proofs.lemmas.List.FromFn.{get_or-map-range_with_len, length-map-range_with_len}
use Rattle.std.proofs.lemmas.Option.{slice_get-get_or}
use Rattle.splice_core.specs.Cues.{bridge_or, last_bridge}
use Rattle.cost_core.specs.Channels.{AreJoined, HaveLengths, Part, channel}
use Rattle.cost_core.specs.Least.{IsFirstLeast, NotAfter}
use Rattle.cut_core.specs.Cuts.{CutContent, cue_at, cue_bits, master_length, span, take_channels}
use Rattle.cut_core.specs.Keeping.{CanCut}
use Rattle.cut_core.specs.Masters.{rebuilt, master_channel, part_at, parts_of}
use Rattle.cut_core.specs.Claims.{bridge_bits, bridge_start}

-- one part more
pub channel_on : (cue : List Bool) (ps : List Part) (xs : List (List Bool)) (p : Part) (x : List Bool) → length xs ≡ length ps → channel cue (ps ++ p ∷ []) (xs ++ x ∷ []) ≡ channel cue ps xs ++ (x ++ p.cue)
unfolding channel
channel_on cue [] [] p x h = refl
channel_on cue [] (y ∷ xs) p x h = absurd (omega arith)
channel_on cue (q ∷ ps) [] p x h = absurd (omega arith)
channel_on cue (q ∷ ps) (y ∷ xs) p x h =
    let rest = channel q.cue ps xs in
    ap (λ l. cue ++ (y ++ l)) (channel_on q.cue ps xs p x (omega arith)) ∙ ap (λ l. cue ++ l) (sym (append_assoc y rest (x ++ p.cue))) ∙ sym (append_assoc cue (y ++ rest) (x ++ p.cue))

pub lengths_as_many : (ps : List Part) (xs : List (List Bool)) → HaveLengths ps xs → length xs ≡ length ps
unfolding HaveLengths
lengths_as_many [] [] h = refl
lengths_as_many [] (x ∷ xs) h = absurd h
lengths_as_many (p ∷ ps) [] h = absurd h
lengths_as_many (p ∷ ps) (x ∷ xs) h = ap suc (lengths_as_many ps xs h.1)

pub length_at : (ps : List Part) (xs : List (List Bool)) (i : ℕ) (d : Part) (e : List Bool) → HaveLengths ps xs → i < length ps → length (get_or xs i e) ≡ (get_or ps i d).bridging.levels
unfolding HaveLengths
length_at [] xs i d e h lt = absurd (omega arith)
length_at (p ∷ ps) [] i d e h lt = absurd h
length_at (p ∷ ps) (x ∷ xs) zero d e h lt = h.0
length_at (p ∷ ps) (x ∷ xs) (suc i) d e h lt = length_at ps xs i d e h.1 (omega arith)

-- what is before a bridge, the bridge, and what follows it
split_at : (cue : List Bool) (ps : List Part) (xs : List (List Bool)) (i : ℕ) → length xs ≡ length ps → i < length ps → (rest : List Bool) × (channel cue ps xs ≡ channel cue (take i ps) (take i xs) ++ (get_or xs i [] ++ rest))
unfolding channel
split_at cue [] xs i e lt = absurd (omega arith)
split_at cue (p ∷ ps) [] i e lt = absurd (omega arith)
split_at cue (p ∷ ps) (x ∷ xs) zero e lt = (channel p.cue ps xs, refl)
split_at cue (p ∷ ps) (x ∷ xs) (suc i) e lt =
    let (rest, is) = split_at p.cue ps xs i (omega arith) (omega arith) in
    let before = channel p.cue (take i ps) (take i xs) in
    let after = get_or xs i [] ++ rest in
    (rest, ap (λ l. cue ++ (x ++ l)) is ∙ ap (λ l. cue ++ l) (sym (append_assoc x before after)) ∙ sym (append_assoc cue (x ++ before) after))

-- a part of a list
part_of : (a x rest : List Bool) (n m : ℕ) → length a ≡ n → length x ≡ m → slice_range (a ++ (x ++ rest)) n (n + m) ≡ x
part_of a x rest n m e f =
    let count : n + m - n ≡ length x = omega arith in
    ap (λ k. take k (drop n (a ++ (x ++ rest)))) count ∙ ap (λ k. take (length x) (drop k (a ++ (x ++ rest)))) (sym e) ∙ ap (take (length x)) (drop-append_seam a (x ++ rest)) ∙ take-append_seam x rest

-- a plain cut
pub nothing_first : (levels : ℕ) (cost : List Bool → ℕ) → levels ≡ 0 → IsFirstLeast levels cost []
unfolding NotAfter
nothing_first levels cost e = record { is_least = record { long = sym e; least = λ y h. let none : y ≡ [] = nil_from_length y (h ∙ e) in rw none (omega arith) }; first = λ y h same. tt }

-- the spans before the last cue and the last cue are the whole master
pub whole_length : (cut : CutContent) → CanCut cut → (i : ℕ) → i + 1 ≡ length cut.splice.cues
    → sum_by span (take i cut.splice.cues) + ((cue_at cut i).stop - (cue_at cut i).start) ≡ master_length cut.splice.cues
whole_length cut can i e =
    let cues = cut.splice.cues in
    let lt : i < length cues = omega arith in
    let last_is : last_bridge cues ≡ (cue_at cut i).bridge = ap (λ n. bridge_or (slice_get cues n)) (last_place (length cues) i e) ∙ ap bridge_or (slice_get-get_or cues i _ lt) in
    let all : take (i + 1) cues ≡ cues = take_all (i + 1) cues (omega arith) in
    let more : sum_by span (take (i + 1) cues) ≡ sum_by span (take i cues) + span (cue_at cut i) = sum_by_more span cues i _ lt in
    let whole : sum_by span (take (i + 1) cues) ≡ master_length cues = ap (sum_by span) all in
    omega (arith, last_is, can.splicing.no_last_bridge, more, whole)
  where
    last_place : (n i : ℕ) → i + 1 ≡ n → n - 1 ≡ i
    last_place n i e = omega arith

module _ (cut : CutContent) (can : CanCut cut) (c : ℕ) (there : c < take_channels cut) where
  abbrev ps : List Part
  ps = parts_of cut c

  pub part_number : length ps ≡ length cut.splice.cues - 1
  part_number = length-map-range_with_len (part_at cut c) 0 (length cut.splice.cues - 1)

  pub part_is : (i : ℕ) (d : Part) → i < length cut.splice.cues - 1 → get_or ps i d ≡ part_at cut c i
  part_is i d lt = get_or-map-range_with_len (part_at cut c) 0 (length cut.splice.cues - 1) i i d lt (omega arith)

  pub cue_long : (i : ℕ) → i < length cut.splice.cues → length (cue_bits cut c i) ≡ (cue_at cut i).stop - (cue_at cut i).start
  cue_long i lt = can.long c i there lt

  -- what is before the bridge after cue i has as many bits as are before it in the master
  pub before_long : (xs : List (List Bool)) → HaveLengths ps xs → (i : ℕ) → i < length cut.splice.cues → length (channel (cue_bits cut c 0) (take i ps) (take i xs)) ≡ bridge_start cut i
  unfolding channel
  before_long xs h zero lt = omega (arith, cue_long 0 lt)
  before_long xs h (suc i) lt =
      let d = part_at cut c i in
      let x = get_or xs i [] in
      let below : i < length cut.splice.cues = omega arith in
      let inside : i < length ps = omega (arith, part_number) in
      let many = lengths_as_many ps xs h in
      let short : length (take i xs) ≡ length (take i ps) = length-take-le i xs (omega arith) ∙ sym (length-take-le i ps (omega arith)) in
      let p_more : take (i + 1) ps ≡ take i ps ++ d ∷ [] = take_more ps i d inside ∙ ap (λ q. take i ps ++ q ∷ []) (part_is i d (omega arith)) in
      let x_more : take (i + 1) xs ≡ take i xs ++ x ∷ [] = take_more xs i [] (omega arith) in
      let long : length x ≡ (cue_at cut i).bridge = length_at ps xs i d [] h inside ∙ ap (λ (q : Part). q.bridging.levels) (part_is i d (omega arith)) ∙ (can.windowed c i there (omega arith)).levels in
      let one : channel (cue_bits cut c 0) (take (i + 1) ps) (take (i + 1) xs) ≡ channel (cue_bits cut c 0) (take i ps) (take i xs) ++ (x ++ cue_bits cut c (i + 1)) = rw (p_more, x_more) (channel_on (cue_bits cut c 0) (take i ps) (take i xs) d x short) in
      let sums : sum_by span (take (i + 1) cut.splice.cues) ≡ sum_by span (take i cut.splice.cues) + span (cue_at cut i) = sum_by_more span cut.splice.cues i _ below in
      let next : i + 1 ≡ suc i = omega arith in
      let whole : length (channel (cue_bits cut c 0) (take (i + 1) ps) (take (i + 1) xs)) ≡ bridge_start cut (i + 1) =
      omega (arith, ap length one, length-append (channel (cue_bits cut c 0) (take i ps) (take i xs)) (x ++ cue_bits cut c (i + 1)), length-append x (cue_bits cut c (i + 1)), long, before_long xs h i below, cue_long (i + 1) (omega arith), sums) in
      subst (λ n. length (channel (cue_bits cut c 0) (take n ps) (take n xs)) ≡ bridge_start cut n) next whole

  -- the bits at the place of a bridge in the master are the bridge's
  pub bridge_in_channel : (z : List Bool) (xs : List (List Bool)) → HaveLengths ps xs → z ≡ master_channel cut c xs → (i : ℕ) → i < length cut.splice.cues - 1 → bridge_bits cut z i ≡ get_or xs i []
  bridge_in_channel z xs h is i lt =
      let inside : i < length ps = omega (arith, part_number) in
      let (rest, split) = split_at (cue_bits cut c 0) ps xs i (lengths_as_many ps xs h) inside in
      let d = part_at cut c i in
      let long : length (get_or xs i []) ≡ (cue_at cut i).bridge = length_at ps xs i d [] h inside ∙ ap (λ (q : Part). q.bridging.levels) (part_is i d lt) ∙ (can.windowed c i there (omega arith)).levels in
      ap (λ l. slice_range l (bridge_start cut i) (bridge_start cut i + (cue_at cut i).bridge)) (is ∙ split) ∙ part_of (channel (cue_bits cut c 0) (take i ps) (take i xs)) (get_or xs i []) rest (bridge_start cut i) (cue_at cut i).bridge (before_long xs h i (omega arith)) long

  -- a channel of cues and bridges is rebuilt from them
  pub is_rebuilt : (z : List Bool) (xs : List (List Bool)) → HaveLengths ps xs → z ≡ master_channel cut c xs → z ≡ rebuilt cut c z
  is_rebuilt z xs h is =
      let n = length cut.splice.cues - 1 in
      let own = map (bridge_bits cut z) (range_with_len 0 n) in
      let many : length xs ≡ length own = omega (arith, lengths_as_many ps xs h, part_number, length-map-range_with_len (bridge_bits cut z) 0 n) in
      let same : xs ≡ own = ext_get_or [] xs own many (λ i lt.
      let below : i < n = omega (arith, lengths_as_many ps xs h, part_number) in
      sym (get_or-map-range_with_len (bridge_bits cut z) 0 n i i [] below (omega arith) ∙ bridge_in_channel z xs h is i below)) in
      is ∙ ap (master_channel cut c) same

  -- the bridges join the cues
  pub joined : (n i : ℕ) → i + n < length cut.splice.cues → AreJoined (cue_bits cut c i) (map (part_at cut c) (range_with_len i n))
  unfolding AreJoined
  joined zero i lt = tt
  joined (suc n) i lt = ((can.windowed c i there (omega arith)).joins, joined n (i + 1) (omega arith))
