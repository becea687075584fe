-- A channel is rebuilt from its cues if it has each of their bits. Otherwise it differs first where one is missing.
use Rattle.std.proofs.Common.{◌≡◌, ◌≢◌, ◌⊎◌, ℕ, zero, suc, ◌+◌, ◌-◌, ◌<◌, ◌≤◌, Bool, true, false, List, [], ◌∷◌, ◌++◌, length, get_or, map, take, sum_by, inl, inr, refl, sym, ap, subst, ◌∙◌, arith}
use Rattle.std.specs.List.{range_with_len}
use Rattle.std.proofs.lemmas.Bool.{cases_lt}
use Rattle.std.proofs.lemmas.List.{ext_get_or, get_or-append_right, get_or_append_left, length-append, length-take-le, take_all, take_more}
use Rattle.std.proofs.lemmas.List.Elements.{All-get_or}
use Rattle.std.proofs.lemmas.List.FromFn.{get_or-map-range_with_len, length-map-range_with_len}
use Rattle.std.proofs.lemmas.List.Sums.{sum_by_more}
use Rattle.cost_core.specs.Channels.{Part, channel}
use Rattle.cut_core.specs.Cuts.{CutContent, cue_at, cue_bits, master_length, span, take_channels}
use Rattle.cut_core.specs.Keeping.{CanCut}
use Rattle.cut_core.specs.Masters.{HaveShape, rebuilt, part_at, parts_of}
use Rattle.judge_core.specs.Checking.{IsFirstDifference}
use Rattle.cut_core.specs.Claims.{bridge_bits, bridge_start}
use Rattle.judge_core.specs.Comparing.{IsOffCue, cue_start}
use Rattle.cut_core.proofs.ChannelLaws.{before_long, channel_on, part_is, part_number, whole_length}
use Rattle.cut_core.proofs.SliceLaws.{slice_at}
use Rattle.cut_core.proofs.TotalLaws.{own_lengths, own_long}

same_or_not : (a b : Bool) → (a ≡ b) ⊎ (a ≢ b)
same_or_not true true = inl refl
same_or_not false false = inl refl
same_or_not true false = inr (λ e. absurd cc)
same_or_not false true = inr (λ e. absurd cc)

module _ (cut : CutContent) (can : CanCut cut) (zs : List (List Bool)) (shape : HaveShape cut zs) (c : ℕ) (there : c < take_channels cut) where
  abbrev z : List Bool
  z = get_or zs c []

  abbrev last : ℕ
  last = length cut.splice.cues - 1

  abbrev own : List (List Bool)
  own = map (bridge_bits cut z) (range_with_len 0 last)

  abbrev ps : List Part
  ps = parts_of cut c

  -- the channel up to the bridge after cue i
  abbrev prefix : ℕ → List Bool
  prefix i = channel (cue_bits cut c 0) (take i ps) (take i own)

  prefix_long : (i : ℕ) → i < length cut.splice.cues → length (prefix i) ≡ bridge_start cut i
  prefix_long i lt = before_long cut can c there own (own_lengths cut zs can shape c there) i lt

  long : (i : ℕ) → i + 1 < length cut.splice.cues → length (bridge_bits cut z i) ≡ (cue_at cut i).bridge
  long i lt = own_long cut zs shape c i (omega (arith, shape.as_many, there)) lt

  prefix_more : (i : ℕ) → i + 1 < length cut.splice.cues → prefix (i + 1) ≡ prefix i ++ (bridge_bits cut z i ++ cue_bits cut c (i + 1))
  prefix_more i lt =
      let d = part_at cut c i in
      let x = bridge_bits cut z i in
      let below : i < last = omega (arith, lt) in
      let p_long = part_number cut can c there in
      let x_long = length-map-range_with_len (bridge_bits cut z) 0 last in
      let short : length (take i own) ≡ length (take i ps) = length-take-le i own (omega (arith, x_long, below)) ∙ sym (length-take-le i ps (omega (arith, p_long, below))) in
      let p_more : take (i + 1) ps ≡ take i ps ++ d ∷ [] = take_more ps i d (omega (arith, p_long, below)) ∙ ap (λ q. take i ps ++ q ∷ []) (part_is cut can c there i d below) in
      let x_more : take (i + 1) own ≡ take i own ++ x ∷ [] = take_more own i [] (omega (arith, x_long, below)) ∙ ap (λ q. take i own ++ q ∷ []) (get_or-map-range_with_len (bridge_bits cut z) 0 last i i [] below (omega arith)) in
      rw (p_more, x_more) (channel_on (cue_bits cut c 0) (take i ps) (take i own) d x short)

  -- the next cue starts after the bridge
  next_start : (i : ℕ) → i + 1 < length cut.splice.cues → cue_start cut (i + 1) ≡ bridge_start cut i + (cue_at cut i).bridge
  next_start i lt =
      let sums : sum_by span (take (i + 1) cut.splice.cues) ≡ sum_by span (take i cut.splice.cues) + span (cue_at cut i) = sum_by_more span cut.splice.cues i _ (omega (arith, lt)) in
      omega (arith, sums)

  prefix_zero : prefix 0 ≡ cue_bits cut c 0
  unfolding channel
  prefix_zero = refl

  start_zero : cue_start cut 0 ≡ 0
  start_zero = refl

  same_place : (p : ℕ) → p ≡ p - cue_start cut 0
  same_place p = omega (arith, start_zero)

  -- ---- the bits of a cue are in the channel
  record IsCued (i j p : ℕ) : Type 0 where
    inside : p < length (prefix i)
    bit : get_or (prefix i) p false ≡ get_or (cue_bits cut c j) (p - cue_start cut j) false

  cued_at : (i : ℕ) → i < length cut.splice.cues → (j p : ℕ) → j ≤ i → cue_start cut j ≤ p → p < cue_start cut j + length (cue_bits cut c j) → IsCued i j p
  cued_at zero lt zero p le from to = record {
    inside = omega (arith, to, ap length prefix_zero, start_zero);
    bit = ap (λ l. get_or l p false) prefix_zero ∙ ap (λ n. get_or (cue_bits cut c 0) n false) (same_place p);
  }
  cued_at zero lt (suc j) p le from to = absurd (omega arith)
  cued_at (suc i) lt j p le from to =
      let below : i + 1 < length cut.splice.cues = omega (arith, lt) in
      let x = bridge_bits cut z i in
      let cue = cue_bits cut c (i + 1) in
      let next : i + 1 ≡ suc i = omega arith in
      let all = length-append (prefix i) (x ++ cue) in
      let more = length-append x cue in
      subst (λ n. IsCued n j p) next (elim (cases_lt j (i + 1)) [
        | inl before ↦ (
            let so_far = cued_at i (omega (arith, below)) j p (omega (arith, before)) from to in
            record { inside = omega (arith, ap length (prefix_more i below), all, so_far.inside); bit = ap (λ l. get_or l p false) (prefix_more i below) ∙ get_or_append_left (prefix i) (x ++ cue) false p so_far.inside ∙ so_far.bit }
            )
        | inr own_cue ↦ (
            let j_is : j ≡ i + 1 = omega (arith, own_cue, le) in
            let start : cue_start cut j ≡ length (prefix i) + length x = ap (cue_start cut) j_is ∙ next_start i below ∙ omega (arith, prefix_long i (omega (arith, below)), long i below) in
            let long_is : length (cue_bits cut c j) ≡ length cue = ap (λ n. length (cue_bits cut c n)) j_is in
            record {
              inside = omega (arith, ap length (prefix_more i below), all, more, to, start, long_is);
              bit =
                  ap (λ l. get_or l p false) (prefix_more i below)
                  ∙ get_or-append_right (prefix i) (x ++ cue) (length (prefix i)) p false refl (omega (arith, from, start))
                  ∙ get_or-append_right x cue (length x) (p - length (prefix i)) false refl (omega (arith, from, start))
                  ∙ ap (λ n. get_or cue n false) (omega (arith, from, start))
                  ∙ ap (λ n. get_or (cue_bits cut c n) (p - cue_start cut j) false) (sym j_is);
            }
            )
      ])

  -- ---- each other bit is the channel's own
  abbrev IsOwn : ℕ → ℕ → Type 0
  IsOwn i p = (get_or (prefix i) p false ≡ get_or z p false) ⊎ ((j : ℕ) × (j ≤ i) × (cue_start cut j ≤ p) × (p < cue_start cut j + length (cue_bits cut c j)) × (get_or (prefix i) p false ≡ get_or (cue_bits cut c j) (p - cue_start cut j) false))

  own_at : (i : ℕ) → i < length cut.splice.cues → (p : ℕ) → p < length (prefix i) → IsOwn i p
  own_at zero lt p inside = inr (0, omega arith, omega (arith, start_zero), omega (arith, inside, ap length prefix_zero, start_zero), ap (λ l. get_or l p false) prefix_zero ∙ ap (λ n. get_or (cue_bits cut c 0) n false) (same_place p))
  own_at (suc i) lt p inside =
      let below : i + 1 < length cut.splice.cues = omega (arith, lt) in
      let x = bridge_bits cut z i in
      let cue = cue_bits cut c (i + 1) in
      let next : i + 1 ≡ suc i = omega arith in
      let all = length-append (prefix i) (x ++ cue) in
      let more = length-append x cue in
      let here = prefix_long i (omega (arith, below)) in
      let start : cue_start cut (i + 1) ≡ length (prefix i) + length x = next_start i below ∙ omega (arith, here, long i below) in
      let inside : p < length (prefix (i + 1)) = subst (λ n. p < length (prefix n)) (sym next) inside in
      let whole : get_or (prefix (i + 1)) p false ≡ get_or (prefix i ++ (x ++ cue)) p false = ap (λ l. get_or l p false) (prefix_more i below) in
      subst (λ n. IsOwn n p) next (elim (cases_lt p (length (prefix i))) [
        | inl before ↦ (
            let left : get_or (prefix (i + 1)) p false ≡ get_or (prefix i) p false = whole ∙ get_or_append_left (prefix i) (x ++ cue) false p before in
            elim (own_at i (omega (arith, below)) p before) [
              | inl same ↦ inl (left ∙ same)
              | inr cued ↦ inr (cued.0, omega (arith, cued.1), cued.2, cued.3, left ∙ cued.4)
            ]
            )
        | inr after ↦ (
            let right : get_or (prefix (i + 1)) p false ≡ get_or (x ++ cue) (p - length (prefix i)) false = whole ∙ get_or-append_right (prefix i) (x ++ cue) (length (prefix i)) p false refl (omega (arith, after)) in
            elim (cases_lt (p - length (prefix i)) (length x)) [
              | inl bridge ↦ (
                  let q = p - length (prefix i) in
                  let place : bridge_start cut i + q ≡ p = omega (arith, here, after) in
                  inl (right ∙ get_or_append_left x cue false q bridge ∙ slice_at z (bridge_start cut i) (bridge_start cut i + (cue_at cut i).bridge) q (omega (arith, bridge, long i below)) ∙ ap (λ n. get_or z n false) place)
                  )
              | inr past ↦ inr (
                i + 1,
                omega arith,
                omega (arith, start, past, after),
                omega (arith, start, past, after, inside, all, more, ap length (prefix_more i below)),
                right ∙ get_or-append_right x cue (length x) (p - length (prefix i)) false refl (omega (arith, past)) ∙ ap (λ n. get_or cue n false) (omega (arith, start, past, after)),
              )
            ]
            )
      ])

  -- ---- the whole channel
  some_cue : 1 ≤ length cut.splice.cues → last + 1 ≡ length cut.splice.cues
  some_cue some = omega (arith, some)

  prefix_whole : 1 ≤ length cut.splice.cues → prefix last ≡ rebuilt cut c z
  prefix_whole some =
      let p_all : take last ps ≡ ps = take_all last ps (omega (arith, part_number cut can c there)) in
      let x_all : take last own ≡ own = take_all last own (omega (arith, length-map-range_with_len (bridge_bits cut z) 0 last)) in
      rw (p_all, x_all) refl

  whole_long : 1 ≤ length cut.splice.cues → length (prefix last) ≡ length z
  whole_long some =
      prefix_long last (omega (arith, some)) ∙ whole_length cut can last (some_cue some) ∙ sym (All-get_or (λ l. length l ≡ master_length cut.splice.cues) zs c [] (omega (arith, shape.as_many, there)) shape.long)

  -- a channel whose bits are all those of the cues is rebuilt from them
  pub on_cues : 1 ≤ length cut.splice.cues → ((p : ℕ) → p < length z → IsOffCue cut c z p → ⊥) → z ≡ rebuilt cut c z
  on_cues some none = ext_get_or false z (prefix last) (sym (whole_long some)) (λ p lt. elim (own_at last (omega (arith, some)) p (omega (arith, lt, whole_long some))) [
    | inl same ↦ sym same
    | inr cued ↦ elim (same_or_not (get_or z p false) (get_or (prefix last) p false)) [
      | inl same ↦ same
      | inr differs ↦ absurd (none p lt (record { cue = cued.0; cue_there = omega (arith, some, cued.1); from = cued.2; to = cued.3; differs = λ e. differs (e ∙ sym cued.4) }))
    ]
  ]) ∙ prefix_whole some

  -- and one that has a first bit that isn't differs there first
  pub first_off : 1 ≤ length cut.splice.cues → (place : ℕ) → place < length z → ((p : ℕ) → p < place → IsOffCue cut c z p → ⊥) → IsOffCue cut c z place → IsFirstDifference z (rebuilt cut c z) place
  first_off some place inside before off = subst (λ l. IsFirstDifference z l place) (prefix_whole some) (record {
    there = inside;
    before = λ p lt. elim (own_at last (omega (arith, some)) p (omega (arith, lt, inside, whole_long some))) [
      | inl same ↦ sym same
      | inr cued ↦ elim (same_or_not (get_or z p false) (get_or (prefix last) p false)) [
        | inl same ↦ same
        | inr differs ↦ absurd (before p lt (record { cue = cued.0; cue_there = omega (arith, some, cued.1); from = cued.2; to = cued.3; differs = λ e. differs (e ∙ sym cued.4) }))
      ]
    ];
    differs = λ e. off.differs (e ∙ (cued_at last (omega (arith, some)) off.cue place (omega (arith, off.cue_there)) off.from off.to).bit);
  })
