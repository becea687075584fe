-- The excerpts of takes give the same cut as the takes.
use Rattle.std.proofs.Common.{◌≡◌, ℕ, ◌+◌, ◌-◌, ◌<◌, ◌≤◌, Bool, inl, inr, Ok, List, [], ◌∷◌, ◌++◌, length, map, get_or, slice_range, drop, replicate, refl, sym, ap, subst, ◌∙◌, add-one, arith}
use Rattle.std.specs.List.{All, range_with_len}
use Rattle.std.proofs.Math.Seq.{get_or-append_seam}
use Rattle.std.proofs.lemmas.Bool.{eq-eqb}
use Rattle.std.proofs.lemmas.List.{get_or-map, get_or-replicate, get_or_append_left, length-append, length-drop, length-map, length-replicate, length-take, map-append, same_lists}
use Rattle.std.proofs.lemmas.Simd.{map-map}
use Rattle.std.proofs.lemmas.List.Elements.{All-append, All-cons, All-get_or, All-nil, All-replicate}
use Rattle.std.proofs.lemmas.List.FromFn.{get_or-map-range_with_len, length-map-range_with_len, map-range_with_len_more}
use Rattle.dsd_bits.proofs.LacingLemmas.{map_range_same}
use Rattle.dsd_bits.proofs.PackingLemmas.{length-slice_range}
use Rattle.dsd_bits.specs.Channels.{count_of}
use Rattle.dsd_bits.specs.Contents.{Content}
use Rattle.dsd_bits.specs.Shape.{HasShape}
use Rattle.dsd_bits.specs.Stretches.{silent, stretch_of}
use Rattle.splice_core.specs.Cues.{IsCueWithin, IsSplicing}
use Rattle.splice_core.specs.Splices.{SpliceContent}
use Rattle.cost_core.specs.Bridges.{Bridging}
use Rattle.cost_core.specs.Channels.{FadesJoin, Joins}
use Rattle.cost_core.specs.Faults.{CanBridge, reach_at}
use Rattle.cost_core.specs.Windows as fades
use Rattle.cost_core.specs.Windows.{bridging_at}
use Rattle.cost_core.proofs.TakeParts.{bridging_excerpted, part_of_part}
use Rattle.cut_core.specs.Cuts.{CutContent, FitTakes, IsAlike, IsInside, cue_bits, cut_with, each_below, no_bridging, source, take_at, take_channels, window}
use Rattle.cut_core.specs.Excerpts.{AreExcerpts, HasStretch, ExcerptsContent, excerpts_at, excerpts_content, cut_of_excerpts, excerpt_start, excerpts_of, excerpts_shape, excerpts_shapes, excerpts_of_takes, excerpt_stop, range_of, shape_of, ranges_of, start_in, stop_in, stretch_at, stretches_at}
use Rattle.cut_core.specs.declared.excerpts.Excerpts.{Excerpts}
use Rattle.form_core.specs.Steps.{FailsUnless}
use Rattle.cut_core.specs.declared.fault.CutFault.{CutFault}
use Rattle.cut_core.specs.declared.fault.CutFault.TheVariants.{Memory}
use Rattle.cut_core.specs.Opening.{take_in, takes_before}
use Rattle.cut_core.proofs.Steps.{failed_before, file_fails, file_more, takes_long}
use Rattle.cut_core.specs.Keeping.{CanCut, HasWindow}
use Rattle.cut_core.specs.Rooms.{HaveRoom}

-- ---- lists
-- the element of a number
pub below_at : {X : Type 0} (n : ℕ) (f : ℕ → X) (i : ℕ) (d : X) → i < n → get_or (each_below n f) i d ≡ f i
below_at n f i d lt = get_or-map-range_with_len f 0 n i i d lt (omega arith)

-- a recording without its bits keeps the rules of recordings
silent_shape : (r : Content) → HasShape r → HasShape (silent r)
silent_shape r h =
    let n = length r.channels in
    let many : length (replicate {A = List Bool} n []) ≡ n = length-replicate n [] in
    let first : get_or (replicate {A = List Bool} n []) 0 [] ≡ [] = get_or-replicate n 0 [] [] (omega (arith, h.some_channel)) in
    record {
      rate_low = h.rate_low;
      rate_high = h.rate_high;
      some_channel = omega (arith, many, h.some_channel);
      six_channels = omega (arith, many, h.six_channels);
      level = record { same = All-replicate (λ (z : List Bool). length z ≡ count_of (replicate n [])) n [] (sym (ap length first)) };
      in_limit = omega (arith, ap length first);
      id_for_each = h.id_for_each ∙ sym many;
      layout_fits = h.layout_fits ∙ sym many;
      short_texts = h.short_texts;
      in_order = h.in_order;
      no_parts = h.no_parts;
    }

joins_again : (x y : List Bool) (d e : Bridging) (u v : List Bool) → x ≡ y → d ≡ e → u ≡ v → Joins x (record { bridging = d; cue = u }) → Joins y (record { bridging = e; cue = v })
joins_again x y d e u v p q r h =
    subst (λ (z : List Bool). Joins z (record { bridging = e; cue = v })) p (subst (λ (z : Bridging). Joins x (record { bridging = z; cue = v })) q (subst (λ (z : List Bool). Joins x (record { bridging = d; cue = z })) r h))

-- ---- takes one by one
pub excerpted_none : (splice : SpliceContent) → AreExcerpts splice [] []
excerpted_none splice = record { shaped = All-nil HasShape; excerpts = refl }

pub known_more : (splice : SpliceContent) (takes : List Content) (hs made : List Excerpts) (r : Content) (h : Excerpts) (n : ℕ) → length takes ≡ n → AreExcerpts splice takes hs → HasShape r → excerpts_content h ≡ excerpts_of splice n r → made ≡ hs ++ h ∷ []
    → AreExcerpts splice (takes ++ r ∷ []) made
known_more splice takes hs made r h n long before shape is pushed =
    let f : ℕ → ExcerptsContent = λ number. excerpts_of splice number (take_at takes number) in
    let g : ℕ → ExcerptsContent = λ number. excerpts_of splice number (take_at (takes ++ r ∷ []) number) in
    let more : length (takes ++ r ∷ []) ≡ length takes + 1 = length-append takes (r ∷ []) in
    let same = map_range_same (length takes) f g (λ i lt. ap (excerpts_of splice i) (sym (get_or_append_left takes (r ∷ []) _ i lt))) in
    let last : g (length takes) ≡ excerpts_content h = ap (excerpts_of splice (length takes)) (get_or-append_seam takes r [] _) ∙ ap (λ (k : ℕ). excerpts_of splice k r) long ∙ sym is in
    record {
      shaped = All-append HasShape takes (r ∷ []) before.shaped (All-cons HasShape r [] shape (All-nil HasShape));
      excerpts = ap (map excerpts_content) pushed ∙ map-append excerpts_content hs (h ∷ []) ∙ (λ j. before.excerpts j ++ excerpts_content h ∷ [])
          ∙ (λ j. same j ++ sym last j ∷ []) ∙ sym (ap (λ (m : ℕ). each_below m g) more ∙ map-range_with_len_more g 0 (length takes) (length takes) (omega arith));
    }

-- ---- a splice and its takes
module _ (splice : SpliceContent) (takes : List Content) (fine : IsSplicing splice.weights (length splice.takes) splice.cues) (fit : FitTakes splice takes) where
  fits_at : (i : ℕ) → i < length splice.cues → IsCueWithin (length splice.weights) (length splice.takes) (fades.splice_cue splice i)
  fits_at i lt = All-get_or (IsCueWithin (length splice.weights) (length splice.takes)) splice.cues i _ lt fine.each_fits

  take_there : (i : ℕ) → i < length splice.cues → (fades.splice_cue splice i).take < length takes
  take_there i lt = omega (arith, (fits_at i lt).take_is_there, fit.as_many)

  -- the channels of the take of cue i
  abbrev pub zs_at : ℕ → List (List Bool)
  zs_at i = (take_at takes (fades.splice_cue splice i).take).channels

  abbrev pub number : ℕ
  number = length (take_at takes 0).channels

  as_many_at : (i : ℕ) → i < length splice.cues → length (zs_at i) ≡ number
  as_many_at i lt = let alike : IsAlike takes (take_at takes (fades.splice_cue splice i).take) = All-get_or (IsAlike takes) takes (fades.splice_cue splice i).take _ (take_there i lt) fit.alike in alike.as_many_channels

  abbrev pub hs : List ExcerptsContent
  hs = excerpts_of_takes splice takes

  excerpted_there : (i : ℕ) → i < length splice.cues → excerpts_at hs (fades.splice_cue splice i).take ≡ excerpts_of splice (fades.splice_cue splice i).take (take_at takes (fades.splice_cue splice i).take)
  excerpted_there i lt = below_at (length takes) (λ number. excerpts_of splice number (take_at takes number)) (fades.splice_cue splice i).take _ (take_there i lt)

  range_is : (i : ℕ) → i < length splice.cues → get_or (ranges_of splice (fades.splice_cue splice i).take) i (record { start = 0; stop = 0 }) ≡ record { start = excerpt_start splice i; stop = excerpt_stop splice i }
  range_is i lt =
      let t = (fades.splice_cue splice i).take in
      let own : range_of splice t i ≡ record { start = excerpt_start splice i; stop = excerpt_stop splice i } = rw (eq-eqb t t refl) refl in
      below_at (length splice.cues) (range_of splice t) i _ lt ∙ own

  -- the excerpt for cue i is the part of each channel of its take
  stretches_are : (i : ℕ) → i < length splice.cues → stretches_at splice hs i ≡ map (λ z. slice_range z (excerpt_start splice i) (excerpt_stop splice i)) (zs_at i)
  stretches_are i lt =
      let t = (fades.splice_cue splice i).take in
      let ranges = ranges_of splice t in
      let long : length ranges ≡ length splice.cues = length-map-range_with_len (range_of splice t) 0 (length splice.cues) in
      ap (λ (h : ExcerptsContent). get_or h.stretches i []) (excerpted_there i lt)
      ∙ get_or-map (stretch_of (zs_at i)) ranges i (record { start = 0; stop = 0 }) [] (omega (arith, long))
      ∙ ap (stretch_of (zs_at i)) (range_is i lt)

  stretch_is : (c i : ℕ) → c < number → i < length splice.cues → stretch_at splice hs c i ≡ slice_range (source splice takes c i) (excerpt_start splice i) (excerpt_stop splice i)
  stretch_is c i there lt =
      ap (λ (l : List (List Bool)). get_or l c []) (stretches_are i lt)
      ∙ get_or-map (λ z. slice_range z (excerpt_start splice i) (excerpt_stop splice i)) (zs_at i) c [] [] (omega (arith, as_many_at i lt, there))

  pub has_stretch : (c i : ℕ) → c < number → i < length splice.cues → HasStretch splice hs c i
  has_stretch c i there lt =
      let t = (fades.splice_cue splice i).take in
      let f : List Bool → List Bool = λ z. slice_range z (excerpt_start splice i) (excerpt_stop splice i) in
      record {
        cue_there = omega (arith, ap (λ (h : ExcerptsContent). length h.stretches) (excerpted_there i lt), length-map (ranges_of splice t) (stretch_of (zs_at i)), length-map-range_with_len (range_of splice t) 0 (length splice.cues), lt);
        channel_there = omega (arith, ap length (stretches_are i lt), length-map (zs_at i) f, as_many_at i lt, there);
      }

  source_inside : (c i : ℕ) → c < number → i < length splice.cues → All HasShape takes → length (source splice takes c i) ≡ count_of (zs_at i)
  source_inside c i there lt shaped =
      let shape = All-get_or HasShape takes (fades.splice_cue splice i).take _ (take_there i lt) shaped in
      All-get_or (λ z. length z ≡ count_of (zs_at i)) (zs_at i) c [] (omega (arith, as_many_at i lt, there)) shape.level.same

  -- ---- the cut
  first_is : excerpts_at hs 0 ≡ excerpts_of splice 0 (take_at takes 0)
  first_is = below_at (length takes) (λ number. excerpts_of splice number (take_at takes number)) 0 _ (omega (arith, fit.as_many, fine.some_takes))

  number_is : length (excerpts_at hs 0).recording.channels ≡ number
  number_is = ap (λ (h : ExcerptsContent). length h.recording.channels) first_is ∙ length-replicate number []

  cued_is : (c i : ℕ) → c < number → i < length splice.cues → slice_range (stretch_at splice hs c i) (start_in splice i) (stop_in splice i) ≡ fades.cued splice i (source splice takes c i)
  cued_is c i there lt =
      let cue = fits_at i lt in
      ap (λ (z : List Bool). slice_range z (start_in splice i) (stop_in splice i)) (stretch_is c i there lt)
      ∙ part_of_part (source splice takes c i) (excerpt_start splice i) (excerpt_stop splice i) (fades.splice_cue splice i).start (fades.splice_cue splice i).stop (omega arith) (omega (arith, cue.long_enough, fine.weights_fit.two_weights)) (omega arith)

  lead_is : (i : ℕ) → excerpt_start splice (i + 1) ≡ (fades.splice_cue splice (i + 1)).start - (reach_at splice i).before
  lead_is i = rw (add-one i) refl

  window_is : HaveRoom splice takes → (c i : ℕ) → c < number → i + 1 < length splice.cues
      → bridging_at splice i (stretch_at splice hs c i) (stop_in splice i) (stretch_at splice hs c (i + 1)) (start_in splice (i + 1)) ≡ fades.bridging splice i (source splice takes c i) (source splice takes c (i + 1))
  window_is room c i there lt =
      let cue = fits_at i (omega arith) in
      let next = fits_at (i + 1) lt in
      let a = stretch_is c i there (omega arith) in
      let b = stretch_is c (i + 1) there lt in
      (λ j. bridging_at splice i (a j) (stop_in splice i) (b j) (start_in splice (i + 1)))
      ∙ bridging_excerpted splice i (source splice takes c i) (excerpt_start splice i) (excerpt_stop splice i) (fades.splice_cue splice i).stop (source splice takes c (i + 1)) (excerpt_start splice (i + 1)) (excerpt_stop splice (i + 1)) (fades.splice_cue splice (i + 1)).start
      (omega (arith, fine.weights_fit.two_weights)) (omega (arith, cue.long_enough)) (omega (arith, next.long_enough)) (omega arith) (lead_is i) (λ some. (room i lt some).before)

  -- the excerpts give the cut of the takes
  pub excerpted_is : HaveRoom splice takes → cut_of_excerpts splice hs ≡ cut_with splice takes
  excerpted_is room =
      let cues = length splice.cues in
      let cued : List (List (List Bool)) = each_below cues (λ i. each_below number (λ c. fades.cued splice i (source splice takes c i))) in
      let windows : List (List Bridging) = each_below (cues - 1) (λ i. each_below number (λ c. fades.bridging splice i (source splice takes c i) (source splice takes c (i + 1)))) in
      let first = ap (λ (h : ExcerptsContent). h.recording) first_is in
      let bits = ap (λ (n : ℕ). each_below cues (λ i. each_below n (λ c. slice_range (stretch_at splice hs c i) (start_in splice i) (stop_in splice i)))) number_is
      ∙ map_range_same cues _ _ (λ i lt. map_range_same number _ _ (λ c there. cued_is c i there lt)) in
      let joins = ap (λ (n : ℕ). each_below (cues - 1) (λ i. each_below n (λ c. bridging_at splice i (stretch_at splice hs c i) (stop_in splice i) (stretch_at splice hs c (i + 1)) (start_in splice (i + 1))))) number_is
      ∙ map_range_same (cues - 1) _ _ (λ i lt. map_range_same number _ _ (λ c there. window_is room c i there (omega arith))) in
      λ j. record { splice = splice; first = first j; cued = bits j; windows = joins j }

  -- ---- what it keeps
  module _ (shaped : All HasShape takes) where
    first_shape : HasShape (take_at takes 0)
    first_shape = All-get_or HasShape takes 0 _ (omega (arith, fit.as_many, fine.some_takes)) shaped

    abbrev pub cut : CutContent
    cut = cut_with splice takes

    pub long_first : take_channels cut ≡ number
    long_first = length-replicate number []

    bits_are : (c i : ℕ) → c < number → i < length splice.cues → cue_bits cut c i ≡ fades.cued splice i (source splice takes c i)
    bits_are c i there lt =
        let row : ℕ → List (List Bool) = λ i. each_below number (λ c. fades.cued splice i (source splice takes c i)) in
        ap (λ (l : List (List Bool)). get_or l c []) (below_at (length splice.cues) row i [] lt) ∙ below_at number (λ c. fades.cued splice i (source splice takes c i)) c [] there

    windows_are : (c i : ℕ) → c < number → i + 1 < length splice.cues → window cut c i ≡ fades.bridging splice i (source splice takes c i) (source splice takes c (i + 1))
    windows_are c i there lt =
        let at : ℕ → ℕ → Bridging = λ i c. fades.bridging splice i (source splice takes c i) (source splice takes c (i + 1)) in
        ap (λ (l : List Bridging). get_or l c no_bridging) (below_at (length splice.cues - 1) (λ i. each_below number (at i)) i [] (omega arith)) ∙ below_at number (at i) c no_bridging there

    inside_at : (c i : ℕ) → c < number → i < length splice.cues → (fades.splice_cue splice i).stop ≤ length (source splice takes c i)
    inside_at c i there lt = let inside : IsInside takes (fades.splice_cue splice i) = All-get_or (IsInside takes) splice.cues i _ lt fit.inside in omega (arith, source_inside c i there lt shaped, inside)

    windowed : FadesJoin → (c i : ℕ) → c < number → i + 1 < length splice.cues → HasWindow cut c i
    windowed law c i there lt =
        let is = windows_are c i there lt in
        let here = bits_are c i there (omega arith) in
        let next = bits_are c (i + 1) there lt in
        let joins = law splice i (source splice takes c i) (source splice takes c (i + 1)) fine lt (inside_at c i there (omega arith)) (inside_at c (i + 1) there lt) in
        record {
          levels = ap (λ (d : Bridging). d.levels) is;
          weights = ap (λ (d : Bridging). d.weights) is;
          joins = joins_again _ _ _ _ _ _ (sym here) (sym is) (sym next) joins;
        }

    pub can_cut : FadesJoin → CanCut cut
    can_cut law = record {
      splicing = fine;
      shaped = silent_shape (take_at takes 0) first_shape;
      in_limit = fit.in_limit;
      long = λ c i there lt. ap length (bits_are c i (omega (arith, long_first, there)) lt) ∙ length-slice_range (source splice takes c i) (fades.splice_cue splice i).start (fades.splice_cue splice i).stop (inside_at c i (omega (arith, long_first, there)) lt);
      windowed = λ c i there lt. windowed law c i (omega (arith, long_first, there)) lt;
    }

    -- ---- what is read of the excerpts is there
    part_long : (z : List Bool) (from to q : ℕ) → q ≤ to → q ≤ length z → q - from ≤ length (slice_range z from to)
    part_long z from to q low high = omega (arith, length-take (to - from) (drop from z), length-drop from z)

    stretch_long : (c i : ℕ) → c < number → i < length splice.cues → (q : ℕ) → q ≤ excerpt_stop splice i → q ≤ length (source splice takes c i) → q - excerpt_start splice i ≤ length (stretch_at splice hs c i)
    stretch_long c i there lt q low high = rw (stretch_is c i there lt) (part_long (source splice takes c i) (excerpt_start splice i) (excerpt_stop splice i) q low high)

    pub cue_excerpted : (c i : ℕ) → c < number → i < length splice.cues → (start_in splice i ≤ stop_in splice i) × (stop_in splice i ≤ length (stretch_at splice hs c i))
    cue_excerpted c i there lt =
        let cue = fits_at i lt in
        (omega (arith, cue.long_enough, fine.weights_fit.two_weights), stretch_long c i there lt (fades.splice_cue splice i).stop (omega arith) (inside_at c i there lt))

    pub can_bridge : HaveRoom splice takes → (c i : ℕ) → c < number → i + 1 < length splice.cues → 1 ≤ (fades.splice_cue splice i).bridge
        → CanBridge splice i (stretch_at splice hs c i) (stop_in splice i) (stretch_at splice hs c (i + 1)) (start_in splice (i + 1))
    can_bridge room c i there lt some =
        let cue = fits_at i (omega arith) in
        let next = fits_at (i + 1) lt in
        let has = room i lt some in
        let stop = (fades.splice_cue splice i).stop in
        record {
          stop_in = omega (arith, cue.stop_fits);
          start_in = omega (arith, next.start_fits);
          ends = omega (arith, cue.long_enough);
          goes_on = omega (arith, next.long_enough, (cue_excerpted c (i + 1) there lt).1, fine.weights_fit.two_weights);
          before = omega (arith, lead_is i, has.before);
          after = omega (arith, cue.long_enough, fine.weights_fit.two_weights, stretch_long c i there (omega arith) (stop + (reach_at splice i).after) (omega arith) (omega (arith, has.after, source_inside c i there (omega arith) shaped)));
        }

-- ---- the excerpts have the shapes of the takes
pub shapes_are : (splice : SpliceContent) (takes : List Content) (hs : List Excerpts) → AreExcerpts splice takes hs → excerpts_shapes hs ≡ map shape_of takes
shapes_are splice takes hs are =
    let n = length takes in
    let f : ℕ → ExcerptsContent = λ number. excerpts_of splice number (take_at takes number) in
    let one : (i : ℕ) → excerpts_shape (f i) ≡ shape_of (take_at takes i) = λ i. (let many = length-replicate {A = List Bool} (length (take_at takes i).channels) [] in λ j. record { rate = (take_at takes i).rate; channels = many j; count = count_of (take_at takes i).channels }) in
    let long : length (map (λ i. excerpts_shape (f i)) (range_with_len 0 n)) ≡ length (map shape_of takes) = length-map-range_with_len (λ i. excerpts_shape (f i)) 0 n ∙ sym (length-map takes shape_of) in
    sym (map-map excerpts_shape excerpts_content hs) ∙ ap (map excerpts_shape) are.excerpts ∙ map-map excerpts_shape f (range_with_len 0 n)
    ∙ same_lists (map (λ i. excerpts_shape (f i)) (range_with_len 0 n)) (map shape_of takes) long (λ i d lt.
    let there : i < n = omega (arith, length-map-range_with_len (λ i. excerpts_shape (f i)) 0 n, lt) in
    below_at n (λ i. excerpts_shape (f i)) i d there ∙ one i ∙ sym (get_or-map shape_of takes i _ d there))

-- ---- files one by one, to the first fault
module _ (splice : SpliceContent) (files : List (List ℕ)) (file : List ℕ) where
  pub none_more : (e : CutFault) → FailsUnless Memory e (takes_before files (length files)) → FailsUnless Memory e (takes_before (files ++ file ∷ []) (length files + 1))
  none_more e (inl memory) = inl memory
  none_more e (inr fails) = inr (failed_before files file e fails)

  pub not_more : (hs : List Excerpts) (e : CutFault) → (takes : List Content) × (takes_before files (length files) ≡ Ok takes) × AreExcerpts splice takes hs → FailsUnless Memory e (take_in (length files) file) → FailsUnless Memory e (takes_before (files ++ file ∷ []) (length files + 1))
  not_more hs e before (inl memory) = inl memory
  not_more hs e before (inr fails) = inr (file_fails files file before.0 e before.1 fails)

  pub one_more : (hs made : List Excerpts) (h : Excerpts) → made ≡ hs ++ h ∷ [] → (takes : List Content) × (takes_before files (length files) ≡ Ok takes) × AreExcerpts splice takes hs
      → (r : Content) × (take_in (length files) file ≡ Ok r) × HasShape r × (excerpts_content h ≡ excerpts_of splice (length files) r)
      → (takes : List Content) × (takes_before (files ++ file ∷ []) (length files + 1) ≡ Ok takes) × AreExcerpts splice takes made
  one_more hs made h pushed before next =
      (before.0 ++ next.0 ∷ [], file_more files file before.0 next.0 before.1 next.1, known_more splice before.0 hs made next.0 h (length files) (takes_long files (length files) before.0 before.1) before.2 next.2 next.3 pushed)

pub of_more : (splice : SpliceContent) (n : ℕ) (hs made : List Excerpts) (h : Excerpts) → made ≡ hs ++ h ∷ [] → (whole : List Content) × AreExcerpts splice whole hs × (length whole ≡ n) → (r : Content) × HasShape r × (excerpts_content h ≡ excerpts_of splice n r)
    → (whole : List Content) × AreExcerpts splice whole made × (length whole ≡ n + 1)
of_more splice n hs made h pushed before next =
    (before.0 ++ next.0 ∷ [], known_more splice before.0 hs made next.0 h n before.2 before.1 next.1 next.2 pushed, omega (arith, length-append before.0 (next.0 ∷ []), before.2))
