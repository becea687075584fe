-- What is accepted is a master of its project and takes, and least.
use Rattle.std.proofs.Common.{◌≡◌, ℕ, zero, suc, ◌+◌, ◌*◌, ◌-◌, ◌<◌, ◌≤◌, inl, inr, Bool, List, [], ◌∷◌, None, Option, Some, drop, flat_map, get_or, length, map, take, refl, sym, ap, subst, ◌∙◌, arith}
use Rattle.std.specs.List.{All, range_with_len}
use Rattle.std.proofs.lemmas.Bool.{cases_lt}
use Rattle.std.proofs.lemmas.List.{get_or-map, get_or_past, length-map, length-replicate}
use Rattle.std.proofs.lemmas.List.Elements.{All-append, All-cons, All-get_or, All-map, All-nil, All-weaker}
use Rattle.std.proofs.lemmas.List.FromFn.{length-map-range_with_len}
use Rattle.toml.specs.Data.{Data}
use Rattle.dsd_bits.specs.Channels.{IsLevel, count_of}
use Rattle.dsd_bits.specs.Blocks.{unblocked}
use Rattle.dsd_bits.specs.Contents.{Content}
use Rattle.dsd_bits.specs.Layouts.{layout_channels}
use Rattle.dsd_bits.specs.Shape.{HasShape}
use Rattle.dsd_bits.specs.Stretches.{silent}
use Rattle.dsd_bits.specs.declared.blocks.BitOrder.{BitOrder}
use Rattle.dsd_bits.specs.declared.blocks.BitOrder.TheVariants.{LeastFirst, MostFirst}
use Rattle.dsd_bits.proofs.BlockLemmas.{unblocked_count, unblocked_level}
use Rattle.dsdiff_core.proofs.ShapeLaws as dsdiff
use Rattle.dsf_core.specs.Fields as fields
use Rattle.dsf_core.specs.Files.{IsDsf}
use Rattle.dsf_core.specs.Reading.{stated_header}
use Rattle.dsf_core.proofs.FileLaws.{is_sound, leads_of}
use Rattle.dsf_core.proofs.ShapeLaws as dsf
use Rattle.splice_core.specs.Cues.{IsSplicing}
use Rattle.splice_core.specs.Splices.{SpliceContent}
use Rattle.cost_core.specs.Bridges.{Bridging}
use Rattle.cost_core.specs.Limits.{IsBridging}
use Rattle.cost_core.specs.Tables.{value_in}
use Rattle.cost_core.specs.Windows as fades
use Rattle.cost_core.proofs.Channels.{least_together, places_are_windows}
use Rattle.cost_core.proofs.Joining.{fades_join}
use Rattle.cost_core.proofs.Leasts.{least_from_valid}
use Rattle.cost_core.proofs.Windows.{bridging_limits, cue_fits}
use Rattle.project_core.specs.Meaning.{IsSplice, SaysOptional}
use Rattle.form_core.specs.declared.form.Form.{Form}
use Rattle.form_core.specs.declared.form.Form.TheVariants as forms
use Rattle.form_core.specs.Forms.{HoldsAs, HoldsSome}
use Rattle.cert_core.specs.Certificates.{Claim, ShowsAll}
use Rattle.cert_core.specs.Text.{Entry}
use Rattle.cut_core.specs.Bridges.{IsPlace, bridges, places_after}
use Rattle.cut_core.specs.Cuts.{AreAlike, CutContent, FitTakes, IsAlike, IsInside, cue_at, cut_with, each_below, no_bridging, source, take_at, take_channels, window}
use Rattle.cut_core.specs.Keeping.{CanCut}
use Rattle.cut_core.specs.Opening.{OpensCut}
use Rattle.cut_core.proofs.BridgeLaws.{after_none, each_place, after_some}
use Rattle.cut_core.proofs.ExcerptLaws.{below_at, can_cut}
use Rattle.cut_core.proofs.ZipLaws.{zip_at, zip_long, zip_map}
use Rattle.cut_core.specs.Masters.{IsMasterOf, AreLeastChannels, AreMasterChannels, CostLeast, IsLeastChannel, IsMasterChannel, channel_numbers}
use Rattle.cut_core.specs.Claims.{AreLeastBridges, IsLeastClaim, claim_at, claims, windows_total}
use Rattle.judge_core.proofs.JudgeLaws.{channels_least, channels_made, have_shape}
use Rattle.cut_core.proofs.LeastLaws.{cost_least}
use Rattle.cut_core.proofs.TotalLaws.{own_long, windows_are_total}
use Rattle.judge_core.specs.Accepting.{Accepts}
use Rattle.request_core.specs.Cutting.{SaysCut}
use Rattle.judge_core.specs.Laws.{AcceptedCostsLeast, AcceptedCostsWindows, AcceptedIsLeast, AcceptedIsMaster}

-- ---- recordings
-- a recording without marks, kept chunks and tag, on which no bridge depends
abbrev pub plain : Content → Content
plain r = record r { marks = []; others = []; tag = [] }

dsf_shape : (file : List ℕ) (r : Content) (order : BitOrder) → IsDsf file r order → HasShape (plain r)
dsf_shape file r order is =
    let number = fields.channel_number file in
    let sound = drop (fields.sound_place file) file in
    let count = fields.count file in
    let d = dsf.shape_is (stated_header file order) [] (is_sound file _ (leads_of file r order is)) in
    let long : length r.channels ≡ number = ap length is.channels_read ∙ length-map-range_with_len (unblocked order sound number count) 0 number in
    record {
      rate_low = omega (arith, is.rate_read, is.rate_low);
      rate_high = omega (arith, is.rate_read, is.rate_high);
      some_channel = omega (arith, long, is.some_channel);
      six_channels = omega (arith, long, is.six_channels);
      level = subst IsLevel (sym is.channels_read) (unblocked_level order sound number count is.some_channel);
      in_limit = omega (arith, ap count_of is.channels_read, unblocked_count order sound number count is.some_channel, is.not_long);
      id_for_each = ap length is.ids_read ∙ dsf.id_for_each number ∙ sym long;
      layout_fits = ap layout_channels is.layout_read ∙ d.layout_fits ∙ dsf.id_for_each number ∙ sym long;
      short_texts = d.short_texts;
      in_order = refl;
      no_parts = d.no_parts;
    }

-- what a file holds keeps the rules of recordings
pub plain_shape : (file : List ℕ) (form : Form) (r : Content) → HoldsAs file form r → HasShape (plain r)
plain_shape file forms.Dsdiff r is =
    let states = is.states in
    dsdiff.shape_is r.rate is.number r.layout r.channels r.ids is.sound.content [] [] [] [] [] [] states.rate_low states.rate_high states.some_channel states.six_channels
    (ap length is.ids ∙ length-map-range_with_len (λ k. take 4 (drop (4 * k) (drop 2 states.names.content))) 0 is.number) is.channels is.not_long is.layout (All-nil _) refl
plain_shape file forms.Dsf r is = dsf_shape file r LeastFirst is
plain_shape file forms.Dsf8 r is = dsf_shape file r MostFirst is

-- ---- the splice of a project is within its limits
splicing : (s : SpliceContent) (o : Option Data) (q : Option SpliceContent) → SaysOptional IsSplice o q → q ≡ Some s → IsSplicing s.weights (length s.takes) s.cues
splicing s None None h e = absurd cc
splicing s None (Some x) h e = absurd h
splicing s (Some d) None h e = absurd h
splicing s (Some d) (Some x) h e = let same : x ≡ s = cc in subst (λ (k : SpliceContent). IsSplicing k.weights (length k.takes) k.cues) same h.2.limits

-- ---- a cut of files
-- a cut whose first take is plain: it has the same cues and bridges
abbrev pub plain_cut : CutContent → CutContent
plain_cut cut = record cut { first = plain cut.first }

module _ (splice : SpliceContent) (files : List (List ℕ)) (cut : CutContent) (fine : IsSplicing splice.weights (length splice.takes) splice.cues) (opens : OpensCut splice files None cut) where
  abbrev takes : List Content
  takes = opens.takes

  abbrev plains : List Content
  plains = map plain takes

  plain_take : (i : ℕ) → take_at plains i ≡ plain (take_at takes i)
  plain_take i = elim (cases_lt i (length takes)) [
    | inl there ↦ get_or-map plain takes i _ _ there
    | inr past ↦ (
        let nothing : get_or takes i _ ≡ take_at [] 0 = get_or_past takes i _ past in
        let none : get_or plains i _ ≡ plain (take_at [] 0) = get_or_past plains i _ (omega (arith, length-map takes plain, past)) in
        none ∙ ap plain (sym nothing)
        )
  ]

  shape_at : (i : ℕ) → i < length takes → HasShape (plain (take_at takes i))
  shape_at i lt =
      let held = zip_at HoldsSome files takes i [] _ opens.read.held (omega (arith, zip_long HoldsSome files takes opens.read.held, lt)) in
      plain_shape (get_or files i []) held.form (take_at takes i) held.holds

  shaped : All HasShape plains
  shaped = All-map HasShape plain takes (λ k d lt.
      let held = zip_at HoldsSome files takes k [] d opens.read.held (omega (arith, zip_long HoldsSome files takes opens.read.held, lt)) in
      plain_shape (get_or files k []) held.form (get_or takes k d) held.holds)

  fit : FitTakes splice plains
  fit = record {
    as_many = length-map takes plain ∙ opens.fit.as_many;
    alike = All-map (IsAlike plains) plain takes (λ k d lt.
        let h = opens.fit.alike k d lt in
        subst (λ first. AreAlike first (plain (get_or takes k d))) (sym (plain_take 0)) (record { same_rate = h.same_rate; as_many_channels = h.as_many_channels }));
    inside = λ k d lt. subst (λ (r : Content). (get_or splice.cues k d).stop ≤ count_of r.channels) (sym (plain_take (get_or splice.cues k d).take)) (opens.fit.inside k d lt);
    in_limit = opens.fit.in_limit;
  }

  abbrev of_plains : CutContent
  of_plains = plain_cut (cut_with splice takes)

  same_cut : cut_with splice plains ≡ of_plains
  same_cut = λ j. record {
    splice = splice;
    first = silent (plain_take 0 j);
    cued = each_below (length splice.cues) (λ i. each_below (length (plain_take 0 j).channels) (λ c. fades.cued splice i (get_or (plain_take (fades.splice_cue splice i).take j).channels c [])));
    windows = each_below (length splice.cues - 1) (λ i. each_below (length (plain_take 0 j).channels) (λ c. fades.bridging splice i (get_or (plain_take (fades.splice_cue splice i).take j).channels c []) (get_or (plain_take (fades.splice_cue splice (i + 1)).take j).channels c [])));
  }

  can : CanCut (plain_cut cut)
  can = subst (λ k. CanCut (plain_cut k)) (sym opens.cut_is) (subst CanCut same_cut (can_cut splice plains fine fit shaped fades_join))

  -- ---- the window of each bridge is within its limits
  source_long : (c i : ℕ) → c < length (take_at takes 0).channels → i < length splice.cues → (fades.splice_cue splice i).stop ≤ length (source splice takes c i)
  source_long c i there lt =
      let t = (fades.splice_cue splice i).take in
      let in_takes : t < length takes = omega (arith, (cue_fits splice fine i lt).take_is_there, opens.fit.as_many) in
      let alike : IsAlike takes (take_at takes t) = All-get_or (IsAlike takes) takes t _ in_takes opens.fit.alike in
      let inside : IsInside takes (fades.splice_cue splice i) = All-get_or (IsInside takes) splice.cues i _ lt opens.fit.inside in
      let level = (shape_at t in_takes).level.same c [] (omega (arith, there, alike.as_many_channels)) in
      omega (arith, level, inside)

  window_in : (c i : ℕ) → c < length (take_at takes 0).channels → i + 1 < length splice.cues → IsBridging (window (cut_with splice takes) c i)
  window_in c i there lt =
      let number = length (take_at takes 0).channels in
      let at : ℕ → ℕ → Bridging = λ i c. fades.bridging splice i (source splice takes c i) (source splice takes c (i + 1)) in
      let is : window (cut_with splice takes) c i ≡ at i c =
      ap (λ (l : List Bridging). get_or l c no_bridging) (below_at (length splice.cues - 1) (λ i. each_below number (at i)) i [] (omega arith)) ∙ below_at number (at i) c no_bridging there in
      let cue = cue_fits splice fine i (omega arith) in
      let next = cue_fits splice fine (i + 1) lt in
      subst IsBridging (sym is) (bridging_limits splice fine i (source splice takes c i) (fades.splice_cue splice i).stop (source splice takes c (i + 1)) (fades.splice_cue splice (i + 1)).start (omega arith)
      (omega (arith, cue.long_enough)) (source_long c i there (omega arith)) (omega (arith, next.long_enough, source_long c (i + 1) there lt)))

  within : (c i : ℕ) → c < take_channels cut → i + 1 < length cut.splice.cues → IsBridging (window cut c i)
  within = subst (λ (k : CutContent). (c i : ℕ) → c < take_channels k → i + 1 < length k.splice.cues → IsBridging (window k c i)) (sym opens.cut_is)
      (λ c i there lt. window_in c i (omega (arith, there, length-replicate {A = List Bool} (length (take_at takes 0).channels) [])) lt)

-- what a project and files say
module _ (project : List ℕ) (files : List (List ℕ)) (cut : CutContent) (says : SaysCut project files None cut) where
  fine : IsSplicing says.splice.weights (length says.splice.takes) says.splice.cues
  fine = let said = says.project_says in splicing says.splice _ said.project.splice said.says.2.splice said.has

  pub cut_can : CanCut (plain_cut cut)
  cut_can = can says.splice files cut fine says.opens

  pub window_within : (c i : ℕ) → c < take_channels cut → i + 1 < length cut.splice.cues → IsBridging (window cut c i)
  window_within = within says.splice files cut fine says.opens

-- ---- the places of a cut
pub places_from : (cut : CutContent) (n a : ℕ) → a + n ≤ length cut.splice.cues - 1 → All (IsPlace cut) (flat_map (places_after cut) (range_with_len a n))
places_from cut zero a le = All-nil (IsPlace cut)
places_from cut (suc n) a le =
    let here : All (IsPlace cut) (places_after cut a) = elim (cases_lt 0 (cue_at cut a).bridge) [
      | inl some ↦ (
          let ne : (cue_at cut a).bridge ≡ 0 → ⊥ = λ e. omega arith in
          subst (λ l. All (IsPlace cut) l) (sym (after_some cut a ne)) (each_place cut a (omega arith) ne 0 (take_channels cut) (omega arith))
          )
      | inr none ↦ subst (λ l. All (IsPlace cut) l) (sym (after_none cut a (omega arith))) (All-nil (IsPlace cut))
    ] in
    All-append (IsPlace cut) (places_after cut a) (flat_map (places_after cut) (range_with_len (a + 1) n)) here (places_from cut n (a + 1) (omega arith))

-- ---- what is shown
-- a claim of as many bits as its bridge has, within the limits
abbrev IsFitting : Claim → Type 0
IsFitting claim = IsBridging claim.bridging × (length claim.bits ≡ claim.bridging.levels)

shown_least : (cs : List Claim) (es : List Entry) → ShowsAll cs es → All IsFitting cs → All IsLeastClaim cs
shown_least [] [] h each = All-nil IsLeastClaim
shown_least [] (e ∷ es) h each = absurd h
shown_least (c ∷ cs) [] h each = absurd h
shown_least (c ∷ cs) (e ∷ es) h each =
    let fits : IsFitting c = each 0 c (omega arith) in
    All-cons IsLeastClaim c cs (least_from_valid c.bridging (value_in e.rows) e.cost c.bits fits.0 fits.1 h.0.valid) (shown_least cs es h.1 (λ k d lt. each (suc k) d (omega arith)))

module _ (project : List ℕ) (files : List (List ℕ)) (master cert : List ℕ) (cost : ℕ) (is : Accepts project files master cert cost) where
  abbrev cut : CutContent
  cut = is.cut

  abbrev zs : List (List Bool)
  zs = is.recording.channels

  can_be : CanCut (plain_cut cut)
  can_be = cut_can project files cut is.says

  own : IsMasterOf (plain_cut cut) forms.Dsf (plain is.recording)
  own =
      let m = is.is_master in
      record { shape = record { same_rate = m.shape.same_rate; as_many_channels = m.shape.as_many_channels }; long = m.long; titled = λ e. absurd cc; cued = m.cued }

  shape : HasShape (plain is.recording)
  shape = plain_shape master is.form is.recording is.master_holds

  made : AreMasterChannels cut zs
  made = zip_map (IsMasterChannel (plain_cut cut)) (IsMasterChannel cut) (channel_numbers cut) zs (λ c z m. record { bridges = m.bridges; lengths = m.lengths; made = m.made }) (channels_made (plain_cut cut) can_be forms.Dsf (plain is.recording) own shape)

  fitting : All IsFitting (claims cut zs)
  fitting = All-map IsFitting (claim_at cut zs) (bridges cut) (All-weaker (IsPlace cut) (λ p. IsFitting (claim_at cut zs p)) (λ p place.
      let lt = place.cue_there in
      let there = place.channel_there in
      let held = have_shape (plain_cut cut) can_be forms.Dsf (plain is.recording) own shape in
      let long = own_long (plain_cut cut) zs held p.channel p.cue (omega (arith, held.as_many, there)) lt in
      (window_within project files cut is.says p.channel p.cue there lt, long ∙ sym (can_be.windowed p.channel p.cue there lt).levels)) (bridges cut) (places_from cut (length cut.splice.cues - 1) 0 (omega arith)))

  bridges_least : AreLeastBridges cut zs
  bridges_least = shown_least (claims cut zs) is.shown.1 is.shown.2 fitting

  plain_least : AreLeastChannels (plain_cut cut) zs
  plain_least = channels_least (plain_cut cut) can_be forms.Dsf (plain is.recording) own shape bridges_least

  least : AreLeastChannels cut zs
  least = zip_map (IsLeastChannel (plain_cut cut)) (IsLeastChannel cut) (channel_numbers cut) zs (λ c z m. record { bridges = m.bridges; least = m.least; made = m.made }) plain_least

  joint : CostLeast cut zs cost
  joint =
      let j = cost_least (plain_cut cut) can_be least_together zs cost plain_least is.cost_is in
      record {
        own = is.cost_is;
        least = λ others other. j.least others (zip_map (IsMasterChannel cut) (IsMasterChannel (plain_cut cut)) (channel_numbers cut) others (λ c z m. record { bridges = m.bridges; lengths = m.lengths; made = m.made }) other);
      }

  total : cost ≡ windows_total cut zs
  total = is.cost_is ∙ sym (windows_are_total (plain_cut cut) zs can_be (have_shape (plain_cut cut) can_be forms.Dsf (plain is.recording) own shape) is.is_master.cued places_are_windows)

-- ---- the laws
pub accepted_is_master : AcceptedIsMaster
accepted_is_master = λ project files master cert cost is.
    record { cut = is.cut; says = is.says; form = is.form; recording = is.recording; file_holds = is.master_holds; same_rate = is.is_master.shape.same_rate; made = made project files master cert cost is; titled = is.is_master.titled }

pub accepted_is_least : AcceptedIsLeast
accepted_is_least = λ project files master cert cost is. record { cut = is.cut; says = is.says; form = is.form; recording = is.recording; file_holds = is.master_holds; least = least project files master cert cost is }

pub accepted_costs_least : AcceptedCostsLeast
accepted_costs_least = λ project files master cert cost is.
    record { cut = is.cut; says = is.says; form = is.form; recording = is.recording; file_holds = is.master_holds; made = made project files master cert cost is; least = joint project files master cert cost is }

pub accepted_costs_windows : AcceptedCostsWindows
accepted_costs_windows = λ project files master cert cost is. record { cut = is.cut; says = is.says; form = is.form; recording = is.recording; file_holds = is.master_holds; cost_is = total project files master cert cost is }
