-- The recording of a master, and that there is one at most.
use Rattle.std.proofs.Common.{◌≡◌, ℕ, suc, ◌+◌, ◌<◌, ◌≤◌, ◌^◌, Bool, true, false, List, [], ◌∷◌, length, map, reverse, Option, Some, None, refl, sym, ap, subst, ◌∙◌, arith}
use Rattle.std.specs.List.{All, AllZip}
use Rattle.std.proofs.lemmas.List.Elements.{All-append, All-cons, All-get_or, All-nil}
use Rattle.std.proofs.lemmas.List.{length-reverse, reverse-reverse}
use Rattle.dsd_bits.specs.Channels.{count_of}
use Rattle.dsd_bits.specs.Contents.{Content, MarkContent, described_of, mark_content}
use Rattle.dsd_bits.specs.Shape.{HasShape}
use Rattle.dsd_bits.specs.declared.marks.Mark.{Mark}
use Rattle.dsd_bits.specs.declared.marks.Other.{Other}
use Rattle.splice_core.specs.Cues.{CueContent, IsCueWithin}
use Rattle.cost_core.specs.Channels.{HaveLengths, Part}
use Rattle.cost_core.specs.Least.{IsFirstLeast, NotAfter}
use Rattle.form_core.specs.declared.form.Form.{Form}
use Rattle.form_core.specs.declared.form.Form.TheVariants as forms
use Rattle.cut_core.specs.Cuts.{CutContent, master_length, span, take_channels}
use Rattle.cut_core.specs.Keeping.{CanCut}
use Rattle.cut_core.specs.Titles.{mark_of_title, titles_from}
use Rattle.cut_core.proofs.CutLaws.{first_shape}
use Rattle.cut_core.proofs.ZipLaws.{zip_map, zip_numbers_long, zip_range}
use Rattle.cut_core.specs.Masters.{HaveShape, HoldCues, IsMasterOf, rebuilt, AreLeastChannels, AreMasterChannels, IsLeastChannel, IsLeastPart, IsMasterChannel, channel_numbers, master_channel, parts_of, total_cost}
use Rattle.master_core.specs.Best.{AreBestChannels, IsBestChannel, IsBestMaster, IsFirstLeastPart, marks_in, master_of}
use Rattle.cut_core.proofs.ChannelLaws.{is_rebuilt}

-- ---- first least bits
-- first least bits have the bridges' lengths
pub best_lengths : (ps : List Part) (xs : List (List Bool)) → AllZip IsFirstLeastPart ps xs → HaveLengths ps xs
unfolding HaveLengths
best_lengths [] [] h = tt
best_lengths [] (x ∷ xs) h = absurd h
best_lengths (p ∷ ps) [] h = absurd h
best_lengths (p ∷ ps) (x ∷ xs) h = (h.0.is_least.long, best_lengths ps xs h.1)

-- the first least bits are least
pub best_are_least : (cut : CutContent) (zs : List (List Bool)) → AreBestChannels cut zs → AreLeastChannels cut zs
best_are_least cut zs best = zip_map (IsBestChannel cut) (IsLeastChannel cut) (channel_numbers cut) zs
    (λ c z made. record { bridges = made.bridges; least = zip_map IsFirstLeastPart IsLeastPart (parts_of cut c) made.bridges (λ p x first. first.is_least) made.best; made = made.made }) best

-- ---- its shape
title_short : (rate place : ℕ) (title : Option (List ℕ)) → ((t : List ℕ) → title ≡ Some t → length t ≤ 255) → All (λ (mark : MarkContent). length mark.text < 2 ^ 32) (mark_of_title rate place title)
title_short rate place None h = All-nil (λ (mark : MarkContent). length mark.text < 2 ^ 32)
title_short rate place (Some t) h = All-cons (λ (mark : MarkContent). length mark.text < 2 ^ 32) _ [] (omega (arith, h t refl)) (All-nil (λ (mark : MarkContent). length mark.text < 2 ^ 32))

titles_short : (rate place weights takes : ℕ) (cues : List CueContent) → All (IsCueWithin weights takes) cues → All (λ (mark : MarkContent). length mark.text < 2 ^ 32) (titles_from rate place cues)
unfolding titles_from
titles_short rate place weights takes [] h = All-nil (λ (mark : MarkContent). length mark.text < 2 ^ 32)
titles_short rate place weights takes (cue ∷ cues) h =
    let fits : IsCueWithin weights takes cue = h 0 cue (omega arith) in
    All-append (λ (mark : MarkContent). length mark.text < 2 ^ 32) (mark_of_title rate place cue.title) (titles_from rate (place + span cue) cues) (title_short rate place cue.title fits.title_fits) (titles_short rate (place + span cue) weights takes cues (λ k d lt. h (suc k) d (omega arith)))

pub marks_short : (form : Form) (cut : CutContent) → CanCut cut → All (λ (mark : MarkContent). length mark.text < 2 ^ 32) (marks_in form cut)
marks_short forms.Dsdiff cut can = titles_short cut.first.rate 0 (length cut.splice.weights) (length cut.splice.takes) cut.splice.cues can.splicing.each_fits
marks_short forms.Dsf cut can = All-nil (λ (mark : MarkContent). length mark.text < 2 ^ 32)
marks_short forms.Dsf8 cut can = All-nil (λ (mark : MarkContent). length mark.text < 2 ^ 32)

module _ (cut : CutContent) (can : CanCut cut) (form : Form) (zs : List (List Bool)) (best : AreBestChannels cut zs) (long : All (λ z. length z ≡ master_length cut.splice.cues) zs) where
  as_many : length zs ≡ take_channels cut
  as_many = zip_numbers_long (IsBestChannel cut) (take_channels cut) zs best

  pub shape_is : HaveShape cut zs
  shape_is = record { as_many = as_many; long = long }

  count_is : count_of zs ≡ master_length cut.splice.cues
  count_is = let first = first_shape cut can in All-get_or (λ z. length z ≡ master_length cut.splice.cues) zs 0 [] (omega (arith, as_many, first.some_channel)) long

  pub master_shape : HasShape (master_of cut form zs)
  master_shape =
      let first = first_shape cut can in
      record {
        rate_low = first.rate_low;
        rate_high = first.rate_high;
        some_channel = omega (arith, as_many, first.some_channel);
        six_channels = omega (arith, as_many, first.six_channels);
        level = record { same = λ k d lt. long k d lt ∙ sym count_is };
        in_limit = omega (arith, count_is, can.in_limit);
        id_for_each = first.id_for_each ∙ sym as_many;
        layout_fits = first.layout_fits ∙ sym as_many;
        short_texts = marks_short form cut can;
        in_order = refl;
        no_parts = All-nil _;
      }

  pub cues_held : HoldCues cut (channel_numbers cut) zs
  cues_held = zip_range (IsBestChannel cut) (λ c z. z ≡ rebuilt cut c z) (take_channels cut) 0 zs
      (λ c z low high made. is_rebuilt cut can c (omega arith) z made.bridges (best_lengths (parts_of cut c) made.bridges made.best) made.made) best

  -- first least bits are some bits
  pub are_channels : AreMasterChannels cut zs
  are_channels = zip_range (IsBestChannel cut) (IsMasterChannel cut) (take_channels cut) 0 zs (λ c z low high made. record { bridges = made.bridges; lengths = best_lengths (parts_of cut c) made.bridges made.best; made = made.made }) best

  pub is_master : (r : Content) → r ≡ master_of cut form zs → IsMasterOf cut form r
  is_master r is =
      let channels = ap (λ (x : Content). x.channels) is in
      record {
        shape = record { same_rate = ap (λ (x : Content). x.rate) is; as_many_channels = ap length channels ∙ as_many };
        long = ap count_of channels ∙ count_is;
        titled = λ e. ap (λ (x : Content). x.marks) is ∙ ap (λ (f : Form). marks_in f cut) e;
        cued = subst (HoldCues cut (channel_numbers cut)) (sym channels) cues_held;
      }

-- the parts in memory say what its description says
pub described_is : (first : Content) (count : ℕ) (rate : ℕ) (ids : List (List ℕ)) (layout : ℕ) (marks : List Mark) (stated : List MarkContent) (others : List Other) (tag : List ℕ)
    → rate ≡ first.rate → ids ≡ first.ids → layout ≡ first.layout → map mark_content marks ≡ stated → others ≡ [] → tag ≡ []
    → described_of rate count ids layout marks others tag ≡ record { rate = first.rate; count = count; ids = first.ids; layout = first.layout; marks = stated; others = []; tag = [] }
described_is first count rate ids layout marks stated others tag e f g h i j = rw (e, f, g, h, i, j) refl

-- ---- there is one at most
not_after_both : (xs ys : List Bool) → length xs ≡ length ys → NotAfter xs ys → NotAfter ys xs → xs ≡ ys
unfolding NotAfter
not_after_both [] [] e h k = refl
not_after_both [] (y ∷ ys) e h k = absurd (omega arith)
not_after_both (x ∷ xs) [] e h k = absurd h
not_after_both (false ∷ xs) (false ∷ ys) e h k = ap (λ l. false ∷ l) (not_after_both xs ys (omega arith) h k)
not_after_both (true ∷ xs) (true ∷ ys) e h k = ap (λ l. true ∷ l) (not_after_both xs ys (omega arith) h k)
not_after_both (false ∷ xs) (true ∷ ys) e h k = absurd k
not_after_both (true ∷ xs) (false ∷ ys) e h k = absurd h

pub one_first_least : (levels : ℕ) (cost : List Bool → ℕ) (x y : List Bool) → IsFirstLeast levels cost x → IsFirstLeast levels cost y → x ≡ y
one_first_least levels cost x y h k =
    let same : cost y ≡ cost x = omega (arith, h.is_least.least y k.is_least.long, k.is_least.least x h.is_least.long) in
    let long : length (reverse x) ≡ length (reverse y) = length-reverse x ∙ h.is_least.long ∙ sym (length-reverse y ∙ k.is_least.long) in
    let turned = not_after_both (reverse x) (reverse y) long (h.first y k.is_least.long same) (k.first x h.is_least.long (sym same)) in
    sym (reverse-reverse x) ∙ ap reverse turned ∙ reverse-reverse y

one_choice : (ps : List Part) (xs ys : List (List Bool)) → AllZip IsFirstLeastPart ps xs → AllZip IsFirstLeastPart ps ys → xs ≡ ys
one_choice [] [] [] h k = refl
one_choice [] [] (y ∷ ys) h k = absurd k
one_choice [] (x ∷ xs) ys h k = absurd h
one_choice (p ∷ ps) [] ys h k = absurd h
one_choice (p ∷ ps) (x ∷ xs) [] h k = absurd k
one_choice (p ∷ ps) (x ∷ xs) (y ∷ ys) h k =
    let one = one_first_least _ _ x y h.0 k.0 in
    let rest = one_choice ps xs ys h.1 k.1 in
    rw (one, rest) refl

one_channel : (cut : CutContent) (c : ℕ) (x y : List Bool) → IsBestChannel cut c x → IsBestChannel cut c y → x ≡ y
one_channel cut c x y h k = h.made ∙ ap (master_channel cut c) (one_choice (parts_of cut c) h.bridges k.bridges h.best k.best) ∙ sym k.made

one_channels : (cut : CutContent) (cs : List ℕ) (xs ys : List (List Bool)) → AllZip (IsBestChannel cut) cs xs → AllZip (IsBestChannel cut) cs ys → xs ≡ ys
one_channels cut [] [] [] h k = refl
one_channels cut [] [] (y ∷ ys) h k = absurd k
one_channels cut [] (x ∷ xs) ys h k = absurd h
one_channels cut (c ∷ cs) [] ys h k = absurd h
one_channels cut (c ∷ cs) (x ∷ xs) [] h k = absurd k
one_channels cut (c ∷ cs) (x ∷ xs) (y ∷ ys) h k =
    let one = one_channel cut c x y h.0 k.0 in
    let rest = one_channels cut cs xs ys h.1 k.1 in
    rw (one, rest) refl

pub one_master : (cut : CutContent) (form : Form) (r s : Content) (m n : ℕ) → IsBestMaster cut form r m → IsBestMaster cut form s n → (r ≡ s) × (m ≡ n)
one_master cut form r s m n h k =
    let same = one_channels cut _ h.channels k.channels h.best k.best in
    (h.recording_is ∙ ap (master_of cut form) same ∙ sym k.recording_is, h.cost_is ∙ ap (total_cost cut) same ∙ sym k.cost_is)
