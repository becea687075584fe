-- What was found of a recording, and the reasons against it.
use Rattle.std.proofs.Common.{◌≡◌, ℕ, ◌+◌, ◌-◌, ◌<◌, Bool, List, [], length, get_or, map, Option, None, Some, sym, ap, subst, ◌∙◌, arith}
use Rattle.std.proofs.lemmas.List.{get_or-map, length-map, length-replicate}
use Rattle.std.proofs.lemmas.List.FromFn.{get_or-map-range_with_len, length-map-range_with_len}
use Rattle.dsd_bits.specs.Channels.{count_of}
use Rattle.dsd_bits.specs.Contents.{Content}
use Rattle.dsd_bits.specs.Shape.{HasShape}
use Rattle.form_core.specs.declared.form.Form.{Form}
use Rattle.cut_core.specs.Bridges.{IsPlace}
use Rattle.cut_core.specs.Cuts.{AreAlike, CutContent, take_channels}
use Rattle.cut_core.specs.declared.bridges.BridgePlace.{BridgePlace}
use Rattle.judge_core.specs.declared.finding.CuedPlace.{CuedPlace}
use Rattle.judge_core.specs.declared.finding.Found.{Found}
use Rattle.request_core.specs.declared.reason.Reason.{Reason}
use Rattle.request_core.specs.declared.reason.Reason.TheVariants.{MasterUnread, MasterShape, MasterLength, MasterMarks, CuedBit, CertHead, Cert, CertExtra}
use Rattle.cut_core.specs.Masters.{HaveShape, HoldCues, IsMasterOf, channel_numbers}
use Rattle.judge_core.specs.Checking.{IsLike, MasterReason, OuterReason, shape_of}
use Rattle.cut_core.specs.Claims.{bridge_bits}
use Rattle.judge_core.specs.Kept.{AreKept, FindsCued, IsFoundOf, bridges_kept, kept_at, kept_items}
use Rattle.cut_core.proofs.TotalLaws.{own_long}

-- ---- a recording q has what another one, r, has besides its bits
module _ (cut : CutContent) (form : Form) (q r : Content) (count : ℕ) (rate : q.rate ≡ r.rate) (many : length q.channels ≡ length r.channels) (marks : q.marks ≡ r.marks) (count_is : count ≡ count_of r.channels) where
  alike : AreAlike cut.first q → AreAlike cut.first r
  alike a = record { same_rate = sym rate ∙ a.same_rate; as_many_channels = sym many ∙ a.as_many_channels }

  back : AreAlike cut.first r → AreAlike cut.first q
  back a = record { same_rate = rate ∙ a.same_rate; as_many_channels = many ∙ a.as_many_channels }

  same_shape : shape_of q ≡ shape_of r
  same_shape = λ j. record { rate = rate j; channels = many j }

  pub like_whole : IsLike cut form q count → IsLike cut form r (count_of r.channels)
  like_whole like = record { shape = alike like.shape; long = sym count_is ∙ like.long; titled = λ dsdiff. sym marks ∙ like.titled dsdiff }

  pub reason_whole : (x : Reason) → OuterReason cut form q count x → MasterReason cut form r x
  reason_whole (MasterShape found wanted) h = (λ a. h.0 (back a), h.1 ∙ same_shape, h.2)
  reason_whole (MasterLength found wanted) h = (alike h.0, λ e. h.1 (count_is ∙ e), h.2 ∙ count_is, h.3)
  reason_whole MasterMarks h = (alike h.0, sym count_is ∙ h.1, h.2, λ e. h.3 (marks ∙ e))
  reason_whole (MasterUnread fault) h = absurd h
  reason_whole (CuedBit c place) h = absurd h
  reason_whole (CertHead reason) h = absurd h
  reason_whole (Cert k reason) h = absurd h
  reason_whole CertExtra h = absurd h

-- ---- where none of those reasons applies
module _ (cut : CutContent) (form : Form) (r : Content) (like : IsLike cut form r (count_of r.channels)) where
  pub like_shape : HasShape r → HaveShape cut r.channels
  like_shape shape = record { as_many = like.shape.as_many_channels; long = λ k d lt. shape.level.same k d lt ∙ like.long }

  pub holds_cues : HoldCues cut (channel_numbers cut) r.channels → IsMasterOf cut form r
  holds_cues cued = record { shape = like.shape; long = like.long; titled = like.titled; cued = cued }

-- ---- bits that are kept
-- those of each channel for the bridge after cue i
rows_at : (cut : CutContent) (zs : List (List Bool)) (i : ℕ) → i + 1 < length cut.splice.cues → get_or (bridges_kept cut zs) i [] ≡ map (λ z. bridge_bits cut z i) zs
rows_at cut zs i lt = get_or-map-range_with_len (λ n. map (λ z. bridge_bits cut z n) zs) 0 (length cut.splice.cues - 1) i i [] (omega (arith, lt)) (omega arith)

-- that of channel c
pub bits_kept : (cut : CutContent) (zs : List (List Bool)) (c i : ℕ) → c < length zs → i + 1 < length cut.splice.cues → kept_at (bridges_kept cut zs) c i ≡ bridge_bits cut (get_or zs c []) i
bits_kept cut zs c i there lt = ap (λ (l : List (List Bool)). get_or l c []) (rows_at cut zs i lt) ∙ get_or-map (λ z. bridge_bits cut z i) zs c [] [] there

kept_shape : (cut : CutContent) (zs : List (List Bool)) → HaveShape cut zs → AreKept cut (bridges_kept cut zs)
kept_shape cut zs shape = record {
  by_cue = length-map-range_with_len (λ n. map (λ z. bridge_bits cut z n) zs) 0 (length cut.splice.cues - 1);
  by_channel = λ i lt. ap length (rows_at cut zs i lt) ∙ length-map zs (λ z. bridge_bits cut z i) ∙ shape.as_many;
  long = λ c i there lt.
      let inside : c < length zs = omega (arith, shape.as_many, there) in
      ap length (bits_kept cut zs c i inside lt) ∙ own_long cut zs shape c i inside lt;
}

-- bits of these channels are as many as the bridges have, and are theirs
pub kept_whole : (cut : CutContent) (zs : List (List Bool)) → HaveShape cut zs → (held_bits : List (List (List Bool))) → held_bits ≡ bridges_kept cut zs → AreKept cut held_bits
kept_whole cut zs shape held_bits is = subst (AreKept cut) (sym is) (kept_shape cut zs shape)

pub kept_bits : (cut : CutContent) (zs : List (List Bool)) → length zs ≡ take_channels cut → (held_bits : List (List (List Bool))) → held_bits ≡ bridges_kept cut zs → (p : BridgePlace) → IsPlace cut p → kept_at held_bits p.channel p.cue ≡ bridge_bits cut (get_or zs p.channel []) p.cue
kept_bits cut zs many held_bits is p at = ap (λ (l : List (List (List Bool))). kept_at l p.channel p.cue) is ∙ bits_kept cut zs p.channel p.cue (omega (arith, many, at.channel_there)) at.cue_there

-- ---- what was found of it
module _ (cut : CutContent) (found : Found) (r : Content) (is : IsFoundOf cut found r) where
  many : length found.recording.channels ≡ length r.channels
  many = ap (λ (q : Content). length q.channels) is.recording_is ∙ length-replicate (length r.channels) []

  pub found_like : IsLike cut found.form found.recording found.count → IsLike cut found.form r (count_of r.channels)
  found_like = like_whole cut found.form found.recording r found.count (ap (λ (q : Content). q.rate) is.recording_is) many (ap (λ (q : Content). q.marks) is.recording_is) is.count_is

  pub found_outer : (x : Reason) → OuterReason cut found.form found.recording found.count x → MasterReason cut found.form r x
  found_outer = reason_whole cut found.form found.recording r found.count (ap (λ (q : Content). q.rate) is.recording_is) many (ap (λ (q : Content). q.marks) is.recording_is) is.count_is

  module _ (like : IsLike cut found.form found.recording found.count) where
    whole : IsLike cut found.form r (count_of r.channels)
    whole = found_like like

    pub found_none : found.differs ≡ None → IsMasterOf cut found.form r
    found_none none = holds_cues cut found.form r whole (subst (λ (o : Option CuedPlace). FindsCued cut r o) none (is.cued whole.shape whole.long))

    pub found_some : (p : CuedPlace) → found.differs ≡ Some p → MasterReason cut found.form r (CuedBit p.channel p.place)
    found_some p some = (whole.shape, whole.long, whole.titled, subst (λ (o : Option CuedPlace). FindsCued cut r o) some (is.cued whole.shape whole.long))

    pub found_kept : AreKept cut (kept_items found.kept.items)
    found_kept = kept_whole cut r.channels (like_shape cut found.form r whole is.shaped) (kept_items found.kept.items) (is.kept whole.shape whole.long)
