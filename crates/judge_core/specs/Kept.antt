-- What is found of a master whose bits are no longer in memory, and kept of its bridges.
use Rattle.std.specs.Prelude.{◌≡◌, ℕ, ◌+◌, ◌-◌, ◌<◌, Bool, List, None, [], Option, Vec, MatchOption, length, map, slice_index_or}
use Rattle.std.specs.declared.alloc.Global.{Global}
use Rattle.std.specs.List.{range_with_len}
use Rattle.dsd_bits.specs.Channels.{count_of}
use Rattle.dsd_bits.specs.Contents.{Content}
use Rattle.dsd_bits.specs.Shape.{HasShape}
use Rattle.dsd_bits.specs.Stretches.{silent}
use Rattle.cert_core.specs.Certificates.{Claim}
use Rattle.cut_core.specs.Bridges.{IsPlace}
use Rattle.cut_core.specs.Cuts.{AreAlike, CutContent, cue_at, master_length, take_channels}
use Rattle.cut_core.specs.declared.bridges.BridgePlace.{BridgePlace}
use Rattle.judge_core.specs.declared.finding.CuedPlace.{CuedPlace}
use Rattle.judge_core.specs.declared.finding.Found.{Found}
use Rattle.cut_core.specs.Masters.{HaveShape, HoldCues, channel_numbers}
use Rattle.judge_core.specs.Checking.{IsFirstCuedBit}
use Rattle.cut_core.specs.Claims.{bridge_bits, claim_of}
use Rattle.judge_core.specs.Comparing.{FindsOff}

-- ---- bits that are kept
-- by cue but the last, and by channel, the bits of the bridge after it
abbrev pub bridges_kept : CutContent → List (List Bool) → List (List (List Bool))
bridges_kept cut zs = map (λ i. map (λ z. bridge_bits cut z i) zs) (range_with_len 0 (length cut.splice.cues - 1))

-- the same as held in memory
abbrev pub kept_items : List (Vec (List Bool) Global) → List (List (List Bool))
kept_items kept = map (λ (row : Vec (List Bool) Global). row.items) kept

-- what was kept in channel c for the bridge after cue i
abbrev pub kept_at : List (List (List Bool)) → ℕ → ℕ → List Bool
kept_at held_bits c i = slice_index_or (slice_index_or held_bits i []) c []

-- by cue and by channel there are as many bits as each bridge has
pub record AreKept (cut : CutContent) (held_bits : List (List (List Bool))) : Type 0 where
  pub by_cue : length held_bits ≡ length cut.splice.cues - 1
  pub by_channel : (i : ℕ) → i + 1 < length cut.splice.cues → length (slice_index_or held_bits i []) ≡ take_channels cut
  pub long : (c i : ℕ) → c < take_channels cut → i + 1 < length cut.splice.cues → length (kept_at held_bits c i) ≡ (cue_at cut i).bridge

-- what a certificate must show of the kept bits of the bridge at a place
abbrev pub claim_from : CutContent → List (List (List Bool)) → BridgePlace → Claim
claim_from cut held_bits p = claim_of cut p (kept_at held_bits p.channel p.cue)

-- the same of what memory holds of it
abbrev pub kept_claim : CutContent → List (Vec (List Bool) Global) → BridgePlace → Claim
kept_claim cut kept p = claim_from cut (kept_items kept) p

-- the kept bits are those of a master with these channels
abbrev pub AreBitsOf : CutContent → List (List (List Bool)) → List (List Bool) → Type 0
AreBitsOf cut held_bits zs = (p : BridgePlace) → IsPlace cut p → kept_at held_bits p.channel p.cue ≡ bridge_bits cut (slice_index_or zs p.channel []) p.cue

-- ---- what was found of a master whose bits are no longer in memory
-- the first bit that isn't that of a cue, if there is one
abbrev pub FindsCued : CutContent → Content → Option CuedPlace → Type 0
FindsCued cut r place = MatchOption place (HoldCues cut (channel_numbers cut) r.channels) (λ p. IsFirstCuedBit cut r p.channel p.place)

-- for each channel the first bit that isn't that of the cue there, if there is one
abbrev pub FindAllOff : CutContent → List (List Bool) → List (Option ℕ) → Type 0
FindAllOff cut zs firsts = (c : ℕ) → c < take_channels cut → FindsOff cut c (slice_index_or zs c []) (slice_index_or firsts c None)

-- this was found of a recording, and kept of its bridges, if it has the shape and the length of a master
pub record IsFoundOf (cut : CutContent) (found : Found) (r : Content) : Type 0 where
  pub shaped : HasShape r
  pub recording_is : found.recording ≡ silent r
  pub count_is : found.count ≡ count_of r.channels
  pub cued : AreAlike cut.first r → count_of r.channels ≡ master_length cut.splice.cues → FindsCued cut r found.differs
  pub kept : AreAlike cut.first r → count_of r.channels ≡ master_length cut.splice.cues → kept_items found.kept.items ≡ bridges_kept cut r.channels

-- P holds of each recording of which this was found
abbrev pub ForFoundOf : CutContent → Found → (Content → Type 0) → Type 0
ForFoundOf cut found P = (r : Content) → IsFoundOf cut found r → P r

-- in each recording that has these first bits by channel, the first bit that isn't that of a cue, if there is one
abbrev pub FindsLowest : CutContent → List (Option ℕ) → Option CuedPlace → Type 0
FindsLowest cut firsts place = (r : Content) → HaveShape cut r.channels → FindAllOff cut r.channels firsts → FindsCued cut r place
