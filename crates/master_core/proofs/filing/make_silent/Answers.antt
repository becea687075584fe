use Rattle.std.proofs.Common.{◌≡◌, ◌∙◌, Bool, List, [], ap, ap₂, replicate, sym, subst}
use Rattle.dsd_bits.specs.Contents.{Content, Described, described_of, with_channels}
use Rattle.dsd_bits.specs.Shape.{AreDescribed, IsDescription}
use Rattle.cut_core.specs.Cuts.{take_channels}
use Rattle.master_core.proofs.FilingLaws.{are_silent, description_shape, silent_description}
use Rattle.master_core.proofs.MasterLaws.{described_is}
use Rattle.master_core.proofs.filing.make_silent.Goals as goal
use Rattle.master_core.proofs.filing.make_silent.Goals.{After-layout}

said : (c : After-layout) → described_of c.rate.result 0 c.in_ok-ids.ids.items c.layout.result c.in_ok-marks.marks.items c.new.result.items c.new-2.result.items ≡ silent_description c.args.cut.now c.args.form
said c =
    let first = c.first-first.ensures in
    described_is c.args.cut.now.first 0 c.rate.result c.in_ok-ids.ids.items c.layout.result c.in_ok-marks.marks.items _ c.new.result.items c.new-2.result.items
    (c.rate.ensures.value ∙ ap (λ (r : Content). r.rate) first) (c.in_ok-ids.ensures.items ∙ c.ids.ensures ∙ ap (λ (r : Content). r.ids) first) (c.layout.ensures ∙ ap (λ (r : Content). r.layout) first) c.in_ok-marks.ensures c.new.ensures.items c.new-2.ensures.items

empty : (c : After-layout) → c.in_ok-channels.channels.items ≡ replicate (take_channels c.args.cut.now) []
empty c = c.in_ok-channels.ensures ∙ ap (λ n. replicate {A = List Bool} n []) c.channel_number.ensures.value

pub new-description-requires : goal.new-description-requires
new-description-requires c = record { shape = subst IsDescription (sym (said (goal.at.new-description-requires c).After-layout)) (description_shape c.args.cut.now c.can_cut.ensures c.args.form) }

pub new-recording-requires : goal.new-recording-requires
new-recording-requires c =
    let h = (goal.at.new-recording-requires c).After-layout in
    let some = subst (AreDescribed (silent_description c.args.cut.now c.args.form)) (sym (empty h)) (are_silent c.args.cut.now c.can_cut.ensures c.args.form) in
    subst (λ (d : Described). AreDescribed d c.in_ok-channels.channels.items) (sym (c.new-description.ensures ∙ said h)) some

pub returns : goal.returns
returns c =
    let h = (goal.at.returns c).After-layout in
    c.new-recording.ensures ∙ ap₂ with_channels (c.new-description.ensures ∙ said h) (empty h)
