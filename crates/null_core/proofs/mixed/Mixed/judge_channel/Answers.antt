use Rattle.std.proofs.Common.{◌≡◌, map, subst, sym}
use Rattle.std.proofs.lemmas.Result.{IfOk-weaker}
use Rattle.clip_core.specs.Contents.{mix_content}
use Rattle.null_core.specs.Judging.{JudgesChannel, judged_items}
use Rattle.null_core.specs.Parts.{AskedContent, IsAsked, part_content}
use Rattle.null_core.specs.Reading.{ArePartsOf, JudgesChannelOf, MixedContent}
use Rattle.null_core.specs.View.{mixed_content}
use Rattle.null_core.proofs.ChannelLaws.{is_asked, judged_of}
use Rattle.null_core.proofs.mixed.Mixed.judge_channel.Goals as goal
use Rattle.null_core.proofs.mixed.Mixed.judge_channel.Given.{Over}
use Rattle.null_core.proofs.mixed.Mixed.judge_channel.Goals.{After-deref}

-- what is asked for, by the mix
asked : (g : Over) → After-deref g → AskedContent
asked g c = record { unit = c.self.inside.mix.unit; audible = (mix_content c.self.inside.mix).audible; every = c.self.inside.mix.every; parts = map part_content c.in_ok-parts.parts.items }

asked_is : (g : Over) (c : After-deref g) → record { unit = c.self.inside.mix.unit; audible = c.self.inside.audible; every = c.self.inside.mix.every; parts = map part_content c.deref.result.now } ≡ asked g c
unfolding asked
asked_is g c j = record { unit = c.self.inside.mix.unit; audible = c.self.invariant.audible j; every = c.self.inside.mix.every; parts = map part_content (c.deref.ensures.value j) }

parts_are : (g : Over) (c : After-deref g) → ArePartsOf (mixed_content c.self.inside) c.args.channel (map part_content c.in_ok-parts.parts.items)
parts_are g c = subst (λ (m : MixedContent). ArePartsOf m c.args.channel (map part_content c.in_ok-parts.parts.items)) (sym c.self.view_is) c.in_ok-parts.ensures.parts

pub judge_channel-requires : goal.judge_channel-requires
unfolding asked
judge_channel-requires g c =
    let here = (goal.at.judge_channel-requires g c).After-deref in
    subst IsAsked (sym (asked_is g c)) (is_asked (mixed_content c.self.inside) c.self.invariant.mixed c.self.inside.mix.limits c.args.channel (map part_content c.in_ok-parts.parts.items) (parts_are g c) c.in_ok-parts.ensures.fit)

pub returns : goal.returns
unfolding asked
returns g c =
    let here = (goal.at.returns g c).After-deref in
    IfOk-weaker c.judge_channel.result _ (λ found. JudgesChannelOf c.args.self.now c.args.channel c.args.bits.now (judged_items found)) (λ found judges.
    subst (λ (m : MixedContent). JudgesChannelOf m c.args.channel c.args.bits.now (judged_items found)) c.self.view_is
    (judged_of (mixed_content c.self.inside) c.args.channel (map part_content c.in_ok-parts.parts.items) (parts_are g here) c.args.bits.now (judged_items found)
    (subst (λ (a : AskedContent). JudgesChannel a c.args.bits.now (judged_items found)) (asked_is g here) judges))) c.judge_channel.ensures
