use Rattle.std.proofs.Common.{subst, sym}
use Rattle.joined_core.specs.Givers.{Takes}
use Rattle.joined_core.specs.declared.giver.Giver.TheVariants as givers
use Rattle.joined_core.proofs.GiverLaws.{frames_taken}
use Rattle.joined_core.proofs.giver.Giver.take.Goals as goal

pub returns-in_ok-take-in-Frames : goal.returns-in_ok-take-in-Frames
returns-in_ok-take-in-Frames c =
    let more = frames_taken c.in-Frames.giver c.in_ok-take-in-Frames.field-0 c.args.bytes.now c.args.out.now.items c.take-in-Frames.new.out.items c.in_ok-take-in-Frames.ensures in
    subst (λ g. Takes g c.args.bytes.now c.args.out.now.items c.take-in-Frames.new.out.items (givers.Frames c.in_ok-take-in-Frames.field-0)) (sym c.in-Frames.is) more
