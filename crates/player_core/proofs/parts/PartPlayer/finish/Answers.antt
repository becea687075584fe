use Rattle.std.proofs.Common.{◌-◌, slice_range}
use Rattle.std.proofs.lemmas.Result.{on_ok_weaker}
use Rattle.player_core.proofs.PartFeedLaws.{part_all_on}
use Rattle.player_core.proofs.parts.PartPlayer.finish.Goals as goal

pub returns-clause-ok : goal.returns-clause-ok
returns-clause-ok c =
    let p = c.args.self.now in
    let own = c.finish.new.out.items in
    let finishes = rw c.clear.ensures.items at c.in_ok-finish.ensures.ok in
    on_ok_weaker c.move_within.result (λ given. (
      slice_range own (p.skip - p.given) (p.stop - p.given),
      given,
      part_all_on p own finishes,
    )) c.move_within.ensures
