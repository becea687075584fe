use Rattle.std.proofs.Common.{subst}
use Rattle.dsdarc_c.specs.JoinedMoves.{JoinedPulled}
use Rattle.dsdarc_c.proofs.joined_content.JoinedPlayer.pull.Goals as goal

pub returns : goal.returns
returns c = subst (λ p. JoinedPulled p c.pull_joined.new.p c.args.out.now c.pull_joined.new.out c.pull_joined.result) c.self.view_is (record {
  count = c.pull_joined.ensures.count;
  given = c.pull_joined.ensures.given;
  others = c.pull_joined.ensures.others;
  same = c.pull_joined.ensures.same;
  plays = c.pull_joined.ensures.plays;
  prefix = c.pull_joined.ensures.prefix;
})
