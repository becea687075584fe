use Rattle.std.proofs.Common.{subst}
use Rattle.dsdarc_c.specs.BareMoves.{BarePulled}
use Rattle.dsdarc_c.proofs.bare_content.BarePlayer.pull.Goals as goal

pub returns : goal.returns
returns c = subst (λ p. BarePulled p c.pull_bits.new.p c.args.out.now c.pull_bits.new.out c.pull_bits.result) c.self.view_is (record {
  count = c.pull_bits.ensures.count;
  given = c.pull_bits.ensures.given;
  others = c.pull_bits.ensures.others;
  same = c.pull_bits.ensures.same;
  plays = c.pull_bits.ensures.plays;
  prefix = c.pull_bits.ensures.prefix;
})
