use Rattle.std.proofs.Common.{subst}
use Rattle.dsdarc_c.specs.Calls.{PulledNumbers}
use Rattle.dsdarc_c.proofs.content.PushPlayer.pull_numbers.Goals as goal

pub returns : goal.returns
returns c = subst (λ p. PulledNumbers p c.pull_numbers.new.p c.args.out.now c.pull_numbers.new.out c.pull_numbers.result) c.self.view_is (record {
  count = c.pull_numbers.ensures.count;
  given = c.pull_numbers.ensures.given;
  others = c.pull_numbers.ensures.others;
  same = c.pull_numbers.ensures.same;
  gives = record { plays = c.pull_numbers.ensures.plays; prefix = c.pull_numbers.ensures.prefix };
  whole = c.pull_numbers.ensures.whole;
})
