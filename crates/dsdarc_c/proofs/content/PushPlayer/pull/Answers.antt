use Rattle.std.proofs.Common.{subst}
use Rattle.dsdarc_c.specs.Calls.{Pulled}
use Rattle.dsdarc_c.proofs.content.PushPlayer.pull.Goals as goal

pub returns : goal.returns
returns c = subst (λ p. Pulled p c.pull.new.p c.args.out.now c.pull.new.out c.pull.result) c.self.view_is (record {
  count = c.pull.ensures.count;
  given = c.pull.ensures.given;
  others = c.pull.ensures.others;
  left = c.pull.ensures.left;
  same = c.pull.ensures.same;
  gives = record { plays = c.pull.ensures.plays; prefix = c.pull.ensures.prefix };
  whole = c.pull.ensures.whole;
})
