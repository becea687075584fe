use Rattle.std.proofs.Common.{arith}
use Rattle.std.proofs.lemmas.Result.{IfErr-weaker}
use Rattle.sound_core.proofs.TakingLaws.{part_within}
use Rattle.player_core.specs.Joining.{PushesOn}
use Rattle.player_core.proofs.JoinLaws.{on_ok}
use Rattle.player_core.proofs.sink.PlayingSinkSoundSink.take.Goals as goal

pub push-requires : goal.push-requires
push-requires g c = let fed = c.requires.fed in record { few = (fed.0, c.args._part.sound, fed.1, fed.3, omega (arith, part_within c.args._part fed.1 fed.2, c.requires.size)); takes = λ p is. tt }

pub returns-clause-has : goal.returns-clause-has
returns-clause-has g c = on_ok c.push.result _ _ (λ (pushes : PushesOn g.W.Write.contents c.args.self.now c.push.new.self c.args.bytes.now) first before fed is. pushes first c.args._part.sound before is) c.push.ensures.has

pub returns-clause-refused : goal.returns-clause-refused
returns-clause-refused g c = IfErr-weaker c.push.result _ _ (λ f refuses first before fed is. refuses first c.args._part.sound before is) c.push.ensures.refused
