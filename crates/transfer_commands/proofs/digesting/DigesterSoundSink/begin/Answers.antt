use Rattle.transfer_commands.proofs.DigestLaws.{digests_none}
use Rattle.transfer_commands.proofs.digesting.DigesterSoundSink.begin.Goals as goal

pub returns-clause-has : goal.returns-clause-has
returns-clause-has c = digests_none c.args.sound _ c.in_ok-self.ensures
