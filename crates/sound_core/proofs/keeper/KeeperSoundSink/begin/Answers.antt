use Rattle.std.proofs.Common.{[], refl, subst, sym}
use Rattle.sound_core.specs.Keepers.{Keeps}
use Rattle.sound_core.proofs.KeeperLaws.{keeps_none}
use Rattle.sound_core.proofs.keeper.KeeperSoundSink.begin.Goals as goal

pub returns-clause-has : goal.returns-clause-has
returns-clause-has c = record {
  same = refl;
  keeps = subst (λ xs. Keeps c.args.sound c.args.self.now.ranges.now 0 xs []) (sym c.in_ok-self.ensures) (keeps_none c.args.sound c.args.self.now.ranges.now _ c.requires.fed.is_sound c.requires.fed.whole refl);
}
