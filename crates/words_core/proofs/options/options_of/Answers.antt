use Rattle.words_core.proofs.ReadingLaws.{convert_options, play_options, sum_options}
use Rattle.words_core.proofs.options.options_of.Goals as goal

pub returns-in-play : goal.returns-in-play
returns-in-play c = play_options c.args.command.now c.in-play.is

pub returns-in-convert : goal.returns-in-convert
returns-in-convert c = convert_options c.args.command.now c.in-convert.is

pub returns-in-sum : goal.returns-in-sum
returns-in-sum c = sum_options c.args.command.now c.in-sum.is
