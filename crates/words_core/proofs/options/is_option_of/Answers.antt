use Rattle.words_core.proofs.ReadingLaws.{option_found}
use Rattle.words_core.proofs.options.is_option_of.Goals as goal

pub returns : goal.returns
returns c = λ is.
    let found = rw is at c.contains.ensures.cases in
    option_found c.args.command.now c.options_of.result.now c.args.option found.0 c.options_of.ensures found.1 (found.2 c.args.option)
