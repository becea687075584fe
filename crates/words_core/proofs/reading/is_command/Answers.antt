use Rattle.std.proofs.Common.{◌↔◌, Contains, IsTrue, List, subst, ℕ}
use Rattle.words_core.proofs.ReadingLaws.{among}
use Rattle.words_core.proofs.reading.is_command.Goals as goal

pub returns : goal.returns
returns c = subst (λ (known : List (List ℕ)). IsTrue c.contains.result ↔ Contains known c.args.word.now) c.names.ensures (among c.names.result.now c.args.word c.contains.result c.contains.ensures.cases)
