use Rattle.words_core.specs.Reading.{AddsName, ReadsWord}
use Rattle.words_core.proofs.ReadingLaws.{name_after, on_ok}
use Rattle.words_core.proofs.reading.Words.take.Goals as goal

pub returns-in-NameOnly-clause-read : goal.returns-in-NameOnly-clause-read
returns-in-NameOnly-clause-read c = on_ok (AddsName c.args.self.now c.args.word.now c.name.new.self) (ReadsWord c.args.self.now c.args.word.now c.name.new.self) c.name.result
    (λ adds words was. name_after words c.args.word.now c.args.self.now was c.in-NameOnly.is c.name.new.self adds) c.name.ensures.read
