use Rattle.words_core.specs.Lines.{TakesValue}
use Rattle.words_core.specs.Reading.{AddsValue, ReadsWord}
use Rattle.words_core.specs.declared.reading.Next.TheVariants.{Any}
use Rattle.words_core.proofs.ReadingLaws.{on_ok, value_ends}
use Rattle.words_core.proofs.reading.Words.next_value.Goals as goal

pub returns-else-starts_with-clause-read : goal.returns-else-starts_with-clause-read
returns-else-starts_with-clause-read c = λ waits.
    on_ok (TakesValue c.args.option → AddsValue (record c.args.self.now { next = Any }) c.args.option c.args.word.now c.value.new.self) (ReadsWord c.args.self.now c.args.word.now c.value.new.self) c.value.result
    (λ adds words was. value_ends words c.args.word.now c.args.option c.args.self.now was waits c.value.new.self (rw c.if-starts_with.false at c.starts_with.ensures.cases) adds) c.value.ensures.read
