use Rattle.std.proofs.Common.{codes}
use Rattle.std.specs.Cmp.Lexicographic.{same_text}
use Rattle.words_core.specs.Reading.{AddsName, ReadsWord}
use Rattle.words_core.proofs.ReadingLaws.{items_end, name_ends, on_ok}
use Rattle.words_core.proofs.reading.Words.any.Goals as goal

pub returns-then-not-is_option-clause-read : goal.returns-then-not-is_option-clause-read
returns-then-not-is_option-clause-read c = λ any. on_ok (AddsName c.args.self.now c.args.word.now c.name.new.self) (ReadsWord c.args.self.now c.args.word.now c.name.new.self) c.name.result
    (λ adds words was. name_ends words c.args.word.now c.args.self.now was any c.name.new.self (c.is_option.ensures c.if-not-is_option.true) adds) c.name.ensures.read

pub returns-then-eq-clause-read : goal.returns-then-eq-clause-read
returns-then-eq-clause-read c = λ any words was. items_end words c.args.word.now c.args.self.now was any (same_text c.args.word.now (codes "--") c.if-eq.ensures)
