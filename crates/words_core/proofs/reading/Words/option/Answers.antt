use Rattle.std.proofs.Common.{◌∙◌, ◌++◌, ap, codes, subst}
use Rattle.words_core.specs.Lines.{Takes, TakesValue}
use Rattle.words_core.specs.Reading.{AddsValue, ReadsWord}
use Rattle.words_core.proofs.ReadingLaws.{awaits, flag_ends, joined_ends, on_ok, option_is, option_waits}
use Rattle.words_core.proofs.reading.Words.option.Goals as goal

pub returns-in-Some-2-clause-read : goal.returns-in-Some-2-clause-read
returns-in-Some-2-clause-read c = λ any.
    let option = c.in-Some.option in
    let new = c.value.new.self in
    let named = c.in-Some.ensures in
    let takes_value = c.is_flag-is_flag.ensures.value c.if-is_flag.false in
    on_ok (TakesValue option → AddsValue c.args.self.now option c.in-Some-2.value.now new) (ReadsWord c.args.self.now c.args.word.now new) c.value.result
    (λ adds words was. joined_ends words c.args.word.now c.args.self.now was any option c.in-Some-2.value.now new
    (awaits was.line c.args.self.now option was.is_read named.1 takes_value (c.has.ensures c.if-has.false))
    (rw c.in-Some-2.is at c.parts_of.ensures ∙ ap (λ o. (codes "--" ++ o) ++ codes "=" ++ c.in-Some-2.value.now) named.0) (adds takes_value))
    c.value.ensures.read

pub returns-in-None-clause-read : goal.returns-in-None-clause-read
returns-in-None-clause-read c = λ any words was.
    let option = c.in-Some.option in
    let named = c.in-Some.ensures in
    flag_ends words c.args.word.now c.args.self.now was any option c.set_flag.new.self (subst (λ command. Takes command option) was.is_read.command named.1)
    (c.is_flag-is_flag.ensures.flag c.if-is_flag-2.true)
    (option_is option c.parts_of.result.0.now c.args.word.now named.0 (rw c.in-None.is at c.parts_of.ensures)) c.set_flag.ensures

pub returns-in-None-2-clause-read : goal.returns-in-None-2-clause-read
returns-in-None-2-clause-read c = λ any words was.
    let option = c.in-Some.option in
    let named = c.in-Some.ensures in
    option_waits words c.args.word.now c.args.self.now was any option
    (awaits was.line c.args.self.now option was.is_read named.1 (c.is_flag-is_flag.ensures.value c.if-is_flag-2.false) (c.has.ensures c.if-has.false))
    (option_is option c.parts_of.result.0.now c.args.word.now named.0 (rw c.in-None-2.is at c.parts_of.ensures))
