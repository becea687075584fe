use Rattle.std.proofs.Common.{◌∙◌, ◌∷◌, Contains, List, ap, map, refl, rules, string_bytes, subst, sym, true≢false, ℕ}
use Rattle.std.proofs.lemmas.Result.{err_from_is_err_and}
use Rattle.words_core.specs.Asked.{IsUnread, commands}
use Rattle.words_core.specs.Reading.{ReadsWord}
use Rattle.words_core.proofs.ReadingLaws.{all_words, begins, begun, command_kept, misused, one_more}
use Rattle.words_core.proofs.reading.Words.of_command.Goals as goal

pub returns-then-not-is_command-clause-faults : goal.returns-then-not-is_command-clause-faults
returns-then-not-is_command-clause-faults c = (
  map string_bytes c.in-Some.rest.now,
  ap (map string_bytes) c.in-Some.ensures.cases.0 ∙ ap (λ w. w ∷ map string_bytes c.in-Some.rest.now) (sym c.as_str-command.ensures.value),
  λ has. true≢false (sym (c.is_command.ensures.1 has) ∙ c.if-not-is_command.true),
)

pub loop-word-init : goal.loop-word-init
loop-word-init c = begun string_bytes c.args.words.now c.in-Some.rest.now c.in-Some.command.now c.as_str-command.result.now _ c.in-Some.ensures.cases.0 c.as_str-command.ensures.value
    (begins c.as_str-command.result.now _ refl (search rules) c.none.ensures refl)

pub loop-word-preserved : goal.loop-word-preserved
loop-word-preserved c = one_more string_bytes c.args.words.now c.in-Some.rest.now c.in-Some.command.now c.loop-word.word-index c.word-item.result c.loop-word.read c.take.new.self
    c.in-Some.ensures.cases.0 c.in-Some.ensures.cases.1 c.loop-word-test.true c.word-item.is c.loop-word.invariant
    (subst (λ (w : List ℕ). ReadsWord c.loop-word.read w c.take.new.self) c.as_str.ensures.value c.in_ok-take.ensures.read)

pub returns-in_err-take-clause-faults : goal.returns-in_err-take-clause-faults
returns-in_err-take-clause-faults c =
    let rest = map string_bytes c.in-Some.rest.now in
    let kept = command_kept string_bytes c.args.words.now c.in-Some.rest.now c.in-Some.command.now c.loop-word.word-index c.loop-word.read c.in-Some.ensures.cases.0 c.loop-word.invariant in
    let p = err_from_is_err_and c.from_residual.result c.from_residual.ensures.1 in
    rw (p.1, p.2) (misused (map string_bytes c.args.words.now) rest c.loop-word.read.command.now c.in_err-take.field-0.0
    (ap (map string_bytes) c.in-Some.ensures.cases.0 ∙ ap (λ w. w ∷ rest) (sym kept))
    (subst (Contains commands) (c.as_str-command.ensures.value ∙ sym kept) (c.is_command.ensures.0 c.if-not-is_command.false))
    c.in_err-take.ensures.faults)

pub returns-in-Some-awaited-clause-faults : goal.returns-in-Some-awaited-clause-faults
returns-in-Some-awaited-clause-faults c =
    let rest = map string_bytes c.in-Some.rest.now in
    let kept = command_kept string_bytes c.args.words.now c.in-Some.rest.now c.in-Some.command.now c.loop-word.word-index c.loop-word.read c.in-Some.ensures.cases.0 c.loop-word.invariant in
    subst (IsUnread (map string_bytes c.args.words.now)) (sym c.wrong.ensures) (
      rest,
      ap (map string_bytes) c.in-Some.ensures.cases.0 ∙ ap (λ w. w ∷ rest) (sym kept),
      subst (Contains commands) (c.as_str-command.ensures.value ∙ sym kept) (c.is_command.ensures.0 c.if-not-is_command.false),
    )

pub returns-clause-read : goal.returns-clause-read
returns-clause-read c = all_words string_bytes c.args.words.now c.in-Some.rest.now c.loop-word.word-index c.loop-word.read c.in-Some.ensures.cases.1 c.loop-word-test.false c.loop-word.invariant
    (rw c.in-None.is at c.awaited.ensures)
