use Rattle.std.proofs.Common.{◌≡◌, List, ◌∷◌, None, arith, rules, ℕ}
use Rattle.place_core.specs.Times.{in_range, rest_time}
use Rattle.place_core.proofs.TimeLaws.{fields_too_great, not_below}
use Rattle.place_core.proofs.place.Reading.colon.Goals as goal

pub returns-in_err-checked_add : goal.returns-in_err-checked_add
returns-in_err-checked_add c =
    let great = not_below _ c.in_err-checked_add.ensures in
    let none : (rest : List ℕ) → in_range (rest_time c.args.self (58 ∷ rest)) ≡ None = λ rest. fields_too_great c.args.self (58 ∷ rest) c.if-self.false (omega (arith, great)) in
    search rules

pub returns-in_err-next : goal.returns-in_err-next
returns-in_err-next c =
    let great = not_below _ c.in_err-next.ensures in
    let none : (rest : List ℕ) → in_range (rest_time c.args.self (58 ∷ rest)) ≡ None = λ rest. fields_too_great c.args.self (58 ∷ rest) c.if-self.false (omega (arith, great, c.in_ok-checked_add.ensures.1)) in
    search rules
