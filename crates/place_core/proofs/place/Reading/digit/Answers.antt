use Rattle.std.proofs.Common.{◌≡◌, List, ◌∷◌, None, arith, rules, ℕ}
use Rattle.place_core.specs.Times.{in_range, rest_time}
use Rattle.place_core.proofs.TimeLaws.{not_below, number_too_great}
use Rattle.place_core.proofs.place.Reading.digit.Goals as goal

pub returns-in_err-checked_mul-2 : goal.returns-in_err-checked_mul-2
returns-in_err-checked_mul-2 c no_colon no_point =
    let great = not_below _ c.in_err-checked_mul-2.ensures in
    let none : (rest : List ℕ) → in_range (rest_time c.args.self (c.args.byte ∷ rest)) ≡ None = λ rest. number_too_great c.args.self c.args.byte rest c.if-self.false no_colon no_point (omega (arith, great)) in
    search rules

pub returns-in_err-next-2 : goal.returns-in_err-next-2
returns-in_err-next-2 c no_colon no_point =
    let great = not_below _ c.in_err-next-2.ensures in
    let none : (rest : List ℕ) → in_range (rest_time c.args.self (c.args.byte ∷ rest)) ≡ None = λ rest. number_too_great c.args.self c.args.byte rest c.if-self.false no_colon no_point (omega (arith, great, c.in_ok-checked_mul-2.ensures.1, c.in_ok-value.ensures.1)) in
    search rules
