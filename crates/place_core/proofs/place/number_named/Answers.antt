use Rattle.std.proofs.Common.{arith, rules, sym}
use Rattle.place_core.specs.Places.{NamesNumber}
use Rattle.place_core.proofs.NumberLaws.{all_read, in_limit}
use Rattle.place_core.proofs.place.number_named.Goals as goal

pub returns-in_err-checked_mul : goal.returns-in_err-checked_mul
returns-in_err-checked_mul c =
    let no : NamesNumber c.args.digits.now → ⊥ = λ named. c.in_err-checked_mul.ensures (let less = in_limit _ _ _ _ _ c.loop-byte.invariant.1 c.in-Some.ensures.cases.0 named.1 in omega (arith, less)) in
    search rules

pub returns-in_err-number : goal.returns-in_err-number
returns-in_err-number c =
    let no : NamesNumber c.args.digits.now → ⊥ = λ named. c.in_err-number.ensures (let less = in_limit _ _ _ _ _ c.loop-byte.invariant.1 c.in-Some.ensures.cases.0 named.1 in omega (arith, less, c.in_ok-checked_mul.ensures.1, c.in_ok-digit.ensures.1)) in
    search rules

pub returns : goal.returns
returns c =
    let read = all_read _ _ _ c.loop-byte.invariant.1 c.in_default.ensures.cases in
    (((c.loop-byte.invariant.0, read.0), omega (arith, read.1, c.loop-byte.invariant.2)), sym read.1)
