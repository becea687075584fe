use Rattle.std.proofs.Common.{◌≡◌, ◌*◌, ◌^◌, ◌/◌, ◌∙◌, ap, refl, subst, sym}
use Rattle.heard_core.specs.Bounds.{IsWithin}
use Rattle.heard_core.proofs.BoundLaws.{even_power, odd_power}
use Rattle.heard_core.proofs.bounds.+power.Goals as goal
use native.Mathlib.Nat.{pow-zero}

pub returns-then-exponent-eq0 : goal.returns-then-exponent-eq0
returns-then-exponent-eq0 t c =
    let one : c.args.x ^ c.args.exponent ≡ 1 = ap (λ n. c.args.x ^ n) c.if-exponent-eq0.true ∙ pow-zero c.args.x in
    subst (IsWithin c.exactly.result) (sym one) (λ _. c.exactly.ensures.within)

pub returns-then-exponent-eq0-2 : goal.returns-then-exponent-eq0-2
returns-then-exponent-eq0-2 t c =
    let x = c.args.x in
    let e = c.args.exponent in
    let half = c.power-half.ensures in
    subst (IsWithin c.times-square.result) (even_power x e (e / 2) refl c.if-exponent-eq0-2.true) (c.times-square.ensures (x ^ (e / 2)) (x ^ (e / 2)) half half)

pub returns : goal.returns
returns t c =
    let x = c.args.x in
    let e = c.args.exponent in
    let half = c.power-half.ensures in
    let square = c.times-square.ensures (x ^ (e / 2)) (x ^ (e / 2)) half half in
    subst (IsWithin c.times.result) (odd_power x e (e / 2) refl c.if-exponent-eq0-2.false) (c.times.ensures (x ^ (e / 2) * x ^ (e / 2)) x square (λ _. c.exactly-2.ensures.within))
