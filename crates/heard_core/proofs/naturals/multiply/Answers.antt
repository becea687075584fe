use Rattle.dsd_bits.proofs.ExitLaws.{no_value}
use Rattle.std.proofs.Common.{◌+◌, ◌*◌, ◌^◌, ◌∙◌, ◌++◌, [], ◌∷◌, arith, ap}
use Rattle.std.proofs.lemmas.List.{take-append-le, take_all}
use Rattle.heard_core.specs.Naturals.{base, natural}
use Rattle.heard_core.proofs.NaturalLaws.{natural_push}
use Rattle.heard_core.proofs.naturals.multiply.Goals as goal

pub returns-in_ok-push : goal.returns-in_ok-push
returns-in_ok-push c =
    let xs = c.multiply_limbs-carry.new.limbs in
    let carry = c.multiply_limbs-carry.result in
    let many = c.multiply_limbs-carry.ensures.len ∙ c.as_mut_slice.ensures.len in
    ap natural (c.in_ok-push.ensures.items ∙ ap (λ ys. ys ++ carry ∷ []) (take-append-le c.args.limbs.now.len xs _ (omega (arith, many)) ∙ take_all c.args.limbs.now.len xs (omega (arith, many))))
    ∙ natural_push xs carry
    ∙ ap (λ n. natural xs + carry * base ^ n) c.multiply_limbs-carry.ensures.len
    ∙ c.multiply_limbs-carry.ensures.value
    ∙ ap (λ ys. natural ys * c.args.factor) c.as_mut_slice.ensures.value

pub returns-in_err-push : goal.returns-in_err-push
returns-in_err-push c = no_value _ _ c.from_residual.result c.from_residual.ensures.1
