use Rattle.std.proofs.Common.{◌≡◌, ◌*◌, ◌∙◌, take, drop, List, ℕ, Ok, refl, sym, ap, arith}
use Rattle.std.proofs.lemmas.List.FromFn.{map-range_with_len_more, length-map-range_with_len}
use Rattle.dsd_bits.proofs.ExitLaws.{no_value}
use Rattle.dsdiff_core.specs.Fields.{ids_in}
use Rattle.dsdiff_core.proofs.ExitLaws.{fault_at}
use Rattle.dsdiff_core.proofs.property.read_ids.Goals as goal

pub loop-k-preserved : goal.loop-k-preserved
loop-k-preserved c =
    let f : ℕ → List ℕ = λ k. take 4 (drop (4 * k) c.args.bytes.now) in
    let more = map-range_with_len_more f 0 c.loop-k.k c.loop-k.k (omega arith) in
    rw (more, c.in_ok-push.ensures.items, c.loop-k.invariant, c.id_at.ensures) refl

pub returns-clause-exact : goal.returns-clause-exact
returns-clause-exact c =
    let all : c.loop-k.k ≡ c.args.number = omega arith in
    ap Ok (sym (c.loop-k.invariant ∙ ap (λ n. ids_in n c.args.bytes.now) all))

pub returns-clause-number : goal.returns-clause-number
returns-clause-number c =
    let f : ℕ → List ℕ = λ k. take 4 (drop (4 * k) c.args.bytes.now) in
    let e : c.loop-k.k ≡ c.args.number = omega arith in
    rw (c.loop-k.invariant, length-map-range_with_len f 0 c.loop-k.k) e

pub returns-in_err-push-clause-exact : goal.returns-in_err-push-clause-exact
returns-in_err-push-clause-exact c = fault_at _ _ c.from_residual.result _ c.from_residual.ensures.1 tt

pub returns-in_err-push-clause-number : goal.returns-in_err-push-clause-number
returns-in_err-push-clause-number c = no_value _ _ c.from_residual.result c.from_residual.ensures.1
