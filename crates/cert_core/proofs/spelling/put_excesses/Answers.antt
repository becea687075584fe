use Rattle.std.proofs.Common.{◌≡◌, ◌*◌, ◌-◌, map, take, length, sym, ap, ◌∙◌, arith}
use Rattle.std.specs.List.{flat_map}
use Rattle.std.specs.Int.{bytes_high_first}
use Rattle.cert_core.proofs.Bytes.{no_bytes}
use Rattle.cert_core.proofs.spelling.put_excesses.Goals as goal

pub returns-else-width-gt0-clause-text : goal.returns-else-width-gt0-clause-text
returns-else-width-gt0-clause-text c =
    let n = length c.args.row.now in
    let over = map (λ v. v - c.args.least) c.args.row.now in
    let zero : c.args.width ≡ 0 = omega (arith, c.if-width-gt0.false) in
    let none : 0 * n ≡ 0 = omega arith in
    ap (λ w. take (w * n) c.args.buffer.now) zero ∙ ap (λ k. take k c.args.buffer.now) none ∙ sym (no_bytes over) ∙ ap (λ w. flat_map (bytes_high_first w) over) (sym zero)
