use Rattle.std.proofs.Common.{◌≡◌, ◌*◌, take, length, refl, sym, ap, ◌∙◌, arith}
use Rattle.std.proofs.Math.Nat.{one-le-pow}
use Rattle.std.specs.List.{flat_map}
use Rattle.std.specs.Int.{bytes_high_first}
use Rattle.cert_core.proofs.Bytes.{fits_all, no_bytes}
use Rattle.cert_core.proofs.row_reader.take_excesses.Goals as goal

pub returns-then-width-eq0-clause-text : goal.returns-then-width-eq0-clause-text
returns-then-width-eq0-clause-text c =
    let row = c.fill.new.self in
    let none : 0 * length row ≡ 0 = omega arith in
    ap (λ w. take (w * length row) c.args.bytes.now) c.if-width-eq0.true ∙ ap (λ n. take n c.args.bytes.now) none ∙ sym (no_bytes row) ∙ ap (λ w. flat_map (bytes_high_first w) row) (sym c.if-width-eq0.true)

pub returns-then-width-eq0-clause-below : goal.returns-then-width-eq0-clause-below
returns-then-width-eq0-clause-below c =
    let some = one-le-pow c.args.width 256 (omega arith) in
    fits_all c.args.width (length c.args.row.now) c.fill.new.self c.fill.ensures.len (λ q h. omega (arith, c.fill.ensures.clones q 0 h refl, some))
