use Rattle.std.proofs.Common.{◌≡◌, ◌+◌, ◌-◌, ◌*◌, arith, rules}
use Rattle.fir_core.proofs.StrideLaws.{columns_are, columns_within}
use Rattle.fir_core.proofs.strides.last_columns.Goals as goal

pub slice_bounds-result-end : goal.slice_bounds-result-end
slice_bounds-result-end c = columns_within c.args.lookup.taps.now c.args.lookup.entries.now c.args.lookup.step c.args.lookup.span c.args.place c.args.byte c.args.number c.args.lookup.laid c.requires.place (search rules) c.requires.few

pub returns : goal.returns
returns c =
    let at = 4 + (256 * c.args.place + c.args.byte) * (c.args.lookup.span + 8) + (c.args.lookup.span - c.args.number) in
    let cut : at + c.args.number - at ≡ c.args.number = omega arith in
    rw cut (columns_are c.args.lookup c.args.place c.args.byte c.args.number c.requires.place (search rules) c.requires.few)
