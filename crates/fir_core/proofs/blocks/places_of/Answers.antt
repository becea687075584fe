use Rattle.std.proofs.Common.{◌+◌, arith, refl}
use Rattle.fir_core.specs.Lookup.{AreRowEntries}
use Rattle.fir_core.proofs.RowLaws.{by_four, entries_after}
use Rattle.fir_core.proofs.blocks.places_of.Goals as goal

pub returns : goal.returns
returns c = λ b number h last.
    let one = c.args.spots.one in
    let follow = c.args.spots.follow in
    by_four (λ k at. AreRowEntries one.lookup.taps.now one.bytes.now one.lookup.step one.lookup.entries.now (one.p + k) c.args.j number at) _ _ _ _
    (entries_after 0 one one c.args.j number _ (record { lookup = refl; bytes = refl; p = omega arith }) c.row_place.ensures last)
    (entries_after 1 one c.args.spots.two c.args.j number _ follow.second c.row_place-2.ensures last)
    (entries_after 2 one c.args.spots.three c.args.j number _ follow.third c.row_place-3.ensures last)
    (entries_after 3 one c.args.spots.four c.args.j number _ follow.fourth c.row_place-4.ensures last)
    b h
