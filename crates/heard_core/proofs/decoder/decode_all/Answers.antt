use Rattle.std.proofs.Common.{◌≡◌, ◌+◌, ◌-◌, ◌*◌, ◌<◌, ◌∙◌, ap, arith, length, min, take}
use Rattle.fir_core.proofs.TileLaws.{tile_length}
use Rattle.heard_core.specs.Sounds.{decoded_from}
use Rattle.heard_core.proofs.DecodedLaws.{one_more_tile}
use Rattle.heard_core.proofs.decoder.decode_all.Goals as goal

pub loop-tile-preserved : goal.loop-tile-preserved
loop-tile-preserved c =
    let taps = c.args.source.taps.now in
    let bits = c.args.source.bits.now in
    let first = c.args.first in
    let number = length c.args.sound.now in
    let start = c.loop-tile.tile * 32768 in
    let end = c.min-end.result in
    let within : start < number = omega (arith, c.div_ceil-tile-end.ensures, c.loop-tile-test.true) in
    let was : min start number ≡ start = omega arith in
    let next : min ((c.loop-tile.tile + 1) * 32768) number ≡ end = omega (arith, c.min-end.ensures) in
    let before : take start c.loop-tile.sound ≡ decoded_from taps bits first start = rw was at c.loop-tile.invariant in
    let long = tile_length start end c.loop-tile.sound (omega (arith, c.min-end.ensures, c.loop-tile.auto.sound)) in
    let is : c.decode_tile.new.sound ≡ decoded_from taps bits (first + start) (end - start) = c.decode_tile.ensures ∙ ap (decoded_from taps bits (first + start)) long in
    rw next (one_more_tile taps bits first start end c.loop-tile.sound c.decode_tile.new.sound (omega (arith, c.min-end.ensures)) (omega (arith, c.min-end.ensures, c.loop-tile.auto.sound)) before is)
