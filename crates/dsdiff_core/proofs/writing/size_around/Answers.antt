use Rattle.std.proofs.Common.{◌≡◌, ◌+◌, ◌%◌, ◌^◌, ap, ◌∙◌, arith}
use Rattle.byteorder.specs.Endian.{big_bytes}
use Rattle.dsdiff_core.proofs.WrittenParts.{low_bytes}
use Rattle.dsdiff_core.proofs.writing.size_around.Goals as goal

pub returns : goal.returns
returns c =
    let sum = 4 + c.args.first + 12 + c.args.size + c.args.after in
    let low : (((16 + c.args.first) % 2 ^ 64 + c.args.size) % 2 ^ 64 + c.args.after) % 2 ^ 64 ≡ sum % 2 ^ 64 = omega arith in
    ap (big_bytes 8) low ∙ low_bytes sum
