use Rattle.std.proofs.Common.{◌≡◌, ◌++◌, flat_map, length, take}
use Rattle.byteorder.specs.Endian.{big_bytes}
use Rattle.dsdiff_core.proofs.writing.channels_data.Given as goal

abbrev pub invariant-loop-id : goal.invariant-loop-id
invariant-loop-id l = l.out.items ≡ big_bytes 2 (length l.ids) ++ flat_map (λ id. id) (take l.id-index l.ids)
