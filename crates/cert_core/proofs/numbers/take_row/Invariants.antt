-- The bytes begin with those of the numbers so far.
use Rattle.std.proofs.Common.{◌≡◌, ◌*◌, take, length}
use Rattle.cert_core.specs.Spelling.{row_text}
use Rattle.cert_core.specs.declared.version.Version.TheVariants.{One}
use Rattle.cert_core.proofs.numbers.take_row.Given as goal

abbrev pub invariant-loop-place : goal.invariant-loop-place
invariant-loop-place l = (take (8 * l.place) l.bytes ≡ row_text One (take l.place l.row)) × (length l.row ≡ length l.initial.row)
