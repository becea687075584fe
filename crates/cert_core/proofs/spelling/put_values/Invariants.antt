-- The buffer begins with the bytes of the numbers so far.
use Rattle.std.proofs.Common.{◌≡◌, ◌*◌, take}
use Rattle.cert_core.specs.Spelling.{row_text}
use Rattle.cert_core.specs.declared.version.Version.TheVariants.{One}
use Rattle.cert_core.proofs.spelling.put_values.Given as goal

abbrev pub invariant-loop-place : goal.invariant-loop-place
invariant-loop-place l = take (8 * l.place) l.buffer ≡ row_text One (take l.place l.row)
