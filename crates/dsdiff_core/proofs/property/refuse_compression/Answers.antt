use Rattle.std.proofs.Common.{length, refl}
use Rattle.std.proofs.lemmas.Bool.{lt-ltb}
use Rattle.dsdiff_core.proofs.property.refuse_compression.Goals as goal

pub returns-then-bytes-lt4 : goal.returns-then-bytes-lt4
returns-then-bytes-lt4 c = rw (c.in-Some.is, lt-ltb (length c.in-Some.bytes.now) 4 c.if-bytes-lt4.true) refl
