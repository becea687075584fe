use Rattle.std.proofs.Common.{◌∙◌}
use Rattle.std.specs.Cmp.Lexicographic.{same_text}
use Rattle.cert_core.proofs.numbers.version_in.Goals as goal

pub returns-then-eq-2 : goal.returns-then-eq-2
returns-then-eq-2 c = same_text c.args.bytes.now c.head_bytes-2.result c.if-eq-2.ensures ∙ c.head_bytes-2.ensures
