use Rattle.std.proofs.Common.{sym, ◌∙◌}
use Rattle.dsdiff_core.specs.Held.{IsInMemory}
use Rattle.dsdiff_core.specs.Spans.{span_has}
use Rattle.dsdiff_core.proofs.SpanLaws.{found_holds}
use Rattle.dsdiff_core.proofs.spans.data_with.Goals as goal

pub data_of-requires : goal.data_of-requires
data_of-requires c = found_holds (IsInMemory c.args.file) (span_has c.args.id) c.args.spans.now c.in-Some.span c.requires (sym c.first_with.ensures ∙ c.in-Some.is)
