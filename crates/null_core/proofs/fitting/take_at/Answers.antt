use Rattle.std.proofs.Common.{◌∙◌, ap, sym}
use Rattle.std.proofs.lemmas.List.{get_or-map}
use Rattle.cut_core.specs.Excerpts.{excerpts_content}
use Rattle.null_core.proofs.fitting.take_at.Goals as goal

pub returns : goal.returns
returns c = ap excerpts_content c.index-takes-number.is ∙ sym (get_or-map excerpts_content c.args.takes.now c.args.number c.index-takes-number.result _ c.requires)
