use Rattle.std.proofs.Common.{subst}
use Rattle.clip_core.specs.Contents.{mix_content}
use Rattle.project_core.specs.Steps.{Gives}
use Rattle.mix_core.proofs.MixLaws.{is_found, text_again}
use Rattle.mix_core.proofs.reading.read.Goals as goal

pub returns-clause-found : goal.returns-clause-found
returns-clause-found c = is_found c.args.bytes.now c.read_in_order.result c.read_in_order.ensures

pub returns-clause-only : goal.returns-clause-only
returns-clause-only c = λ x says. subst (λ f. Gives mix_content c.read_in_order.result f) (text_again c.args.bytes.now x says) c.read_in_order.ensures
