use Rattle.std.proofs.Common.{◌≡◌, ◌<◌, ◌^◌, length, ap, subst, sym, arith}
use Rattle.std.proofs.lemmas.Grind.{common_steps}
use Rattle.dsf_core.specs.Files.{IsDsf}
use Rattle.dsf_core.specs.ReadAgain.{as_stored}
use Rattle.dsf_core.specs.Writing.{dsf_text}
use Rattle.dsf_core.proofs.writing.write.Goals as goal

pub returns-clause-text : goal.returns-clause-text
returns-clause-text c = grind (arith, common_steps)

pub returns-clause-read_again : goal.returns-clause-read_again
returns-clause-read_again c =
    let r = c.args.recording.now in
    let out = c.extend_from_slice.new.self in
    let text : out.items ≡ dsf_text r c.args.order = returns-clause-text c in
    let short : length (dsf_text r c.args.order) < 2 ^ 63 = omega (arith, ap length text, out.ok.0) in
    subst (λ file. IsDsf file (as_stored r) c.args.order) (sym text) (c.written_is_read_again.ensures r c.args.order c.channels-channels.ensures.shape short)
