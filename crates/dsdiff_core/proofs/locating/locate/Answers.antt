use Rattle.std.proofs.Common.{◌∙◌, ap, sym}
use Rattle.std.proofs.lemmas.Result.{IfOk-weaker}
use Rattle.dsdiff_core.specs.Headers.{data_cut}
use Rattle.dsdiff_core.specs.declared.fault.DsdiffFault.TheVariants.{NoSound}
use Rattle.dsdiff_core.specs.Walks.{sought_by}
use Rattle.dsdiff_core.proofs.PastLaws.{past_form}
use Rattle.dsdiff_core.proofs.LocatedLaws.{form_refused, form_refuses, lost_is, more_is, short_more, stated_exact, stated_located}
use Rattle.dsdiff_core.proofs.locating.locate.Goals as goal

pub returns-then-prefix-lt16-clause-exact : goal.returns-then-prefix-lt16-clause-exact
returns-then-prefix-lt16-clause-exact c = sym (short_more c.args.prefix.now c.if-prefix-lt16.true)

pub returns-in-Err-clause-stated : goal.returns-in-Err-clause-stated
returns-in-Err-clause-stated c = λ rest. form_refused c.args.prefix.now rest c.in-Err.fault c.if-prefix-lt16.false c.in-Err.ensures

pub returns-in-Err-clause-exact : goal.returns-in-Err-clause-exact
returns-in-Err-clause-exact c = sym (form_refuses c.args.prefix.now c.in-Err.fault c.if-prefix-lt16.false c.in-Err.ensures)

pub returns-in-Head-clause-stated : goal.returns-in-Head-clause-stated
returns-in-Head-clause-stated c =
    IfOk-weaker c.state_sound.result _ _ (λ x stated. stated_located c.args.prefix.now c.in-Head.at c.if-prefix-lt16.false c.in_default.ensures (c.find_head.ensures.exact ∙ ap (sought_by c.args.prefix.now) c.in-Head.is) x stated) c.state_sound.ensures

pub returns-in-Head-clause-exact : goal.returns-in-Head-clause-exact
returns-in-Head-clause-exact c =
    IfOk-weaker c.state_sound.result _ _ (λ x stated. stated_exact c.args.prefix.now c.in-Head.at c.if-prefix-lt16.false c.in_default.ensures (c.find_head.ensures.exact ∙ ap (sought_by c.args.prefix.now) c.in-Head.is) x stated) c.state_sound.ensures

pub returns-in-More-clause-exact : goal.returns-in-More-clause-exact
returns-in-More-clause-exact c = sym (more_is c.args.prefix.now c.if-prefix-lt16.false c.in_default.ensures (c.find_head.ensures.exact ∙ ap (sought_by c.args.prefix.now) c.in-More.is))

pub returns-in-Lost-clause-exact : goal.returns-in-Lost-clause-exact
returns-in-Lost-clause-exact c = sym (lost_is c.args.prefix.now NoSound c.if-prefix-lt16.false c.in_default.ensures (c.find_head.ensures.exact ∙ ap (sought_by c.args.prefix.now) c.in-Lost.is))

pub returns-in-Past-clause-stated : goal.returns-in-Past-clause-stated
returns-in-Past-clause-stated c = past_form c.args.prefix.now c.in-Past.at c.in_default.ensures (c.find_head.ensures.exact ∙ ap (sought_by c.args.prefix.now) c.in-Past.is)

pub returns-in-Past-clause-exact : goal.returns-in-Past-clause-exact
returns-in-Past-clause-exact c = sym (lost_is c.args.prefix.now (data_cut c.args.prefix.now c.in-Past.at) c.if-prefix-lt16.false c.in_default.ensures (c.find_head.ensures.exact ∙ ap (sought_by c.args.prefix.now) c.in-Past.is))
