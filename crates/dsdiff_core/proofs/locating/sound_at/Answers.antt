use Rattle.dsdiff_core.specs.Headers.{sound_at}
use Rattle.std.proofs.Common.{◌≡◌}
use Rattle.dsdiff_core.proofs.HeaderLaws.{if_found, if_more, if_refused, in_limits, inside, when_ok}
use Rattle.dsdiff_core.proofs.locating.sound_at.Goals as goal

pub returns-clause-found : goal.returns-clause-found
returns-clause-found c = when_ok (λ x. x ≡ sound_at c.args.prefix.now) _ c.answer.result (λ x e. if_found c.args.prefix.now x e) c.answer.ensures

pub returns-clause-limits : goal.returns-clause-limits
returns-clause-limits c = when_ok (λ x. x ≡ sound_at c.args.prefix.now) _ c.answer.result (λ x e. in_limits c.args.prefix.now x e) c.answer.ensures

pub returns-clause-within : goal.returns-clause-within
returns-clause-within c = when_ok (λ x. x ≡ sound_at c.args.prefix.now) _ c.answer.result (λ x e. inside c.args.prefix.now x e) c.answer.ensures

pub returns-clause-refused : goal.returns-clause-refused
returns-clause-refused c = when_ok (λ x. x ≡ sound_at c.args.prefix.now) _ c.answer.result (λ x e. if_refused c.args.prefix.now x e) c.answer.ensures

pub returns-clause-more : goal.returns-clause-more
returns-clause-more c = when_ok (λ x. x ≡ sound_at c.args.prefix.now) _ c.answer.result (λ x e. if_more c.args.prefix.now x e) c.answer.ensures
