use Rattle.std.proofs.Common.{◌∙◌, arith, refl, subst, sym}
use Rattle.std.proofs.lemmas.Iterator.Adapters.{YieldsList-from_vec}
use Rattle.std.proofs.lemmas.Iterator.Consumers.{YieldsList-end}
use Rattle.transfer_commands.proofs.DigestLaws.{AllDigested, all_digested, as_they_are, digested_next, digested_none}
use Rattle.transfer_commands.proofs.digesting.Digester.finish.Goals as goal

pub loop-hasher-init : goal.loop-hasher-init
loop-hasher-init c = digested_none _ _ refl c.new-made.ensures.items

pub loop-hasher-preserved : goal.loop-hasher-preserved
loop-hasher-preserved c = digested_next c.loop-hasher.yielded c.loop-hasher.made.items c.push.new.self.items c.in-Some.hasher c.finalize.result c.loop-hasher.invariant c.finalize.ensures c.in_ok-push.ensures.items

pub returns : goal.returns
returns c =
    let hashers = c.args.self.hashers in
    let gives = c.into_iter-hasher-iterator.ensures.into_iter_gives in
    let end = YieldsList-end (YieldsList-from_vec hashers.items gives.0 (omega (arith, gives.1))) c.loop-hasher.yielded c.loop-hasher.hasher-iterator c.loop-hasher.yielded_by c.next.result c.next.new.self c.in-None.is c.next.ensures.steps in
    λ channels held. all_digested hashers.items c.loop-hasher.made.items (subst (λ xs. AllDigested xs c.loop-hasher.made.items) (sym (as_they_are c.loop-hasher.yielded) ∙ end.0) c.loop-hasher.invariant) channels held
