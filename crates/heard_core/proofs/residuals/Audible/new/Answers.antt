use Rattle.std.proofs.Common.{◌≡◌, ◌∙◌, List, ℤ, ap, reverse, subst, sym}
use Rattle.std.proofs.lemmas.List.{reverse-reverse}
use Rattle.clip_core.specs.Mixes.{AreTaps}
use Rattle.heard_core.proofs.residuals.Audible.new.Goals as goal
use Rattle.heard_core.proofs.residuals.Audible.new.Goals.{After-reverse}

turned : (c : After-reverse) → reverse c.reverse.new.self.items ≡ c.args.taps.now
turned c = ap reverse (c.reverse.ensures.items ∙ ap reverse c.in_ok-reversed.ensures) ∙ reverse-reverse c.args.taps.now

pub invariant_of-result : goal.invariant_of-result
invariant_of-result c = subst (λ (taps : List ℤ). AreTaps 2147483647 taps) (sym (turned c)) c.requires

pub returns : goal.returns
returns c = turned c
