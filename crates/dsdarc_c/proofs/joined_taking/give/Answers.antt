use Rattle.std.proofs.Common.{◌≡◌, ◌∙◌, ◌++◌, ap, append_assoc, arith, drop, subst, sym}
use Rattle.joined_core.specs.Givers.{HasGiven}
use Rattle.dsdarc_c.specs.Bare.{bare_waiting}
use Rattle.dsdarc_c.proofs.JoinedLaws.{drained, failed_empty, given_first}
use Rattle.dsdarc_c.proofs.joined_taking.give.Goals as goal

pub returns-then-waiting-saturating_sub-clause-plays : goal.returns-then-waiting-saturating_sub-clause-plays
returns-then-waiting-saturating_sub-clause-plays c way before file bits pulled plays is has =
    let r = c.requires.joined in
    failed_empty way before file pulled c.args.p.now c.requires.stage c.requires.none (given_first way before file bits pulled c.args.p.now.bare c.args.giver r.bare r.layout r.giver plays is has)

pub returns-in-Ok-clause-plays : goal.returns-in-Ok-clause-plays
returns-in-Ok-clause-plays c way before file bits pulled plays is has =
    let b = c.args.p.now.bare in
    let e = c.in-Ok.ensures in
    let next = c.in-Ok.next in
    let w : c.split_at.result.1.now ≡ bare_waiting b = c.split_at.ensures.back ∙ ap (drop b.pulled) c.deref.ensures.value in
    let made : e.more ≡ c.take.new.out.items = sym (e.appends ∙ ap (λ xs. xs ++ e.more) c.clear.ensures.items) in
    let came : (before ++ bits) ++ c.split_at.result.1.now ≡ before ++ (bits ++ bare_waiting b) = ap (λ xs. (before ++ bits) ++ xs) w ∙ append_assoc before bits (bare_waiting b) in
    record {
      bits = bits ++ bare_waiting b;
      plays = drained b file bits _ (omega (arith, c.len-p.ensures, b.pending.ok.0)) plays;
      stage = (e.way ∙ is, subst (λ xs. HasGiven (before ++ (bits ++ bare_waiting b)) (pulled ++ xs) next) made (subst (λ xs. HasGiven xs (pulled ++ e.more) next) came (e.gives (before ++ bits) pulled has)));
    }

pub returns-in-Err-clause-plays : goal.returns-in-Err-clause-plays
returns-in-Err-clause-plays c way before file bits pulled plays is has =
    let r = c.requires.joined in
    failed_empty way before file pulled _ c.requires.stage c.clear-in-Err.ensures.items (given_first way before file bits pulled c.args.p.now.bare c.args.giver r.bare r.layout r.giver plays is has)
