use Rattle.std.proofs.Common.{◌≤◌, ◌∙◌, ◌++◌, arith, length, subst, sym}
use Rattle.joined_core.specs.Givers.{HasGiven}
use Rattle.dsdarc_c.specs.Joined.{IsAtJoin, IsOfShape, joined_waiting}
use Rattle.dsdarc_c.specs.declared.joined.JoinStage.TheVariants as joins
use Rattle.dsdarc_c.proofs.JoinedLaws.{before_fits, fits_bare, if_ok, joined_refused_err, joined_takes_ok, no_more, none_joined, open_pulled, stage_is}
use Rattle.dsdarc_c.proofs.joined_taking.push_joined.Goals as goal

pub returns-then-p-len-clause-fits : goal.returns-then-p-len-clause-fits
returns-then-p-len-clause-fits c is = before_fits c.args.p.now.bare.stage (IsOfShape c.args.p.now.shape) is

pub returns-in-Choosing-clause-fits : goal.returns-in-Choosing-clause-fits
returns-in-Choosing-clause-fits c =
    let b = c.args.p.now.bare in
    let e = c.push_bare-pushed.ensures in
    if_ok c.push_bare-pushed.result (fits_bare b c.push_bare-pushed.new.p (IsOfShape c.args.p.now.shape) e.before (λ s is. (e.open s is (open_pulled b s c.requires.bare is)).0))

pub returns-in-Choosing-clause-keeps : goal.returns-in-Choosing-clause-keeps
returns-in-Choosing-clause-keeps c =
    let e = c.push_bare-pushed.ensures in
    record { bare = e.keeps; layout = e.layout ∙ c.requires.layout; pulled = c.requires.pulled; stage = tt; shape = c.requires.shape; few = c.requires.few }

pub returns-in-Choosing-clause-plays : goal.returns-in-Choosing-clause-plays
returns-in-Choosing-clause-plays c way before file pulled plays at =
    let w = stage_is way before file pulled c.args.p.now joins.Choosing (sym c.replace.ensures.value ∙ c.in-Choosing.is) plays in
    record { bits = plays.bits; plays = c.push_bare-pushed.ensures.plays file 0 plays.bits w.0 at; stage = w.1 }

pub returns-in-Choosing-clause-takes : goal.returns-in-Choosing-clause-takes
returns-in-Choosing-clause-takes c =
    let p = c.args.p.now in
    let ready : length p.pending.items ≤ p.pulled = omega (arith, c.if-p-len.false, c.len.ensures, p.pending.ok.0) in
    joined_takes_ok p c.args.bytes.now c.push_bare-pushed.result ready c.push_bare-pushed.ensures.takes

pub returns-in-Choosing-clause-refused : goal.returns-in-Choosing-clause-refused
returns-in-Choosing-clause-refused c =
    joined_refused_err c.args.p.now c.args.bytes.now joins.Choosing c.push_bare-pushed.result (sym c.replace.ensures.value ∙ c.in-Choosing.is) c.push_bare-pushed.ensures.refused

pub push_giving-requires-clause-joined : goal.push_giving-requires-clause-joined
push_giving-requires-clause-joined c =
    let r = c.requires in
    let at = subst (λ s. IsAtJoin s c.args.p.now) (sym c.replace.ensures.value ∙ c.in-Giving.is) r.stage in
    record {
      taken = record { bare = r.bare; layout = r.layout; pulled = r.pulled; giver = at.0; known = at.2; misfits = at.3; shape = r.shape; few = r.few };
      none = at.1;
    }

pub returns-in-Giving-clause-plays : goal.returns-in-Giving-clause-plays
returns-in-Giving-clause-plays c way before file pulled plays at =
    let p = c.args.p.now in
    let w = stage_is way before file pulled p (joins.Giving c.in-Giving.giver) (sym c.replace.ensures.value ∙ c.in-Giving.is) plays in
    let none = none_joined p (omega (arith, c.if-p-len.false, c.len.ensures, p.pending.ok.0)) in
    let has = subst (λ xs. HasGiven (before ++ plays.bits) xs c.in-Giving.giver) (no_more pulled (joined_waiting p) none) w.1.1 in
    c.push_giving.ensures.plays way before file plays.bits pulled w.0 w.1.0 has at

pub returns-in-Giving-clause-takes : goal.returns-in-Giving-clause-takes
returns-in-Giving-clause-takes c =
    let p = c.args.p.now in
    let ready : length p.pending.items ≤ p.pulled = omega (arith, c.if-p-len.false, c.len.ensures, p.pending.ok.0) in
    joined_takes_ok p c.args.bytes.now c.push_giving.result ready c.push_giving.ensures.takes

pub returns-in-Giving-clause-refused : goal.returns-in-Giving-clause-refused
returns-in-Giving-clause-refused c =
    joined_refused_err c.args.p.now c.args.bytes.now (joins.Giving c.in-Giving.giver) c.push_giving.result (sym c.replace.ensures.value ∙ c.in-Giving.is) c.push_giving.ensures.refused
