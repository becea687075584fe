use Rattle.std.proofs.Common.{◌≡◌, ◌≤◌, ◌∙◌, ◌++◌, ap, append-nil, arith, length, subst, sym}
use Rattle.dsdarc_c.specs.BareWhole.{PlaysRun}
use Rattle.dsdarc_c.specs.Bare.{bare_waiting}
use Rattle.dsdarc_c.specs.Whole.{HasAt}
use Rattle.dsdarc_c.specs.declared.bare.BareStage.TheVariants as stages
use Rattle.dsdarc_c.proofs.BareLaws.{bare_stage_is, bits_anew, none_waits}
use Rattle.dsdarc_c.proofs.BareTakingLaws.{bare_after_err, bare_refused_err, bare_takes_ok}
use Rattle.dsdarc_c.proofs.TakingLaws.{cut_is}
use Rattle.dsdarc_c.proofs.WholeLaws.{fewer_at}
use Rattle.dsdarc_c.proofs.bare_taking.push_bare.Goals as goal

pub returns-in-Header-clause-plays : goal.returns-in-Header-clause-plays
returns-in-Header-clause-plays c file start pulled plays at =
    let p = c.args.p.now in
    let w = bare_stage_is p file start pulled (stages.Header c.in-Header.walked) (sym c.replace.ensures.value ∙ c.in-Header.is) plays in
    let some : c.min.result ≤ length c.args.bytes.now = omega (arith, c.min.ensures) in
    let here = subst (HasAt file p.place) (sym c.split_at.ensures.front) (fewer_at file p.place c.args.bytes.now c.min.result some at) in
    bits_anew c.push_bare_header.new.p file start pulled (bare_waiting p) w.1 w.2 (c.push_bare_header.ensures.plays file w.0 here)

pub returns-in-Header-clause-takes : goal.returns-in-Header-clause-takes
returns-in-Header-clause-takes c =
    let p = c.args.p.now in
    let ready : length p.pending.items ≤ p.pulled = omega (arith, c.if-p-len.false, c.len.ensures, p.pending.ok.0) in
    let cut = c.split_at.ensures.front ∙ cut_is c.args.bytes.now c.min.result (omega (arith, c.min.ensures)) in
    bare_takes_ok p c.args.bytes.now c.split_at.result.0.now (stages.Header c.in-Header.walked) c.push_bare_header.result ready (sym c.replace.ensures.value ∙ c.in-Header.is) cut c.push_bare_header.ensures.takes

pub returns-in-Header-clause-refused : goal.returns-in-Header-clause-refused
returns-in-Header-clause-refused c =
    let cut = c.split_at.ensures.front ∙ cut_is c.args.bytes.now c.min.result (omega (arith, c.min.ensures)) in
    bare_refused_err c.args.p.now c.args.bytes.now c.split_at.result.0.now (stages.Header c.in-Header.walked) c.push_bare_header.result (sym c.replace.ensures.value ∙ c.in-Header.is) cut c.push_bare_header.ensures.refused

pub returns-in-Sound-clause-plays : goal.returns-in-Sound-clause-plays
returns-in-Sound-clause-plays c file start pulled plays at =
    let p = c.args.p.now in
    let s = c.in-Sound in
    let w = bare_stage_is p file start pulled (stages.Sound s.sound s.run') (sym c.replace.ensures.value ∙ s.is) plays in
    let none = none_waits p (omega (arith, c.if-p-len.false, c.len.ensures, p.pending.ok.0)) in
    let gave : pulled ++ bare_waiting p ≡ pulled = ap (λ xs. pulled ++ xs) none ∙ append-nil pulled in
    let some : c.min.result ≤ length c.args.bytes.now = omega (arith, c.min.ensures) in
    let here = subst (HasAt file p.place) (sym c.split_at.ensures.front) (fewer_at file p.place c.args.bytes.now c.min.result some at) in
    c.push_run.ensures.plays file start pulled (subst (λ out. PlaysRun file start out p.header.items p.place s.sound s.run') gave w) here

pub returns-in-Sound-clause-takes : goal.returns-in-Sound-clause-takes
returns-in-Sound-clause-takes c =
    let p = c.args.p.now in
    let s = c.in-Sound in
    let ready : length p.pending.items ≤ p.pulled = omega (arith, c.if-p-len.false, c.len.ensures, p.pending.ok.0) in
    let cut = c.split_at.ensures.front ∙ cut_is c.args.bytes.now c.min.result (omega (arith, c.min.ensures)) in
    bare_takes_ok p c.args.bytes.now c.split_at.result.0.now (stages.Sound s.sound s.run') c.push_run.result ready (sym c.replace.ensures.value ∙ s.is) cut c.push_run.ensures.takes

pub returns-else-p-gt-MOST-clause-plays : goal.returns-else-p-gt-MOST-clause-plays
returns-else-p-gt-MOST-clause-plays c file start pulled plays at =
    let p = c.args.p.now in
    let w = bare_stage_is p file start pulled (stages.After c.in-After.sound c.in-After.back) (sym c.replace.ensures.value ∙ c.in-After.is) plays in
    let some : c.min.result ≤ length c.args.bytes.now = omega (arith, c.min.ensures) in
    let here = subst (HasAt file p.place) (sym c.split_at.ensures.front) (fewer_at file p.place c.args.bytes.now c.min.result some at) in
    c.push_bare_after.ensures.plays file start pulled w here

pub returns-else-p-gt-MOST-clause-takes : goal.returns-else-p-gt-MOST-clause-takes
returns-else-p-gt-MOST-clause-takes c =
    let p = c.args.p.now in
    let ready : length p.pending.items ≤ p.pulled = omega (arith, c.if-p-len.false, c.len.ensures, p.pending.ok.0) in
    let cut = c.split_at.ensures.front ∙ cut_is c.args.bytes.now c.min.result (omega (arith, c.min.ensures)) in
    bare_takes_ok p c.args.bytes.now c.split_at.result.0.now (stages.After c.in-After.sound c.in-After.back) c.push_bare_after.result ready (sym c.replace.ensures.value ∙ c.in-After.is) cut c.push_bare_after.ensures.takes

pub returns-else-p-gt-MOST-clause-refused : goal.returns-else-p-gt-MOST-clause-refused
returns-else-p-gt-MOST-clause-refused c =
    let p = c.args.p.now in
    let cut = c.split_at.ensures.front ∙ cut_is c.args.bytes.now c.min.result (omega (arith, c.min.ensures)) in
    let stage = stages.After c.in-After.sound c.in-After.back in
    bare_refused_err p c.args.bytes.now c.split_at.result.0.now stage c.push_bare_after.result (sym c.replace.ensures.value ∙ c.in-After.is) cut (bare_after_err p.header.items p.place c.split_at.result.0.now c.in-After.sound c.in-After.back c.push_bare_after.result c.push_bare_after.ensures.refused)
