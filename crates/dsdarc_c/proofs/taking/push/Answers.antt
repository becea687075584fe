use Rattle.std.proofs.Common.{◌≡◌, ◌+◌, ◌≤◌, ◌∙◌, ◌++◌, ap, append-nil, arith, length, subst, sym}
use Rattle.dsdarc_c.specs.Whole.{HasAt, PlaysSoundOf, PlaysStageOf, waiting}
use Rattle.dsdarc_c.specs.declared.pushing.Stage.TheVariants as stages
use Rattle.dsdarc_c.specs.Pushing.{IsAtStage}
use Rattle.dsdarc_c.proofs.TakingLaws.{after_err, cut_is, memory_err, refused_err, some_after, some_of_sound, sound_ok, takes_none, takes_ok}
use Rattle.dsdarc_c.proofs.WaitingLaws.{nothing_whole}
use Rattle.dsdarc_c.proofs.WholeLaws.{fewer_at, nothing_waits, plays_anew, prefix_of, stage_is}
use Rattle.dsdarc_c.proofs.taking.push.Goals as goal

pub returns-in-Header-clause-plays : goal.returns-in-Header-clause-plays
returns-in-Header-clause-plays c file start pulled plays at =
    let p = c.args.p.now in
    let is = sym c.replace.ensures.value ∙ c.in-Header.is in
    let w = stage_is p file start pulled (stages.Header c.in-Header.walked) is plays in
    let none = nothing_waits p (omega (arith, c.if-p-len.false, c.len.ensures, p.pending.ok.0)) in
    let some : c.min.result ≤ length c.args.bytes.now = omega (arith, c.min.ensures) in
    let here = subst (HasAt file p.place) (sym c.split_at.ensures.front) (fewer_at file p.place c.args.bytes.now c.min.result some at) in
    plays_anew p c.push_header.new.p file start pulled c.in-Header.walked is plays (c.push_header.ensures.plays file w.0 none here)

pub returns-in-Sound-clause-plays : goal.returns-in-Sound-clause-plays
returns-in-Sound-clause-plays c file start pulled plays at =
    let p = c.args.p.now in
    let s = c.in-Sound in
    let is = sym c.replace.ensures.value ∙ c.in-Sound.is in
    let w = stage_is p file start pulled (stages.Sound s.sound s.paused s.left) is plays in
    let none = nothing_waits p (omega (arith, c.if-p-len.false, c.len.ensures, p.pending.ok.0)) in
    let gave : pulled ++ waiting p ≡ pulled = ap (λ xs. pulled ++ xs) none ∙ append-nil pulled in
    let some : c.min.result ≤ length c.args.bytes.now = omega (arith, c.min.ensures) in
    let here = subst (HasAt file p.place) (sym c.split_at.ensures.front) (fewer_at file p.place c.args.bytes.now c.min.result some at) in
    c.push_sound.ensures.plays file start pulled (subst (λ out. PlaysSoundOf p.taps file start out p.header.items p.place s.sound s.paused s.left) gave w) here

pub returns-else-p-gt-MOST-clause-plays : goal.returns-else-p-gt-MOST-clause-plays
returns-else-p-gt-MOST-clause-plays c file start pulled plays at =
    let w = stage_is c.args.p.now file start pulled (stages.After c.in-After.sound c.in-After.back) (sym c.replace.ensures.value ∙ c.in-After.is) plays in
    let some : c.min.result ≤ length c.args.bytes.now = omega (arith, c.min.ensures) in
    let here = subst (HasAt file c.args.p.now.place) (sym c.split_at.ensures.front) (fewer_at file c.args.p.now.place c.args.bytes.now c.min.result some at) in
    c.push_after.ensures.plays file start pulled w.0 w.1 w.2 here

-- how many are taken
pub returns-then-p-len-clause-takes : goal.returns-then-p-len-clause-takes
returns-then-p-len-clause-takes c = takes_none c.args.p.now c.args.bytes.now (omega (arith, c.if-p-len.true, c.len.ensures))

pub returns-in-Header-clause-takes : goal.returns-in-Header-clause-takes
returns-in-Header-clause-takes c =
    let p = c.args.p.now in
    let ready : length p.pending.items ≤ p.pulled = omega (arith, c.if-p-len.false, c.len.ensures, p.pending.ok.0) in
    let cut = c.split_at.ensures.front ∙ cut_is c.args.bytes.now c.min.result (omega (arith, c.min.ensures)) in
    takes_ok p c.args.bytes.now c.split_at.result.0.now (stages.Header c.in-Header.walked) c.push_header.result ready (sym c.replace.ensures.value ∙ c.in-Header.is) cut c.push_header.ensures.takes (λ more.
    c.push_header.ensures.some (omega (arith, more, c.min.ensures, c.split_at.ensures.front_len)))

pub returns-in-Sound-clause-takes : goal.returns-in-Sound-clause-takes
returns-in-Sound-clause-takes c =
    let p = c.args.p.now in
    let s = c.in-Sound in
    let is = sym c.replace.ensures.value ∙ c.in-Sound.is in
    let stage = stages.Sound s.sound s.paused s.left in
    let ready : length p.pending.items ≤ p.pulled = omega (arith, c.if-p-len.false, c.len.ensures, p.pending.ok.0) in
    let cut = c.split_at.ensures.front ∙ cut_is c.args.bytes.now c.min.result (omega (arith, c.min.ensures)) in
    let keeps = subst (IsAtStage p.taps p.header.items p.place) is c.requires.stage in
    takes_ok p c.args.bytes.now c.split_at.result.0.now stage c.push_sound.result ready is cut (sound_ok c.push_sound.result (length c.split_at.result.0.now) s.left (s.sound.start + s.sound.size) p.place keeps.0.place_is c.push_sound.ensures.takes) (λ more.
    some_of_sound c.push_sound.result (length c.split_at.result.0.now) s.left keeps.1 (omega (arith, more, c.min.ensures, c.split_at.ensures.front_len)) c.push_sound.ensures.takes)

pub returns-else-p-gt-MOST-clause-takes : goal.returns-else-p-gt-MOST-clause-takes
returns-else-p-gt-MOST-clause-takes c =
    let p = c.args.p.now in
    let stage = stages.After c.in-After.sound c.in-After.back in
    let ready : length p.pending.items ≤ p.pulled = omega (arith, c.if-p-len.false, c.len.ensures, p.pending.ok.0) in
    let cut = c.split_at.ensures.front ∙ cut_is c.args.bytes.now c.min.result (omega (arith, c.min.ensures)) in
    takes_ok p c.args.bytes.now c.split_at.result.0.now stage c.push_after.result ready (sym c.replace.ensures.value ∙ c.in-After.is) cut c.push_after.ensures.takes (λ more.
    some_after p.header.items c.in-After.back.items c.split_at.result.0.now c.in-After.sound c.push_after.result (omega (arith, more, c.min.ensures, c.split_at.ensures.front_len)) c.push_after.ensures.takes)

-- why none are taken
pub returns-in-Header-clause-refused : goal.returns-in-Header-clause-refused
returns-in-Header-clause-refused c =
    let cut = c.split_at.ensures.front ∙ cut_is c.args.bytes.now c.min.result (omega (arith, c.min.ensures)) in
    refused_err c.args.p.now c.args.bytes.now c.split_at.result.0.now c.push_header.result (c.in-Header.walked, sym c.replace.ensures.value ∙ c.in-Header.is) cut c.push_header.ensures.refused

pub returns-else-p-gt-MOST-clause-refused : goal.returns-else-p-gt-MOST-clause-refused
returns-else-p-gt-MOST-clause-refused c =
    let cut = c.split_at.ensures.front ∙ cut_is c.args.bytes.now c.min.result (omega (arith, c.min.ensures)) in
    after_err c.args.p.now c.args.bytes.now c.split_at.result.0.now c.in-After.sound c.in-After.back c.push_after.result (sym c.replace.ensures.value ∙ c.in-After.is) cut c.push_after.ensures.refused

pub returns-in-Sound-clause-refused : goal.returns-in-Sound-clause-refused
returns-in-Sound-clause-refused c = memory_err c.args.p.now c.args.bytes.now c.push_sound.result c.push_sound.ensures.memory

-- after too many bytes
pub returns-then-p-gt-MOST-clause-plays : goal.returns-then-p-gt-MOST-clause-plays
returns-then-p-gt-MOST-clause-plays c file start pulled plays at =
    let p = c.args.p.now in
    let out = pulled ++ waiting p in
    let first = prefix_of p.taps file start out p.header.items p.place p.stage c.requires.stage plays.stage in
    record { stage = subst (λ s. PlaysStageOf p.taps file start out p.header.items p.place s) (sym c.replace.ensures.after) first }

-- where nothing waits, whole frames do
pub push_header-requires-clause-waits : goal.push_header-requires-clause-waits
push_header-requires-clause-waits c = nothing_whole c.args.p.now (nothing_waits c.args.p.now (omega (arith, c.if-p-len.false, c.len.ensures, c.args.p.now.pending.ok.0)))

pub push_after-requires-clause-waits : goal.push_after-requires-clause-waits
push_after-requires-clause-waits c = nothing_whole c.args.p.now (nothing_waits c.args.p.now (omega (arith, c.if-p-len.false, c.len.ensures, c.args.p.now.pending.ok.0)))
