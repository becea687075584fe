use Rattle.std.proofs.Common.{◌∙◌, inl, inr, subst, sym}
use Rattle.dsdarc_c.specs.BareWhole.{PlaysBits}
use Rattle.dsdarc_c.specs.Joined.{IsBeforeOwn}
use Rattle.dsdarc_c.proofs.JoinedLaws.{misfits_none, misfits_own, nothing_own}
use Rattle.dsdarc_c.proofs.joined_taking.start_file.Goals as goal

pub returns-in_default-clause-misfits : goal.returns-in_default-clause-misfits
returns-in_default-clause-misfits c = misfits_none c.args.p.now.shape c.args.p.now.count c.args.p.now.bare.stage c.in_default.ensures.closed

pub returns-in-Ok-choose-clause-plays : goal.returns-in-Ok-choose-clause-plays
returns-in-Ok-choose-clause-plays c file bits plays =
    let b = c.args.p.now.bare in
    let before = subst IsBeforeOwn (sym c.in-Ok.ensures.open) tt in
    subst (λ xs. PlaysBits file 0 xs c.choose.new.p) (sym (nothing_own b file bits before plays)) (c.in-Ok-choose.ensures.plays file 0 bits plays)

pub returns-in-Ok-choose-clause-misfits : goal.returns-in-Ok-choose-clause-misfits
returns-in-Ok-choose-clause-misfits c = misfits_own _ _ c.choose.new.p.stage c.in-Ok.sound (c.in-Ok-choose.ensures.own c.in-Ok.sound c.in-Ok.ensures.open)

pub returns-in-Err-clause-layout : goal.returns-in-Err-clause-layout
returns-in-Err-clause-layout c = elim c.choose.ensures.layout [
  | inl same ↦ same ∙ c.requires.layout
  | inr is ↦ is
]
