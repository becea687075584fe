use Rattle.std.proofs.Common.{subst, sym}
use Rattle.dsdarc_c.specs.Ending.{EndsAfterSound}
use Rattle.dsdarc_c.proofs.BareEndLaws.{bare_ends_after, bare_not_at_header, bare_not_in_sound}
use Rattle.dsdarc_c.proofs.EndingLaws.{never}
use Rattle.dsdarc_c.proofs.bare_ending.is_closed.Goals as goal

pub returns-in_ok-closes-in-After-clause-closed : goal.returns-in_ok-closes-in-After-clause-closed
returns-in_ok-closes-in-After-clause-closed c file at =
    let p = c.args.p.now in
    let s = c.in-After.sound in
    let ends = bare_ends_after p file s c.in-After.back c.requires c.in-After.is at in
    let by_back = subst (λ bs. EndsAfterSound file p.header.items s bs p.place) (sym c.as_slice.ensures.value) ends in
    c.in_ok-closes-in-After.ensures file (subst (λ bs. EndsAfterSound file bs s c.as_slice.result.now p.place) (sym c.as_slice-header.ensures.value) by_back)

pub returns-in-Header-clause-closed : goal.returns-in-Header-clause-closed
returns-in-Header-clause-closed c file at = (never, λ holds. absurd (bare_not_at_header c.args.p.now file c.in-Header.field-0 c.requires c.in-Header.is at holds))

pub returns-in-Sound-clause-closed : goal.returns-in-Sound-clause-closed
returns-in-Sound-clause-closed c file at = (never, λ holds. absurd (bare_not_in_sound c.args.p.now file c.in-Sound.field-0 c.in-Sound.field-1 c.requires c.in-Sound.is at holds))
