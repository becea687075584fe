use Rattle.std.proofs.Common.{sym}
use Rattle.dsd_bits.specs.declared.sound.SoundAt.TheVariants.{Refused}
use Rattle.dsdiff_core.proofs.HeaderLaws.{if_refused}
use Rattle.sound_core.proofs.HeadLaws.{dsf_found, dsf_refused}
use Rattle.dsdarc_c.proofs.HeaderLaws.{blocks_unstated}
use Rattle.dsdarc_c.proofs.headers.stated_by_blocks.Goals as goal

pub returns-in-Found-clause-found : goal.returns-in-Found-clause-found
returns-in-Found-clause-found c =
    let x = c.sound_at in
    rw c.in-Found.is at (dsf_found c.args.header.now (if_refused c.args.header.now Refused (sym c.requires.no_form)) x.result x.ensures.exact x.ensures.found x.ensures.limits x.ensures.within x.ensures.interleaving)

pub returns-in-Refused-clause-refused : goal.returns-in-Refused-clause-refused
returns-in-Refused-clause-refused c =
    let x = c.sound_at in
    rw c.in-Refused.is at (dsf_refused c.args.header.now (if_refused c.args.header.now Refused (sym c.requires.no_form)) x.result x.ensures.exact x.ensures.refused)

pub returns-in-More-clause-more : goal.returns-in-More-clause-more
returns-in-More-clause-more c =
    let x = c.sound_at in
    rw c.in-More.is at (blocks_unstated c.args.header.now c.requires.no_form (if_refused c.args.header.now Refused (sym c.requires.no_form)) x.result x.ensures.exact x.ensures.more)
