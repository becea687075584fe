use Rattle.std.proofs.Common.{◌∙◌, sym}
use Rattle.dsf_core.proofs.DescribingLaws.{other_bytes}
use Rattle.sound_core.proofs.ClosingLaws.{ends, form_ends_at, has_order, no_order}
use Rattle.dsdarc_c.proofs.EndingLaws.{blocks_closed, form_closed_ok}
use Rattle.dsdarc_c.proofs.ending.closes.Goals as goal

pub closes-requires-clause-at_sound : goal.closes-requires-clause-at_sound
closes-requires-clause-at_sound c =
    let stated = has_order c.args.sound.now.interleaving (sym c.has_blocks.ensures ∙ c.if-has_blocks.true) in
    ends c.args.header.now c.args.sound.now c.requires.ends stated.0 stated.1

pub closes-requires-2 : goal.closes-requires-2
closes-requires-2 c =
    let stated = no_order c.args.sound.now.interleaving (sym c.has_blocks.ensures ∙ c.if-has_blocks.false) in
    (c.args.sound.now, form_ends_at c.args.header.now c.args.sound.now c.requires.ends stated)

pub returns-then-has_blocks : goal.returns-then-has_blocks
returns-then-has_blocks c file ends_after =
    let stated = has_order c.args.sound.now.interleaving (sym c.has_blocks.ensures ∙ c.if-has_blocks.true) in
    blocks_closed file c.args.header.now c.args.sound.now c.args.back.now c.args.total c.requires.ends ends_after stated.0 c.closes.result stated.1 other_bytes c.closes.ensures

pub returns : goal.returns
returns c =
    let s = c.args.sound.now in
    let stated = no_order s.interleaving (sym c.has_blocks.ensures ∙ c.if-has_blocks.false) in
    form_closed_ok c.args.header.now s c.args.back.now c.args.total c.requires.ends c.closes-2.result stated (c.closes-2.ensures s (form_ends_at c.args.header.now s c.requires.ends stated))
