use Rattle.std.proofs.Common.{◌-◌, ◌∙◌, ap, arith, sym}
use Rattle.dsd_bits.specs.declared.interleaving.Interleaving.{Interleaving}
use Rattle.dsdiff_core.specs.Headers.{left_after}
use Rattle.dsdiff_core.proofs.HeadLaws.{ends_at_head}
use Rattle.sound_core.proofs.ClosingLaws.{form_ends_at, has_order, no_order}
use Rattle.dsdarc_c.specs.Whole.{kept_in}
use Rattle.dsdarc_c.proofs.ending.form_bytes_wanted.Goals as goal

pub bytes_after_sound-wanted-requires : goal.bytes_after_sound-wanted-requires
bytes_after_sound-wanted-requires c =
    let stated = no_order c.args.sound.now.interleaving (sym c.has_blocks.ensures ∙ c.if-has_blocks.false) in
    (ends_at_head c.args.header.now c.args.sound.now (form_ends_at c.args.header.now c.args.sound.now c.requires stated)).0

pub returns-then-has_blocks-clause-value : goal.returns-then-has_blocks-clause-value
returns-then-has_blocks-clause-value c =
    let s = c.args.sound.now in
    let stated = has_order s.interleaving (sym c.has_blocks.ensures ∙ c.if-has_blocks.true) in
    sym (ap (λ (o : Interleaving). kept_in o (left_after c.args.header.now s.size - c.args.kept)) stated.1)

pub returns-clause-value : goal.returns-clause-value
returns-clause-value c =
    let s = c.args.sound.now in
    let stated = no_order s.interleaving (sym c.has_blocks.ensures ∙ c.if-has_blocks.false) in
    let left = c.bytes_after_sound-wanted.ensures.stated s (form_ends_at c.args.header.now s c.requires stated) in
    omega (arith, left, c.saturating_sub.ensures) ∙ sym (ap (λ (o : Interleaving). kept_in o (left_after c.args.header.now s.size - c.args.kept)) stated)
