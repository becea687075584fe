use Rattle.std.proofs.Common.{arith, sym}
use Rattle.dsdiff_core.proofs.CutLaws.{head_is_chunk}
use Rattle.dsdiff_core.proofs.HeadLaws.{ends_at_head}
use Rattle.sound_core.proofs.ClosingLaws.{form_ends_at, has_order, no_order}
use Rattle.sound_core.proofs.NamingLaws.{cut_blocks, cut_form, form_cut_size}
use Rattle.sound_core.proofs.taking.cut_in.Goals as goal

pub returns-then-has_blocks : goal.returns-then-has_blocks
returns-then-has_blocks c = λ rest long short.
    let stated = has_order c.args.sound.now.interleaving (sym c.if-has_blocks.ensures) in
    rw (c.from.ensures, c.cut_fault.ensures, ← long) (cut_blocks c.args.head.now rest c.args.sound.now c.requires stated.0 stated.1 (omega (arith, long, short)))

pub cut_fault-requires-2 : goal.cut_fault-requires-2
cut_fault-requires-2 c =
    head_is_chunk c.args.head.now (ends_at_head c.args.head.now c.args.sound.now (form_ends_at c.args.head.now c.args.sound.now c.requires (no_order c.args.sound.now.interleaving (sym c.if-has_blocks.ensures)))).0

pub returns : goal.returns
returns c = λ rest long short.
    let ends = form_ends_at c.args.head.now c.args.sound.now c.requires (no_order c.args.sound.now.interleaving (sym c.if-has_blocks.ensures)) in
    rw c.from-2.ensures (cut_form c.args.head.now rest c.args.sound.now c.cut_fault-2.result ends (c.cut_fault-2.ensures.fault rest long (form_cut_size c.args.head.now rest c.args.sound.now ends (omega (arith, long, short)))))
