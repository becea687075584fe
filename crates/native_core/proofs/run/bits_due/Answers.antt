use Rattle.std.proofs.Common.{◌*◌, ◌/◌, arith}
use Rattle.std.proofs.Math.Nat.{div-mul-le_self}
use Rattle.native_core.proofs.RunLaws.{groups_inside, groups_size, size_after}
use Rattle.native_core.proofs.run.bits_due.Goals as goal

pub overflow_mul-result-3 : goal.overflow_mul-result-3
overflow_mul-result-3 c =
    let s = c.args.sound.now in
    omega (arith, c.requires.sound.in_limit, groups_inside s.interleaving s.channels s.count c.args.group c.args.size c.requires.sound.some_channel (omega (arith, c.requires.more c.if-last.false, c.requires.sound.size)))

pub returns-clause-inside : goal.returns-clause-inside
returns-clause-inside c =
    let s = c.args.sound.now in
    groups_inside s.interleaving s.channels s.count c.args.group c.args.size c.requires.sound.some_channel (omega (arith, c.requires.more c.if-last.false, c.requires.sound.size))

pub returns-clause-held : goal.returns-clause-held
returns-clause-held c =
    let s = c.args.sound.now in
    let w = s.channels * 4096 in
    omega (arith, groups_size s.interleaving s.channels (c.args.size / w), div-mul-le_self c.args.size w)

pub returns-then-last-clause-held : goal.returns-then-last-clause-held
returns-then-last-clause-held c =
    let s = c.args.sound.now in
    omega (arith, size_after s.interleaving s.channels s.count c.args.group c.requires.some, c.requires.last c.if-last.true, c.requires.sound.size)
