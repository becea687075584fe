use Rattle.std.proofs.Common.{arith, map}
use Rattle.null_core.specs.Parts.{part_content}
use Rattle.null_core.proofs.OwnLaws.{piece_none, piece_own}
use Rattle.null_core.proofs.own.own_piece.Goals as goal

pub alone_at-alone-requires : goal.alone_at-alone-requires
alone_at-alone-requires c = omega (arith, c.len-count.ensures.in_limit, c.len-count.ensures.value, c.requires.in_order, c.requires.inside)

pub alike_until-requires-clause-heard : goal.alike_until-requires-clause-heard
alike_until-requires-clause-heard c = λ k from to. c.alone_at-alone.ensures.heard c.in-Some.source c.in-Some.is k from (omega (arith, to, c.min-until.ensures))

pub returns-in-Some : goal.returns-in-Some
returns-in-Some c =
    piece_own (map part_content c.args.parts.now) c.args.bits.now c.args.m c.min-until.result c.args.high c.alone_at-alone.result c.alone_at-alone.ensures (omega (arith, c.min-until.ensures)) (omega (arith, c.min-until.ensures)) c.in-Some.source c.alike_until.result c.piece_of.result
    (omega (arith, c.min-until.ensures, c.requires.in_order, c.alone_at-alone.ensures.some)) c.in-Some.is c.alike_until.ensures c.piece_of.ensures.none c.piece_of.ensures.own

pub returns-in-None : goal.returns-in-None
returns-in-None c =
    piece_none (map part_content c.args.parts.now) c.args.bits.now c.args.m c.min-until.result c.args.high c.alone_at-alone.result c.alone_at-alone.ensures (omega (arith, c.min-until.ensures)) (omega (arith, c.min-until.ensures))
    (omega (arith, c.min-until.ensures, c.requires.in_order, c.alone_at-alone.ensures.some)) c.in-None.is
