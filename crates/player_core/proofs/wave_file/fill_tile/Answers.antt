use Rattle.std.proofs.Common.{◌≡◌, ℕ, Bool, List, ◌++◌, ◌∙◌, length, take, sym, ap, arith}
use Rattle.std.specs.Int.{div_ceil}
use Rattle.std.proofs.Math.Seq.{take-length}
use Rattle.std.proofs.lemmas.List.Elements.{All-get_or}
use Rattle.std.proofs.lemmas.Result.{IfOk-from_err}
use Rattle.dsd_bits.specs.Channels.{count_of}
use Rattle.fir_core.specs.Decimator.{samples_of}
use Rattle.player_core.specs.Frames.{tile_of}
use Rattle.player_core.proofs.FrameLaws.{after_take}
use Rattle.player_core.proofs.wave_file.fill_tile.Goals as goal

pub loop-bits-init : goal.loop-bits-init
loop-bits-init c = c.clear.ensures.items

pub offset_bounds-channels-bits-index : goal.offset_bounds-channels-bits-index
offset_bounds-channels-bits-index c = omega (arith, c.loop-bits-test.true)

pub push_part-requires-clause-tables : goal.push_part-requires-clause-tables
push_part-requires-clause-tables c = c.requires.tables

pub push_part-requires-clause-within : goal.push_part-requires-clause-within
push_part-requires-clause-within c =
    let channels = c.args.channels.now in
    let factor = c.args.taps.now.factor in
    let long = All-get_or (λ bits. length bits ≡ count_of channels) channels c.loop-bits.bits-index c.bits-item.result c.loop-bits-test.true c.requires.level.same in
    omega (arith, ap (λ (k : ℕ). div_ceil k factor) (ap length c.bits-item.is ∙ long), c.requires.within)

pub returns-in_err-push_part : goal.returns-in_err-push_part
returns-in_err-push_part c = IfOk-from_err c.from_residual.result _ c.from_residual.ensures.0

pub loop-bits-preserved : goal.loop-bits-preserved
loop-bits-preserved c =
    let part = λ (bits : List Bool). samples_of c.args.taps.now bits c.args.start c.args.number in
    c.in_ok-push_part.ensures.ok ∙ ap (λ xs. xs ++ part c.bits-item.result) c.loop-bits.invariant
    ∙ sym (after_take part c.args.channels.now c.loop-bits.bits-index c.bits-item.result c.loop-bits-test.true c.bits-item.is)

pub returns : goal.returns
returns c =
    let all : c.loop-bits.bits-index ≡ length c.args.channels.now = omega (arith, c.loop-bits.auto.bits-index-end, c.loop-bits-test.false) in
    c.loop-bits.invariant ∙ ap (λ xs. tile_of c.args.taps.now xs c.args.start c.args.number) (ap (λ n. take n c.args.channels.now) all ∙ take-length c.args.channels.now)
