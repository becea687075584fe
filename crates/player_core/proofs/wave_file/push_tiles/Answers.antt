use Rattle.std.proofs.Common.{◌≡◌, ◌+◌, ◌*◌, ◌<◌, ◌++◌, ◌∙◌, min, sym, ap, arith}
use Rattle.std.specs.List.{flat_map}
use Rattle.std.proofs.lemmas.List.{append-nil}
use Rattle.std.proofs.lemmas.Result.{IfOk-from_err}
use Rattle.wave_core.specs.Frames.{frames_of}
use Rattle.wave_core.specs.Texts.{sample_bytes}
use Rattle.player_core.specs.Frames.{frames_below}
use Rattle.player_core.proofs.FrameLaws.{all_samples, next_tile}
use Rattle.player_core.proofs.wave_file.push_tiles.Goals as goal

pub push_frames-requires-clause-values : goal.push_frames-requires-clause-values
push_frames-requires-clause-values c =
    rw (c.as_slice.ensures.value, c.in_ok-fill_tile.ensures)
    (all_samples c.args.taps.now c.args.channels.now (c.loop-turn.turn * 4096) c.min-number.result c.width-width.result c.width-width.ensures.value (rw (← c.width-width.ensures.value) c.width-width.ensures.known))

pub loop-turn-preserved : goal.loop-turn-preserved
loop-turn-preserved c =
    let d = c.args.taps.now in
    let channels = c.args.channels.now in
    let count = c.args.count in
    let start = c.loop-turn.turn * 4096 in
    let number = c.min-number.result in
    let within : start < count = omega (arith, c.div_ceil-turn-end.ensures, c.loop-turn-test.true) in
    let was : min start count ≡ start = omega arith in
    let next : start + number ≡ min ((c.loop-turn.turn + 1) * 4096) count = omega (arith, c.min-number.ensures) in
    let before = rw was at c.loop-turn.invariant in
    let one = c.in_ok-push_frames.ensures.ok ∙ ap (λ w. c.loop-turn.out.items ++ flat_map (sample_bytes w) (frames_of c.as_slice.result.now number)) c.width-width.ensures.value in
    next_tile d channels start number (sample_bytes d.width) c.args.out.now.items c.loop-turn.out.items c.push_frames.new.out.items c.as_slice.result.now (c.as_slice.ensures.value ∙ c.in_ok-fill_tile.ensures) before one
    ∙ ap (λ n. c.args.out.now.items ++ flat_map (sample_bytes d.width) (frames_below d channels n)) next

pub div_ceil-turn-end-requires : goal.div_ceil-turn-end-requires
div_ceil-turn-end-requires c = omega arith

pub loop-turn-init : goal.loop-turn-init
loop-turn-init c =
    let none : min 0 c.args.count ≡ 0 = omega arith in
    sym (ap (λ n. c.args.out.now.items ++ flat_map (sample_bytes c.args.taps.now.width) (frames_below c.args.taps.now c.args.channels.now n)) none ∙ append-nil c.args.out.now.items)

pub overflow_mul-start : goal.overflow_mul-start
overflow_mul-start c = omega (arith, c.div_ceil-turn-end.ensures, c.loop-turn-test.true)

pub overflow_sub-count : goal.overflow_sub-count
overflow_sub-count c = omega (arith, c.div_ceil-turn-end.ensures, c.loop-turn-test.true)

pub fill_tile-requires-clause-level : goal.fill_tile-requires-clause-level
fill_tile-requires-clause-level c = c.requires.level

pub fill_tile-requires-clause-tables : goal.fill_tile-requires-clause-tables
fill_tile-requires-clause-tables c = c.in_ok-tables.ensures

pub fill_tile-requires-clause-within : goal.fill_tile-requires-clause-within
fill_tile-requires-clause-within c = omega (arith, c.requires.count, c.min-number.ensures, c.div_ceil-turn-end.ensures, c.loop-turn-test.true)

pub push_frames-requires-clause-width : goal.push_frames-requires-clause-width
push_frames-requires-clause-width c = c.width-width.ensures.known

pub push_frames-requires-clause-frames : goal.push_frames-requires-clause-frames
push_frames-requires-clause-frames c = omega (arith, c.min-number.ensures, c.div_ceil-turn-end.ensures, c.loop-turn-test.true)

pub returns-in_err-tables : goal.returns-in_err-tables
returns-in_err-tables c = IfOk-from_err c.from_residual.result _ c.from_residual.ensures.0

pub returns-in_err-fill_tile : goal.returns-in_err-fill_tile
returns-in_err-fill_tile c = IfOk-from_err c.from_residual-in_err-fill_tile.result _ c.from_residual-in_err-fill_tile.ensures.0

pub returns-in_err-push_frames : goal.returns-in_err-push_frames
returns-in_err-push_frames c = IfOk-from_err c.from_residual-in_err-push_frames.result _ c.from_residual-in_err-push_frames.ensures.0

pub returns : goal.returns
returns c =
    let all : min (c.loop-turn.turn * 4096) c.args.count ≡ c.args.count = omega (arith, c.div_ceil-turn-end.ensures, c.loop-turn-test.false) in
    c.loop-turn.invariant ∙ ap (λ n. c.args.out.now.items ++ flat_map (sample_bytes c.args.taps.now.width) (frames_below c.args.taps.now c.args.channels.now n)) all
