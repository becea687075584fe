use Rattle.std.proofs.Common.{◌≡◌, ◌∙◌, ◌/◌, ℕ, Bool, List, length, sym, ap, ap₂, arith, Vec, Global, append_assoc}
use Rattle.std.specs.Int.{div_ceil}
use Rattle.std.proofs.lemmas.Result.{err_from_is_err_and}
use Rattle.std.specs.List.{flat_map}
use Rattle.wave_core.specs.Contents.{spec_of}
use Rattle.wave_core.specs.Sizes.{FitsRiff}
use Rattle.wave_core.specs.Texts.{header, pad_bytes, sample_bytes}
use Rattle.player_core.specs.Frames.{frame_count, frames_below}
use Rattle.player_core.proofs.SampleLaws.{answered, header_refused, memory_refused, text_is}
use Rattle.player_core.proofs.wave_file.wave_of.Goals as goal
use Rattle.player_core.proofs.wave_file.wave_of.Goals.{After-div_ceil-count, After-wave_spec-spec}

count_is : (c : After-div_ceil-count) → c.div_ceil-count.result ≡ frame_count c.args.taps.now c.args.recording.now.channels
count_is c = c.div_ceil-count.ensures ∙ ap₂ (λ a b. div_ceil a b) c.count.ensures.value c.factor-factor.ensures.value

known : (c : After-wave_spec-spec) → c.wave_spec-spec.result ≡ spec_of (length c.args.recording.now.channels) (c.args.recording.now.rate / c.args.taps.now.factor) c.args.taps.now.width
known c = c.wave_spec-spec.ensures.spec ∙ ap₂ (λ (cs : List (List Bool)) (rate : ℕ). spec_of (length cs) (rate / c.args.taps.now.factor) c.args.taps.now.width) c.channels-channels.ensures.value c.rate.ensures.value

-- ---- what the calls need

pub wave_spec-spec-requires-clause-channels : goal.wave_spec-spec-requires-clause-channels
wave_spec-spec-requires-clause-channels c = (omega (arith, ap length c.channels-channels.ensures.value, c.channels-channels.ensures.shape.some_channel), omega (arith, ap length c.channels-channels.ensures.value, c.channels-channels.ensures.shape.six_channels))

pub overflow_mul-count : goal.overflow_mul-count
overflow_mul-count c = rw (c.channels-channels.ensures.value, c.width-width.ensures.value) (omega (arith, rw (known (goal.at.overflow_mul-count c).After-wave_spec-spec) at c.in_ok-push_header.ensures.fits))

pub overflow_add-count : goal.overflow_add-count
overflow_add-count c = rw (c.channels-channels.ensures.value, c.width-width.ensures.value) (omega (arith, rw (known (goal.at.overflow_add-count c).After-wave_spec-spec) at c.in_ok-push_header.ensures.fits))

pub push_tiles-requires-clause-count : goal.push_tiles-requires-clause-count
push_tiles-requires-clause-count c = count_is (goal.at.push_tiles-requires-clause-count c).After-div_ceil-count ∙ ap (frame_count c.args.taps.now) (sym c.channels-channels.ensures.value)

-- ---- the exits

pub returns-in_err-push_header : goal.returns-in_err-push_header
returns-in_err-push_header c =
    let at = goal.at.returns-in_err-push_header c in
    let e = err_from_is_err_and c.from_residual.result c.from_residual.ensures.1 in
    rw (e.1, e.2) (record {
      text = tt;
      too_large = header_refused c.args.recording.now c.args.taps.now c.channels-channels.ensures.shape.some_channel c.parts_join.ensures {X = Unit {0}} {Y = Vec ℕ Global} c.in_err-push_header.field-0.0
          (rw (← count_is at.After-div_ceil-count) (rw (known at.After-wave_spec-spec) at c.in_err-push_header.ensures.too_large));
    })

pub returns-in_err-reserve_exact : goal.returns-in_err-reserve_exact
returns-in_err-reserve_exact c =
    let at = goal.at.returns-in_err-reserve_exact c in
    let e = err_from_is_err_and c.from_residual-in_err-reserve_exact.result c.from_residual-in_err-reserve_exact.ensures.1 in
    let fits : FitsRiff (length c.args.recording.now.channels) c.args.taps.now.width (frame_count c.args.taps.now c.args.recording.now.channels) = rw (← count_is at.After-div_ceil-count) (rw (known at.After-wave_spec-spec) at c.in_ok-push_header.ensures.fits) in
    rw e.1 (record {
      text = tt;
      too_large = memory_refused c.args.recording.now c.args.taps.now c.channels-channels.ensures.shape.some_channel c.parts_join.ensures {Y = Vec ℕ Global} e.0 e.2 fits;
    })

pub returns-in_err-push_tiles : goal.returns-in_err-push_tiles
returns-in_err-push_tiles c =
    let at = goal.at.returns-in_err-push_tiles c in
    let e = err_from_is_err_and c.from_residual-in_err-push_tiles.result c.from_residual-in_err-push_tiles.ensures.1 in
    let fits : FitsRiff (length c.args.recording.now.channels) c.args.taps.now.width (frame_count c.args.taps.now c.args.recording.now.channels) = rw (← count_is at.After-div_ceil-count) (rw (known at.After-wave_spec-spec) at c.in_ok-push_header.ensures.fits) in
    rw e.1 (record {
      text = tt;
      too_large = memory_refused c.args.recording.now c.args.taps.now c.channels-channels.ensures.shape.some_channel c.parts_join.ensures {Y = Vec ℕ Global} e.0 e.2 fits;
    })

pub returns-in_err-push_pad : goal.returns-in_err-push_pad
returns-in_err-push_pad c =
    let at = goal.at.returns-in_err-push_pad c in
    let e = err_from_is_err_and c.from_residual-in_err-push_pad.result c.from_residual-in_err-push_pad.ensures.1 in
    let fits : FitsRiff (length c.args.recording.now.channels) c.args.taps.now.width (frame_count c.args.taps.now c.args.recording.now.channels) = rw (← count_is at.After-div_ceil-count) (rw (known at.After-wave_spec-spec) at c.in_ok-push_header.ensures.fits) in
    rw e.1 (record {
      text = tt;
      too_large = memory_refused c.args.recording.now c.args.taps.now c.channels-channels.ensures.shape.some_channel c.parts_join.ensures {Y = Vec ℕ Global} e.0 e.2 fits;
    })

pub returns : goal.returns
returns c =
    let at = goal.at.returns c in
    let fits : FitsRiff (length c.args.recording.now.channels) c.args.taps.now.width (frame_count c.args.taps.now c.args.recording.now.channels) = rw (← count_is at.After-div_ceil-count) (rw (known at.After-wave_spec-spec) at c.in_ok-push_header.ensures.fits) in
    let r = c.args.recording.now in
    let d = c.args.taps.now in
    let n = c.div_ceil-count.result in
    record {
      text = text_is r d c.channels-channels.ensures.shape.some_channel c.parts_join.ensures c.push_pad.new.out.items fits
          (rw (← count_is at.After-div_ceil-count) (rw (c.in_ok-push_pad.ensures.ok, c.in_ok-push_tiles.ensures, c.in_ok-reserve_exact.ensures.items, c.in_ok-push_header.ensures.ok, c.new-wave.ensures.items, known at.After-wave_spec-spec, c.channels-channels.ensures.value) (append_assoc (header (length r.channels) (r.rate / d.factor) d.width n) (flat_map (sample_bytes d.width) (frames_below d r.channels n)) (pad_bytes (length r.channels) d.width n))));
      too_large = answered r d c.channels-channels.ensures.shape.some_channel c.parts_join.ensures {Y = Vec ℕ Global} c.push_pad.new.out fits;
    }
