use Rattle.std.proofs.Common.{◌≡◌, ◌*◌, ◌/◌, ◌^◌, ◌<◌, ap, length, arith}
use Rattle.dsd_bits.proofs.ExitLaws.{no_value}
use Rattle.dsd_bits.specs.Lacing.{laced}
use Rattle.dsdiff_core.proofs.WritingLemmas.{few_bytes}
use Rattle.dsdiff_core.proofs.WrittenParts.{sound_size, text_is}
use Rattle.dsdiff_core.proofs.writing.file_of.Goals as goal
use Rattle.dsdiff_core.proofs.writing.file_of.Goals.{After-count}

few : (c : goal.After-count) → c.count.result / 8 * length c.channels-channels.result.now < 2 ^ 36
few c = few_bytes c.count.result (length c.channels-channels.result.now) c.count.ensures.in_limit (omega (arith, ap length c.channels-channels.ensures.value, c.channels-channels.ensures.shape.six_channels))

size_is : (c : goal.After-count) → c.count.result / 8 * length c.channels-channels.result.now ≡ length (laced c.args.recording.now.channels)
size_is c = sound_size c.args.recording.now.channels c.count.result (length c.channels-channels.result.now) c.count.ensures.value (ap length c.channels-channels.ensures.value)

pub overflow_mul-size : goal.overflow_mul-size
overflow_mul-size c = omega (arith, few c)

pub returns-clause-text : goal.returns-clause-text
returns-clause-text c =
    text_is c.args.recording.now _ c.in_ok-out.out.items c.in_ok-tail.tail.items c.push_laced.new.out.items c.extend_from_slice.new.self.items
    (grind arith) (size_is (goal.at.returns-clause-text c).After-count) c.in_ok-out.ensures c.in_ok-tail.ensures (grind arith) (grind arith)

pub returns-clause-read_again : goal.returns-clause-read_again
returns-clause-read_again c =
    c.written_is_read_again.ensures c.args.recording.now _ c.channels-channels.ensures.shape c.fields_fit.ensures (returns-clause-text c) (omega arith)

pub returns-in_err-tail-clause-text : goal.returns-in_err-tail-clause-text
returns-in_err-tail-clause-text c = no_value _ _ c.from_residual.result c.from_residual.ensures.1

pub returns-in_err-tail-clause-read_again : goal.returns-in_err-tail-clause-read_again
returns-in_err-tail-clause-read_again c = no_value _ _ c.from_residual.result c.from_residual.ensures.1

pub returns-in_err-out-clause-text : goal.returns-in_err-out-clause-text
returns-in_err-out-clause-text c = no_value _ _ c.from_residual-in_err-out.result c.from_residual-in_err-out.ensures.1

pub returns-in_err-out-clause-read_again : goal.returns-in_err-out-clause-read_again
returns-in_err-out-clause-read_again c = no_value _ _ c.from_residual-in_err-out.result c.from_residual-in_err-out.ensures.1

pub returns-in_err-reserve_exact-clause-text : goal.returns-in_err-reserve_exact-clause-text
returns-in_err-reserve_exact-clause-text c = no_value _ _ c.from_residual-in_err-reserve_exact.result c.from_residual-in_err-reserve_exact.ensures.1

pub returns-in_err-reserve_exact-clause-read_again : goal.returns-in_err-reserve_exact-clause-read_again
returns-in_err-reserve_exact-clause-read_again c = no_value _ _ c.from_residual-in_err-reserve_exact.result c.from_residual-in_err-reserve_exact.ensures.1

pub returns-in_err-push_laced-clause-text : goal.returns-in_err-push_laced-clause-text
returns-in_err-push_laced-clause-text c = no_value _ _ c.from_residual-in_err-push_laced.result c.from_residual-in_err-push_laced.ensures.1

pub returns-in_err-push_laced-clause-read_again : goal.returns-in_err-push_laced-clause-read_again
returns-in_err-push_laced-clause-read_again c = no_value _ _ c.from_residual-in_err-push_laced.result c.from_residual-in_err-push_laced.ensures.1

pub returns-in_err-extend_from_slice-clause-text : goal.returns-in_err-extend_from_slice-clause-text
returns-in_err-extend_from_slice-clause-text c = no_value _ _ c.from_residual-in_err-extend_from_slice.result c.from_residual-in_err-extend_from_slice.ensures.1

pub returns-in_err-extend_from_slice-clause-read_again : goal.returns-in_err-extend_from_slice-clause-read_again
returns-in_err-extend_from_slice-clause-read_again c = no_value _ _ c.from_residual-in_err-extend_from_slice.result c.from_residual-in_err-extend_from_slice.ensures.1

pub write_head-requires : goal.write_head-requires
write_head-requires c = omega (arith, ap length c.in_ok-tail.ensures)

pub push_laced-requires-clause-channel_number : goal.push_laced-requires-clause-channel_number
push_laced-requires-clause-channel_number c =
    let shape = c.channels-channels.ensures.shape in rw c.channels-channels.ensures.value (shape.some_channel, shape.six_channels)

pub push_laced-requires-clause-level : goal.push_laced-requires-clause-level
push_laced-requires-clause-level c = rw c.channels-channels.ensures.value c.channels-channels.ensures.shape.level

pub push_laced-requires-clause-whole_bytes : goal.push_laced-requires-clause-whole_bytes
push_laced-requires-clause-whole_bytes c = rw c.channels-channels.ensures.value c.requires

pub overflow_add-size : goal.overflow_add-size
overflow_add-size c = omega (arith, few (goal.at.overflow_add-size c).After-count)
