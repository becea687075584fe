use Rattle.std.proofs.Common.{arith}
use Rattle.dsf_core.proofs.FileLaws.{InFile, in_file}
use Rattle.dsf_core.proofs.reading.read_in_order.Goals as goal
use Rattle.dsf_core.proofs.reading.read_in_order.Goals.{In_ok-check_ends}

holds : (c : In_ok-check_ends) → InFile c.args.file.now c.in_ok-header.header
holds c = in_file c.args.file.now c.in_ok-header.header c.in_ok-check_ends.field-0 c.in_ok-header.ensures c.in_ok-check_ends.ensures

pub tag_in-requires : goal.tag_in-requires
tag_in-requires c = (holds c).tag

pub description_of-requires : goal.description_of-requires
description_of-requires c = record { in_limits = (holds (goal.at.description_of-requires c).In_ok-check_ends).sound }

pub split_at-requires : goal.split_at-requires
split_at-requires c = omega (arith, (holds (goal.at.split_at-requires c).In_ok-check_ends).whole)

pub channels_in-requires-clause-in_limits : goal.channels_in-requires-clause-in_limits
channels_in-requires-clause-in_limits c = (holds (goal.at.channels_in-requires-clause-in_limits c).In_ok-check_ends).sound

pub channels_in-requires-clause-enough : goal.channels_in-requires-clause-enough
channels_in-requires-clause-enough c =
    let h = holds (goal.at.channels_in-requires-clause-enough c).In_ok-check_ends in
    omega (arith, h.whole, h.size, c.split_at.ensures.back_len)
