use Rattle.heard_core.proofs.LaneLaws.{four_added, four_narrowed, four_widened}
use Rattle.heard_core.proofs.products.add_four.Goals as goal

pub overflow_cast-taps : goal.overflow_cast-taps
overflow_cast-taps c = four_narrowed c.args.taps.now c.requires.small_taps

pub overflow_cast-taps-2 : goal.overflow_cast-taps-2
overflow_cast-taps-2 c = four_widened c.args.taps.now c.requires.small_taps

pub overflow_cast-errors : goal.overflow_cast-errors
overflow_cast-errors c = four_narrowed c.args.errors.now c.requires.small_errors

pub overflow_cast-errors-2 : goal.overflow_cast-errors-2
overflow_cast-errors-2 c = four_widened c.args.errors.now c.requires.small_errors

pub returns : goal.returns
returns c = four_added c.args.parts c.args.taps.now c.args.errors.now c.requires.taps c.requires.errors c.requires.small_taps c.requires.small_errors
