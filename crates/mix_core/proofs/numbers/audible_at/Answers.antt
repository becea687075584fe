use Rattle.mix_core.proofs.NumberLaws.{taps_ok}
use Rattle.mix_core.proofs.numbers.audible_at.Goals as goal

pub total-requires : goal.total-requires
total-requires c = rw c.deref.ensures.value (taps_ok _ _ _ _ c.in_ok-taps.taps.items c.in_ok-taps.ensures).1.small_sum
