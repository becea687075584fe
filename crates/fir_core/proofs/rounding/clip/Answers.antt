use Rattle.std.proofs.Common.{◌-◌, ◌∙◌, pos, negsuc, ap, sym, w32}
use Rattle.std.specs.Int.{int_max, int_min, saturate_to_bits}
use Rattle.std.proofs.lemmas.Int.{to_z-of_z}
use Rattle.fir_core.proofs.RoundingLemmas.{clipped_16}
use Rattle.fir_core.proofs.rounding.clip.Goals as goal

pub returns-then-width-eq16 : goal.returns-then-width-eq16
returns-then-width-eq16 c =
    to_z-of_z w32 c.clamp.result (record { sfits = c.clamp.type_inv }) ∙ c.clamp.ensures.value ∙ ap (λ z. int_max (negsuc 32767) (int_min z (pos 32767))) (to_z-of_z w32 c.args.value c.ranges.value) ∙ clipped_16 c.args.value ∙ ap (λ w. saturate_to_bits (w - 1) c.args.value) (sym c.if-width-eq16.true)
