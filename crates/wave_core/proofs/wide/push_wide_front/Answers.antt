use Rattle.std.proofs.Common.{append_assoc, arith, ◌^◌}
use Rattle.std.proofs.lemmas.Bool.{le-ltb}
use Rattle.wave_core.proofs.wide.push_wide_front.Goals as goal

pub returns : goal.returns
returns c =
    rw (le-ltb c.args.sizes.now.riff_size (2 ^ 32) (omega (arith, c.from.ensures, c.if-sizes-from.false)), c.in_ok-push_ds64.ensures, c.in_ok-extend_from_slice-2.ensures.items, c.in_ok-push_u32.ensures.ok, c.in_ok-extend_from_slice.ensures.items)
    (simp append_assoc)
