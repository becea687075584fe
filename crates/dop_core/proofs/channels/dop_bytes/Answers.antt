use Rattle.std.proofs.Common.{◌≡◌, ◌+◌, ◌*◌, ◌/◌, ◌≤◌, ℕ, ◌∙◌, ap, subst, sym, arith, length}
use Rattle.dsd_bits.proofs.ExitLaws.{no_value}
use Rattle.dsd_bits.proofs.ShiftingLemmas.{written_back}
use Rattle.dop_core.specs.Reading.{dop_bytes}
use Rattle.dop_core.proofs.SoundLaws.{picked_are}
use Rattle.dop_core.proofs.channels.dop_bytes.Goals as goal

pub returns-clause-bytes : goal.returns-clause-bytes
returns-clause-bytes c =
    let size : length c.pick.new.to ≡ c.resize.new.self.len = omega (arith, c.pick.auto.to, c.as_mut_slice.ensures.len, c.in_ok-resize.ensures.len) in
    let number : length c.pick.new.to ≡ c.args.size = omega (arith, size, c.in_ok-resize.ensures.len) in
    written_back c.pick.new.to _ c.resize.new.self.len size
    ∙ picked_are c.args.channels c.args.sound.now c.args.c c.pick.new.to (λ p h. c.pick.ensures p (omega (arith, c.pick.auto.to)))
    ∙ ap (dop_bytes c.args.channels c.args.sound.now c.args.c) number

pub pick-requires-clause-size : goal.pick-requires-clause-size
pick-requires-clause-size c =
    let same : length c.as_mut_slice.result.now ≡ c.args.size = omega (arith, c.as_mut_slice.ensures.len, c.in_ok-resize.ensures.len) in
    subst (λ (k : ℕ). 3 * ((k + 1) / 2 * c.args.channels) ≤ length c.args.sound.now) (sym same) c.requires.size

pub returns-in_err-resize-clause-bytes : goal.returns-in_err-resize-clause-bytes
returns-in_err-resize-clause-bytes c = no_value _ _ c.from_residual.result c.from_residual.ensures.1

pub returns-in_err-resize-clause-size : goal.returns-in_err-resize-clause-size
returns-in_err-resize-clause-size c = no_value _ _ c.from_residual.result c.from_residual.ensures.1
