use Rattle.std.proofs.Common.{ℕ, ◌*◌, ◌%◌, ap₂, ◌∙◌}
use Rattle.std.proofs.lemmas.Nat.{mul-mod_first}
use Rattle.wave_core.proofs.sound.pad_size.Goals as goal

pub returns : goal.returns
returns c = mul-mod_first c.args.frames (c.from.result * c.from-2.result) 2 ∙ ap₂ (λ (channels bytes : ℕ). c.args.frames * (channels * bytes) % 2) c.from.ensures c.from-2.ensures
