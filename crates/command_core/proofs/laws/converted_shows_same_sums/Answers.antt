use Rattle.std.proofs.Common.{ℕ, ◌≡◌, List, refl}
use Rattle.transfer_commands.specs.Summing.{AreSameSums}
use Rattle.transfer_commands.specs.declared.summing.Sums.{Sums}
use Rattle.command_core.specs.Summing.{sum_text}
use Rattle.command_core.proofs.laws.converted_shows_same_sums.Goals as goal

same_line : (a b : Sums) → AreSameSums a b → (name : List ℕ) → sum_text a name ≡ sum_text b name
same_line a b same name = rw (same.rate, same.count, same.digests) refl

pub returns : goal.returns
returns c = λ file form bytes a b kept of to. same_line a b (c.kept_sound_has_same_sums.ensures file form bytes a b kept of to)
