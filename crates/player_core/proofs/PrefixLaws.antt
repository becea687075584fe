-- What is given of a prefix of the sound bytes is a prefix of what the whole gives.
use Rattle.std.proofs.Common.{◌≡◌, ℕ, ◌≤◌, ◌%◌, List, ◌++◌, length, ap, ◌∙◌, append_assoc}
use Rattle.dsd_bits.specs.declared.interleaving.Interleaving.TheVariants.{Bytes}
use Rattle.dsd_bits.specs.declared.sound.Sound.{Sound}
use Rattle.dsd_bits.specs.Sounds.{IsSound}
use Rattle.fir_core.specs.Decimator.{Decimator}
use Rattle.player_core.specs.Due.{all_bytes, due_bytes}
use Rattle.player_core.proofs.FinishLaws.{rest_of_all}
use Rattle.player_core.proofs.StepLaws.{due_step}

pub prefix_of_more : (d : Decimator) (s : Sound) (before bytes : List ℕ) → 1 ≤ s.channels → 8 ≤ d.factor → (more : List ℕ) × (due_bytes d s (before ++ bytes) ≡ due_bytes d s before ++ more)
prefix_of_more d s before bytes some least = due_step s before bytes some d least

pub prefix_of_all : (d : Decimator) (s : Sound) (before bytes : List ℕ) → IsSound s → (s.interleaving ≡ Bytes → s.count % 8 ≡ 0) → 8 ≤ d.factor → length (before ++ bytes) ≡ s.size
    → (more : List ℕ) × (all_bytes d s (before ++ bytes) ≡ due_bytes d s before ++ more)
prefix_of_all d s before bytes is whole least all =
    let next = prefix_of_more d s before bytes is.some_channel least in
    let rest = rest_of_all s is whole (before ++ bytes) all d least in
    (next.0 ++ rest.0, rest.1 ∙ ap (λ xs. xs ++ rest.0) next.1 ∙ append_assoc (due_bytes d s before) next.0 rest.0)
