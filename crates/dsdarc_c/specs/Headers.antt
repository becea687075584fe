-- What the prefix of a file states, with the place from which on it is walked next.
use Rattle.std.specs.Prelude.{ℕ, ⊤}
use Rattle.dsd_bits.specs.declared.sound.SoundAt.{SoundAt}
use Rattle.dsd_bits.specs.declared.sound.SoundAt.TheVariants as sounds
use Rattle.dsdarc_c.specs.declared.headers.Stated.{Stated}
use Rattle.dsdarc_c.specs.declared.headers.Stated.TheVariants as answers

-- the answer without its place
abbrev pub sound_stated : Stated → SoundAt
sound_stated (answers.Found s) = sounds.Found s
sound_stated (answers.More at) = sounds.More
sound_stated answers.Refused = sounds.Refused

-- if more bytes are needed, the place up to which chunks were walked has this property
abbrev pub IfWanted : Stated → (ℕ → Type 0) → Type 0
IfWanted (answers.Found s) P = ⊤
IfWanted (answers.More at) P = P at
IfWanted answers.Refused P = ⊤
