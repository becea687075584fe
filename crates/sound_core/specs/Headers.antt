-- What the prefix of a file says about its sound.
use Rattle.std.specs.Prelude.{ℕ, ⊤}
use Rattle.dsd_bits.specs.declared.sound.SoundAt.{SoundAt}
use Rattle.dsd_bits.specs.declared.sound.SoundAt.TheVariants as sounds
use Rattle.sound_core.specs.declared.cause.Cause.{Cause}
use Rattle.sound_core.specs.declared.header.HeaderAnswer.{HeaderAnswer}
use Rattle.sound_core.specs.declared.header.HeaderAnswer.TheVariants as answers

-- the answer without its fault or place
abbrev pub sound_stated : HeaderAnswer → SoundAt
sound_stated (answers.Found s) = sounds.Found s
sound_stated (answers.More at) = sounds.More
sound_stated (answers.Refused e) = sounds.Refused

-- if more bytes are needed, the place up to which chunks were walked has this property
abbrev pub IfWanted : HeaderAnswer → (ℕ → Type 0) → Type 0
IfWanted (answers.Found s) P = ⊤
IfWanted (answers.More at) P = P at
IfWanted (answers.Refused e) P = ⊤

-- if every file that begins with the prefix is refused, what is known about its first fault has this property
abbrev pub IfSure : HeaderAnswer → (Cause → Type 0) → Type 0
IfSure (answers.Found s) P = ⊤
IfSure (answers.More at) P = ⊤
IfSure (answers.Refused e) P = P e
