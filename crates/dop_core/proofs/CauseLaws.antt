-- A file that can be played as DoP samples is refused only from outside.
use Rattle.std.proofs.Common.{◌≡◌, ℕ, ◌%◌, List, ◌++◌, length, Option, None, Some, IfErr, Result, arith, subst}
use Rattle.std.proofs.lemmas.Result.{IfErr-weaker}
use Rattle.dsd_bits.specs.Sounds.{HasSound}
use Rattle.sound_core.specs.Faults.{IsFromOutside}
use Rattle.sound_core.specs.Files.{HoldsRecording}
use Rattle.sound_core.specs.Naming.{plain}
use Rattle.sound_core.specs.declared.fault.StreamFault.{StreamFault}
use Rattle.sound_core.specs.declared.fault.StreamFault.TheVariants.{FileRefused, RateNotDivided, TooLarge, ReadFailed, WriteFailed, TurnLimit, Memory}
use Rattle.sound_core.specs.declared.fault.Unread.{Unread}
use Rattle.dop_core.specs.Playing.{DopApplies, DopAppliesBy, DopOnlyFromOutsideBy, HasSoundThat, IsNotDivided, IsTooLarge, PlaysDop}
use Rattle.dop_core.specs.Writing.{FitsDop}

-- the sound that a prefix of a file describes is that of its recording
has_sound : (P : _) (file bytes : List ℕ) (stands : HasSoundThat P file) (plays : PlaysDop file bytes) → HasSound (stands.prefix ++ stands.rest) plays.recording stands.sound
has_sound P file bytes stands plays = stands.states.has stands.rest plays.recording (subst (λ f. HoldsRecording f plays.recording) stands.file_is plays.file_holds)

outside : (file bytes : List ℕ) (f : StreamFault) → DopApplies file f → PlaysDop file bytes → IsFromOutside f
outside file bytes FileRefused refused plays = refused plays.recording plays.file_holds
outside file bytes RateNotDivided stands plays =
    stands.is_so (subst (λ n. n % 16 ≡ 0) (has_sound IsNotDivided file bytes stands plays).rate plays.divided)
outside file bytes TooLarge stands plays =
    let has = has_sound IsTooLarge file bytes stands plays in
    let fits : FitsDop stands.sound.channels stands.sound.count = subst (λ n. FitsDop n stands.sound.count) has.number (subst (FitsDop (length plays.recording.channels)) has.count plays.fits) in
    let large = stands.is_so.1 in
    let none : ⊥ = omega (arith, fits, large) in none
outside file bytes ReadFailed stands plays = tt
outside file bytes WriteFailed stands plays = tt
outside file bytes TurnLimit stands plays = tt
outside file bytes Memory stands plays = tt

only_outside : (left : Option (List ℕ)) (f : StreamFault) → DopAppliesBy left f → DopOnlyFromOutsideBy left f
only_outside None f stands = tt
only_outside (Some file) f stands = λ bytes plays. outside file bytes f stands plays

pub causes : (left : Option (List ℕ)) (r : Result ℕ Unread) → IfErr r (λ u. DopAppliesBy left (plain u)) → IfErr r (λ u. DopOnlyFromOutsideBy left (plain u))
causes left r stands = IfErr-weaker r _ _ (λ u h. only_outside left (plain u) h) stands
