-- What is known of a file that was held whole or reported, and of a folder that stayed as it was.
use Rattle.std.proofs.Common.{◌≡◌, ℕ, ◌≤◌, List, [], ◌++◌, Option, Err, Some, length, subst, sym, ap, ◌∙◌, arith, append-nil, length-append}
use Rattle.std.specs.Io.KnownBytes.{prepend_known}
use Rattle.folder_core.specs.Files.{IsGiven, IsReadOf, View}
use Rattle.sound_core.specs.Outlines.{AreAround, AreStated, Surroundings}
use Rattle.transfer_commands.specs.Outlining.{IsUnoutlined}
use Rattle.transfer_commands.specs.PartPlaying.{DescribesRead, ReportsRead}
use Rattle.transfer_commands.specs.Reporting.{ReportComesTo}
use Rattle.transfer_commands.specs.declared.fault.CommandFault.{CommandFault}
use Rattle.transfer_commands.specs.declared.fault.CommandFault.TheVariants.{Call, ReadFailed, WriteFailed}
use Rattle.transfer_commands.specs.declared.reporting.Reported.{Reported}

-- the sound starts in a file that is some sound in its surroundings
pub starts_within : (o : Surroundings) (file : List ℕ) → AreStated o → AreAround o file → o.sound.start ≤ length file
starts_within o file stated around =
    let after = around.0 ++ (around.1.gap ++ (o.back ++ around.1.rest)) in
    omega (arith, stated.start, ap length around.1.file_is ∙ length-append o.head after)

-- the first of the bytes that were read of it describe that sound
pub described_held : (view : View) (name file : List ℕ) (o : Surroundings) → IsReadOf view name file → AreStated o → AreAround o file → DescribesRead name view o.sound
described_held view name file o read stated around =
    record { prefix = o.head; rest = around.0 ++ (around.1.gap ++ (o.back ++ around.1.rest)); file_read = subst (IsReadOf view name) around.1.file_is read; states = stated.states }

-- nothing is left after a file that was read whole
pub held_left : (view : View) (name file rest : List ℕ) → IsReadOf view name file → rest ≡ [] → IsGiven view name (prepend_known file (Some rest))
held_left view name file rest read none = λ known. (file, read known, ap Some (ap (λ l. file ++ l) none ∙ append-nil file))

-- or it is given by a reader that has just its bytes
pub held_given : (view : View) (name file given : List ℕ) → IsReadOf view name file → given ≡ file → IsGiven view name (Some given)
held_given view name file given read is = λ known. (file, read known, ap Some is)

-- nothing changed where a file was not reported
pub unreported_same : (name : List ℕ) (old new : View) (fault : CommandFault) → ReportComesTo name old new (Err fault) → new ≡ old
unreported_same name old new (Call fault) h = h.0
unreported_same name old new ReadFailed h = h
unreported_same name old new WriteFailed h = absurd h

-- nor was it read, or its fault is the first one
pub unreported_unoutlined : (name : List ℕ) (old new : View) (fault : CommandFault) → ReportComesTo name old new (Err fault) → IsUnoutlined name old fault
unreported_unoutlined name old new (Call fault) h = h.1
unreported_unoutlined name old new ReadFailed h = tt
unreported_unoutlined name old new WriteFailed h = absurd h

-- what was read of a project, and then of a file, holds of a folder that stayed as it was, and so does what comes of it
module _ (old mid new : View) (first : mid ≡ old) (then : new ≡ mid) (A : View → Type 0) (project text input : List ℕ) (reported : Reported) (left : Option (List ℕ)) where
  pub still_known : (IsReadOf new project text → ReportsRead input new reported → IsGiven new input left → A new) → IsReadOf old project text → ReportsRead input mid reported → IsGiven mid input left → A old
  still_known came read reports given =
      let same = then ∙ first in
      subst A same (came (subst (λ (v : View). IsReadOf v project text) (sym same) read) (subst (λ (v : View). ReportsRead input v reported) (sym then) reports) (subst (λ (v : View). IsGiven v input left) (sym then) given))
