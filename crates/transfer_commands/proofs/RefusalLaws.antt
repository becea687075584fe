-- What a command ends with for a fault of a call: for its exits.
use Rattle.std.proofs.Common.{◌≡◌, ◌↔◌, ℕ, inl, inr, List, Result, Err, false, true, true≢false, refl, subst, sym}
use Rattle.dop_core.specs.Reading.{recording_of}
use Rattle.dop_core.specs.Steps.{Fails}
use Rattle.dop_core.specs.declared.fault.DopFault.{DopFault}
use Rattle.dop_core.specs.declared.fault.DopFault.TheVariants as dops
use Rattle.folder_core.specs.Files.{IsReadFault, IsReadOf, View}
use Rattle.folder_core.specs.declared.fault.FileFault.{FileFault}
use Rattle.folder_core.specs.declared.fault.FileFault.TheVariants as files
use Rattle.form_core.specs.Parts.{FitsIn}
use Rattle.form_core.specs.declared.form.Form.{Form}
use Rattle.dsdiff_core.specs.declared.write_fault.WriteFault.{WriteFault}
use Rattle.dsdiff_core.specs.declared.write_fault.WriteFault.TheVariants as writes
use Rattle.request_core.specs.Faults.{fault_of_writing}
use Rattle.dsd_bits.specs.declared.sound.Sound.{Sound}
use Rattle.sound_core.specs.Outlines.{Surroundings}
use Rattle.speaker_core.specs.declared.speakers.Speakers.{Speakers}
use Rattle.transfer_commands.specs.BetweenPlaying.{IsNotOpened}
use Rattle.transfer_commands.specs.DopConverting.{ConvertDopComesTo, IsRefusal}
use Rattle.transfer_commands.specs.Faults.{of_file}
use Rattle.transfer_commands.specs.Outlining.{IsUnoutlined}
use Rattle.transfer_commands.specs.Renaming.{IsRenamingFault}
use Rattle.transfer_commands.specs.Speaking.{IsNotSpoken}
use Rattle.transfer_commands.specs.declared.between.BetweenFault.TheVariants.{Command}
use Rattle.transfer_commands.specs.declared.between.NeighbourNames.{NeighbourNames}
use Rattle.transfer_commands.specs.declared.convert_dop.DopConvertFault.{DopConvertFault}
use Rattle.transfer_commands.specs.declared.fault.CommandFault.{CommandFault}
use Rattle.transfer_commands.specs.declared.fault.CommandFault.TheVariants.{Call, ReadFailed, WriteFailed}
use Rattle.transfer_commands.proofs.BetweenRefusals.{IsRefusedBefore}

-- a test came out false
pub not_true : false ≡ true → ⊥
not_true is = true≢false (sym is)

-- a file of DoP samples has this first fault
pub dop_refused : (form : Form) (input output : List ℕ) (view : View) (file : List ℕ) (fault : DopFault) (refusal : DopConvertFault) → IsReadOf view input file → Fails fault (recording_of file) → IsRefusal fault refusal
    → ConvertDopComesTo form input output view view (Err refusal)
dop_refused form input output view file dops.Memory refusal read first is = subst (λ (r : DopConvertFault). ConvertDopComesTo form input output view view (Err r)) (sym is) (inl refl)
dop_refused form input output view file fault refusal read first is = subst (λ (r : DopConvertFault). ConvertDopComesTo form input output view view (Err r)) (sym is) (refl, record { file = file; file_read = read; first = first })

-- the bytes around a sound are not made
pub ends_refused : (form : Form) (o : Surroundings) {X : Type 0} (made : Result X WriteFault) (fault : WriteFault) → made ≡ Err fault → ((made ≡ Err writes.NotWholeBytes) ↔ (FitsIn form o.sound.count → ⊥)) → IsRenamingFault form o (fault_of_writing fault)
ends_refused form o made writes.Memory is whole = inl refl
ends_refused form o made writes.NotWholeBytes is whole = inr (refl, whole.0 is)

-- a project is not read
pub unread_before : (project input : List ℕ) (around : NeighbourNames) (old new : View) (fault : FileFault) → IsReadFault fault → new ≡ old → IsRefusedBefore project input around old new (Command (of_file fault))
unread_before project input around old new files.ReadFailed is same = same
unread_before project input around old new files.Memory is same = inl (same, refl)
unread_before project input around old new files.WriteFailed is same = absurd is

-- a recording has other channels than were reported of it
pub unspoken_before : (project input : List ℕ) (around : NeighbourNames) (old new : View) (speakers : Speakers) (s : Sound) (fault : CommandFault) → IsNotSpoken speakers s fault → new ≡ old → IsRefusedBefore project input around old new (Command fault)
unspoken_before project input around old new speakers s (Call fault) is same = inl (same, is)
unspoken_before project input around old new speakers s ReadFailed is same = same
unspoken_before project input around old new speakers s WriteFailed is same = absurd is

-- a file is not read, or holds no recording
pub unoutlined_unopened : (input : List ℕ) (old : View) (fault : CommandFault) → IsUnoutlined input old fault → IsNotOpened input old fault
unoutlined_unopened input old (Call fault) (inl memory) = inl memory
unoutlined_unopened input old (Call fault) (inr is) = inr (inl is)
unoutlined_unopened input old ReadFailed is = tt
unoutlined_unopened input old WriteFailed is = absurd is
