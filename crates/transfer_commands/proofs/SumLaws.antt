-- What identifies the sound of a file that was read in one pass.
use Rattle.std.proofs.Common.{◌≡◌, ℕ, List, Option, Some, None, Result, Ok, Err, IfOk, sym, ◌∙◌}
use Rattle.std.specs.Prelude.{IfErr, IfSome}
use Rattle.dsd_bits.specs.Sounds.{sound_channels}
use Rattle.sound_core.specs.Outlines.{AreStated, around_of, with_sound}
use Rattle.sound_core.specs.Sinks.{IsTakenOf, TakesFile}
use Rattle.sound_core.specs.declared.outline.Outline.{Outline}
use Rattle.sound_core.proofs.HeldLaws.{channels_count}
use Rattle.form_core.specs.Forms.{form_in}
use Rattle.folder_core.specs.Files.{IsGiven, View}
use Rattle.request_core.proofs.FormLaws.{holds_as}
use Rattle.transfer_commands.specs.Digesting.{IsDigesting}
use Rattle.transfer_commands.specs.Outlining.{IsUnoutlined, IsUnoutlinedLeft}
use Rattle.transfer_commands.specs.Summing.{AreSumsIn, IsMadeOf, SumComesTo}
use Rattle.transfer_commands.specs.declared.digesting.Digester.{Digester}
use Rattle.transfer_commands.specs.declared.fault.CommandFault.{CommandFault}
use Rattle.transfer_commands.specs.declared.fault.CommandFault.TheVariants.{Call, ReadFailed, WriteFailed}
use Rattle.transfer_commands.specs.declared.summing.Sums.{Sums}
use Rattle.transfer_commands.proofs.ReadLaws.{known_or_some}
use Rattle.transfer_commands.proofs.ReportLaws.{unoutlined_left}

-- these are the sums of the file that was read
pub taken_summed : (k : Digester) (outline : Outline) (sums : Sums) → IsMadeOf outline k sums → AreStated (around_of outline) → (file : List ℕ) → IsTakenOf (IsDigesting k) (around_of outline) file → AreSumsIn file sums
taken_summed k outline sums made reported file (sound, stands, has) =
    let s = outline.sound in
    record {
      recording = with_sound outline.recording s sound;
      holds = record { form = form_in s.interleaving; holds = holds_as s.interleaving file (with_sound outline.recording s sound) (reported.holds file sound stands) };
      are_sums = record {
        rate = made.rate;
        count = made.count ∙ sym (channels_count s.interleaving s.channels s.count sound reported.is_sound.some_channel reported.whole (stands.sound_long ∙ reported.is_sound.size));
        digests = made.digests (sound_channels s.interleaving s.channels s.count sound) has;
      };
    }

-- of whatever a reader has left
pub left_summed : (k : Digester) (outline : Outline) (sums : Sums) → IsMadeOf outline k sums → (left : Option (List ℕ)) → TakesFile (IsDigesting k) left (around_of outline) → IfSome left (λ file. AreSumsIn file sums)
left_summed k outline sums made None is = tt
left_summed k outline sums made (Some file) is = taken_summed k outline sums made is.0 file is.1

-- ---- the file of a name
unsummed : (name : List ℕ) (old new : View) (fault : CommandFault) → new ≡ old → IsUnoutlined name old fault → SumComesTo name old new (Err fault)
unsummed name old new (Call fault) same is = (same, is)
unsummed name old new ReadFailed same is = same
unsummed name old new WriteFailed same is = absurd is

-- it was summed, or is not read
pub sums_come : (name : List ℕ) (old new : View) (left : Option (List ℕ)) → new ≡ old → IsGiven old name left → (r : Result Sums CommandFault) → IfOk r (λ sums. IfSome left (λ file. AreSumsIn file sums)) → IfOk r (λ sums. (file : List ℕ) × AreSumsIn file sums) → IfErr r (IsUnoutlinedLeft left) → SumComesTo name old new r
sums_come name old new left same given (Ok sums) known some fault =
    let read = known_or_some old name left (λ file. AreSumsIn file sums) given known some in
    (record { file = read.0; file_read = read.1; are_sums = read.2 }, same)
sums_come name old new left same given (Err f) known some fault = unsummed name old new f same (unoutlined_left old name left given f fault)
