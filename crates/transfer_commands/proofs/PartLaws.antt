-- What becomes of a file that a part of another is played to.
use Rattle.std.proofs.Common.{◌≡◌, ℕ, inl, inr, List, Ok, Err, refl, subst, ◌∙◌}
use Rattle.transfer_core.specs.Streaming.{part_range}
use Rattle.transfer_core.specs.declared.spans.Span.{Span}
use Rattle.wave_core.specs.declared.head.WaveHead.{WaveHead}
use Rattle.folder_core.specs.Files.{IsReadFault, IsReadOf, KeepsOthers, View}
use Rattle.folder_core.specs.declared.fault.FileFault.{FileFault}
use Rattle.folder_core.specs.declared.fault.FileFault.TheVariants as files
use Rattle.transfer_commands.specs.Faults.{of_file}
use Rattle.transfer_commands.specs.PartPlaying.{FindsSpan, IsPartRefused, IsUnfound, PlayPartComesTo}
use Rattle.transfer_commands.specs.Playing.{PlayedComesTo}
use Rattle.transfer_commands.specs.declared.fault.CommandFault.{CommandFault}
use Rattle.transfer_commands.specs.declared.fault.CommandFault.TheVariants.{Call, ReadFailed, WriteFailed}
use Rattle.transfer_commands.specs.declared.parts.PartFault.{PartFault}
use Rattle.transfer_commands.specs.declared.parts.PartFault.TheVariants.{Command, Span as Spans}

-- ---- the same of a project that was read
module _ (head : WaveHead) (project_name file_name output_name project : List ℕ) (start stop : ℕ) (span : Span) (old mid new : View) (project_read : IsReadOf old project_name project) (has : FindsSpan project file_name old span start stop) (same : mid ≡ old) where
  pub part_ends : (n : ℕ) → PlayedComesTo project (part_range head start stop) file_name output_name mid new (Ok n) → PlayPartComesTo head project_name file_name output_name span old new (Ok n)
  part_ends n h =
      let made = subst (λ (v : View). PlayedComesTo project (part_range head start stop) file_name output_name v new (Ok n)) same h in
      record {
        project = project;
        file = made.0;
        bytes = made.1;
        start = start;
        stop = stop;
        project_read = project_read;
        file_read = made.2;
        has_span = has;
        output_put = made.3;
        others = made.6;
        plays = made.4;
        counted = made.5;
      }

  pub part_fails : (fault : CommandFault) → PlayedComesTo project (part_range head start stop) file_name output_name mid new (Err fault) → PlayPartComesTo head project_name file_name output_name span old new (Err (Command fault))
  part_fails (Call fault) h =
      let left = subst (λ (v : View). PlayedComesTo project (part_range head start stop) file_name output_name v new (Err (Call fault))) same h in
      inr (inr (record { project = project; start = start; stop = stop; project_read = project_read; has_span = has; ended = left.0; named = left.1; others = left.2 }))
  part_fails WriteFailed h =
      let kept = subst (λ (v : View). KeepsOthers output_name v new × (new.file output_name ≡ v.file output_name)) same h in
      record { project = project; start = start; stop = stop; project_read = project_read; has_span = has; same = kept.1; others = kept.0 }
  part_fails ReadFailed h = absurd h

-- ---- a part that isn't found
pub refused_part : (project_name file_name project : List ℕ) (span : Span) (old mid new : View) → IsReadOf old project_name project → mid ≡ old → new ≡ mid
    → (fault : PartFault) → IsUnfound project file_name mid span fault → IsPartRefused project_name file_name span old new fault
refused_part project_name file_name project span old mid new project_read same again fault none =
    record { project = project; project_read = project_read; unfound = subst (λ (v : View). IsUnfound project file_name v span fault) same none; same = again ∙ same }

pub part_refused : (head : WaveHead) (project_name file_name output_name project : List ℕ) (span : Span) (old mid new : View) → IsReadOf old project_name project → mid ≡ old → new ≡ mid
    → (fault : PartFault) → IsUnfound project file_name mid span fault → PlayPartComesTo head project_name file_name output_name span old new (Err fault)
part_refused head project_name file_name output_name project span old mid new project_read same again (Command (Call fault)) none =
    inr (inl (refused_part project_name file_name project span old mid new project_read same again (Command (Call fault)) none))
part_refused head project_name file_name output_name project span old mid new project_read same again (Command ReadFailed) none = again ∙ same
part_refused head project_name file_name output_name project span old mid new project_read same again (Command WriteFailed) none = absurd none
part_refused head project_name file_name output_name project span old mid new project_read same again (Spans fault) none =
    refused_part project_name file_name project span old mid new project_read same again (Spans fault) none

-- a project that is not read
pub project_unread : (head : WaveHead) (project file_name output_name : List ℕ) (span : Span) (old new : View) → new ≡ old → (fault : FileFault) → IsReadFault fault → PlayPartComesTo head project file_name output_name span old new (Err (Command (of_file fault)))
project_unread head project file_name output_name span old new same files.ReadFailed h = same
project_unread head project file_name output_name span old new same files.Memory h = inl (same, refl)
project_unread head project file_name output_name span old new same files.WriteFailed h = absurd h
