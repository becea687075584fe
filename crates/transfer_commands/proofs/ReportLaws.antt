-- What is reported of a file by its outline.
use Rattle.std.proofs.Common.{◌≡◌, ℕ, List, [], Result, Err, Option, inl, inr, length, refl, sym, ap, ◌∙◌, subst}
use Rattle.std.proofs.lemmas.List.{length-replicate}
use Rattle.dsd_bits.specs.Contents.{described}
use Rattle.dsd_bits.specs.Sounds.{sound_channels}
use Rattle.std.specs.Prelude.{IfSome}
use Rattle.chunk_core.specs.Inlets.{inlet_reader}
use Rattle.chunk_core.specs.declared.inlet.Inlet.{Inlet}
use Rattle.form_core.specs.Forms.{form_in}
use Rattle.form_core.specs.Opening.{Opens, opened_of}
use Rattle.form_core.specs.declared.fault.ReadFault.{ReadFault}
use Rattle.form_core.specs.declared.fault.ReadFault.TheVariants as reads
use Rattle.form_core.specs.declared.opening.Opened.{Opened}
use Rattle.request_core.specs.Faults.{fault_of_file}
use Rattle.request_core.specs.declared.fault.Fault as calls
use Rattle.request_core.specs.declared.fault.Fault.TheVariants.{Memory}
use Rattle.transfer_commands.proofs.ReadLaws.{known_or_some}
use Rattle.sound_core.specs.Naming.{IfRefusedAs, NamesFault}
use Rattle.sound_core.specs.Outlines.{around_of, with_sound}
use Rattle.sound_core.specs.declared.fault.Unread.{Unread}
use Rattle.sound_core.specs.declared.fault.Unread.TheVariants as answers
use Rattle.sound_core.proofs.NamingLaws.{file_named}
use Rattle.sound_core.specs.declared.outline.Outline.{Outline}
use Rattle.sound_core.proofs.HeldLaws.{channels_count, channels_number}
use Rattle.folder_core.specs.Files.{IsGiven, IsReadOf, View}
use Rattle.transfer_commands.specs.declared.reporting.Reported.{Reported}
use Rattle.request_core.proofs.FormLaws.{holds_as}
use Rattle.transfer_commands.specs.Outlining.{IsFirstFault, IsOutlined, IsUnoutlined, IsUnoutlinedLeft, IsUnread, OutlinesRead}
use Rattle.transfer_commands.specs.Reporting.{IsReportOf, IsUnreported, ReportComesTo, ReportsFile}
use Rattle.transfer_commands.specs.declared.fault.CommandFault.{CommandFault}
use Rattle.transfer_commands.specs.declared.fault.CommandFault.TheVariants.{Call, ReadFailed, WriteFailed}

-- the silent channels of an outline are as many as those of its file
pub reported_number : (outline : Outline) (file : List ℕ) (is : IsOutlined file outline) → length outline.recording.channels ≡ length (sound_channels outline.sound.interleaving outline.sound.channels outline.sound.count is.around.0)
reported_number outline file is =
    let s = outline.sound in
    ap length is.reported.silent ∙ length-replicate s.channels [] ∙ sym (channels_number s.interleaving s.channels s.count is.around.0)

-- what an outline states is what the file holds
pub reported_by_outline : (outline : Outline) (file : List ℕ) → IsOutlined file outline → IsReportOf file (record { form = form_in outline.sound.interleaving; description = record (described outline.recording) { count = outline.sound.count } })
reported_by_outline outline file is =
    let o = around_of outline in
    let sound = is.around.0 in
    record {
      recording = with_sound o.recording o.sound sound;
      holds = holds_as o.sound.interleaving file (with_sound o.recording o.sound sound) (is.reported.holds file sound is.around.1);
      states = ap (λ (n : ℕ). record (described o.recording) { count = n }) (sym (channels_count o.sound.interleaving o.sound.channels o.sound.count sound is.reported.is_sound.some_channel is.reported.whole (is.around.1.sound_long ∙ is.reported.is_sound.size)));
    }

-- a file that was outlined is reported
pub outline_reports : (file_name : List ℕ) (old mid new : View) (outline : Outline) (reported : Reported) → mid ≡ old → new ≡ mid → OutlinesRead file_name mid outline → ((file : List ℕ) → IsOutlined file outline → IsReportOf file reported) → ReportsFile file_name old new reported
outline_reports file_name old mid new outline reported same again found states = record {
  file = found.file;
  file_read = subst (λ (v : View). IsReadOf v file_name found.file) same found.file_read;
  is_known = states found.file found.is_outline;
  same = again ∙ same;
}

-- ---- a file whose fault was named in one pass
opens_err : (cause : ReadFault) (reading : Result Opened ReadFault) → reading ≡ Err cause → Opens (Err cause) reading
opens_err reads.Memory reading e = tt
opens_err reads.UnknownForm reading e = e
opens_err (reads.Dsdiff fault) reading e = e
opens_err (reads.Dsf fault) reading e = e

pub unreported_named : (view : View) (name : List ℕ) (left : Option (List ℕ)) (cause : ReadFault) (fault : calls.Fault) → IsGiven view name left → IfSome left (λ file. opened_of file ≡ Err cause) → (read : List ℕ) → opened_of read ≡ Err cause
    → fault ≡ fault_of_file cause → IsUnreported name view fault
unreported_named view name left cause fault given known read first named =
    let is = known_or_some view name left (λ file. opened_of file ≡ Err cause) given known (read, first) in
    record { file = is.0; file_read = is.1; unopened = record { cause = cause; reading = opens_err cause (opened_of is.0) is.2; named = named } }

pub unoutlined_reported : (file_name : List ℕ) (old new : View) (f : CommandFault) → new ≡ old → IsUnoutlined file_name old f → ReportComesTo file_name old new (Err f)
unoutlined_reported file_name old new (Call fault) same is = (same, is)
unoutlined_reported file_name old new ReadFailed same is = same
unoutlined_reported file_name old new WriteFailed same is = absurd is

-- ---- the first fault of a reader that was opened under a name
pub unoutlined_left : (view : View) (name : List ℕ) (left : Option (List ℕ)) → IsGiven view name left → (f : CommandFault) → IsUnoutlinedLeft left f → IsUnoutlined name view f
unoutlined_left view name left given (Call fault) (inl none) = inl none
unoutlined_left view name left given (Call fault) (inr h) = inr (unreported_named view name left h.cause fault given h.first.0 h.first.1.0 h.first.1.1 h.named)
unoutlined_left view name left given ReadFailed h = tt
unoutlined_left view name left given WriteFailed h = absurd h

first_named : {R : Type 0} (left : R → Option (List ℕ)) (i j : Inlet R) (u : Unread) → IfRefusedAs u (NamesFault left i j) → IfRefusedAs u (IsFirstFault (left (inlet_reader i)))
first_named left i j (answers.Refused e) named = (file_named left i j e named, (named.read, named.sure.now))
first_named left i j (answers.Stream f) named = tt

pub first_of_reader : {R : Type 0} (left : R → Option (List ℕ)) (reader : R) (i j : Inlet R) (u : Unread) → inlet_reader i ≡ reader → IfRefusedAs u (NamesFault left i j) → IfRefusedAs u (IsFirstFault (left reader))
first_of_reader left reader i j u is named = subst (λ r. IfRefusedAs u (IsFirstFault (left r))) is (first_named left i j u named)

-- a file that was not read
pub unread_unoutlined : (name : List ℕ) (view : View) (f : CommandFault) → IsUnread f → IsUnoutlined name view f
unread_unoutlined name view (Call Memory) is = inl refl
unread_unoutlined name view ReadFailed is = tt
unread_unoutlined name view f is = absurd is
