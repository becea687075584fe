-- What becomes of a file that another is converted to.
use Rattle.std.proofs.Common.{arith, ◌≡◌, ℕ, ◌%◌, ◌⊎◌, ◌==◌, if◌then◌else◌, inl, inr, List, [], Bool, IsTrue, Option, None, Some, Result, Ok, Err, IfOk, OnErr, false, true, refl, subst, sym, ap, ◌∙◌}
use Rattle.std.specs.Prelude.{IfErr}
use Rattle.std.proofs.lemmas.Bool.Decides.{nat_tests}
use Rattle.dsd_bits.specs.Channels.{count_of}
use Rattle.dsd_bits.specs.Contents.{Content, described}
use Rattle.chunk_core.specs.Outlets.{AppendsPrefix}
use Rattle.form_core.specs.Forms.{HoldsAs, dropped_in, form_in, text_in}
use Rattle.form_core.specs.Laws.{HeldIsOpened}
use Rattle.form_core.specs.Opening.{Opens, opened_of}
use Rattle.form_core.specs.declared.fault.ReadFault.{ReadFault}
use Rattle.form_core.specs.declared.fault.ReadFault.TheVariants as reads
use Rattle.request_core.specs.Faults.{fault_of_file}
use Rattle.request_core.specs.declared.fault.Fault as calls
use Rattle.form_core.specs.Parts.{FitsIn, FormsWrittenInParts}
use Rattle.form_core.specs.Steps.{FailsUnless}
use Rattle.form_core.specs.declared.form.Form.{Form}
use Rattle.form_core.specs.declared.form.Form.TheVariants.{Dsdiff, Dsf, Dsf8}
use Rattle.folder_core.specs.Files.{HadNone, HoldsPrefix, IsGiven, IsGivenUp, IsPutInPart, IsReadOf, KeepsOthers, View}
use Rattle.folder_core.specs.declared.fault.FileFault.{FileFault}
use Rattle.folder_core.specs.declared.fault.FileFault.TheVariants as files
use Rattle.sound_core.specs.Outlines.{around_of, with_sound}
use Rattle.sound_core.specs.declared.outline.Outline.{Outline}
use Rattle.transfer_core.specs.Converting.{Converts, Keeps, converted_of}
use Rattle.transfer_core.specs.Conversions as streams
use Rattle.request_core.specs.declared.fault.Fault.TheVariants.{Memory, NotWholeBytes}
use Rattle.transfer_commands.specs.declared.fault.CommandFault.{CommandFault}
use Rattle.transfer_commands.specs.declared.fault.CommandFault.TheVariants as faults
use Rattle.transfer_commands.specs.Converting.{ConvertComesTo, ConvertsFile, ConvertsSome, ConvertsTo, IsUnconverted, KeepsOld, LeavesConvertedPrefix}
use Rattle.transfer_commands.specs.Faults.{of_file}
use Rattle.transfer_commands.specs.Outlining.{IsOutlined, IsUnoutlined, OutlinesRead}
use Rattle.sound_core.proofs.HeldLaws.{channels_count}
use Rattle.transfer_commands.proofs.ReadLaws.{last_of, unknown_view}
use Rattle.request_core.proofs.FormLaws.{holds_as}
use Rattle.transfer_commands.proofs.ReportLaws.{reported_number}

-- ---- a file that was read whole

-- an old output was kept where what is left is a prefix
pub kept_by : (output : List ℕ) (old new : View) (bytes : List ℕ) → IsPutInPart output old new bytes → KeepsOld output old new
kept_by output old new bytes prefix = λ reported. elim (prefix reported) [ inl same ↦ inl same | inr held ↦ inr held.had_none ]

-- what it is converted to could not be written
pub convert_unwritten : (old new : View) (form : Form) (file_name output_name file bytes : List ℕ) (dropped : ℕ) (fault : FileFault)
    → IsReadOf old file_name file
    → IsPutInPart output_name old new bytes
    → KeepsOthers output_name old new → Converts file form bytes dropped → fault ≡ files.WriteFailed
    → ConvertComesTo form file_name output_name old new (Err (of_file fault))
convert_unwritten old new form file_name output_name file bytes dropped fault read prefix others converts is =
    subst (λ (f : FileFault). ConvertComesTo form file_name output_name old new (Err (of_file f))) (sym is) (record {
      file = file;
      last = file;
      bytes = bytes;
      dropped = dropped;
      file_read = read;
      last_read = read;
      converts = converts;
      prefix = λ same. prefix;
      kept = kept_by output_name old new bytes prefix;
      others = others;
    })

-- ---- a file of a known outline

if_not : {A : Type 0} (n : ℕ) (x y : A) → (n ≡ 0 → ⊥) → (if n == 0 then x else y) ≡ y
if_not n x y not = grind (arith, nat_tests)

-- a form without a place for channels has no text of them
pub no_text : (form : Form) (r : Content) → (FitsIn form (count_of r.channels) → ⊥) → text_in form r ≡ None
no_text Dsdiff r cut = if_not (count_of r.channels % 8) _ _ (λ whole. cut (λ _. whole))
no_text Dsf r cut = absurd (cut (λ e. absurd cc))
no_text Dsf8 r cut = absurd (cut (λ e. absurd cc))

module _ (outline : Outline) (file : List ℕ) (form : Form) (is : IsOutlined file outline) where
  abbrev recorded : Content
  recorded = with_sound outline.recording outline.sound is.around.0

  counted : count_of recorded.channels ≡ outline.sound.count
  counted = channels_count outline.sound.interleaving outline.sound.channels outline.sound.count is.around.0 is.reported.is_sound.some_channel is.reported.whole (is.around.1.sound_long ∙ is.reported.is_sound.size)

  held : HoldsAs file (form_in outline.sound.interleaving) recorded
  held = holds_as outline.sound.interleaving file recorded (is.reported.holds file is.around.0 is.around.1)

  -- it is converted to something if the form has a place for its channels
  pub outlined_converts : FormsWrittenInParts → FitsIn form outline.sound.count → (bytes : List ℕ) × (dropped : ℕ) × Converts file form bytes dropped
  outlined_converts in_parts fits = (
    _,
    dropped_in form (described recorded),
    record {
      source = form_in outline.sound.interleaving;
      recording = recorded;
      file_holds = held;
      text = in_parts form outline.recording recorded.channels (reported_number outline file is) (subst (FitsIn form) (sym counted) fits);
      dropped_is = refl;
    },
  )

  -- and to nothing if it has none
  pub outlined_unconverted : HeldIsOpened → (FitsIn form outline.sound.count → ⊥) → FailsUnless Memory NotWholeBytes (converted_of file form)
  unfolding converted_of
  outlined_unconverted law cut =
      let opens = (law file (form_in outline.sound.interleaving) recorded).0 held in
      let none = no_text form recorded (λ fits. cut (subst (FitsIn form) counted fits)) in
      inr (rw opens (rw none refl))

-- ---- a reader's file
pub converts_to : (outline : Outline) (form : Form) (left empty written : Option (List ℕ)) (came : Result ℕ calls.Fault) → IfOk came (streams.ConvertsReader left form empty written) → IfOk came (ConvertsSome form)
    → OnErr came (streams.ConvertsPrefix left (around_of outline) form empty written) → IfErr came (streams.ConversionApplies left (around_of outline) form) → ConvertsTo outline form left empty written came
converts_to outline form left empty written (Ok dropped) converts some prefix applies = (converts, some)
converts_to outline form left empty written (Err fault) converts some prefix applies = (prefix, applies)

-- ---- what is left of the output

module _ (form : Form) (input output : List ℕ) (old new : View) (others : KeepsOthers output old new) where
  -- all was written, and handed back
  pub converts_all : (left empty written : Option (List ℕ)) (dropped : ℕ) → IsGiven old input left → (IsTrue old.is_known → empty ≡ Some []) → (IsTrue old.is_known → new.file output ≡ written) → streams.ConvertsReader left form empty written dropped
      → ConvertsSome form dropped → ConvertsFile form input output old new dropped
  converts_all left empty written dropped given is_empty stands converts some = by old.is_known refl
    where
      all : (file : List ℕ) (w : Option (List ℕ)) → streams.ConvertsReader (Some file) form (Some []) w dropped → (bytes : List ℕ) × Converts file form bytes dropped × Keeps file form bytes dropped × (w ≡ Some bytes)
      all file None h = absurd h.3
      all file (Some w) h = (h.0, h.1, h.2, ap Some h.3)

      by : (reported : Bool) → old.is_known ≡ reported → ConvertsFile form input output old new dropped
      by true is =
          let g = given is in
          let made = all g.0 written (subst (λ o. streams.ConvertsReader o form (Some []) written dropped) g.2 (subst (λ o. streams.ConvertsReader left form o written dropped) (is_empty is) converts)) in
          record {
            file = g.0;
            bytes = made.0;
            file_read = λ reported. g.1;
            output_put = λ reported. stands is ∙ made.3;
            others = others;
            converts = made.1;
            kept = made.2.sound;
            whole = made.2.whole;
          }
      by false is = record {
        file = some.0;
        bytes = some.1;
        file_read = unknown_view old.is_known is;
        output_put = unknown_view new.is_known (others.same_known ∙ is);
        others = others;
        converts = some.2;
        kept = some.3.sound;
        whole = some.3.whole;
      }

  module _ (outline : Outline) (found : OutlinesRead input old outline) (in_parts : FormsWrittenInParts) (fits : FitsIn form outline.sound.count) where
    -- the output is as it was
    pub converts_none : new.file output ≡ old.file output → LeavesConvertedPrefix form input output old new
    converts_none same =
        let made = outlined_converts outline found.file form found.is_outline in_parts fits in
        record {
          file = found.file;
          last = found.file;
          bytes = made.0;
          dropped = made.1;
          file_read = found.file_read;
          last_read = found.file_read;
          converts = made.2;
          prefix = λ is reported. inl same;
          kept = λ reported. inl same;
          others = others;
        }

    -- a prefix was written, and handed back, or not even that
    pub converts_prefix : (left empty written : Option (List ℕ)) → IsGiven old input left → (IsTrue old.is_known → empty ≡ Some []) → (IsTrue old.is_known → IsGivenUp output old new written) → streams.ConvertsPrefix left (around_of outline) form empty written → LeavesConvertedPrefix form input output old new
    converts_prefix left empty written given is_empty stays prefix =
        let made = outlined_converts outline found.file form found.is_outline in_parts fits in
        let read = last_of old input left given found.file found.file_read in
        record {
          file = found.file;
          last = read.0;
          bytes = made.0;
          dropped = made.1;
          file_read = found.file_read;
          last_read = read.1;
          converts = made.2;
          prefix = λ is reported. by (read.2 reported ∙ ap Some is) (is_empty reported) made.0 made.1 made.2 (stays reported);
          kept = λ reported. elim (stays reported) [ inl same ↦ inl same | inr held ↦ inr held.1 ];
          others = others;
        }
      where
        own : left ≡ Some found.file → empty ≡ Some [] → streams.ConvertsPrefix (Some found.file) (around_of outline) form (Some []) written
        own left_is none = subst (λ o. streams.ConvertsPrefix o (around_of outline) form (Some []) written) left_is (subst (λ o. streams.ConvertsPrefix left (around_of outline) form o written) none prefix)

        put_prefix : (bytes : List ℕ) (w : Option (List ℕ)) → new.file output ≡ w → AppendsPrefix (Some []) w bytes → HadNone output old → HoldsPrefix output old new bytes
        put_prefix bytes None is h had_none = absurd h.3
        put_prefix bytes (Some w) is h had_none = record { prefix = h.0; rest = h.1; parts = h.2; stands = is ∙ ap Some h.3; had_none = had_none }

        by : left ≡ Some found.file → empty ≡ Some [] → (bytes : List ℕ) (dropped : ℕ) → Converts found.file form bytes dropped → IsGivenUp output old new written → (new.file output ≡ old.file output) ⊎ HoldsPrefix output old new bytes
        by left_is none bytes dropped converts (inl same) = inl same
        by left_is none bytes dropped converts (inr (stands, had_none)) = inr (put_prefix bytes written stands (own left_is none found.is_outline.around bytes dropped converts) had_none)

-- ---- a file that holds no recording
first_fault : (file : List ℕ) (form : Form) (cause : ReadFault) (fault : calls.Fault) → Opens (Err cause) (opened_of file) → fault ≡ fault_of_file cause → FailsUnless Memory fault (converted_of file form)
unfolding converted_of
first_fault file form reads.Memory fault reading named = inl named
first_fault file form reads.UnknownForm fault reading named = inr (rw (named, reading) refl)
first_fault file form (reads.Dsdiff d) fault reading named = inr (rw (named, reading) refl)
first_fault file form (reads.Dsf d) fault reading named = inr (rw (named, reading) refl)

refused_first : (form : Form) (input output : List ℕ) (old new : View) (fault : calls.Fault) → new ≡ old → IsUnconverted form input old fault → ConvertComesTo form input output old new (Err (faults.Call fault))
refused_first form input output old new Memory same is = inl same
refused_first form input output old new fault same is = (same, is)

pub unoutlined_unconverted : (form : Form) (input output : List ℕ) (old new : View) (f : CommandFault) → new ≡ old → IsUnoutlined input old f → ConvertComesTo form input output old new (Err f)
unoutlined_unconverted form input output old new (faults.Call fault) same (inl none) = subst (λ (g : calls.Fault). ConvertComesTo form input output old new (Err (faults.Call g))) (sym none) (inl same)
unoutlined_unconverted form input output old new (faults.Call fault) same (inr is) =
    refused_first form input output old new fault same (record { file = is.file; file_read = is.file_read; first = first_fault is.file form is.unopened.cause fault is.unopened.reading is.unopened.named })
unoutlined_unconverted form input output old new faults.ReadFailed same is = inl same
unoutlined_unconverted form input output old new faults.WriteFailed same is = absurd is
