-- What becomes of a file that another is played to as DoP samples, or converted to from such samples.
use Rattle.std.proofs.Common.{◌≡◌, ◌⊎◌, ℕ, inl, inr, Bool, List, [], ◌++◌, IsTrue, Option, None, Some, Err, false, length, true, refl, sym, subst, ap, ◌∙◌}
use Rattle.chunk_core.specs.Outlets.{AppendsPrefix}
use Rattle.dop_core.specs.Playing.{DopPlaysFile, PlaysDop}
use Rattle.folder_core.specs.Files.{HadNone, IsGiven, IsGivenUp, KeepsOthers, View}
use Rattle.folder_core.specs.declared.fault.FileFault.{FileFault}
use Rattle.folder_core.specs.declared.fault.FileFault.TheVariants as files
use Rattle.form_core.specs.declared.form.Form.{Form}
use Rattle.request_core.specs.declared.fault.Fault as calls
use Rattle.transfer_commands.specs.DopConverting.{ConvertDopComesTo, LeavesDopPart}
use Rattle.transfer_commands.specs.DopPlaying.{EndsDop, HoldsDop, PlaysDopFile, StopsDop, WritesDop}
use Rattle.transfer_commands.specs.Faults.{of_file}
use Rattle.transfer_commands.specs.declared.convert_dop.DopConvertFault.TheVariants as faults
use Rattle.transfer_commands.proofs.ReadLaws.{unknown_view}

-- all of it was written, and handed back
pub dop_played : (input output : List ℕ) (old new : View) (remaining held written : Option (List ℕ)) → IsGiven old input remaining → (IsTrue old.is_known → held ≡ Some []) → KeepsOthers output old new → (IsTrue old.is_known → new.file output ≡ written)
    → (n : ℕ) → WritesDop remaining held written n → PlaysDopFile input output old new n
dop_played input output old new remaining held written given empty others stands n made = by old.is_known refl
  where
    all : (file : List ℕ) (w : Option (List ℕ)) → DopPlaysFile (Some file) (Some []) w n → new.file output ≡ w → (bytes : List ℕ) × (new.file output ≡ Some bytes) × PlaysDop file bytes × (n ≡ length bytes)
    all file None h is = absurd h.3
    all file (Some w) h is = (h.0, is ∙ ap (λ xs. Some xs) h.3, h.1, h.2)

    by : (reported : Bool) → old.is_known ≡ reported → PlaysDopFile input output old new n
    by true is =
        let g = given is in
        let whole = all g.0 written (subst (λ o. DopPlaysFile o (Some []) written n) g.2 (subst (λ o. DopPlaysFile remaining o written n) (empty is) made.plays)) (stands is) in
        record { file = g.0; bytes = whole.0; file_read = λ reported. g.1; output_put = λ reported. whole.1; others = others; plays = whole.2; counted = whole.3 }
    by false is = record {
      file = made.some.0;
      bytes = made.some.1;
      file_read = unknown_view old.is_known is;
      output_put = unknown_view new.is_known (others.same_known ∙ is);
      others = others;
      plays = made.some.2;
      counted = made.some.3;
    }

-- a fault ended it, and what was written is given up
pub dop_ended : (output : List ℕ) (old new : View) (remaining held written : Option (List ℕ)) → IsGivenUp output old new written → (fault : calls.Fault) → StopsDop remaining held written fault
    → (file : List ℕ) → remaining ≡ Some file → held ≡ Some [] → EndsDop file output old new fault
dop_ended output old new remaining held written stays fault stops file left empty = record { stands = own.stands; outside = own.outside; prefix = by stays }
  where
    own : StopsDop (Some file) (Some []) written fault
    own = subst (λ o. StopsDop o (Some []) written fault) left (subst (λ o. StopsDop remaining o written fault) empty stops)

    prefix_of : (w : Option (List ℕ)) (bytes : List ℕ) → new.file output ≡ w → AppendsPrefix (Some []) w bytes → (prefix : List ℕ) × (rest : List ℕ) × (new.file output ≡ Some prefix) × (bytes ≡ prefix ++ rest)
    prefix_of None bytes is h = absurd h.3
    prefix_of (Some w) bytes is h = (h.0, h.1, is ∙ ap (λ xs. Some xs) h.3, h.2)

    holds : (w : Option (List ℕ)) → StopsDop (Some file) (Some []) w fault → new.file output ≡ w → HoldsDop file fault (new.file output)
    holds w h is = record { prefix = λ bytes plays. prefix_of w bytes is (h.prefix bytes plays); none = λ early. is ∙ h.none early }

    by : IsGivenUp output old new written → (new.file output ≡ old.file output) ⊎ (HoldsDop file fault (new.file output) × HadNone output old)
    by (inl same) = inl same
    by (inr (is, had_none)) = inr (holds written own is, had_none)

-- a file that was converted was not written
pub dop_unwritten : (form : Form) (input output : List ℕ) (old new : View) (fault : FileFault) → fault ≡ files.WriteFailed → LeavesDopPart form input output old new → ConvertDopComesTo form input output old new (Err (faults.Command (of_file fault)))
dop_unwritten form input output old new fault is leaves = subst (λ (f : FileFault). ConvertDopComesTo form input output old new (Err (faults.Command (of_file f)))) (sym is) leaves
