-- What becomes of a file of DoP samples that is read twice.
use Rattle.std.proofs.Common.{◌≡◌, ◌⊎◌, ℕ, inl, inr, Bool, List, [], ◌++◌, IsTrue, Option, None, Some, IfSome, OnErr, OnOk, Result, Ok, Err, append-nil, false, true, refl, sym, subst, ap, ◌∙◌}
use Rattle.std.specs.Io.KnownBytes.{Appends, Consumes, IsAtEnd}
use Rattle.chunk_core.specs.Inlets.{inlet_reader}
use Rattle.chunk_core.specs.Outlets.{AppendsPrefix, outlet_writer}
use Rattle.chunk_core.specs.declared.inlet.Inlet.{Inlet}
use Rattle.chunk_core.specs.declared.outlet.Outlet.{Outlet}
use Rattle.dop_core.specs.Converting.{ConvertsOutline, StartsOutline}
use Rattle.dop_core.specs.Outlines.{IsIn, IsOutline, ReadsOutline, recording_in}
use Rattle.dop_core.specs.Pieces.{NamesAfter}
use Rattle.dop_core.specs.Reading.{recording_of}
use Rattle.dop_core.specs.declared.fault.DopFault.{DopFault}
use Rattle.dop_core.specs.declared.fault.DopFault.TheVariants as dops
use Rattle.dop_core.specs.declared.outline.DopOutline.{DopOutline}
use Rattle.dop_core.specs.declared.stop.DopStop.{DopStop}
use Rattle.dop_core.proofs.BitLaws.{count_is}
use Rattle.dop_core.proofs.OutlineLaws.{recorded}
use Rattle.dop_core.proofs.WrittenLaws.{text_is}
use Rattle.folder_core.specs.Files.{HadNone, HoldsPrefix, IsGiven, IsGivenUp, KeepsOthers, View}
use Rattle.form_core.specs.Forms.{text_in}
use Rattle.form_core.specs.Parts.{FitsIn, FormsWrittenInParts}
use Rattle.form_core.specs.declared.form.Form.{Form}
use Rattle.request_core.specs.declared.fault.Fault as calls
use Rattle.transfer_commands.specs.DopConverting.{ConvertDopComesTo, ConvertsDop, ConvertsDopTo, IsFirstDopFault, IsPartByte, IsRefusal, IsUnscanned, IsUnscannedLeft, LeavesDopPart, MakesDop, ScansLeft, ScansRead, StartsDop}
use Rattle.transfer_commands.specs.declared.convert_dop.DopConvertFault.{DopConvertFault}
use Rattle.transfer_commands.specs.declared.convert_dop.DopConvertFault.TheVariants as faults
use Rattle.transfer_commands.specs.declared.fault.CommandFault.TheVariants.{Call, ReadFailed, WriteFailed}
use Rattle.transfer_commands.proofs.ConvertLaws.{no_text}
use Rattle.transfer_commands.proofs.ReadLaws.{known_or_some, last_of, unknown_view}

-- what was read to the end is all
pub known_all : (P : List ℕ → Type 0) (a b : Option (List ℕ)) (read : List ℕ) → Consumes a b read → IsAtEnd b → P read → IfSome a P
known_all P None b read c end p = tt
known_all P (Some xs) None read c end p = absurd c
known_all P (Some xs) (Some ys) read c end p = subst P (sym (c ∙ ap (λ zs. read ++ zs) end ∙ append-nil read)) p

-- what holds of what was read, and of what is left with it, holds of all
known_later : (P : List ℕ → Type 0) (a b : Option (List ℕ)) (read : List ℕ) → Consumes a b read → IfSome b (λ rest. P (read ++ rest)) → IfSome a P
known_later P None b read c p = tt
known_later P (Some xs) None read c p = absurd c
known_later P (Some xs) (Some ys) read c p = subst P (sym c) p

-- ---- a file that was looked through

pub scanned : {R : Type 0} (left : R → Option (List ℕ)) (i j : Inlet R) (o : DopOutline) → IsOutline o → ReadsOutline left i j o → ScansLeft (left (inlet_reader i)) o
scanned left i j o is read = record {
  is_outline = is;
  known = known_all (IsIn o) (left (inlet_reader i)) (left (inlet_reader j)) read.read read.pulled read.at_end read.is_in;
  some = (read.read, read.is_in);
}

pub scan_read : (view : View) (name : List ℕ) (left : Option (List ℕ)) → IsGiven view name left → (o : DopOutline) → ScansLeft left o → ScansRead name view o
scan_read view name left given o s =
    let read = known_or_some view name left (IsIn o) given s.known s.some in
    record { file = read.0; file_read = read.1; is_outline = s.is_outline; is_in = read.2 }

pub first_dop : {R : Type 0} (left : R → Option (List ℕ)) (i j : Inlet R) (e : DopFault) → NamesAfter left i j [] e → IsFirstDopFault (left (inlet_reader i)) e
first_dop left i j e names = (known_later (λ file. recording_of file ≡ Err e) (left (inlet_reader i)) (left (inlet_reader j)) names.read names.pulled names.later, (names.read, names.now))

pub refusal_left : (fault : DopFault) (result : DopConvertFault) (left : Option (List ℕ)) → IsRefusal fault result → IsFirstDopFault left fault → IsUnscannedLeft left result
refusal_left dops.Memory result left is first = subst (IsUnscannedLeft left) (sym is) refl
refusal_left fault result left is first = subst (IsUnscannedLeft left) (sym is) first

pub unscanned : (view : View) (name : List ℕ) (left : Option (List ℕ)) → IsGiven view name left → (f : DopConvertFault) → IsUnscannedLeft left f → IsUnscanned name view f
unscanned view name left given (faults.Refused fault) h = let read = known_or_some view name left (λ file. recording_of file ≡ Err fault) given h.0 h.1 in record { file = read.0; file_read = read.1; first = read.2 }
unscanned view name left given (faults.Command (Call fault)) h = h
unscanned view name left given (faults.Command ReadFailed) h = tt
unscanned view name left given (faults.Command WriteFailed) h = absurd h

pub unscanned_unconverted : (form : Form) (input output : List ℕ) (old new : View) (f : DopConvertFault) → new ≡ old → IsUnscanned input old f → ConvertDopComesTo form input output old new (Err f)
unscanned_unconverted form input output old new (faults.Refused fault) same is = (same, is)
unscanned_unconverted form input output old new (faults.Command (Call fault)) same is = subst (λ (g : calls.Fault). ConvertDopComesTo form input output old new (Err (faults.Command (Call g)))) (sym is) (inl same)
unscanned_unconverted form input output old new (faults.Command ReadFailed) same is = inl same
unscanned_unconverted form input output old new (faults.Command WriteFailed) same is = absurd is

-- ---- a reader's file that is converted

pub dop_to : {R W : Type 0} (left : R → Option (List ℕ)) (held : W → Option (List ℕ)) (o : DopOutline) (form : Form) (i j : Inlet R) (a b : Outlet W) (came : Result (Unit {0}) DopStop) → OnOk came (ConvertsOutline left i j form held a b) → OnErr came (StartsOutline left i o form held a b)
    → ConvertsDopTo o form (left (inlet_reader i)) (held (outlet_writer a)) (held (outlet_writer b)) came
dop_to left held o form i j a b (Ok u) is starts =
    let made : MakesDop form is.read (held (outlet_writer a)) (held (outlet_writer b)) = record { recording = is.recording; has = is.has; bytes = is.bytes; text = is.text; sound = is.sound; put = is.written } in
    (known_all (λ file. MakesDop form file (held (outlet_writer a)) (held (outlet_writer b))) (left (inlet_reader i)) (left (inlet_reader j)) is.read is.pulled is.at_end made, (is.read, made))
dop_to left held o form i j a b (Err stop) is starts = starts

-- ---- what is left of the output

all_put : (w : Option (List ℕ)) (bytes : List ℕ) → Appends (Some []) w bytes → w ≡ Some bytes
all_put None bytes h = absurd h
all_put (Some w) bytes h = ap (λ (xs : List ℕ). Some xs) h

module _ (form : Form) (input output : List ℕ) (old new : View) (others : KeepsOthers output old new) where
  -- all was written, and handed back
  pub dop_all : (left empty written : Option (List ℕ)) → IsGiven old input left → (IsTrue old.is_known → empty ≡ Some []) → (IsTrue old.is_known → new.file output ≡ written)
      → IfSome left (λ file. MakesDop form file empty written) → (file : List ℕ) × MakesDop form file empty written → ConvertsDop form input output old new
  dop_all left empty written given is_empty stands known some = by old.is_known refl
    where
      by : (reported : Bool) → old.is_known ≡ reported → ConvertsDop form input output old new
      by true is =
          let g = given is in
          let made = subst (λ o. IfSome o (λ file. MakesDop form file (Some []) written)) g.2 (subst (λ e. IfSome left (λ file. MakesDop form file e written)) (is_empty is) known) in
          record {
            recording = made.recording;
            reads = record { file = g.0; file_read = λ reported. g.1; has = made.has };
            bytes = made.bytes;
            text = made.text;
            sound = made.sound;
            output_put = λ reported. stands is ∙ all_put written made.bytes made.put;
            others = others;
          }
      by false is = record {
        recording = some.1.recording;
        reads = record { file = some.0; file_read = unknown_view old.is_known is; has = some.1.has };
        bytes = some.1.bytes;
        text = some.1.text;
        sound = some.1.sound;
        output_put = unknown_view new.is_known (others.same_known ∙ is);
        others = others;
      }

  module _ (o : DopOutline) (found : ScansRead input old o) (in_parts : FormsWrittenInParts) (fits : FitsIn form o.count) where
    abbrev sound : List ℕ
    sound = found.is_in.sound

    has : recording_of found.file ≡ Ok (recording_in o sound)
    has = ap recording_of found.is_in.file_is ∙ recorded o found.is_outline sound found.is_in.samples

    -- the output is as it was
    pub dop_none : new.file output ≡ old.file output → LeavesDopPart form input output old new
    dop_none same = record {
      recording = recording_in o sound;
      reads = record { file = found.file; file_read = found.file_read; has = has };
      last = found.file;
      last_read = found.file_read;
      bytes = _;
      text = text_is in_parts o found.is_outline form fits sound;
      part = λ is reported. inl same;
      kept = λ reported. inl same;
      others = others;
    }

    -- a prefix was written, and handed back, or not even that
    pub dop_prefix : (left empty written : Option (List ℕ)) → IsGiven old input left → (IsTrue old.is_known → empty ≡ Some []) → (IsTrue old.is_known → IsGivenUp output old new written) → IfSome left (λ file. StartsDop o form file empty written) → LeavesDopPart form input output old new
    dop_prefix left empty written given is_empty stays prefix =
        let read = last_of old input left given found.file found.file_read in
        record {
          recording = recording_in o sound;
          reads = record { file = found.file; file_read = found.file_read; has = has };
          last = read.0;
          last_read = read.1;
          bytes = _;
          text = text_is in_parts o found.is_outline form fits sound;
          part = λ is reported. by (read.2 reported ∙ ap Some is) (is_empty reported) _ (text_is in_parts o found.is_outline form fits sound) (stays reported);
          kept = λ reported. elim (stays reported) [ inl same ↦ inl same | inr held ↦ inr held.1 ];
          others = others;
        }
      where
        own : left ≡ Some found.file → empty ≡ Some [] → StartsDop o form found.file (Some []) written
        own left_is none = subst (λ x. IfSome x (λ file. StartsDop o form file (Some []) written)) left_is (subst (λ e. IfSome left (λ file. StartsDop o form file e written)) none prefix)

        put_prefix : (bytes : List ℕ) (w : Option (List ℕ)) → new.file output ≡ w → AppendsPrefix (Some []) w bytes → HadNone output old → HoldsPrefix output old new bytes
        put_prefix bytes None is h had_none = absurd h.3
        put_prefix bytes (Some w) is h had_none = record { prefix = h.0; rest = h.1; parts = h.2; stands = is ∙ ap Some h.3; had_none = had_none }

        by : left ≡ Some found.file → empty ≡ Some [] → (bytes : List ℕ) → text_in form (recording_in o sound) ≡ Some bytes → IsGivenUp output old new written → (new.file output ≡ old.file output) ⊎ HoldsPrefix output old new bytes
        by left_is none bytes text (inl same) = inl same
        by left_is none bytes text (inr (stands, had_none)) = inr (put_prefix bytes written stands (own left_is none found.is_in (recording_in o sound) bytes has text) had_none)

-- the form has no place for the bits
pub dop_part_byte : (form : Form) (input : List ℕ) (old : View) (o : DopOutline) → ScansRead input old o → (FitsIn form o.count → ⊥) → IsPartByte form input old
dop_part_byte form input old o found cut =
    let sound = found.is_in.sound in
    record {
      recording = recording_in o sound;
      reads = record { file = found.file; file_read = found.file_read; has = ap recording_of found.is_in.file_is ∙ recorded o found.is_outline sound found.is_in.samples };
      none = no_text form (recording_in o sound) (λ fits. cut (subst (FitsIn form) (count_is o.head.channels sound o.count found.is_outline.some) fits));
    }
