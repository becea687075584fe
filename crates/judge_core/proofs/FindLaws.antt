-- What was found of a master's file that was read.
use Rattle.std.proofs.Common.{◌≡◌, ◌∙◌, ℕ, List, IfOk, IfSome, None, Option, Some, Result, Ok, Err, refl, sym}
use Rattle.chunk_core.specs.Inlets.{inlet_reader}
use Rattle.chunk_core.specs.declared.inlet.Inlet.{Inlet}
use Rattle.cut_core.specs.Cuts.{CutContent}
use Rattle.sound_core.specs.Faults.{IsReadingFault}
use Rattle.sound_core.specs.Naming.{IsExact, NamesFault}
use Rattle.sound_core.specs.Outlines.{AreStated, IsOutlineFault, around_of, with_sound}
use Rattle.sound_core.specs.declared.fault.StreamFault.{StreamFault}
use Rattle.sound_core.specs.declared.fault.StreamFault.TheVariants.{FileRefused, RateNotDivided, TooLarge, ReadFailed, WriteFailed, TurnLimit, Memory}
use Rattle.sound_core.specs.declared.fault.Unread.TheVariants as answers
use Rattle.sound_core.proofs.NamingLaws.{file_named}
use Rattle.form_core.specs.Forms.{form_in}
use Rattle.form_core.specs.Opening.{opened_of}
use Rattle.form_core.specs.declared.fault.ReadFault.{ReadFault}
use Rattle.form_core.specs.declared.opening.Opened.{Opened}
use Rattle.form_core.proofs.OpeningLaws.{held_is_opened}
use Rattle.request_core.proofs.FormLaws.{holds_as}
use Rattle.judge_core.specs.declared.auditing.Audited.{Audited}
use Rattle.judge_core.specs.declared.finding.Found.{Found}
use Rattle.judge_core.specs.Auditing.{AuditsFile, AuditsGiven, found_in}
use Rattle.judge_core.specs.Finding.{FindsHeld, HoldsNothing, IsFoundGiven, IsFoundHeld, IsFoundInSome, IsFoundLeft, IsRefusedFor}

-- what was found of a file, in the form that it has
abbrev pub found : Audited → Found
found a = found_in (form_in a.outline.sound.interleaving) a

-- it was found of the recording that the file holds
pub audit_held : (cut : CutContent) (a : Audited) (left : Option (List ℕ)) → AuditsFile left cut a → IfSome left (λ file. FindsHeld cut file (found a))
audit_held cut a None h = tt
audit_held cut a (Some file) (stated, (sound, stands, is)) =
    let r = with_sound a.outline.recording a.outline.sound sound in
    record {
      recording = r;
      master_holds = holds_as a.outline.sound.interleaving file r (stated.holds file sound stands);
      found_of = is (form_in a.outline.sound.interleaving);
    }

-- and of bytes that were read, whether the reader's bytes are known or not
pub audit_given : {R : Type 0} (left : R → Option (List ℕ)) (i j : Inlet R) (cut : CutContent) (a : Audited) → AreStated (around_of a.outline) → AuditsGiven left i j cut a → IsFoundGiven left i j cut (Ok (found a))
audit_given left i j cut a stated (read, reads, is) = (read, reads, audit_held cut a (Some read) (stated, is))

-- what was found of a file, or that it holds none
pub held_there : (cut : CutContent) (file : List ℕ) (o : Result Found ReadFault) → IsFoundHeld cut file o → IfOk o (FindsHeld cut file)
held_there cut file (Ok f) h = h
held_there cut file (Err e) h = tt

pub held_some : (cut : CutContent) (file : List ℕ) (o : Result Found ReadFault) → IsFoundHeld cut file o → IsFoundInSome cut o
held_some cut file (Ok f) h = (file, h)
held_some cut file (Err e) h = tt

-- a file with a fault is one of no form
no_form : (file : List ℕ) (e : ReadFault) → opened_of file ≡ Err e → HoldsNothing file
no_form file e fails form r h =
    let opened : Opened = record { form = form; recording = r } in
    let both : Ok opened ≡ Err e = sym (held_is_opened file form r h) ∙ fails in
    absurd cc

refused_for : (file : List ℕ) (e : ReadFault) → opened_of file ≡ Err e → IsRefusedFor file e
refused_for file e fails = record { nothing = no_form file e fails; first = fails }

left_refused : (left : Option (List ℕ)) (e : ReadFault) → IfSome left (λ file. opened_of file ≡ Err e) → IfSome left (λ file. IsRefusedFor file e)
left_refused None e h = tt
left_refused (Some file) e h = refused_for file e h

-- a named fault is the first one of the file that is left to read
pub named_held : {R : Type 0} (left : R → Option (List ℕ)) (i j : Inlet R) (cut : CutContent) (e : ReadFault) → NamesFault left i j e → IsFoundLeft left i cut (Err e)
named_held left i j cut e named = left_refused (left (inlet_reader i)) e (file_named left i j e named)

-- a fault of reading that is none of the file
pub read_fault : (left : Option (List ℕ)) (f : StreamFault) → IsExact (answers.Stream f) → IsOutlineFault left f → IsReadingFault f
read_fault left FileRefused exact h = absurd (exact refl)
read_fault left RateNotDivided exact h = absurd h
read_fault left TooLarge exact h = absurd h
read_fault left ReadFailed exact h = tt
read_fault left WriteFailed exact h = absurd h
read_fault left TurnLimit exact h = tt
read_fault left Memory exact h = tt
