-- What becomes of a file that another is played to.
use Rattle.std.proofs.Common.{◌≡◌, ℕ, inl, inr, Bool, List, [], ◌++◌, IsTrue, Option, None, Some, Result, Ok, Err, false, length, true, refl, subst, ap, ◌∙◌, IfOk, OnErr}
use Rattle.std.specs.Prelude.{IfErr}
use Rattle.std.specs.Io.KnownBytes.{prepend_known}
use Rattle.player_core.specs.Playing.{PlaysFile, WritesPrefix}
use Rattle.player_core.specs.Ranges.{whole_range}
use Rattle.player_core.specs.declared.range.WaveRange.{WaveRange}
use Rattle.transfer_core.specs.Laws.{WholePlays}
use Rattle.request_core.specs.declared.fault.Fault as calls
use Rattle.request_core.specs.declared.fault.Fault.TheVariants.{FileRefused}
use Rattle.request_core.specs.Faults.{IfNamed}
use Rattle.form_core.specs.Opening.{opened_of}
use Rattle.sound_core.specs.Naming.{NamesFault}
use Rattle.sound_core.proofs.NamingLaws.{file_named}
use Rattle.transfer_core.specs.Streaming.{FailsBeforeWriting, OnlyFromOutside, PlaysRange, StreamApplies}
use Rattle.chunk_core.specs.Inlets.{inlet_reader}
use Rattle.chunk_core.specs.Outlets.{AppendsPrefix}
use Rattle.chunk_core.specs.declared.inlet.Inlet.{Inlet}
use Rattle.folder_core.specs.Files.{IsGiven, IsGivenUp, IsReadOf, KeepsOthers, View}
use Rattle.transfer_commands.specs.Playing.{EndsPlaying, HoldsPlayed, LeavesPrefix, NamesRead, PlayComesTo, PlayedComesTo, PlaysSome, PlaysTo, StopsRange, WritesRange}
use Rattle.transfer_commands.specs.Outlining.{IsFirstFault}
use Rattle.transfer_commands.specs.declared.fault.CommandFault.{CommandFault}
use Rattle.transfer_commands.specs.declared.fault.CommandFault.TheVariants.{Call, ReadFailed, WriteFailed}
use Rattle.transfer_commands.proofs.ReadLaws.{known_or_some, opened_read, unknown_view}

-- a file of which nothing was read has all of its bytes left
pub none_read : (left : Option (List ℕ)) → prepend_known [] left ≡ left
none_read None = refl
none_read (Some file) = refl

-- ---- a reader's file
pub plays_to : {W : Type 0} (held : W → Option (List ℕ)) (project : List ℕ) (range : WaveRange) (left : Option (List ℕ)) (old new : W) (came : Result ℕ calls.Fault) → IfOk came (PlaysFile left (PlaysRange project range) (held old) (held new)) → IfOk came (PlaysSome project range)
    → IfErr came (StreamApplies left project range) → IfErr came (λ fault. IfNamed fault (IsFirstFault left)) → IfErr came (OnlyFromOutside left project range) → OnErr came (WritesPrefix left (PlaysRange project range) (held old) (held new))
    → IfErr came (λ fault. FailsBeforeWriting fault → held new ≡ held old) → PlaysTo held project range left old new came
plays_to held project range left old new (Ok n) plays some stands named outside prefix none = record { plays = plays; some = some }
plays_to held project range left old new (Err fault) plays some stands named outside prefix none = record { stands = stands; named = named; outside = outside; prefix = prefix; none = none }

-- the first fault of what was read is that of the reader's file
pub first_named : {R : Type 0} (left : R → Option (List ℕ)) (i j : Inlet R) (fault : calls.Fault) → IfNamed fault (NamesFault left i j) → IfNamed fault (IsFirstFault (left (inlet_reader i)))
first_named left i j (FileRefused cause) named = (file_named left i j cause named, (named.read, named.sure.now))
first_named left i j fault named = tt

-- and of bytes that were read of the name under which it was opened
pub named_read : (view : View) (name : List ℕ) (left : Option (List ℕ)) (fault : calls.Fault) → IsGiven view name left → IfNamed fault (IsFirstFault left) → NamesRead name view fault
named_read view name left (FileRefused cause) given first = known_or_some view name left (λ file. opened_of file ≡ Err cause) given first.0 first.1
named_read view name left fault given first = tt

-- ---- a file that is played
-- all of it was written, and handed back
pub played : (project : List ℕ) (range : WaveRange) (input output : List ℕ) (old new : View) (remaining held written : Option (List ℕ)) → IsGiven old input remaining → (IsTrue old.is_known → held ≡ Some []) → KeepsOthers output old new → (IsTrue old.is_known → new.file output ≡ written)
    → (n : ℕ) → WritesRange project range remaining held written n → PlayedComesTo project range input output old new (Ok n)
played project range input output old new remaining held written given empty others stands n made = by old.is_known refl
  where
    all : (file : List ℕ) (w : Option (List ℕ)) → PlaysFile (Some file) (PlaysRange project range) (Some []) w n → new.file output ≡ w → (bytes : List ℕ) × (new.file output ≡ Some bytes) × PlaysRange project range file bytes × (n ≡ length bytes)
    all file None h is = absurd h.3
    all file (Some w) h is = (h.0, is ∙ ap (λ xs. Some xs) h.3, h.1, h.2)

    by : (reported : Bool) → old.is_known ≡ reported → PlayedComesTo project range input output old new (Ok n)
    by true is =
        let g = given is in
        let whole = all g.0 written (subst (λ o. PlaysFile o (PlaysRange project range) (Some []) written n) g.2 (subst (λ o. PlaysFile remaining (PlaysRange project range) o written n) (empty is) made.plays)) (stands is) in
        (g.0, whole.0, (λ reported. g.1), (λ reported. whole.1), whole.2, whole.3, others)
    by false is = (made.some.0, made.some.1, unknown_view old.is_known is, unknown_view new.is_known (others.same_known ∙ is), made.some.2, made.some.3, others)

-- a fault ended it, and what was written is given up
pub ended : (project : List ℕ) (range : WaveRange) (output : List ℕ) (old new : View) (remaining held written : Option (List ℕ)) → IsGivenUp output old new written
    → (fault : calls.Fault) → StopsRange project range remaining held written fault → (file : List ℕ) → remaining ≡ Some file → held ≡ Some [] → EndsPlaying project range file output old new fault
ended project range output old new remaining held written stays fault stops file left empty = record {
  stands = own.stands;
  outside = own.outside;
  prefix = by stays;
}
  where
    own : StopsRange project range (Some file) (Some []) written fault
    own = subst (λ o. StopsRange project range o (Some []) written fault) left (subst (λ o. StopsRange project range remaining o written fault) empty stops)

    prefix_of : (w : Option (List ℕ)) (bytes : List ℕ) → new.file output ≡ w → AppendsPrefix (Some []) w bytes → (prefix : List ℕ) × (rest : List ℕ) × (new.file output ≡ Some prefix) × (bytes ≡ prefix ++ rest)
    prefix_of None bytes is h = absurd h.3
    prefix_of (Some w) bytes is h = (h.0, h.1, is ∙ ap (λ xs. Some xs) h.3, h.2)

    holds : (w : Option (List ℕ)) → StopsRange project range (Some file) (Some []) w fault → new.file output ≡ w → HoldsPlayed project range file fault (new.file output)
    holds w h is = record { prefix = λ bytes plays. prefix_of w bytes is (h.prefix bytes plays); none = λ before. is ∙ h.none before }

    by : IsGivenUp output old new written → LeavesPrefix project range file fault output old new
    by (inl same) = inl same
    by (inr (is, had_none)) = inr (holds written own is, had_none)

-- ---- all frames of a file, by a project that was read
pub play_ends : WholePlays → (project_name file_name output_name project : List ℕ) (old mid new : View) → IsReadOf old project_name project → mid ≡ old → (left : Option (List ℕ)) → IsGiven old file_name left
    → (came : Result ℕ CommandFault) → PlayedComesTo project whole_range file_name output_name mid new came → PlayComesTo project_name file_name output_name old new came
play_ends law project_name file_name output_name project old mid new project_read same left given (Ok n) h =
    let made = subst (λ (v : View). PlayedComesTo project whole_range file_name output_name v new (Ok n)) same h in
    record {
      project = project;
      file = made.0;
      bytes = made.1;
      project_read = project_read;
      file_read = made.2;
      output_put = made.3;
      others = made.6;
      plays = (law project made.0 made.1).0 made.4;
      counted = made.5;
    }
play_ends law project_name file_name output_name project old mid new project_read same left given (Err (Call fault)) h =
    let ends = subst (λ (v : View). PlayedComesTo project whole_range file_name output_name v new (Err (Call fault))) same h in
    inr (record { project = project; project_read = project_read; ended = ends.0; named = ends.1; others = ends.2 })
play_ends law project_name file_name output_name project old mid new project_read same left given (Err WriteFailed) h =
    let read = opened_read old file_name left given in
    let kept = subst (λ (v : View). KeepsOthers output_name v new × (new.file output_name ≡ v.file output_name)) same h in
    record { project = project; file = read.0; project_read = project_read; file_read = read.1; same = kept.1; others = kept.0 }
play_ends law project_name file_name output_name project old mid new project_read same left given (Err ReadFailed) h = absurd h
