-- What becomes of a file that another is played to, between its neighbours.
use Rattle.std.proofs.Common.{◌≡◌, ℕ, inl, inr, Bool, List, [], ◌++◌, length, IsTrue, Option, None, Some, IfSome, Ok, Err, false, true, refl, subst, ap, ◌∙◌}
use Rattle.std.specs.Io.KnownBytes.{prepend_known}
use Rattle.chunk_core.specs.Outlets.{AppendsPrefix}
use Rattle.dsd_bits.specs.declared.sound.Sound.{Sound}
use Rattle.fir_core.specs.Decimator.{Decimator, IsWithinLimits}
use Rattle.folder_core.specs.Files.{IsGiven, IsGivenUp, IsReadOf, KeepsOthers, View}
use Rattle.form_core.specs.Opening.{opened_of}
use Rattle.player_core.specs.Playing.{PlaysFile}
use Rattle.request_core.specs.Projects.{SaysDecimator}
use Rattle.request_core.specs.declared.fault.Fault as calls
use Rattle.request_core.specs.declared.fault.Fault.TheVariants.{Memory}
use Rattle.sound_core.specs.Files.{LeadsToSound}
use Rattle.sound_core.specs.Naming.{IfRefusedAs}
use Rattle.sound_core.specs.declared.fault.Unread.{Unread}
use Rattle.sound_core.specs.declared.fault.Unread.TheVariants as answers
use Rattle.transfer_commands.specs.BetweenPlaying.{IsNotOpened, JoinedComesTo, LeavesPrefixBetween, PlayBetweenComesTo, PlaysKept, StopsBetween, WritesBetween, edge_channels}
use Rattle.transfer_commands.specs.Neighbours.{AreHeard, AreUnheard}
use Rattle.transfer_commands.specs.Outlining.{IsFirstFault, IsUnoutlinedLeft, IsUnread}
use Rattle.transfer_commands.specs.PartPlaying.{DescribesRead}
use Rattle.transfer_commands.specs.declared.between.BetweenFault.{BetweenFault}
use Rattle.transfer_commands.specs.declared.between.BetweenFault.TheVariants.{Command}
use Rattle.transfer_commands.specs.declared.between.Edges.{Edges}
use Rattle.transfer_commands.specs.declared.between.NeighbourNames.{NeighbourNames}
use Rattle.transfer_commands.specs.declared.fault.CommandFault.{CommandFault}
use Rattle.transfer_commands.specs.declared.fault.CommandFault.TheVariants.{Call, ReadFailed, WriteFailed}
use Rattle.wave_core.specs.declared.head.WaveHead.{WaveHead}
use Rattle.transfer_commands.proofs.BetweenRefusals.{not_played, unheard_before, unopened_before}
use Rattle.transfer_commands.proofs.EdgeLaws.{AreWhole, whole_around}
use Rattle.transfer_commands.proofs.OpeningLaws.{prefix_read}
use Rattle.transfer_commands.proofs.ReadLaws.{unknown_view}
use Rattle.transfer_commands.proofs.SkippedLaws.{limits_said}

-- the sound of a file that was opened is described by bytes that were read of it
pub described_read : (view : View) (name prefix : List ℕ) (left : Option (List ℕ)) (sound : Sound) → IsGiven view name (prepend_known prefix left) → LeadsToSound prefix sound → DescribesRead name view sound
described_read view name prefix left sound given states = let read = prefix_read view name prefix left given in record { prefix = prefix; rest = read.0; file_read = read.1; states = states }

-- a file that was not read to its end
pub unread_left : (left : Option (List ℕ)) (f : CommandFault) → IsUnread f → IsUnoutlinedLeft left f
unread_left left (Call Memory) is = inl refl
unread_left left ReadFailed is = tt
unread_left left f is = absurd is

-- the first fault of a reader's file, if that is known
pub first_refused : (left : Option (List ℕ)) (u : Unread) → IfRefusedAs u (IsFirstFault left) → IfSome left (λ file. IfRefusedAs u (λ cause. opened_of file ≡ Err cause))
first_refused None u first = tt
first_refused (Some file) (answers.Refused cause) first = first.0
first_refused (Some file) (answers.Stream fault) first = tt

-- ---- a file that was opened
module _ (head : WaveHead) (d : Decimator) (e : Edges) (input output : List ℕ) (old new : View) (remaining held written : Option (List ℕ)) where
  abbrev kept_before : List (List Bool)
  kept_before = edge_channels e e.before.items

  abbrev kept_after : List (List Bool)
  kept_after = edge_channels e e.after.items

  -- all of it was written, and handed back
  pub between_played : IsGiven old input remaining → (IsTrue old.is_known → held ≡ Some []) → KeepsOthers output old new → (IsTrue old.is_known → new.file output ≡ written) → (n : ℕ) → WritesBetween head d e.rate kept_before kept_after remaining held written n → JoinedComesTo head d e input output old new (Ok n)
  between_played given empty others stands n made = by old.is_known refl
    where
      all : (file : List ℕ) (w : Option (List ℕ)) → PlaysFile (Some file) (PlaysKept head d e) (Some []) w n → new.file output ≡ w → (bytes : List ℕ) × (new.file output ≡ Some bytes) × PlaysKept head d e file bytes × (n ≡ length bytes)
      all file None h is = absurd h.3
      all file (Some w) h is = (h.0, is ∙ ap (λ xs. Some xs) h.3, h.1, h.2)

      by : (reported : Bool) → old.is_known ≡ reported → JoinedComesTo head d e input output old new (Ok n)
      by true is =
          let g = given is in
          let whole = all g.0 written (subst (λ o. PlaysFile o (PlaysKept head d e) (Some []) written n) g.2 (subst (λ o. PlaysFile remaining (PlaysKept head d e) o written n) (empty is) made.plays)) (stands is) in
          (g.0, whole.0, (λ reported. g.1), (λ reported. whole.1), whole.2, whole.3, others)
      by false is = (made.some.0, made.some.1, unknown_view old.is_known is, unknown_view new.is_known (others.same_known ∙ is), made.some.2, made.some.3, others)

  -- a fault ended it, and what was written is given up
  pub between_ended : IsGivenUp output old new written → (fault : calls.Fault) → StopsBetween head d e remaining held written fault → (file : List ℕ) → remaining ≡ Some file → held ≡ Some [] → LeavesPrefixBetween head d e.rate kept_before kept_after file output old new
  between_ended stays fault stops file left empty = by stays
    where
      own : StopsBetween head d e (Some file) (Some []) written fault
      own = subst (λ o. StopsBetween head d e o (Some []) written fault) left (subst (λ o. StopsBetween head d e remaining o written fault) empty stops)

      prefix_of : (w : Option (List ℕ)) (bytes : List ℕ) → new.file output ≡ w → AppendsPrefix (Some []) w bytes → (prefix : List ℕ) × (rest : List ℕ) × (new.file output ≡ Some prefix) × (bytes ≡ prefix ++ rest)
      prefix_of None bytes is h = absurd h.3
      prefix_of (Some w) bytes is h = (h.0, h.1, is ∙ ap (λ xs. Some xs) h.3, h.2)

      by : IsGivenUp output old new written → LeavesPrefixBetween head d e.rate kept_before kept_after file output old new
      by (inl same) = inl same
      by (inr (is, had_none)) = inr ((λ bytes plays. prefix_of written bytes is (own.prefix bytes plays)), had_none)

-- ---- the same of a project that was read
module _ (head : WaveHead) (project_name file_name output_name project : List ℕ) (around : NeighbourNames) (old mid new : View) (d : Decimator) (e : Edges) (project_read : IsReadOf old project_name project) (says : SaysDecimator project d) (s : Sound) (described : DescribesRead file_name old s) (heard : AreHeard around old s d e)
    (same : mid ≡ old) where
  abbrev near_before : List (List Bool)
  near_before = edge_channels e e.before.items

  abbrev near_after : List (List Bool)
  near_after = edge_channels e e.after.items

  abbrev whole : AreWhole around old e.rate d near_before near_after
  whole = whole_around around old s d (limits_said project d says) e heard

  pub between_ends : (n : ℕ) → JoinedComesTo head d e file_name output_name mid new (Ok n) → PlayBetweenComesTo head project_name file_name output_name around old new (Ok n)
  between_ends n h =
      let made = subst (λ (v : View). JoinedComesTo head d e file_name output_name v new (Ok n)) same h in
      record {
        project = project;
        decimator = d;
        file = made.0;
        bytes = made.1;
        rate = e.rate;
        before = whole.before;
        after = whole.after;
        project_read = project_read;
        project_says = says;
        before_are = whole.before_are;
        after_are = whole.after_are;
        file_read = made.2;
        plays = (whole.same head).forth made.0 made.1 made.4;
        output_put = made.3;
        counted = made.5;
        others = made.6;
      }

  prefix_whole : (file : List ℕ) → LeavesPrefixBetween head d e.rate near_before near_after file output_name old new → LeavesPrefixBetween head d e.rate whole.before whole.after file output_name old new
  prefix_whole file (inl stays) = inl stays
  prefix_whole file (inr (prefix, had_none)) = inr ((λ bytes plays. prefix bytes ((whole.same head).back file bytes plays)), had_none)

  pub between_fails : (fault : CommandFault) → JoinedComesTo head d e file_name output_name mid new (Err fault) → PlayBetweenComesTo head project_name file_name output_name around old new (Err (Command fault))
  between_fails (Call fault) h =
      let left = subst (λ (v : View). JoinedComesTo head d e file_name output_name v new (Err (Call fault))) same h in
      inr (inr (record {
        project = project;
        decimator = d;
        rate = e.rate;
        before = whole.before;
        after = whole.after;
        project_read = project_read;
        project_says = says;
        before_are = whole.before_are;
        after_are = whole.after_are;
        sound = s;
        edges = e;
        described = described;
        heard = heard;
        ended = λ reported. (let ends = left.0 reported in (ends.0, ends.1, prefix_whole ends.0 ends.2, ends.3));
        named = left.1;
        others = left.2;
      }))
  between_fails WriteFailed h =
      let kept = subst (λ (v : View). KeepsOthers output_name v new × (new.file output_name ≡ v.file output_name)) same h in
      record { project = project; rate = e.rate; before = whole.before; after = whole.after; project_read = project_read; before_are = whole.before_are; after_are = whole.after_are; same = kept.1; others = kept.0 }
  between_fails ReadFailed h = absurd h

-- ---- what is refused before that
-- a recording that is not opened
pub between_unopened : (head : WaveHead) (project_name file_name output_name project : List ℕ) (around : NeighbourNames) (old new : View) → IsReadOf old project_name project → new ≡ old → (fault : CommandFault) → IsNotOpened file_name old fault → PlayBetweenComesTo head project_name file_name output_name around old new (Err (Command fault))
between_unopened head project_name file_name output_name project around old new read same fault is = not_played project_name file_name output_name around old new head (Command fault) (unopened_before project_name file_name project around old new read same fault is)

-- a neighbour that can't be one
pub between_unheard : (head : WaveHead) (project_name file_name output_name : List ℕ) (around : NeighbourNames) (old new : View) → new ≡ old → (t : Sound) → DescribesRead file_name old t → (d : Decimator) → IsWithinLimits d → (fault : BetweenFault) → AreUnheard around old t d fault → PlayBetweenComesTo head project_name file_name output_name around old new (Err fault)
between_unheard head project_name file_name output_name around old new same t described d limits fault is = not_played project_name file_name output_name around old new head fault (unheard_before project_name file_name around old new same t described d limits fault is)
