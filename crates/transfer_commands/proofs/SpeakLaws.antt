-- What becomes of a file that is played with its channels in an order, and a mask.
use Rattle.std.proofs.Common.{◌≡◌, ◌*◌, ◌/◌, ℕ, inl, inr, Bool, List, [], ◌++◌, IsTrue, Option, None, Some, Result, Ok, Err, drop, false, length, true, refl, subst, sym, ap, ap₂, ◌∙◌, append_assoc}
use Rattle.std.specs.Prelude.{IfSome, option_map, unwrap_or}
use Rattle.std.specs.Fmt.{option_append}
use Rattle.std.specs.Io.KnownBytes.{prepend_known}
use lib.Seq.{drop-append_seam, take-append_seam}
use Rattle.dsd_bits.specs.declared.sound.Sound.{Sound}
use Rattle.player_core.specs.Groups.{part_size}
use Rattle.player_core.specs.Playing.{PlaysFile}
use Rattle.player_core.specs.declared.range.WaveRange.{WaveRange}
use Rattle.form_core.specs.Opening.{opened_of}
use Rattle.request_core.specs.Faults.{IfNamed}
use Rattle.request_core.specs.declared.fault.Fault as calls
use Rattle.request_core.specs.declared.fault.Fault.TheVariants.{FileRefused, Memory}
use Rattle.speaker_core.specs.Speakers.{moved_groups}
use Rattle.speaker_core.specs.declared.reordered_file.Reordering.{Reordering}
use Rattle.speaker_core.specs.declared.speakers.Speakers.{Speakers}
use Rattle.speaker_core.specs.Reordered.{reordered_known, reordering_groups, reordering_order, reordering_size}
use Rattle.speaker_core.specs.Reordering.{groups_in}
use Rattle.folder_core.specs.Files.{IsGiven, IsGivenUp, IsPut, IsReadOf, KeepsOthers, View}
use Rattle.wave_core.specs.Heads.{head_of}
use Rattle.transfer_core.specs.Streaming.{PlaysRange, part_range}
use Rattle.transfer_core.specs.declared.spans.Span.{Span}
use Rattle.transfer_commands.specs.Outlining.{IsFirstFault, IsUnread}
use Rattle.transfer_commands.specs.Playing.{StopsRange, WritesRange}
use Rattle.transfer_commands.specs.PartPlaying.{DescribesRead, FindsSpan, IsUnfound}
use Rattle.transfer_commands.specs.Speaking.{AreSpeakersOf, IsNotSpoken, IsOrdered, IsToBeSpoken, NamesOrdered, SpeakComesTo, SpeaksFile, SpeaksPart, SpokenComesTo, StopsSpeaking, in_order, left_spoken, ordered_spoken, with_order}
use Rattle.transfer_commands.specs.declared.fault.CommandFault.{CommandFault}
use Rattle.transfer_commands.specs.declared.fault.CommandFault.TheVariants.{Call, ReadFailed, WriteFailed}
use Rattle.transfer_commands.specs.declared.parts.PartFault.{PartFault}
use Rattle.transfer_commands.specs.declared.parts.PartFault.TheVariants.{Command, Span as Spans}
use Rattle.transfer_commands.specs.declared.speaking.Spoken.{Spoken}
use Rattle.transfer_commands.proofs.PartLaws.{refused_part}
use Rattle.transfer_commands.proofs.PlayLaws.{ended}
use Rattle.transfer_commands.proofs.ReadLaws.{unknown_view}

-- ---- readers, one after the other
-- bytes in memory, and what another reader has left
pub after_bytes : (inner : List ℕ) (place : ℕ) (bytes : List ℕ) (all rest : Option (List ℕ)) → all ≡ option_append (option_map (drop place) (Some inner)) rest → inner ≡ bytes → place ≡ 0 → all ≡ prepend_known bytes rest
after_bytes inner place bytes all None is own start = is
after_bytes inner place bytes all (Some xs) is own start = is ∙ ap Some (ap₂ (λ l n. drop n l ++ xs) own start)

-- bytes in memory in two parts
pub in_two_parts : (first second all : List ℕ) (rest : Option (List ℕ)) → first ++ second ≡ all → prepend_known first (prepend_known second rest) ≡ prepend_known all rest
in_two_parts first second all None parts = refl
in_two_parts first second all (Some xs) parts = ap Some (sym (append_assoc first second xs) ∙ ap (λ l. l ++ xs) parts)

-- the whole file in its order
pub ordered_is : (head tail order : List ℕ) (size groups : ℕ) (left : Option (List ℕ)) (file : List ℕ) → prepend_known head (prepend_known tail left) ≡ Some file
    → prepend_known head (reordered_known order size groups (prepend_known tail left)) ≡ Some (with_order order size groups (length head) file)
ordered_is head tail order size groups None file is = absurd cc
ordered_is head tail order size groups (Some rest) file is =
    let own = tail ++ rest in
    let whole = λ (o : Option (List ℕ)). Some (with_order order size groups (length head) (unwrap_or o [])) in
    ap Some (sym (ap₂ (λ a b. a ++ groups_in order size groups b) (take-append_seam head own) (drop-append_seam head own))) ∙ ap whole is

-- the order of a sound, by its loudspeakers
pub order_of_sound : (r : Reordering) (order : List ℕ) (s : Sound) (start : ℕ) → reordering_order r ≡ order → reordering_size r ≡ part_size s.interleaving → reordering_groups r ≡ moved_groups order (s.size / (s.channels * part_size s.interleaving)) → start ≡ s.start
    → with_order (reordering_order r) (reordering_size r) (reordering_groups r) start ≡ in_order order s
order_of_sound r order s start order_is size_is groups_are start_is =
    let size = part_size s.interleaving in
    ap₂ (λ o k. with_order o k (reordering_groups r) start) order_is size_is ∙ ap₂ (λ g n. with_order order size g n) groups_are start_is

-- ---- a file that is played
-- the first fault of what was read is that of the file in its order
pub named_in_order : (old : View) (input : List ℕ) (order : List ℕ → List ℕ) (left ordered : Option (List ℕ)) → IsGiven old input left → ((file : List ℕ) → left ≡ Some file → ordered ≡ Some (order file)) → (fault : calls.Fault) → IfNamed fault (IsFirstFault ordered)
    → NamesOrdered old input order fault
named_in_order old input order left ordered given turned (FileRefused cause) first = by old.is_known refl
  where
    by : (reported : Bool) → old.is_known ≡ reported → (read : List ℕ) × IsOrdered old input order read × (opened_of read ≡ Err cause)
    by true is = let g = given is in (order g.0, (λ reported. (g.0, g.1, refl)), subst (λ o. IfSome o (λ file. opened_of file ≡ Err cause)) (turned g.0 g.2) first.0)
    by false is = (first.1.0, unknown_view old.is_known is, first.1.1)
named_in_order old input order left ordered given turned fault first = tt

-- all that a file plays in an order was written to an empty one, and handed back
module _ (Plays : List ℕ → List ℕ → Type 0) (order : List ℕ → List ℕ) (input output : List ℕ) (old new : View) (left ordered : Option (List ℕ)) (given : IsGiven old input left) (turned : (file : List ℕ) → left ≡ Some file → ordered ≡ Some (order file))
    (others : KeepsOthers output old new) (n : ℕ) where
  abbrev IsWhole : Type 0
  IsWhole = (spoken : List ℕ) × (bytes : List ℕ) × IsOrdered old input order spoken × Plays spoken bytes × IsPut new output bytes × (n ≡ length bytes)

  pub played_whole : (held written : Option (List ℕ)) → (IsTrue old.is_known → held ≡ Some []) → (IsTrue old.is_known → new.file output ≡ written) → PlaysFile ordered Plays held written n → (read : List ℕ) × (bytes : List ℕ) × Plays read bytes × (n ≡ length bytes) → IsWhole
  played_whole held written empty stands plays some = by old.is_known refl
    where
      all : (file : List ℕ) (w : Option (List ℕ)) → PlaysFile (Some file) Plays (Some []) w n → new.file output ≡ w → (bytes : List ℕ) × (new.file output ≡ Some bytes) × Plays file bytes × (n ≡ length bytes)
      all file None h is = absurd h.3
      all file (Some w) h is = (h.0, is ∙ ap (λ xs. Some xs) h.3, h.1, h.2)

      by : (reported : Bool) → old.is_known ≡ reported → IsWhole
      by true is =
          let g = given is in
          let begun = subst (λ o. PlaysFile ordered Plays o written n) (empty is) plays in
          let whole = all (order g.0) written (subst (λ o. PlaysFile o Plays (Some []) written n) (turned g.0 g.2) begun) (stands is) in
          (order g.0, whole.0, (λ reported. (g.0, g.1, refl)), whole.2, (λ reported. whole.1), whole.3)
      by false is = (some.0, some.1, unknown_view old.is_known is, some.2, unknown_view new.is_known (others.same_known ∙ is), some.3)

module _ {R : Type 0} (left : R → Option (List ℕ)) (spoken : Spoken R) (input output : List ℕ) (old new : View) (given : IsGiven old input (left_spoken left spoken)) (others : KeepsOthers output old new) where
  abbrev order : List ℕ → List ℕ
  order = with_order (reordering_order spoken.reordering) (reordering_size spoken.reordering) (reordering_groups spoken.reordering) (length spoken.before.items)

  in_its_order : (file : List ℕ) → left_spoken left spoken ≡ Some file → ordered_spoken left spoken ≡ Some (order file)
  in_its_order file is = ordered_is spoken.before.items spoken.tail.items (reordering_order spoken.reordering) (reordering_size spoken.reordering) (reordering_groups spoken.reordering) (left spoken.file) file is

  -- all of it was written, and handed back
  pub spoken_played : (held written : Option (List ℕ)) → (IsTrue old.is_known → held ≡ Some []) → (IsTrue old.is_known → new.file output ≡ written) → (n : ℕ) → WritesRange spoken.project.now spoken.range (ordered_spoken left spoken) held written n
      → SpeaksFile spoken.project.now spoken.range order input output old new n
  spoken_played held written empty stands n wrote =
      let w = played_whole (PlaysRange spoken.project.now spoken.range) order input output old new (left_spoken left spoken) (ordered_spoken left spoken) given in_its_order others n held written empty stands wrote.plays wrote.some in
      record { spoken = w.0; bytes = w.1; is_ordered = w.2; plays = w.3; output_put = w.4; counted = w.5; others = others }

  -- a fault ended it, and what was written is given up
  pub spoken_stopped : (held written : Option (List ℕ)) → (IsTrue old.is_known → held ≡ Some []) → (IsTrue old.is_known → IsGivenUp output old new written) → (fault : calls.Fault) → StopsRange spoken.project.now spoken.range (ordered_spoken left spoken) held written fault
      → StopsSpeaking spoken.project.now spoken.range order input output old new fault
  spoken_stopped held written empty stays fault stops = record {
    ended = λ reported.
        let g = given reported in
        (g.0, g.1, ended spoken.project.now spoken.range output old new (ordered_spoken left spoken) held written (stays reported) fault stops (order g.0) (in_its_order g.0 g.2) (empty reported));
    named = named_in_order old input order (left_spoken left spoken) (ordered_spoken left spoken) given in_its_order fault stops.named;
    others = others;
  }

-- ---- a part that is played
module _ (is_wide : Bool) (project_name file_name output_name project : List ℕ) (span : Span) (old new : View) (start stop : ℕ) (speakers : Speakers) (s : Sound) {R : Type 0} (spoken : Spoken R)
    (project_read : IsReadOf old project_name project) (are_speakers : AreSpeakersOf file_name old speakers) (has_span : FindsSpan project file_name old span start stop) (described : DescribesRead file_name old s) (is : IsToBeSpoken project start stop speakers is_wide s spoken) where
  abbrev own : List ℕ → List ℕ
  own = with_order (reordering_order spoken.reordering) (reordering_size spoken.reordering) (reordering_groups spoken.reordering) (length spoken.before.items)

  abbrev range : WaveRange
  range = part_range (head_of is_wide speakers.mask) start stop

  -- what is played is the part, with its channels in the order of their loudspeakers
  as_found : (came : Result ℕ CommandFault) → SpokenComesTo spoken.project.now spoken.range own file_name output_name old new came → SpokenComesTo project range (in_order speakers.order.items s) file_name output_name old new came
  as_found came h =
      let order_is = order_of_sound spoken.reordering speakers.order.items s (length spoken.before.items) is.order_is is.size_is is.groups_are is.start_is in
      let named = subst (λ p. SpokenComesTo p spoken.range own file_name output_name old new came) is.project_is h in
      let ranged = subst (λ (r : WaveRange). SpokenComesTo project r own file_name output_name old new came) is.range_is named in
      subst (λ (o : List ℕ → List ℕ). SpokenComesTo project range o file_name output_name old new came) order_is ranged

  pub speech_ends : (n : ℕ) → SpokenComesTo spoken.project.now spoken.range own file_name output_name old new (Ok n) → SpeaksPart is_wide project_name file_name output_name span old new (record { size = n; mask = speakers.mask })
  speech_ends n h = record {
    project = project;
    start = start;
    stop = stop;
    speakers = speakers;
    sound = s;
    mask_is = refl;
    project_read = project_read;
    are_speakers = are_speakers;
    has_span = has_span;
    described = described;
    speaks = as_found (Ok n) h;
  }

  -- a fault ended it, or it was not written
  pub speech_fails : (fault : CommandFault) → SpokenComesTo spoken.project.now spoken.range own file_name output_name old new (Err fault) → SpeakComesTo is_wide project_name file_name output_name span old new (Err (Command fault))
  speech_fails (Call fault) h = inr (inr (record {
    project = project;
    start = start;
    stop = stop;
    speakers = speakers;
    sound = s;
    project_read = project_read;
    are_speakers = are_speakers;
    has_span = has_span;
    described = described;
    stops = as_found (Err (Call fault)) h;
  }))
  speech_fails WriteFailed h = record { project = project; start = start; stop = stop; project_read = project_read; has_span = has_span; same = h.1; others = h.0 }
  speech_fails ReadFailed h = absurd h

-- ---- a part that is not played
module _ (is_wide : Bool) (project_name file_name output_name : List ℕ) (span : Span) (old new : View) where
  -- since it isn't found
  pub speak_refused : (project : List ℕ) (mid : View) → IsReadOf old project_name project → mid ≡ old → new ≡ mid → (fault : PartFault) → IsUnfound project file_name mid span fault → SpeakComesTo is_wide project_name file_name output_name span old new (Err fault)
  speak_refused project mid project_read same again (Command (Call fault)) none = inr (inl (refused_part project_name file_name project span old mid new project_read same again (Command (Call fault)) none))
  speak_refused project mid project_read same again (Command ReadFailed) none = again ∙ same
  speak_refused project mid project_read same again (Command WriteFailed) none = absurd none
  speak_refused project mid project_read same again (Spans fault) none = refused_part project_name file_name project span old mid new project_read same again (Spans fault) none

  -- since a file is not read, or memory ran out
  pub speak_unread : (fault : CommandFault) → new ≡ old → IsUnread fault → SpeakComesTo is_wide project_name file_name output_name span old new (Err (Command fault))
  speak_unread (Call Memory) same is = inl (same, refl)
  speak_unread ReadFailed same is = same
  speak_unread fault same is = absurd is

  -- since a file that was opened again is not as it was reported
  pub speak_unspoken : (speakers : Speakers) (s : Sound) (fault : CommandFault) → new ≡ old → IsNotSpoken speakers s fault → SpeakComesTo is_wide project_name file_name output_name span old new (Err (Command fault))
  speak_unspoken speakers s (Call fault) same is = inl (same, is)
  speak_unspoken speakers s ReadFailed same is = same
  speak_unspoken speakers s WriteFailed same is = absurd is
