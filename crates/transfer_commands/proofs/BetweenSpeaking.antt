-- What becomes of a file that is played between its neighbours with its channels in an order, and a mask.
use Rattle.std.proofs.Common.{◌≡◌, ℕ, ◌*◌, ◌≤◌, Bool, List, [], length, IsTrue, Option, Some, Err, inr, refl, sym, subst, ap, ap₂, ◌∙◌}
use Rattle.dsd_bits.specs.declared.sound.Sound.{Sound}
use Rattle.dsd_bits.specs.Lacing.{unlaced_all}
use Rattle.fir_core.specs.Decimator.{Decimator, IsWithinLimits}
use Rattle.folder_core.specs.Files.{IsGiven, IsGivenUp, IsReadOf, KeepsOthers, View}
use Rattle.player_core.specs.Between.{PlaysBetween}
use Rattle.request_core.specs.Projects.{SaysDecimator}
use Rattle.request_core.specs.declared.fault.Fault as calls
use Rattle.speaker_core.specs.Reordered.{reordering_groups, reordering_order, reordering_size}
use Rattle.speaker_core.specs.Reordering.{channels_in}
use Rattle.speaker_core.specs.declared.speakers.Speakers.{Speakers}
use Rattle.transfer_commands.specs.BetweenPlaying.{FaultsBetween, StopsBetween, WritesBetween, edge_channels}
use Rattle.transfer_commands.specs.Neighbours.{AreHeard}
use Rattle.transfer_commands.specs.BetweenSpeaking.{IsSpokenBetween, SpeakBetweenComesTo, SpeaksBetween, SpeaksBetweenFiles, SpokenBetweenComesTo, StopsSpokenBetween, frames_in, ordered_parts, parts_order}
use Rattle.transfer_commands.specs.PartPlaying.{DescribesRead}
use Rattle.transfer_commands.specs.Renaming.{left_parts}
use Rattle.transfer_commands.specs.Speaking.{AreSpeakersOf, in_order}
use Rattle.transfer_commands.specs.declared.between.BetweenFault.TheVariants.{Command}
use Rattle.transfer_commands.specs.declared.between.Edges.{Edges}
use Rattle.transfer_commands.specs.declared.between.NeighbourNames.{NeighbourNames}
use Rattle.transfer_commands.specs.declared.between_speakers.SpokenBetween.{SpokenBetween}
use Rattle.transfer_commands.specs.declared.fault.CommandFault.{CommandFault}
use Rattle.transfer_commands.specs.declared.fault.CommandFault.TheVariants.{Call, ReadFailed, WriteFailed}
use Rattle.wave_core.specs.Heads.{head_of}
use Rattle.wave_core.specs.declared.head.WaveHead.{WaveHead}
use Rattle.transfer_commands.proofs.OrderLaws.{IsWholeAfterIn, IsWholeBeforeIn, ordered_bytes, same_in, whole_after_in, whole_before_in}
use Rattle.transfer_commands.proofs.BetweenLaws.{between_ended}
use Rattle.transfer_commands.proofs.SpeakLaws.{named_in_order, order_of_sound, ordered_is, played_whole}

-- ---- a file that is played
module _ {R : Type 0} (left : R → Option (List ℕ)) (d : Decimator) (spoken : SpokenBetween R) (input output : List ℕ) (old new : View) (given : IsGiven old input (left_parts left spoken.parts)) (others : KeepsOthers output old new) where
  abbrev before : List (List Bool)
  before = edge_channels spoken.edges spoken.edges.before.items

  abbrev after : List (List Bool)
  after = edge_channels spoken.edges spoken.edges.after.items

  abbrev plays : List ℕ → List ℕ → Type 0
  plays = PlaysBetween spoken.head d spoken.edges.rate before after

  in_its_order : (file : List ℕ) → left_parts left spoken.parts ≡ Some file → ordered_parts left spoken ≡ Some (parts_order spoken file)
  in_its_order file is = ordered_is spoken.parts.head.items spoken.parts.tail.items (reordering_order spoken.reordering) (reordering_size spoken.reordering) (reordering_groups spoken.reordering) (left spoken.parts.file) file is

  -- all of it was written, and handed back
  pub spoken_between_played : (held written : Option (List ℕ)) → (IsTrue old.is_known → held ≡ Some []) → (IsTrue old.is_known → new.file output ≡ written) → (n : ℕ)
      → WritesBetween spoken.head d spoken.edges.rate before after (ordered_parts left spoken) held written n
      → SpeaksBetween spoken.head d spoken.edges.rate before after (parts_order spoken) input output old new n
  spoken_between_played held written empty stands n wrote =
      let w = played_whole plays (parts_order spoken) input output old new (left_parts left spoken.parts) (ordered_parts left spoken) given in_its_order others n held written empty stands wrote.plays wrote.some in
      record { spoken = w.0; bytes = w.1; is_ordered = w.2; plays = w.3; output_put = w.4; counted = w.5; others = others }

  -- a fault ended it, and what was written is given up
  pub spoken_between_stopped : (held written : Option (List ℕ)) → (IsTrue old.is_known → held ≡ Some []) → (IsTrue old.is_known → IsGivenUp output old new written) → (fault : calls.Fault)
      → StopsBetween spoken.head d spoken.edges (ordered_parts left spoken) held written fault
      → StopsSpokenBetween spoken.head d spoken.edges (parts_order spoken) input output old new fault
  spoken_between_stopped held written empty stays fault stops = record {
    ended = λ reported.
        let g = given reported in
        let is = in_its_order g.0 g.2 in
        let prefix = between_ended spoken.head d spoken.edges input output old new (ordered_parts left spoken) held written (stays reported) fault stops (parts_order spoken g.0) is (empty reported) in
        (g.0, g.1, prefix, subst (λ o. FaultsBetween o spoken.head d spoken.edges fault) is stops.faults);
    named = named_in_order old input (parts_order spoken) (left_parts left spoken.parts) (ordered_parts left spoken) given in_its_order fault stops.named;
    others = others;
  }

-- ---- the files
module _ (is_wide : Bool) (project_name file_name output_name text : List ℕ) (around : NeighbourNames) (old mid new : View) (d : Decimator) (speakers : Speakers) (s : Sound) (e : Edges) {R : Type 0} (spoken : SpokenBetween R)
    (project_read : IsReadOf old project_name text) (says : SaysDecimator text d) (limits : IsWithinLimits d) (are : AreSpeakersOf file_name old speakers) (described : DescribesRead file_name old s) (some : 1 ≤ s.channels)
    (heard : AreHeard around old s d e) (is : IsSpokenBetween e speakers is_wide s spoken) (same : mid ≡ old) where
  abbrev order : List ℕ
  order = speakers.order.items

  abbrev head : WaveHead
  head = head_of is_wide speakers.mask

  one : 1 ≤ length order
  one = subst (λ n. 1 ≤ n) (sym is.number) some

  abbrev b : IsWholeBeforeIn order around.previous old s d e.before.items
  b = whole_before_in order is.names one old s d limits is.number around.previous e.before.items heard.before

  abbrev a : IsWholeAfterIn order around.next old s d e.after.items
  a = whole_after_in order is.names one old s d limits is.number around.next e.after.items heard.after

  -- the channels before and after are those that were kept, in the order
  edges_are : (bytes own : List ℕ) (frames : ℕ) → bytes ≡ frames_in order own → length own ≡ frames * s.channels → edge_channels spoken.edges bytes ≡ channels_in order (unlaced_all own s.channels)
  edges_are bytes own frames bytes_are whole =
      ap₂ (λ xs n. unlaced_all xs n) bytes_are (is.are_ordered.channels_are ∙ heard.channels ∙ sym is.number)
      ∙ ordered_bytes order is.names one own frames (whole ∙ ap (λ n. frames * n) (sym is.number))
      ∙ ap (λ n. channels_in order (unlaced_all own n)) is.number

  order_is : parts_order spoken ≡ in_order order s
  order_is = order_of_sound spoken.reordering order s (length spoken.parts.head.items) is.order_is is.size_is is.groups_are is.start_is

  pub spoken_between_ends : (n : ℕ) → SpeaksBetween spoken.head d spoken.edges.rate (edge_channels spoken.edges spoken.edges.before.items) (edge_channels spoken.edges spoken.edges.after.items) (parts_order spoken) file_name output_name mid new n
      → SpeaksBetweenFiles is_wide project_name file_name output_name around old new (record { size = n; mask = speakers.mask })
  spoken_between_ends n h =
      let near_before = channels_in order (unlaced_all e.before.items s.channels) in
      let near_after = channels_in order (unlaced_all e.after.items s.channels) in
      let from = subst (λ (v : View). SpeaksBetween spoken.head d spoken.edges.rate (edge_channels spoken.edges spoken.edges.before.items) (edge_channels spoken.edges spoken.edges.after.items) (parts_order spoken) file_name output_name v new n) same h in
      let ordered = subst (λ (o : List ℕ → List ℕ). SpeaksBetween spoken.head d spoken.edges.rate (edge_channels spoken.edges spoken.edges.before.items) (edge_channels spoken.edges spoken.edges.after.items) o file_name output_name old new n) order_is from in
      let headed = subst (λ k. PlaysBetween k d spoken.edges.rate (edge_channels spoken.edges spoken.edges.before.items) (edge_channels spoken.edges spoken.edges.after.items) ordered.spoken ordered.bytes) is.head_is ordered.plays in
      let rated = subst (λ k. PlaysBetween head d k (edge_channels spoken.edges spoken.edges.before.items) (edge_channels spoken.edges spoken.edges.after.items) ordered.spoken ordered.bytes) (is.are_ordered.rate_is ∙ heard.rate) headed in
      let begun = subst (λ k. PlaysBetween head d s.rate k (edge_channels spoken.edges spoken.edges.after.items) ordered.spoken ordered.bytes) (edges_are spoken.edges.before.items e.before.items b.frames is.are_ordered.before_is b.whole) rated in
      let near = subst (λ k. PlaysBetween head d s.rate near_before k ordered.spoken ordered.bytes) (edges_are spoken.edges.after.items e.after.items a.frames is.are_ordered.after_is a.whole) begun in
      record {
        project = text;
        decimator = d;
        speakers = speakers;
        sound = s;
        before = b.before;
        after = a.after;
        project_read = project_read;
        project_says = says;
        mask_is = refl;
        are_speakers = are;
        described = described;
        before_are = b.are;
        after_are = a.are;
        speaks = record {
          spoken = ordered.spoken;
          bytes = ordered.bytes;
          is_ordered = ordered.is_ordered;
          plays = (same_in order is.names one old s d limits is.number around e heard head).forth ordered.spoken ordered.bytes near;
          output_put = ordered.output_put;
          counted = ordered.counted;
          others = ordered.others;
        };
      }

  pub spoken_between_fails : (fault : CommandFault) → SpokenBetweenComesTo spoken.head d spoken.edges (parts_order spoken) file_name output_name mid new (Err fault)
      → SpeakBetweenComesTo is_wide project_name file_name output_name around old new (Err (Command fault))
  spoken_between_fails (Call fault) h =
      let from = subst (λ (v : View). StopsSpokenBetween spoken.head d spoken.edges (parts_order spoken) file_name output_name v new fault) same h in
      let ordered = subst (λ (o : List ℕ → List ℕ). StopsSpokenBetween spoken.head d spoken.edges o file_name output_name old new fault) order_is from in
      inr (inr (record {
        project = text;
        decimator = d;
        speakers = speakers;
        sound = s;
        edges = e;
        ordered = spoken.edges;
        project_read = project_read;
        project_says = says;
        are_speakers = are;
        described = described;
        heard = heard;
        are_ordered = is.are_ordered;
        stops = subst (λ k. StopsSpokenBetween k d spoken.edges (in_order order s) file_name output_name old new fault) is.head_is ordered;
      }))
  spoken_between_fails WriteFailed h =
      let kept = subst (λ (v : View). KeepsOthers output_name v new × (new.file output_name ≡ v.file output_name)) same h in
      record {
        project = text;
        rate = s.rate;
        before = b.before;
        after = a.after;
        project_read = project_read;
        before_are = b.are;
        after_are = a.are;
        same = kept.1;
        others = kept.0;
      }
  spoken_between_fails ReadFailed h = absurd h
