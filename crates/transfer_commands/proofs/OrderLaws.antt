-- Channels that come in an order, and what is played between such channels.
use Rattle.std.proofs.Common.{◌≡◌, ℕ, ◌*◌, ◌/◌, ◌<◌, ◌≤◌, inl, inr, Bool, List, [], length, map, get_or, replicate, take, drop, Option, None, Some, refl, sym, ap, subst, ◌∙◌, arith, add-zero, zero-mul}
use Rattle.std.specs.Borrow.{Bor}
use Rattle.std.proofs.lemmas.List.{ext_get_or, get_or-map, length-map}
use Rattle.std.proofs.lemmas.List.Elements.{All-get_or, All-map}
use Rattle.std.proofs.lemmas.List.FromFn.{length-map-range_with_len}
use Rattle.std.proofs.lemmas.Nat.{div-mul-add}
use Rattle.dsd_bits.specs.declared.sound.Sound.{Sound}
use Rattle.dsd_bits.specs.Channels.{IsLevel, count_of}
use Rattle.dsd_bits.specs.Lacing.{unlaced, unlaced_all}
use Rattle.fir_core.specs.Decimator.{Decimator, IsWithinLimits}
use Rattle.folder_core.specs.Files.{View}
use Rattle.player_core.specs.Between.{between_pcm}
use Rattle.player_core.specs.Reaches.{IsFarEnough}
use Rattle.player_core.proofs.ReachLaws.{head_is_enough, tail_is_enough}
use Rattle.speaker_core.specs.Reordering.{NamesChannels, channels_in}
use Rattle.speaker_core.proofs.ChannelLaws.{moved_hold}
use Rattle.wave_core.specs.declared.head.WaveHead.{WaveHead}
use Rattle.transfer_commands.specs.Neighbours.{AreChannelsOf, AreHeard, IsHeardAfter, IsHeardBefore}
use Rattle.transfer_commands.specs.BetweenSpeaking.{frames_in}
use Rattle.transfer_commands.specs.declared.between.Edges.{Edges}
use Rattle.transfer_commands.specs.declared.between.NeighbourNames.{NeighbourNames}
use Rattle.transfer_commands.proofs.EdgeLaws.{PlayTheSame, none_level, none_silent, same_as_both, same_as_it_is, same_samples}

module _ (order : List ℕ) (names : NamesChannels order) (some : 1 ≤ length order) where
  abbrev pick : List (List Bool) → ℕ → List Bool
  pick channels c = get_or channels c []

  named : (j : ℕ) → j < length order → get_or order j 0 < length order
  named j low = All-get_or (λ c. c < length order) order j 0 low names

  pub ordered_number : (channels : List (List Bool)) → length (channels_in order channels) ≡ length order
  ordered_number channels = length-map order (pick channels)

  -- the channel at a place is the one that the order names there
  ordered_at : (channels : List (List Bool)) (j : ℕ) → j < length order → get_or (channels_in order channels) j [] ≡ get_or channels (get_or order j 0) []
  ordered_at channels j low = get_or-map (pick channels) order j 0 [] low

  -- ---- channels of one length
  module _ (channels : List (List Bool)) (number : length channels ≡ length order) where
    -- what is done to each channel is done to each that the order names
    pub ordered_map : (f : List Bool → List Bool) → channels_in order (map f channels) ≡ map f (channels_in order channels)
    ordered_map f =
        ext_get_or [] (channels_in order (map f channels)) (map f (channels_in order channels))
        (ordered_number (map f channels) ∙ sym (length-map (channels_in order channels) f ∙ ordered_number channels))
        (λ j h.
        let low : j < length order = omega (arith, h, ordered_number (map f channels)) in
        ordered_at (map f channels) j low
        ∙ get_or-map f channels (get_or order j 0) [] [] (omega (arith, named j low, number))
        ∙ ap f (sym (ordered_at channels j low))
        ∙ sym (get_or-map f (channels_in order channels) j [] [] (omega (arith, low, ordered_number channels))))

    module _ (level : IsLevel channels) where
      pub ordered_count : count_of (channels_in order channels) ≡ count_of channels
      ordered_count = ap length (ordered_at channels 0 some) ∙ level.same (get_or order 0 0) [] (omega (arith, named 0 some, number))

      pub ordered_level : IsLevel (channels_in order channels)
      ordered_level = record {
        same = All-map (λ (channel : List Bool). length channel ≡ count_of (channels_in order channels)) (pick channels) order (λ k d low.
            level.same (get_or order k d) [] (omega (arith, All-get_or (λ c. c < length order) order k d low names, number)) ∙ sym ordered_count);
      }

  -- ---- sound bytes of whole frames
  pub ordered_bytes : (bytes : List ℕ) (frames : ℕ) → length bytes ≡ frames * length order → unlaced_all (frames_in order bytes) (length order) ≡ channels_in order (unlaced_all bytes (length order))
  ordered_bytes bytes frames whole =
      let frames_are : length bytes / length order ≡ frames = ap (λ m. m / length order) (whole ∙ sym (add-zero (frames * length order))) ∙ div-mul-add frames (length order) 0 some in
      moved_hold order (length bytes / length order) bytes names some (whole ∙ ap (λ m. m * length order) (sym frames_are))

-- ---- the neighbours that are named
-- the channels of one, of which some are kept, in an order
pub record IsWholeBeforeIn (order : List ℕ) (around : Option (Bor (List ℕ))) (old : View) (t : Sound) (d : Decimator) (bytes : List ℕ) : Type 0 where
  pub before : List (List Bool)
  pub are : AreChannelsOf around old t.rate before
  pub number : length (channels_in order before) ≡ t.channels
  pub level : IsLevel (channels_in order before)
  pub frames : ℕ
  pub whole : length bytes ≡ frames * t.channels
  pub same : (head : WaveHead) (after : List (List Bool)) → PlayTheSame head d t.rate (channels_in order (unlaced_all bytes t.channels)) after (channels_in order before) after

pub record IsWholeAfterIn (order : List ℕ) (around : Option (Bor (List ℕ))) (old : View) (t : Sound) (d : Decimator) (bytes : List ℕ) : Type 0 where
  pub after : List (List Bool)
  pub are : AreChannelsOf around old t.rate after
  pub frames : ℕ
  pub whole : length bytes ≡ frames * t.channels
  pub same : (head : WaveHead) (before : List (List Bool)) → IsLevel before → length before ≡ t.channels → PlayTheSame head d t.rate before (channels_in order (unlaced_all bytes t.channels)) before (channels_in order after)

module _ (order : List ℕ) (names : NamesChannels order) (some : 1 ≤ length order) (old : View) (t : Sound) (d : Decimator) (limits : IsWithinLimits d) (each : length order ≡ t.channels) where
  factor : 1 ≤ d.factor
  factor = omega (arith, limits.least_factor)

  near_long : (bytes : List ℕ) → length (unlaced_all bytes t.channels) ≡ t.channels
  near_long bytes = length-map-range_with_len (unlaced bytes t.channels) 0 t.channels

  none_whole : (bytes : List ℕ) → bytes ≡ [] → length bytes ≡ 0 * t.channels
  none_whole bytes is = ap length is ∙ sym (zero-mul t.channels)

  silent : (bytes : List ℕ) → bytes ≡ [] → unlaced_all bytes t.channels ≡ replicate (length (unlaced_all bytes t.channels)) []
  silent bytes is = subst (λ xs. unlaced_all xs t.channels ≡ replicate (length (unlaced_all xs t.channels)) []) (sym is) (none_silent t.channels)

  pub whole_before_in : (around : Option (Bor (List ℕ))) (bytes : List ℕ) → IsHeardBefore around old t d bytes → IsWholeBeforeIn order around old t d bytes
  whole_before_in None bytes is =
      let all = unlaced_all bytes t.channels in
      record {
        before = all;
        are = silent bytes is;
        number = ordered_number order names some all ∙ each;
        level = ordered_level order names some all (near_long bytes ∙ sym each) (subst (λ xs. IsLevel (unlaced_all xs t.channels)) (sym is) (none_level t.channels));
        frames = 0;
        whole = none_whole bytes is;
        same = λ head after. same_as_it_is head d t.rate (channels_in order all) after;
      }
  whole_before_in (Some name) bytes is =
      let near = unlaced_all bytes t.channels in
      let number : length is.before ≡ length order = is.number ∙ sym each in
      let count = ordered_count order names some is.before number is.level in
      record {
        before = is.before;
        are = is.holds;
        number = ordered_number order names some is.before ∙ each;
        level = ordered_level order names some is.before number is.level;
        frames = is.frames;
        whole = is.whole;
        same = λ head after. same_samples head d t.rate (channels_in order near) after (channels_in order is.before) after (ordered_number order names some is.before ∙ sym (ordered_number order names some near)) refl
            (λ r level one number_before number_after.
            let as_many : length (channels_in order is.before) ≡ length r.channels = ordered_number order names some is.before ∙ sym (ordered_number order names some near) ∙ number_before in
            ap (λ cs. between_pcm r d (channels_in order cs) after) is.bytes_are
            ∙ ap (λ cs. between_pcm r d cs after) (ordered_map order names some is.before number (drop (is.m * d.factor)))
            ∙ tail_is_enough d r (channels_in order is.before) after is.m factor one (ordered_level order names some is.before number is.level) as_many level
            (subst (λ n. is.m * d.factor ≤ n) (sym count) is.few) (subst (λ n. IsFarEnough d n is.m) (sym count) is.far));
      }

  pub whole_after_in : (around : Option (Bor (List ℕ))) (bytes : List ℕ) → IsHeardAfter around old t d bytes → IsWholeAfterIn order around old t d bytes
  whole_after_in None bytes is =
      let all = unlaced_all bytes t.channels in
      record {
        after = all;
        are = silent bytes is;
        frames = 0;
        whole = none_whole bytes is;
        same = λ head before level number. same_as_it_is head d t.rate before (channels_in order all);
      }
  whole_after_in (Some name) bytes is =
      let near = unlaced_all bytes t.channels in
      let number : length is.after ≡ length order = is.number ∙ sym each in
      record {
        after = is.after;
        are = is.holds;
        frames = is.frames;
        whole = is.whole;
        same = λ head before before_level before_number. same_samples head d t.rate before (channels_in order near) before (channels_in order is.after) refl (ordered_number order names some is.after ∙ sym (ordered_number order names some near))
            (λ r level one number_before number_after.
            let as_many : length (channels_in order is.after) ≡ length r.channels = ordered_number order names some is.after ∙ sym (ordered_number order names some near) ∙ number_after in
            ap (λ cs. between_pcm r d before (channels_in order cs)) is.bytes_are
            ∙ elim is.enough [
              | inl enough ↦
                  ap (λ cs. between_pcm r d before cs) (ordered_map order names some is.after number (take is.count))
                  ∙ head_is_enough d r before (channels_in order is.after) is.count factor one before_level number_before level as_many enough
              | inr all ↦ ap (λ cs. between_pcm r d before (channels_in order cs)) all
            ]);
      }

  -- both
  module _ (around : NeighbourNames) (e : Edges) (heard : AreHeard around old t d e) where
    abbrev b : IsWholeBeforeIn order around.previous old t d e.before.items
    b = whole_before_in around.previous e.before.items heard.before

    abbrev a : IsWholeAfterIn order around.next old t d e.after.items
    a = whole_after_in around.next e.after.items heard.after

    pub same_in : (head : WaveHead) → PlayTheSame head d t.rate (channels_in order (unlaced_all e.before.items t.channels)) (channels_in order (unlaced_all e.after.items t.channels)) (channels_in order b.before) (channels_in order a.after)
    same_in head =
        let near_before = channels_in order (unlaced_all e.before.items t.channels) in
        let near_after = channels_in order (unlaced_all e.after.items t.channels) in
        same_as_both head d t.rate near_before near_after (channels_in order b.before) near_after (channels_in order b.before) (channels_in order a.after) (b.same head near_after) (a.same head (channels_in order b.before) b.level b.number)
