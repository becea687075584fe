-- What is written of a file whose loudspeakers are named as another form names them.
use Rattle.std.proofs.Common.{arith, ◌≡◌, ◌≢◌, ◌⊎◌, ℕ, ◌*◌, ◌/◌, ◌≤◌, Bool, IsTrue, false, true, if◌then◌else◌, inl, inr, List, [], ◌++◌, map, length, replicate, take, drop, Option, None, Some, option_map, OnOk, Result, Ok, Err, refl, subst, sym, ap, ap₂, ◌∙◌}
use Rattle.std.specs.Prelude.{IfErr, IfSome}
use Rattle.std.specs.Io.KnownBytes.{Appends, prepend_known}
use Rattle.std.proofs.lemmas.List.{length-map, length-replicate}
use lib.Seq.{drop-append_seam, take-append_seam}
use Rattle.chunk_core.specs.Outlets.{AppendsPrefix}
use Rattle.dsd_bits.specs.declared.blocks.BitOrder.TheVariants.{LeastFirst, MostFirst}
use Rattle.dsd_bits.specs.declared.interleaving.Interleaving.{Interleaving}
use Rattle.dsd_bits.specs.declared.interleaving.Interleaving.TheVariants.{Bytes, Blocks}
use Rattle.dsd_bits.specs.Blocks.{unblocked_all}
use Rattle.dsd_bits.specs.Channels.{count_of}
use Rattle.dsd_bits.specs.Contents.{Content, described}
use Rattle.dsd_bits.specs.Lacing.{unlaced_all}
use Rattle.dsd_bits.specs.Shape.{HasShape}
use Rattle.dsd_bits.specs.Sounds.{has_blocks, sound_channels, sound_size}
use Rattle.form_core.specs.Forms.{dropped_in, form_in, text_in}
use Rattle.form_core.specs.Parts.{FitsIn, FormsWrittenInParts, head_in, interleaving_in, tail_in}
use Rattle.form_core.specs.declared.form.Form.{Form}
use Rattle.form_core.specs.declared.form.Form.TheVariants.{Dsdiff, Dsf, Dsf8}
use Rattle.interleave_core.specs.Reinterleaving.{laced_in}
use Rattle.request_core.proofs.FormLaws.{holds_as}
use Rattle.sound_core.proofs.HeldLaws.{channels_count, channels_number}
use Rattle.sound_core.specs.Outlines.{AreStated, HoldsIn, IsPlacedIn, Surroundings, with_sound}
use Rattle.sound_core.specs.Relays.{Relays, RelaysPrefix, reinterleaved_sound, relayed}
use Rattle.sound_core.specs.declared.fault.StreamFault.{StreamFault}
use Rattle.sound_core.specs.declared.relaying.NewFile.{NewFile}
use Rattle.speaker_core.specs.Reordered.{reordered_known, reordering_groups, reordering_order, reordering_size}
use Rattle.speaker_core.specs.Reordering.{NamesChannels, channels_in, groups_in}
use Rattle.speaker_core.specs.Speakers.{is_moved, layout_ids, layout_with, moved_groups, speaker_mask, speaker_of, speaker_order}
use Rattle.speaker_core.proofs.ChannelLaws.{kept_length, moved_hold, placed_after, placed_before}
use Rattle.folder_core.specs.Files.{HadNone, HoldsPrefix, IsGiven, IsGivenUp, IsReadOf, KeepsOthers, View}
use Rattle.form_core.specs.Forms.{HoldsAs}
use Rattle.form_core.specs.Opening.{Opens, opened_of}
use Rattle.form_core.specs.declared.fault.ReadFault.{ReadFault}
use Rattle.form_core.specs.declared.fault.ReadFault.TheVariants as reads
use Rattle.request_core.specs.Faults.{fault_of_file}
use Rattle.request_core.specs.declared.fault.Fault as calls
use Rattle.request_core.specs.declared.fault.Fault.TheVariants.{Memory}
use Rattle.sound_core.specs.Outlines.{around_of}
use Rattle.sound_core.specs.declared.outline.Outline.{Outline}
use Rattle.transfer_commands.specs.Outlining.{IsOutlined, IsUnoutlined, OutlinesRead}
use Rattle.transfer_commands.specs.Renaming.{AreMoved, IsRenaming, IsRenamingFault, MovesBy, RelaysRenamed, plain_of, renamed_bytes}
use Rattle.transfer_commands.specs.SpeakersConverting.{ConvertSpeakersComesTo, ConvertsSpeakers, ConvertsSpoken, IsUnspoken, LeavesSpokenPrefix, spoken_in, with_ids, with_layout, with_own_layout}
use Rattle.transfer_commands.specs.declared.convert_speakers.SpeakersFault.TheVariants as faults
use Rattle.transfer_commands.specs.declared.fault.CommandFault.{CommandFault}
use Rattle.transfer_commands.specs.declared.fault.CommandFault.TheVariants as commands
use Rattle.transfer_commands.specs.declared.renaming.Renaming.{Renaming}
use Rattle.transfer_commands.proofs.ConvertLaws.{no_text}
use Rattle.transfer_commands.proofs.ReadLaws.{last_of, unknown_view}

-- ---- the recording
-- channels as they come in the other file
abbrev moved_channels : Form → Form → List (List ℕ) → List (List Bool) → List (List Bool)
moved_channels Dsdiff Dsdiff ids channels = channels
moved_channels Dsdiff Dsf ids channels = channels_in (speaker_order (map speaker_of ids)) channels
moved_channels Dsdiff Dsf8 ids channels = channels_in (speaker_order (map speaker_of ids)) channels
moved_channels Dsf form ids channels = channels
moved_channels Dsf8 form ids channels = channels

-- a recording with other channels
abbrev with_these : List (List Bool) → Content → Content
with_these channels r = record r { channels = channels }

laid_out : (r spoken : Content) (channels : List (List Bool)) (layout : Option ℕ) → with_own_layout r layout ≡ Some spoken
    → with_own_layout (with_these channels r) layout ≡ Some (with_these (channels_in (speaker_order (map speaker_of r.ids)) channels) spoken)
laid_out r spoken channels None is = absurd cc
laid_out r spoken channels (Some layout) is = ap (option_map (with_these (channels_in (speaker_order (map speaker_of r.ids)) channels))) is

-- whatever its channels are
named_again : (source form : Form) (r spoken : Content) (channels : List (List Bool)) → spoken_in source form r ≡ Some spoken
    → spoken_in source form (with_these channels r) ≡ Some (with_these (moved_channels source form r.ids channels) spoken)
named_again Dsdiff Dsdiff r spoken channels is = ap (option_map (with_these channels)) is
named_again Dsdiff Dsf r spoken channels is = laid_out r spoken channels (layout_with (speaker_mask (map speaker_of r.ids))) is
named_again Dsdiff Dsf8 r spoken channels is = laid_out r spoken channels (layout_with (speaker_mask (map speaker_of r.ids))) is
named_again Dsf Dsdiff r spoken channels is = ap (option_map (with_these channels)) is
named_again Dsf Dsf r spoken channels is = ap (option_map (with_these channels)) is
named_again Dsf Dsf8 r spoken channels is = ap (option_map (with_these channels)) is
named_again Dsf8 Dsdiff r spoken channels is = ap (option_map (with_these channels)) is
named_again Dsf8 Dsf r spoken channels is = ap (option_map (with_these channels)) is
named_again Dsf8 Dsf8 r spoken channels is = ap (option_map (with_these channels)) is

-- or if there is none
laid_none : (r : Content) (channels : List (List Bool)) (layout : Option ℕ) → with_own_layout r layout ≡ None → with_own_layout (with_these channels r) layout ≡ None
laid_none r channels None is = refl
laid_none r channels (Some layout) is = absurd cc

none_again : (source form : Form) (r : Content) (channels : List (List Bool)) → spoken_in source form r ≡ None → spoken_in source form (with_these channels r) ≡ None
none_again Dsdiff Dsdiff r channels is = absurd cc
none_again Dsdiff Dsf r channels is = laid_none r channels (layout_with (speaker_mask (map speaker_of r.ids))) is
none_again Dsdiff Dsf8 r channels is = laid_none r channels (layout_with (speaker_mask (map speaker_of r.ids))) is
none_again Dsf Dsdiff r channels is = absurd cc
none_again Dsf Dsf r channels is = absurd cc
none_again Dsf Dsf8 r channels is = absurd cc
none_again Dsf8 Dsdiff r channels is = absurd cc
none_again Dsf8 Dsf r channels is = absurd cc
none_again Dsf8 Dsf8 r channels is = absurd cc

-- it has as many
abbrev number_or : Option Content → ℕ
number_or None = 0
number_or (Some r) = length r.channels

laid_number : (r spoken : Content) (layout : Option ℕ) → length (speaker_order (map speaker_of r.ids)) ≡ length r.channels → with_own_layout r layout ≡ Some spoken → length spoken.channels ≡ length r.channels
laid_number r spoken None number is = absurd cc
laid_number r spoken (Some layout) number is = sym (ap number_or is) ∙ length-map (speaker_order (map speaker_of r.ids)) _ ∙ number

spoken_number : (source form : Form) (r spoken : Content) (n : ℕ) (w : Renaming) → AreMoved source form r n w → length r.ids ≡ length r.channels → spoken_in source form r ≡ Some spoken → length spoken.channels ≡ length r.channels
spoken_number Dsdiff Dsdiff r spoken n w by ids is = sym (ap number_or is)
spoken_number Dsdiff Dsf r spoken n w by ids is = laid_number r spoken (layout_with (speaker_mask (map speaker_of r.ids))) (by.number ∙ ids) is
spoken_number Dsdiff Dsf8 r spoken n w by ids is = laid_number r spoken (layout_with (speaker_mask (map speaker_of r.ids))) (by.number ∙ ids) is
spoken_number Dsf Dsdiff r spoken n w by ids is = sym (ap number_or is)
spoken_number Dsf Dsf r spoken n w by ids is = sym (ap number_or is)
spoken_number Dsf Dsf8 r spoken n w by ids is = sym (ap number_or is)
spoken_number Dsf8 Dsdiff r spoken n w by ids is = sym (ap number_or is)
spoken_number Dsf8 Dsf r spoken n w by ids is = sym (ap number_or is)
spoken_number Dsf8 Dsf8 r spoken n w by ids is = sym (ap number_or is)

same_dropped : (form : Form) (r : Content) (channels : List (List Bool)) → dropped_in form (described r) ≡ dropped_in form (described (with_these channels r))
same_dropped Dsdiff r channels = refl
same_dropped Dsf r channels = refl
same_dropped Dsf8 r channels = refl

-- ---- the sound
abbrev turned : Renaming → List ℕ → List ℕ
turned w bytes = groups_in (reordering_order w.reordering) (reordering_size w.reordering) (reordering_groups w.reordering) bytes

-- frames whose channels come in the order of their loudspeakers
turned_frames : (ids : List (List ℕ)) (channels count : ℕ) (w : Renaming) (sound : List ℕ) → 1 ≤ channels → length ids ≡ channels → length sound ≡ count / 8 * channels → reordering_size w.reordering ≡ 1
    → MovesBy (speaker_order (map speaker_of ids)) (length ids) (count / 8) w → unlaced_all (turned w sound) channels ≡ channels_in (speaker_order (map speaker_of ids)) (unlaced_all sound channels)
turned_frames ids channels count w sound some ids_are long one by =
    let order = speaker_order (map speaker_of ids) in
    let groups = moved_groups order (count / 8) in
    let number : length order ≡ channels = by.number ∙ ids_are in
    let each : 1 ≤ length order = omega (arith, number, some) in
    ap (λ o. unlaced_all (groups_in o (reordering_size w.reordering) (reordering_groups w.reordering) sound) channels) by.order_is
    ∙ ap₂ (λ size g. unlaced_all (groups_in order size g sound) channels) one by.groups_are
    ∙ subst (λ m. unlaced_all (groups_in order 1 groups sound) m ≡ channels_in order (unlaced_all sound m)) number (moved_hold order (count / 8) sound by.names each (long ∙ ap (λ m. count / 8 * m) (sym number)))

turned_sound : (interleaving : Interleaving) (form : Form) (r : Content) (channels count : ℕ) (w : Renaming) (sound : List ℕ) → 1 ≤ channels → length r.ids ≡ channels → length sound ≡ sound_size interleaving channels count → reordering_size w.reordering ≡ 1
    → AreMoved (form_in interleaving) form r (count / 8) w → sound_channels interleaving channels count (turned w sound) ≡ moved_channels (form_in interleaving) form r.ids (sound_channels interleaving channels count sound)
turned_sound Bytes Dsdiff r channels count w sound some ids long one by = ap (λ m. unlaced_all (groups_in (reordering_order w.reordering) (reordering_size w.reordering) m sound) channels) by
turned_sound Bytes Dsf r channels count w sound some ids long one by = turned_frames r.ids channels count w sound some ids long one by
turned_sound Bytes Dsf8 r channels count w sound some ids long one by = turned_frames r.ids channels count w sound some ids long one by
turned_sound (Blocks LeastFirst) form r channels count w sound some ids long one by = ap (λ m. unblocked_all LeastFirst (groups_in (reordering_order w.reordering) (reordering_size w.reordering) m sound) channels count) by
turned_sound (Blocks MostFirst) form r channels count w sound some ids long one by = ap (λ m. unblocked_all MostFirst (groups_in (reordering_order w.reordering) (reordering_size w.reordering) m sound) channels count) by

-- whole groups are turned, if any
abbrev AreWhole : Renaming → ℕ → Type 0
AreWhole w long = (reordering_groups w.reordering ≡ 0) ⊎ (NamesChannels (reordering_order w.reordering) × (long ≡ reordering_groups w.reordering * (length (reordering_order w.reordering) * 1)))

whole_frames : (order : List ℕ) (channels count long : ℕ) (w : Renaming) → long ≡ count * channels → MovesBy order channels count w → AreWhole w long
whole_frames order channels count long w is by = split (is_moved order 0) refl
  where
    split : (moved : Bool) → is_moved order 0 ≡ moved → AreWhole w long
    split false moved = inl (by.groups_are ∙ ap (λ b. if b then count else 0) moved)
    split true moved =
        let groups : reordering_groups w.reordering ≡ count = by.groups_are ∙ ap (λ b. if b then count else 0) moved in
        let number : length (reordering_order w.reordering) * 1 ≡ channels = omega (arith, ap length by.order_is, by.number) in
        inr (subst NamesChannels (sym by.order_is) by.names, is ∙ sym (ap₂ (λ a b. a * b) groups number))

whole_sound : (interleaving : Interleaving) (form : Form) (r : Content) (channels count long : ℕ) (w : Renaming) → length r.ids ≡ channels → long ≡ sound_size interleaving channels count → AreMoved (form_in interleaving) form r (count / 8) w → AreWhole w long
whole_sound Bytes Dsdiff r channels count long w ids is by = inl by
whole_sound Bytes Dsf r channels count long w ids is by = whole_frames _ (length r.ids) (count / 8) long w (is ∙ ap (λ m. count / 8 * m) (sym ids)) by
whole_sound Bytes Dsf8 r channels count long w ids is by = whole_frames _ (length r.ids) (count / 8) long w (is ∙ ap (λ m. count / 8 * m) (sym ids)) by
whole_sound (Blocks LeastFirst) form r channels count long w ids is by = inl by
whole_sound (Blocks MostFirst) form r channels count long w ids is by = inl by

turned_length : (w : Renaming) (sound : List ℕ) → reordering_size w.reordering ≡ 1 → AreWhole w (length sound) → length (turned w sound) ≡ length sound
turned_length w sound one (inl none) = ap (λ m. length (groups_in (reordering_order w.reordering) (reordering_size w.reordering) m sound)) none
turned_length w sound one (inr (names, whole)) =
    ap (λ m. length (groups_in (reordering_order w.reordering) m (reordering_groups w.reordering) sound)) one ∙ kept_length (reordering_order w.reordering) names (reordering_groups w.reordering) sound

turned_after : (w : Renaming) (sound rest : List ℕ) → reordering_size w.reordering ≡ 1 → AreWhole w (length sound) → turned w (sound ++ rest) ≡ turned w sound ++ rest
turned_after w sound rest one (inl none) = placed_after (reordering_order w.reordering) (reordering_size w.reordering) (reordering_groups w.reordering) sound rest (inl none)
turned_after w sound rest one (inr (names, whole)) =
    placed_after (reordering_order w.reordering) (reordering_size w.reordering) (reordering_groups w.reordering) sound rest (inr (whole ∙ ap (λ m. reordering_groups w.reordering * (length (reordering_order w.reordering) * m)) (sym one)))

-- ---- bytes that begin with as many
same_front : (a b x y : List ℕ) → a ++ x ≡ b ++ y → length a ≡ length b → (a ≡ b) × (x ≡ y)
same_front a b x y same long = (
  sym (take-append_seam a x) ∙ ap (λ m. take m (a ++ x)) long ∙ ap (take (length b)) same ∙ take-append_seam b y,
  sym (drop-append_seam a x) ∙ ap (λ m. drop m (a ++ x)) long ∙ ap (drop (length b)) same ∙ drop-append_seam b y,
)

module _ (o : Surroundings) (stated : AreStated o) (form : Form) (w : Renaming) (is : IsRenaming form o w) where
  -- the sound in its order
  sound_whole : (sound : List ℕ) → length sound ≡ o.sound.size → AreWhole w (length sound)
  sound_whole sound long = whole_sound o.sound.interleaving form o.recording o.sound.channels o.sound.count (length sound) w is.ids (long ∙ stated.is_sound.size) is.moved

  -- the text of what a file with some sound holds
  pub renamed_converts : FormsWrittenInParts → (file sound : List ℕ) → IsPlacedIn o file sound → ConvertsSpoken file form (renamed_bytes w o sound) (dropped_in form (described o.recording))
  renamed_converts in_parts file sound placed =
      let s = o.sound in
      let long : length sound ≡ sound_size s.interleaving s.channels s.count = placed.sound_long ∙ stated.is_sound.size in
      let some = stated.is_sound.some_channel in
      let own = sound_channels s.interleaving s.channels s.count sound in
      let made = sound_channels s.interleaving s.channels s.count (turned w sound) in
      let made_is : made ≡ moved_channels (form_in s.interleaving) form o.recording.ids own = turned_sound s.interleaving form o.recording s.channels s.count w sound some is.ids long is.size is.moved in
      let made_long = turned_length w sound is.size (sound_whole sound placed.sound_long) ∙ long in
      let count : count_of made ≡ s.count = channels_count s.interleaving s.channels s.count (turned w sound) some stated.whole made_long in
      let silent : length o.recording.channels ≡ s.channels = ap length stated.silent ∙ length-replicate s.channels [] in
      let number = spoken_number (form_in s.interleaving) form o.recording is.spoken (s.count / 8) w is.moved (is.ids ∙ sym silent) is.named ∙ silent ∙ sym (channels_number s.interleaving s.channels s.count (turned w sound)) in
      let parts = in_parts form is.spoken made number (subst (FitsIn form) (sym count) is.fits) in
      record {
        source = form_in s.interleaving;
        recording = with_sound o.recording s sound;
        spoken = with_these (moved_channels (form_in s.interleaving) form o.recording.ids own) is.spoken;
        file_holds = holds_as s.interleaving file (with_sound o.recording s sound) (stated.holds file sound placed);
        named = named_again (form_in s.interleaving) form o.recording is.spoken own is.named;
        text =
            ap (λ cs. text_in form (with_these cs is.spoken)) (sym made_is) ∙ parts
            ∙ ap (λ n. Some (head_in form is.spoken n ++ (laced_in (interleaving_in form) made ++ tail_in form is.spoken n))) count
            ∙ ap₂ (λ a b. Some (a ++ b)) (sym is.head) (ap₂ (λ f b. laced_in (interleaving_in f) made ++ b) (sym is.form_is) (sym is.tail));
        dropped_is = same_dropped form o.recording own;
      }

  -- ---- a reader of the file with its channels in their order
  module _ (head tail : List ℕ) (start : length head ≡ o.sound.start) (target : NewFile) (held written : Option (List ℕ)) (same : (sound : List ℕ) → relayed target o.sound sound ≡ w.ends.head.items ++ (reinterleaved_sound o.sound (interleaving_in w.form) sound ++ w.ends.tail.items)) where
    abbrev ordered : Option (List ℕ) → Option (List ℕ)
    ordered rest = prepend_known head (reordered_known (reordering_order w.reordering) (reordering_size w.reordering) (reordering_groups w.reordering) (prepend_known tail rest))

    abbrev plain : Option (List ℕ) → Option (List ℕ)
    plain rest = prepend_known head (prepend_known tail rest)

    pub relayed_all : (rest : Option (List ℕ)) → Relays (ordered rest) target o held written → IfSome (plain rest) (λ file. (sound : List ℕ) × IsPlacedIn o file sound × Appends held written (renamed_bytes w o sound))
    relayed_all None h = tt
    relayed_all (Some xs) (sound, placed, appends) =
        let bytes = tail ++ xs in
        let after = placed.gap ++ (o.back ++ placed.rest) in
        let fronts = same_front head o.head (turned w bytes) (sound ++ after) placed.file_is (start ∙ stated.start) in
        let one = ap (λ m. groups_in (reordering_order w.reordering) m (reordering_groups w.reordering) bytes) (sym is.size) ∙ fronts.1 in
        let before = placed_before (reordering_order w.reordering) (reordering_groups w.reordering) bytes sound after (sound_whole sound placed.sound_long) one in
        let turned_is : turned w before.0 ≡ sound = ap (λ m. groups_in (reordering_order w.reordering) m (reordering_groups w.reordering) before.0) is.size ∙ before.2 in (
          before.0,
          record {
            gap = placed.gap;
            rest = placed.rest;
            file_is = ap₂ (λ a b. a ++ b) fronts.0 before.1;
            sound_long = before.3 ∙ placed.sound_long;
            gap_long = placed.gap_long;
            ended = placed.ended;
          },
          subst (Appends held written) (same sound ∙ ap (λ x. w.ends.head.items ++ (reinterleaved_sound o.sound (interleaving_in w.form) x ++ w.ends.tail.items)) (sym turned_is)) appends,
        )

    pub relayed_prefix : (rest : Option (List ℕ)) (fault : StreamFault) → RelaysPrefix (ordered rest) target o held written fault → IfSome (plain rest) (λ file. (sound : List ℕ) → IsPlacedIn o file sound → AppendsPrefix held written (renamed_bytes w o sound))
    relayed_prefix None fault h = tt
    relayed_prefix (Some xs) fault h = λ sound placed.
        let bytes = tail ++ xs in
        let after = placed.gap ++ (o.back ++ placed.rest) in
        let fronts = same_front head o.head bytes (sound ++ after) placed.file_is (start ∙ stated.start) in
        let whole = sound_whole sound placed.sound_long in
        let until = h (turned w sound) (record {
          gap = placed.gap;
          rest = placed.rest;
          file_is = ap₂ (λ a b. a ++ b) fronts.0 (ap (turned w) fronts.1 ∙ turned_after w sound after is.size whole);
          sound_long = turned_length w sound is.size whole ∙ placed.sound_long;
          gap_long = placed.gap_long;
          ended = placed.ended;
        }) in
        (until.0, until.1, sym (same (turned w sound)) ∙ until.2, until.4)

    pub relays : (left rest : Option (List ℕ)) (came : Result (Unit {0}) StreamFault) → left ≡ ordered rest → OnOk came (Relays left target o held written) → IfErr came (RelaysPrefix left target o held written) → RelaysRenamed (plain rest) o w held written came
    relays left rest (Ok u) is_left ok prefix = relayed_all rest (subst (λ l. Relays l target o held written) is_left ok)
    relays left rest (Err fault) is_left ok prefix = relayed_prefix rest fault (subst (λ l. RelaysPrefix l target o held written fault) is_left prefix)

-- ---- what is written around the sound
-- a DSF file keeps nothing that a DSDIFF file would
dsf_keeps : (interleaving : Interleaving) (file : List ℕ) (r : Content) → has_blocks interleaving ≡ true → HoldsIn interleaving file r → (r.marks ≡ []) × (r.others ≡ [])
dsf_keeps Bytes file r blocks holds = absurd cc
dsf_keeps (Blocks order) file r blocks holds = (holds.no_marks, holds.no_others)

-- and a DSDIFF file has no tag
dsdiff_keeps : (interleaving : Interleaving) (file : List ℕ) (r : Content) → has_blocks interleaving ≡ false → HoldsIn interleaving file r → r.tag ≡ []
dsdiff_keeps Bytes file r frames holds = holds.tag
dsdiff_keeps (Blocks order) file r frames holds = absurd cc

dsdiff_ends : (r : Content) (ids : List (List ℕ)) (layout count : ℕ) → r.marks ≡ [] → r.others ≡ [] → r.channels ≡ replicate (length ids) []
    → (head_in Dsdiff (plain_of r ids layout) count ≡ head_in Dsdiff (record r { ids = ids }) count) × (tail_in Dsdiff (plain_of r ids layout) count ≡ tail_in Dsdiff (record r { ids = ids }) count)
dsdiff_ends r ids layout count marks others channels = (
  ap₂ (λ m o. head_in Dsdiff (record (plain_of r ids layout) { marks = m; others = o }) count) (sym marks) (sym others) ∙ ap (λ cs. head_in Dsdiff (record r { ids = ids; channels = cs }) count) (sym channels),
  ap₂ (λ m o. tail_in Dsdiff (record (plain_of r ids layout) { marks = m; others = o }) count) (sym marks) (sym others) ∙ ap (λ cs. tail_in Dsdiff (record r { ids = ids; channels = cs }) count) (sym channels),
)

dsf_ends : (form : Form) (r : Content) (layout count : ℕ) → form ≢ Dsdiff → r.tag ≡ []
    → (head_in form (plain_of r r.ids layout) count ≡ head_in form (with_layout r layout) count) × (tail_in form (plain_of r r.ids layout) count ≡ tail_in form (with_layout r layout) count)
dsf_ends Dsdiff r layout count other tag = absurd (other refl)
dsf_ends Dsf r layout count other tag = (ap (λ t. head_in Dsf (record (plain_of r r.ids layout) { tag = t }) count) (sym tag), sym tag)
dsf_ends Dsf8 r layout count other tag = (ap (λ t. head_in Dsf8 (record (plain_of r r.ids layout) { tag = t }) count) (sym tag), sym tag)

named_ids : (interleaving : Interleaving) (r : Content) → has_blocks interleaving ≡ true → spoken_in (form_in interleaving) Dsdiff r ≡ Some (with_ids r)
named_ids Bytes r blocks = absurd cc
named_ids (Blocks LeastFirst) r blocks = refl
named_ids (Blocks MostFirst) r blocks = refl

named_layout : (interleaving : Interleaving) (form : Form) (r : Content) → has_blocks interleaving ≡ false → form ≢ Dsdiff → spoken_in (form_in interleaving) form r ≡ with_own_layout r (layout_with (speaker_mask (map speaker_of r.ids)))
named_layout Bytes Dsdiff r frames other = absurd (other refl)
named_layout Bytes Dsf r frames other = refl
named_layout Bytes Dsf8 r frames other = refl
named_layout (Blocks order) form r frames other = absurd cc

named_same : (interleaving : Interleaving) (form : Form) (r : Content) → has_blocks interleaving ≡ has_blocks (interleaving_in form) → spoken_in (form_in interleaving) form r ≡ Some r
named_same Bytes Dsdiff r same = refl
named_same Bytes Dsf r same = absurd cc
named_same Bytes Dsf8 r same = absurd cc
named_same (Blocks LeastFirst) Dsdiff r same = absurd cc
named_same (Blocks MostFirst) Dsdiff r same = absurd cc
named_same (Blocks LeastFirst) Dsf r same = refl
named_same (Blocks MostFirst) Dsf r same = refl
named_same (Blocks LeastFirst) Dsf8 r same = refl
named_same (Blocks MostFirst) Dsf8 r same = refl

none_moved : (interleaving : Interleaving) (form : Form) (r : Content) (n : ℕ) (w : Renaming) → (has_blocks interleaving ≡ has_blocks (interleaving_in form)) ⊎ (has_blocks interleaving ≡ true) → reordering_groups w.reordering ≡ 0 → AreMoved (form_in interleaving) form r n w
none_moved Bytes Dsdiff r n w how none = none
none_moved Bytes Dsf r n w (inl same) none = absurd cc
none_moved Bytes Dsf r n w (inr blocks) none = absurd cc
none_moved Bytes Dsf8 r n w (inl same) none = absurd cc
none_moved Bytes Dsf8 r n w (inr blocks) none = absurd cc
none_moved (Blocks LeastFirst) form r n w how none = none
none_moved (Blocks MostFirst) form r n w how none = none

some_moved : (interleaving : Interleaving) (form : Form) (r : Content) (n : ℕ) (w : Renaming) → has_blocks interleaving ≡ false → form ≢ Dsdiff → MovesBy (speaker_order (map speaker_of r.ids)) (length r.ids) n w → AreMoved (form_in interleaving) form r n w
some_moved Bytes Dsdiff r n w frames other by = absurd (other refl)
some_moved Bytes Dsf r n w frames other by = by
some_moved Bytes Dsf8 r n w frames other by = by
some_moved (Blocks order) form r n w frames other by = absurd cc

-- of a DSF file as a DSDIFF file
pub ids_renamed : (outline : Outline) (file : List ℕ) → IsOutlined file outline → has_blocks outline.sound.interleaving ≡ true → HasShape outline.recording → (w : Renaming) (ids : List (List ℕ)) (layout : ℕ)
    → layout ≡ outline.recording.layout → ids ≡ layout_ids layout → length ids ≡ length outline.recording.ids → w.form ≡ Dsdiff → w.ends.head.items ≡ head_in Dsdiff (plain_of outline.recording ids layout) outline.sound.count
    → w.ends.tail.items ≡ tail_in Dsdiff (plain_of outline.recording ids layout) outline.sound.count → FitsIn Dsdiff outline.sound.count → reordering_size w.reordering ≡ 1 → reordering_groups w.reordering ≡ 0 → IsRenaming Dsdiff (around_of outline) w
ids_renamed outline file is blocks shape w ids layout own ids_are number form head tail fits size none =
    let s = outline.sound in
    let r = outline.recording in
    let keeps = dsf_keeps s.interleaving file (with_sound r s is.around.0) blocks (is.reported.holds file is.around.0 is.around.1) in
    let silent : length r.channels ≡ s.channels = ap length is.reported.silent ∙ length-replicate s.channels [] in
    let many : s.channels ≡ length ids = sym silent ∙ sym shape.id_for_each ∙ sym number in
    let ends = dsdiff_ends r ids layout s.count keeps.0 keeps.1 (is.reported.silent ∙ ap (λ n. replicate n []) many) in
    let named : ids ≡ layout_ids r.layout = ids_are ∙ ap layout_ids own in
    record {
      spoken = with_ids r;
      named = named_ids s.interleaving r blocks;
      head = head ∙ ends.0 ∙ ap (λ i. head_in Dsdiff (record r { ids = i }) s.count) named;
      tail = tail ∙ ends.1 ∙ ap (λ i. tail_in Dsdiff (record r { ids = i }) s.count) named;
      form_is = form;
      fits = fits;
      size = size;
      moved = none_moved s.interleaving Dsdiff r (s.count / 8) w (inr blocks) none;
      ids = shape.id_for_each ∙ silent;
    }

-- of a DSDIFF file as a DSF file
pub layout_renamed : (outline : Outline) (file : List ℕ) → IsOutlined file outline → has_blocks outline.sound.interleaving ≡ false → HasShape outline.recording → (form : Form) → form ≢ Dsdiff → (w : Renaming) (layout : ℕ)
    → layout_with (speaker_mask (map speaker_of outline.recording.ids)) ≡ Some layout → w.form ≡ form → w.ends.head.items ≡ head_in form (plain_of outline.recording outline.recording.ids layout) outline.sound.count
    → w.ends.tail.items ≡ tail_in form (plain_of outline.recording outline.recording.ids layout) outline.sound.count → FitsIn form outline.sound.count → reordering_size w.reordering ≡ 1
    → MovesBy (speaker_order (map speaker_of outline.recording.ids)) (length outline.recording.ids) (outline.sound.count / 8) w → IsRenaming form (around_of outline) w
layout_renamed outline file is frames shape form other w layout found form_is head tail fits size moves =
    let s = outline.sound in
    let r = outline.recording in
    let ends = dsf_ends form r layout s.count other (dsdiff_keeps s.interleaving file (with_sound r s is.around.0) frames (is.reported.holds file is.around.0 is.around.1)) in
    record {
      spoken = with_layout r layout;
      named = named_layout s.interleaving form r frames other ∙ ap (with_own_layout r) found;
      head = head ∙ ends.0;
      tail = tail ∙ ends.1;
      form_is = form_is;
      fits = fits;
      size = size;
      moved = some_moved s.interleaving form r (s.count / 8) w frames other moves;
      ids = shape.id_for_each ∙ ap length is.reported.silent ∙ length-replicate s.channels [];
    }

-- of a file whose form names loudspeakers in the same way
pub same_renamed : (outline : Outline) (file : List ℕ) → IsOutlined file outline → HasShape outline.recording → (form : Form) → has_blocks outline.sound.interleaving ≡ has_blocks (interleaving_in form) → (w : Renaming) → w.form ≡ form
    → w.ends.head.items ≡ head_in form outline.recording outline.sound.count → w.ends.tail.items ≡ tail_in form outline.recording outline.sound.count → FitsIn form outline.sound.count → reordering_size w.reordering ≡ 1 → reordering_groups w.reordering ≡ 0
    → IsRenaming form (around_of outline) w
same_renamed outline file is shape form same w form_is head tail fits size none =
    let s = outline.sound in
    let r = outline.recording in
    record {
      spoken = r;
      named = named_same s.interleaving form r same;
      head = head;
      tail = tail;
      form_is = form_is;
      fits = fits;
      size = size;
      moved = none_moved s.interleaving form r (s.count / 8) w (inl same) none;
      ids = shape.id_for_each ∙ ap length is.reported.silent ∙ length-replicate s.channels [];
    }

-- no channel type
pub none_named : (interleaving : Interleaving) (form : Form) (r : Content) → has_blocks interleaving ≡ false → form ≢ Dsdiff → layout_with (speaker_mask (map speaker_of r.ids)) ≡ None → spoken_in (form_in interleaving) form r ≡ None
none_named interleaving form r frames other none = named_layout interleaving form r frames other ∙ ap (with_own_layout r) none

-- ---- what is left of the output
module _ (form : Form) (input output : List ℕ) (old new : View) (others : KeepsOthers output old new) (outline : Outline) (found : OutlinesRead input old outline) (in_parts : FormsWrittenInParts) (w : Renaming) (is : IsRenaming form (around_of outline) w) where
  abbrev o : Surroundings
  o = around_of outline

  abbrev stated : AreStated o
  stated = found.is_outline.reported

  abbrev dropped : ℕ
  dropped = dropped_in form (described outline.recording)

  -- all was written, and handed back
  pub speaks_all : (left empty written : Option (List ℕ)) → IsGiven old input left → (IsTrue old.is_known → empty ≡ Some []) → (IsTrue old.is_known → new.file output ≡ written) → RelaysRenamed left o w empty written (Ok tt) → ConvertsSpeakers form input output old new dropped
  speaks_all left empty written given is_empty stands relays = by old.is_known refl
    where
      all : (file : List ℕ) (v : Option (List ℕ)) → RelaysRenamed (Some file) o w (Some []) v (Ok tt) → (bytes : List ℕ) × ConvertsSpoken file form bytes dropped × (v ≡ Some bytes)
      all file None h = absurd h.2
      all file (Some v) h = (renamed_bytes w o h.0, renamed_converts o stated form w is in_parts file h.0 h.1, ap Some h.2)

      by : (reported : Bool) → old.is_known ≡ reported → ConvertsSpeakers form input output old new dropped
      by true known =
          let g = given known in
          let made = all g.0 written (subst (λ l. RelaysRenamed l o w (Some []) written (Ok tt)) g.2 (subst (λ e. RelaysRenamed left o w e written (Ok tt)) (is_empty known) relays)) in
          record {
            file = g.0;
            bytes = made.0;
            file_read = λ reported. g.1;
            output_put = λ reported. stands known ∙ made.2;
            others = others;
            converts = made.1;
          }
      by false known = record {
        file = found.file;
        bytes = renamed_bytes w o found.is_outline.around.0;
        file_read = unknown_view old.is_known known;
        output_put = unknown_view new.is_known (others.same_known ∙ known);
        others = others;
        converts = renamed_converts o stated form w is in_parts found.file found.is_outline.around.0 found.is_outline.around.1;
      }

  -- the output is as it was
  pub speaks_none : new.file output ≡ old.file output → LeavesSpokenPrefix form input output old new
  speaks_none same = record {
    file = found.file;
    last = found.file;
    bytes = renamed_bytes w o found.is_outline.around.0;
    dropped = dropped;
    file_read = found.file_read;
    last_read = found.file_read;
    converts = renamed_converts o stated form w is in_parts found.file found.is_outline.around.0 found.is_outline.around.1;
    prefix = λ again reported. inl same;
    kept = λ reported. inl same;
    others = others;
  }

  -- a prefix was written, and handed back, or not even that
  pub speaks_prefix : (left empty written : Option (List ℕ)) (fault : StreamFault) → IsGiven old input left → (IsTrue old.is_known → empty ≡ Some []) → (IsTrue old.is_known → IsGivenUp output old new written) → RelaysRenamed left o w empty written (Err fault) → LeavesSpokenPrefix form input output old new
  speaks_prefix left empty written fault given is_empty stays relays =
      let read = last_of old input left given found.file found.file_read in
      record {
        file = found.file;
        last = read.0;
        bytes = renamed_bytes w o found.is_outline.around.0;
        dropped = dropped;
        file_read = found.file_read;
        last_read = read.1;
        converts = renamed_converts o stated form w is in_parts found.file found.is_outline.around.0 found.is_outline.around.1;
        prefix = λ again reported. by (read.2 reported ∙ ap Some again) (is_empty reported) (stays reported);
        kept = λ reported. elim (stays reported) [ inl same ↦ inl same | inr held ↦ inr held.1 ];
        others = others;
      }
    where
      own : left ≡ Some found.file → empty ≡ Some [] → RelaysRenamed (Some found.file) o w (Some []) written (Err fault)
      own left_is none = subst (λ l. RelaysRenamed l o w (Some []) written (Err fault)) left_is (subst (λ e. RelaysRenamed left o w e written (Err fault)) none relays)

      put_prefix : (v : Option (List ℕ)) → new.file output ≡ v → AppendsPrefix (Some []) v (renamed_bytes w o found.is_outline.around.0) → HadNone output old → HoldsPrefix output old new (renamed_bytes w o found.is_outline.around.0)
      put_prefix None at h had_none = absurd h.3
      put_prefix (Some v) at h had_none = record { prefix = h.0; rest = h.1; parts = h.2; stands = at ∙ ap Some h.3; had_none = had_none }

      by : left ≡ Some found.file → empty ≡ Some [] → IsGivenUp output old new written → (new.file output ≡ old.file output) ⊎ HoldsPrefix output old new (renamed_bytes w o found.is_outline.around.0)
      by left_is none (inl same) = inl same
      by left_is none (inr (stands, had_none)) = inr (put_prefix written stands (own left_is none found.is_outline.around.0 found.is_outline.around.1) had_none)

-- ---- a file that is refused
refused_so : (form : Form) (input output : List ℕ) (old new : View) (fault : calls.Fault) → new ≡ old → IsUnspoken form input old fault → ConvertSpeakersComesTo form input output old new (Err (faults.Command (commands.Call fault)))
refused_so form input output old new Memory same is = inl same
refused_so form input output old new fault same is = (same, is)

unheld : (form : Form) (input output : List ℕ) (old new : View) (file : List ℕ) (cause : ReadFault) (fault : calls.Fault) → new ≡ old → IsReadOf old input file → Opens (Err cause) (opened_of file) → fault ≡ fault_of_file cause
    → ConvertSpeakersComesTo form input output old new (Err (faults.Command (commands.Call fault)))
unheld form input output old new file reads.Memory fault same read opens named = subst (λ (f : calls.Fault). ConvertSpeakersComesTo form input output old new (Err (faults.Command (commands.Call f)))) (sym named) (inl same)
unheld form input output old new file reads.UnknownForm fault same read opens named = refused_so form input output old new fault same (record { file = file; file_read = read; why = inl (reads.UnknownForm, opens, named) })
unheld form input output old new file (reads.Dsdiff d) fault same read opens named = refused_so form input output old new fault same (record { file = file; file_read = read; why = inl (reads.Dsdiff d, opens, named) })
unheld form input output old new file (reads.Dsf d) fault same read opens named = refused_so form input output old new fault same (record { file = file; file_read = read; why = inl (reads.Dsf d, opens, named) })

pub unoutlined_unspoken : (form : Form) (input output : List ℕ) (old new : View) (f : CommandFault) → new ≡ old → IsUnoutlined input old f → ConvertSpeakersComesTo form input output old new (Err (faults.Command f))
unoutlined_unspoken form input output old new (commands.Call fault) same (inl none) = subst (λ (g : calls.Fault). ConvertSpeakersComesTo form input output old new (Err (faults.Command (commands.Call g)))) (sym none) (inl same)
unoutlined_unspoken form input output old new (commands.Call fault) same (inr is) = unheld form input output old new is.file is.unopened.cause fault same is.file_read is.unopened.reading is.unopened.named
unoutlined_unspoken form input output old new commands.ReadFailed same is = inl same
unoutlined_unspoken form input output old new commands.WriteFailed same is = absurd is

-- the recording that was outlined
module _ (form : Form) (input output : List ℕ) (old new : View) (same : new ≡ old) (outline : Outline) (found : OutlinesRead input old outline) where
  abbrev recorded : Content
  recorded = with_sound outline.recording outline.sound found.is_outline.around.0

  holds : HoldsAs found.file (form_in outline.sound.interleaving) recorded
  holds = holds_as outline.sound.interleaving found.file recorded (found.is_outline.reported.holds found.file found.is_outline.around.0 found.is_outline.around.1)

  counted : count_of recorded.channels ≡ outline.sound.count
  counted = channels_count outline.sound.interleaving outline.sound.channels outline.sound.count found.is_outline.around.0 found.is_outline.reported.is_sound.some_channel found.is_outline.reported.whole (found.is_outline.around.1.sound_long ∙ found.is_outline.reported.is_sound.size)

  -- no channel type has its loudspeakers
  pub has_no_type : spoken_in (form_in outline.sound.interleaving) form outline.recording ≡ None → ConvertSpeakersComesTo form input output old new (Err faults.NoChannelType)
  has_no_type none = (
    same,
    record {
      file = found.file;
      file_read = found.file_read;
      source = form_in outline.sound.interleaving;
      recording = recorded;
      file_holds = holds;
      unnamed = none_again (form_in outline.sound.interleaving) form outline.recording recorded.channels none;
    },
  )

  -- there is nothing to write of it
  pub renaming_refused : (fault : calls.Fault) → IsRenamingFault form (around_of outline) fault → ConvertSpeakersComesTo form input output old new (Err (faults.Command (commands.Call fault)))
  renaming_refused fault (inl memory) = subst (λ (f : calls.Fault). ConvertSpeakersComesTo form input output old new (Err (faults.Command (commands.Call f)))) (sym memory) (inl same)
  renaming_refused fault (inr (cut, not)) = refused_so form input output old new fault same (record {
    file = found.file;
    file_read = found.file_read;
    why = inr (form_in outline.sound.interleaving, recorded, holds, no_text form recorded (λ fits. not (subst (FitsIn form) counted fits)), cut);
  })
