-- What is relayed of a file of an outline is the file of the form that is written for its recording.
use Rattle.std.proofs.Common.{◌≡◌, ℕ, ◌+◌, ◌*◌, ◌%◌, ◌^◌, ◌<◌, ◌≤◌, Bool, List, [], ◌++◌, length, Option, None, Some, IsErrOf, Result, Ok, Err, refl, sym, ap, ◌∙◌, subst, arith}
use Rattle.std.specs.Int.{div_ceil}
use Rattle.std.proofs.lemmas.List.{length-append, length-replicate}
use Rattle.std.proofs.lemmas.List.FromFn.{length-map-range_with_len}
use Rattle.std.proofs.lemmas.Nat.{mul-le}
use Rattle.chunk_core.specs.Outlets.{AppendsPrefix}
use Rattle.chunk_core.specs.declared.inlet.Inlet.{Inlet}
use Rattle.dsd_bits.specs.declared.interleaving.Interleaving.{Interleaving}
use Rattle.dsd_bits.specs.declared.interleaving.Interleaving.TheVariants.{Bytes, Blocks}
use Rattle.dsd_bits.specs.Blocks.{block_byte, blocks_size, unblocked}
use Rattle.dsd_bits.specs.Channels.{count_of}
use Rattle.dsd_bits.specs.Contents.{described}
use Rattle.dsd_bits.specs.Lacing.{frame_number, laced_byte, unlaced}
use Rattle.dsd_bits.specs.Shape.{HasShape}
use Rattle.dsd_bits.specs.Sounds.{sound_channels, sound_size}
use Rattle.dsd_bits.proofs.BlockLemmas.{unblocked_count}
use Rattle.dsdiff_core.specs.ReadAgain.{FitsFields}
use Rattle.dsdiff_core.specs.declared.write_fault.WriteFault.{WriteFault}
use Rattle.dsdiff_core.specs.declared.write_fault.WriteFault.TheVariants as writes
use Rattle.interleave_core.specs.Reinterleaving.{laced_in}
use Rattle.interleave_core.proofs.TakenLaws.{unlaced_count}
use Rattle.sound_core.specs.declared.fault.StreamFault.{StreamFault}
use Rattle.sound_core.specs.declared.fault.StreamFault.TheVariants as faults
use Rattle.sound_core.specs.Outlines.{AreStated, IsPlacedIn, Surroundings, with_sound}
use Rattle.player_core.proofs.PieceLaws.{prefix_nil}
use Rattle.sound_core.specs.declared.relaying.NewFile.{NewFile}
use Rattle.sound_core.specs.Relays.{IsRelayFault, Relays, RelaysPrefix, RelaysGiven, relayed}
use Rattle.form_core.specs.declared.fault.ReadFault.{ReadFault}
use Rattle.form_core.specs.declared.form.Form.{Form}
use Rattle.form_core.specs.declared.form.Form.TheVariants as forms
use Rattle.form_core.specs.declared.opening.Opened.{Opened}
use Rattle.form_core.specs.Forms.{dropped_in, form_in, text_in}
use Rattle.form_core.specs.Opening.{opened_of}
use Rattle.form_core.specs.Parts.{FitsIn, FormsWrittenInParts, head_in, interleaving_in, tail_in}
use Rattle.form_core.proofs.OpeningLaws.{held_is_opened}
use Rattle.transfer_core.specs.Conversions.{ConversionApplies, ConvertsReader, ConvertsPrefix, ConvertsGiven}
use Rattle.transfer_core.specs.Converting.{Converts, Keeps}
use Rattle.transfer_core.specs.Laws.{ConvertedIsKept}
use Rattle.request_core.proofs.FormLaws.{holds_as}
use Rattle.request_core.specs.declared.fault.Fault.TheVariants.{NotWholeBytes, Stream}
use Rattle.request_core.specs.Faults.{as_stream, fault_of_stream, fault_of_writing}

-- ---- channels in sound bytes
channel_number : (interleaving : Interleaving) (channels count : ℕ) (bytes : List ℕ) → length (sound_channels interleaving channels count bytes) ≡ channels
channel_number Bytes channels count bytes = length-map-range_with_len (unlaced bytes channels) 0 channels
channel_number (Blocks order) channels count bytes = length-map-range_with_len (unblocked order bytes channels count) 0 channels

channel_count : (interleaving : Interleaving) (channels count : ℕ) (bytes : List ℕ) → 1 ≤ channels → (interleaving ≡ Bytes → count % 8 ≡ 0) → length bytes ≡ sound_size interleaving channels count
    → count_of (sound_channels interleaving channels count bytes) ≡ count
channel_count Bytes channels count bytes some whole size = unlaced_count bytes channels count some (whole refl) size
channel_count (Blocks order) channels count bytes some whole size = unblocked_count order bytes channels count some

-- sound bytes are few
laced_short : (interleaving : Interleaving) (channels : List (List Bool)) → count_of channels ≤ 2 ^ 36 → length channels ≤ 6 → length (laced_in interleaving channels) < 2 ^ 62
laced_short Bytes channels bits six =
    let size = length-map-range_with_len (laced_byte channels) 0 (frame_number channels * length channels) in
    let frames = mul-le (frame_number channels) (length channels) (2 ^ 33) 6 (omega (arith, bits)) six in
    omega (arith, size, frames)
laced_short (Blocks order) channels bits six =
    let size = length-map-range_with_len (block_byte order channels) 0 (blocks_size (length channels) (count_of channels)) in
    let groups = mul-le (div_ceil (count_of channels) 32768) (length channels) (2 ^ 21) 6 (omega (arith, bits)) six in
    omega (arith, size, groups)

-- ---- what is dropped is not in the channels
dropped_beside : (form : Form) (o : Surroundings) (sound : List ℕ) → dropped_in form (described o.recording) ≡ dropped_in form (described (with_sound o.recording o.sound sound))
dropped_beside forms.Dsdiff o sound = refl
dropped_beside forms.Dsf o sound = refl
dropped_beside forms.Dsf8 o sound = refl

-- ---- a file holds one recording, of which there is one text
pub same_recording : (reading : Result Opened ReadFault) (x y : Opened) → reading ≡ Ok x → reading ≡ Ok y → x.recording ≡ y.recording
same_recording reading x y e f = cc

same_bytes : (text : Option (List ℕ)) (x y : List ℕ) → text ≡ Some x → text ≡ Some y → x ≡ y
same_bytes text x y e f = cc

one_text : (file bytes-1 bytes-2 : List ℕ) (form : Form) (dropped-1 dropped-2 : ℕ) → Converts file form bytes-1 dropped-1 → Converts file form bytes-2 dropped-2 → bytes-1 ≡ bytes-2
one_text file bytes-1 bytes-2 form dropped-1 dropped-2 a b =
    let same : a.recording ≡ b.recording = same_recording (opened_of file) (record { form = a.source; recording = a.recording }) (record { form = b.source; recording = b.recording }) (held_is_opened file a.source a.recording a.file_holds) (held_is_opened file b.source b.recording b.file_holds) in
    same_bytes (text_in form a.recording) bytes-1 bytes-2 a.text (ap (text_in form) same ∙ b.text)

-- ---- the target of the ends of a form
module _ (laws : FormsWrittenInParts) (o : Surroundings) (reported : AreStated o) (form : Form) (fits : FitsIn form o.sound.count) (target : NewFile) (interleaving : target.interleaving ≡ interleaving_in form) (head : target.head.now ≡ head_in form o.recording o.sound.count) (tail : target.tail.now ≡ tail_in form o.recording o.sound.count) where
  -- what is relayed is what is written for the recording
  text : (sound : List ℕ) → length sound ≡ o.sound.size → text_in form (with_sound o.recording o.sound sound) ≡ Some (relayed target o.sound sound)
  text sound long =
      let s = o.sound in
      let channels = sound_channels s.interleaving s.channels s.count sound in
      let count : count_of channels ≡ s.count = channel_count s.interleaving s.channels s.count sound reported.is_sound.some_channel reported.whole (long ∙ reported.is_sound.size) in
      let number : length o.recording.channels ≡ length channels = ap length reported.silent ∙ length-replicate s.channels [] ∙ sym (channel_number s.interleaving s.channels s.count sound) in
      let parts = subst (λ n. text_in form (with_sound o.recording s sound) ≡ Some (head_in form o.recording n ++ (laced_in (interleaving_in form) channels ++ tail_in form o.recording n))) count (laws form o.recording channels number (subst (FitsIn form) (sym count) fits)) in
      rw (interleaving, head, tail) parts

  converts : (file sound : List ℕ) → IsPlacedIn o file sound → Converts file form (relayed target o.sound sound) (dropped_in form (described o.recording))
  converts file sound stands = record {
    source = form_in o.sound.interleaving;
    recording = with_sound o.recording o.sound sound;
    file_holds = holds_as o.sound.interleaving file (with_sound o.recording o.sound sound) (reported.holds file sound stands);
    text = text sound stands.sound_long;
    dropped_is = dropped_beside form o sound;
  }

  -- it is kept if its parts fit a file
  module _ (law : ConvertedIsKept) (shape : (file sound : List ℕ) → IsPlacedIn o file sound → HasShape (with_sound o.recording o.sound sound)) (fields : FitsFields o.recording) (few : length target.head.now + length target.tail.now ≤ 2 ^ 62) where
    keeps : (file sound : List ℕ) → IsPlacedIn o file sound → Keeps file form (relayed target o.sound sound) (dropped_in form (described o.recording))
    unfolding converts
    keeps file sound stands =
        let s = o.sound in
        let channels = sound_channels s.interleaving s.channels s.count sound in
        let is = shape file sound stands in
        let short : length (laced_in target.interleaving channels) < 2 ^ 62 = laced_short target.interleaving channels is.in_limit is.six_channels in
        let long = length-append target.head.now (laced_in target.interleaving channels ++ target.tail.now) in
        let rest = length-append (laced_in target.interleaving channels) target.tail.now in
        law file form (relayed target s sound) (dropped_in form (described o.recording)) (converts file sound stands) is (record { ids = fields.ids; marks = fields.marks; others = fields.others }) (omega (arith, short, long, rest, few))

    pub converts_file : (left a b : Option (List ℕ)) → Relays left target o a b → ConvertsReader left form a b (dropped_in form (described o.recording))
    converts_file None a b h = tt
    converts_file (Some file) a b h = (relayed target o.sound h.0, converts file h.0 h.1, keeps file h.0 h.1, h.2)

    pub converts_given : {R : Type 0} (left : R → Option (List ℕ)) (i j : Inlet R) (a b : Option (List ℕ)) → RelaysGiven left i j target o a b → ConvertsGiven left i j form a b (dropped_in form (described o.recording))
    converts_given left i j a b h = (h.0, relayed target o.sound h.1, h.2, converts h.0 h.1 h.3, keeps h.0 h.1 h.3, h.4)

  pub converts_prefix : (left a b : Option (List ℕ)) (f : StreamFault) → RelaysPrefix left target o a b f → ConvertsPrefix left o form a b
  converts_prefix None a b f h = tt
  converts_prefix (Some file) a b f h = λ around bytes dropped is.
      let out = h around.0 around.1 in
      subst (λ xs. AppendsPrefix a b xs) (one_text file (relayed target o.sound around.0) bytes form (dropped_in form (described o.recording)) dropped (converts file around.0 around.1) is) (out.0, out.1, out.2, out.4)

pub nothing_converted : (left : Option (List ℕ)) (o : Surroundings) (form : Form) (a : Option (List ℕ)) → ConvertsPrefix left o form a a
nothing_converted None o form a = tt
nothing_converted (Some file) o form a = λ around bytes dropped is. prefix_nil a bytes

-- ---- a fault that applies
pub ends_stand : (left : Option (List ℕ)) (o : Surroundings) (form : Form) (w : WriteFault) → (w ≡ writes.NotWholeBytes → FitsIn form o.sound.count → ⊥) → ConversionApplies left o form (fault_of_writing w)
ends_stand left o form writes.NotWholeBytes h = h refl
ends_stand left o form writes.Memory h = (faults.Memory, refl, tt)

pub relay_holds : (left : Option (List ℕ)) (o : Surroundings) (form : Form) (f : StreamFault) → IsRelayFault left o f → ConversionApplies left o form (fault_of_stream f)
relay_holds left o form faults.Memory h = (faults.Memory, refl, h)
relay_holds left o form f h = (f, refl, h)

-- ---- a fault under its name here
pub writing_stream : {X : Type 0} (w : WriteFault) → as_stream {X = X} (Err (fault_of_writing w)) ≡ Err faults.Memory
writing_stream writes.NotWholeBytes = refl
writing_stream writes.Memory = refl

pub writing_not_whole : {X Y : Type 0} (w : WriteFault) → IsErrOf {T = X} (Err w) writes.NotWholeBytes → IsErrOf {T = Y} (Err (fault_of_writing w)) NotWholeBytes
writing_not_whole writes.NotWholeBytes is = refl
writing_not_whole writes.Memory is = absurd cc

pub writing_turns : {Y : Type 0} (w : WriteFault) → IsErrOf {T = Y} (Err (fault_of_writing w)) (Stream faults.TurnLimit) → ⊥
writing_turns writes.NotWholeBytes is = absurd cc
writing_turns writes.Memory is = absurd cc

pub turns_as : {X Y : Type 0} (f : StreamFault) → IsErrOf {T = X} (Err f) faults.TurnLimit → IsErrOf {T = Y} (Err f) faults.TurnLimit
turns_as f is = ap Err (let same : f ≡ faults.TurnLimit = cc in same)

pub stream_whole : {X : Type 0} (f : StreamFault) → IsErrOf {T = X} (Err (fault_of_stream f)) NotWholeBytes → ⊥
stream_whole faults.Memory is = absurd cc
stream_whole f is = absurd cc
