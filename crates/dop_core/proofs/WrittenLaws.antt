-- What is written of an outline and its samples.
use Rattle.std.proofs.Common.{◌≡◌, ℕ, ◌+◌, ◌*◌, ◌^◌, ◌<◌, ◌≤◌, Bool, List, [], ◌++◌, drop, length, take, Option, None, Some, IfSome, Ok, Result, refl, sym, ap, subst, ◌∙◌, length-append, arith}
use Rattle.std.specs.Int.{div_ceil}
use Rattle.std.specs.Io.KnownBytes.{Consumes}
use Rattle.std.proofs.Math.Seq.{take-append_seam}
use Rattle.std.proofs.lemmas.List.{drop_at, length-replicate}
use Rattle.std.proofs.lemmas.List.FromFn.{length-map-range_with_len}
use Rattle.std.proofs.lemmas.Nat.{mul-le}
use Rattle.chunk_core.specs.Inlets.{PullsBytes, inlet_reader}
use Rattle.chunk_core.specs.Outlets.{AppendsPrefix, Puts, PutsPrefix, outlet_writer}
use Rattle.chunk_core.specs.declared.inlet.Inlet.{Inlet}
use Rattle.chunk_core.specs.declared.outlet.Outlet.{Outlet}
use Rattle.dsd_bits.specs.declared.interleaving.Interleaving.{Interleaving}
use Rattle.dsd_bits.specs.declared.interleaving.Interleaving.TheVariants.{Bytes, Blocks}
use Rattle.dsd_bits.specs.Blocks.{block_byte, blocks_size}
use Rattle.dsd_bits.specs.Channels.{count_of}
use Rattle.dsd_bits.specs.Contents.{Content}
use Rattle.dsd_bits.specs.Lacing.{frame_number, laced_byte}
use Rattle.dsd_bits.specs.Shape.{HasShape}
use Rattle.dsdiff_core.specs.ReadAgain.{FitsFields}
use Rattle.dsf_core.proofs.ShapeLaws.{id_for_each}
use Rattle.form_core.specs.Forms.{text_in}
use Rattle.form_core.specs.Laws.{WrittenIsRead}
use Rattle.form_core.specs.Parts.{FitsIn, FormsWrittenInParts, head_in, interleaving_in, tail_in}
use Rattle.form_core.specs.Writing.{HoldsSound}
use Rattle.form_core.specs.declared.form.Form.{Form}
use Rattle.interleave_core.specs.Reinterleaving.{laced_in}
use Rattle.dop_core.specs.declared.outline.DopOutline.{DopOutline}
use Rattle.dop_core.specs.Converting.{PutsSamples, StartsOutline, StartsSamples, bits_in, written_in}
use Rattle.dop_core.specs.Outlines.{AreSamples, IsIn, IsOutline, file_in, recording_in, silent_in}
use Rattle.dop_core.specs.Reading.{described_by, dop_channels, recording_of}
use Rattle.dop_core.specs.Sounds.{sound_long}
use Rattle.dop_core.proofs.BitLaws.{count_is, number_is}
use Rattle.dop_core.proofs.OutlineLaws.{recorded}
use Rattle.dop_core.proofs.PlayLaws.{prefix_more, prefix_nil, prefix_on}
use Rattle.dop_core.proofs.SoundLaws.{are_described, shape_is}

-- sound bytes are few
laced_short : (interleaving : Interleaving) (channels : List (List Bool)) → count_of channels ≤ 2 ^ 36 → length channels ≤ 6 → length (laced_in interleaving channels) < 2 ^ 62
laced_short Bytes channels bits six =
    let size = length-map-range_with_len (laced_byte channels) 0 (frame_number channels * length channels) in
    let frames = mul-le (frame_number channels) (length channels) (2 ^ 33) 6 (omega (arith, bits)) six in
    omega (arith, size, frames)
laced_short (Blocks order) channels bits six =
    let size = length-map-range_with_len (block_byte order channels) 0 (blocks_size (length channels) (count_of channels)) in
    let groups = mul-le (div_ceil (count_of channels) 32768) (length channels) (2 ^ 21) 6 (omega (arith, bits)) six in
    omega (arith, size, groups)

module _ (laws : FormsWrittenInParts) (o : DopOutline) (is : IsOutline o) (form : Form) (fits : FitsIn form o.count) where
  abbrev channels : List ℕ → List (List Bool)
  channels sound = dop_channels o.head.channels sound o.count

  -- it is the file of the recording
  pub text_is : (sound : List ℕ) → text_in form (recording_in o sound) ≡ Some (written_in form o sound)
  text_is sound =
      let count : count_of (channels sound) ≡ o.count = count_is o.head.channels sound o.count is.some in
      let ids : length (described_by o.head o.count).ids ≡ o.head.channels = id_for_each o.head.channels in
      let number : length (silent_in o).channels ≡ length (channels sound) = length-replicate (length (described_by o.head o.count).ids) [] ∙ ids ∙ sym (number_is o.head.channels sound o.count) in
      subst (λ n. text_in form (recording_in o sound) ≡ Some (head_in form (silent_in o) n ++ (laced_in (interleaving_in form) (channels sound) ++ tail_in form (silent_in o) n))) count (laws form (silent_in o) (channels sound) number (subst (FitsIn form) (sym count) fits))

  shape : (sound : List ℕ) → HasShape (recording_in o sound)
  shape sound =
      let d = shape_is o.head o.count is.rate_low is.rate_high is.some is.six (omega (arith, is.most, is.few)) in
      let c = are_described o.head sound o.count is.some in
      record {
        rate_low = d.rate_low;
        rate_high = d.rate_high;
        some_channel = omega (arith, c.number, d.some_channel);
        six_channels = omega (arith, c.number, d.six_channels);
        level = c.level;
        in_limit = omega (arith, c.count, d.in_limit);
        id_for_each = sym c.number;
        layout_fits = d.layout_fits ∙ sym c.number;
        short_texts = d.short_texts;
        in_order = d.in_order;
        no_parts = d.no_parts;
      }

  -- which is read again
  pub holds : WrittenIsRead → FitsFields (silent_in o) → length (head_in form (silent_in o) o.count) + length (tail_in form (silent_in o) o.count) ≤ 2 ^ 62 → (sound : List ℕ) → HoldsSound form (recording_in o sound) (written_in form o sound)
  holds again fields few sound =
      let s = shape sound in
      let bits = laced_short (interleaving_in form) (channels sound) s.in_limit s.six_channels in
      let long = length-append (head_in form (silent_in o) o.count) (bits_in form o sound ++ tail_in form (silent_in o) o.count) in
      let rest = length-append (bits_in form o sound) (tail_in form (silent_in o) o.count) in
      again form (recording_in o sound) (written_in form o sound) s (record { ids = fields.ids; marks = fields.marks; others = fields.others }) (text_is sound) (omega (arith, bits, long, rest, few))

  module _ {R W : Type 0} (left : R → Option (List ℕ)) (held : W → Option (List ℕ)) (i : Inlet R) where
    -- a prefix is what was written, if it is one for each file of the outline
    pub starts : (a b : Outlet W) → ((sound : List ℕ) → AreSamples o sound → left (inlet_reader i) ≡ Some (file_in o sound) → PutsPrefix held a b (written_in form o sound)) → StartsOutline left i o form held a b
    starts a b put = by (left (inlet_reader i)) refl
      where
        same_bytes : (text : Option (List ℕ)) (x y : List ℕ) → text ≡ Some x → text ≡ Some y → x ≡ y
        same_bytes text x y e f = cc

        same_content : {E : Type 0} (reading : Result Content E) (x y : Content) → reading ≡ Ok x → reading ≡ Ok y → x ≡ y
        same_content reading x y e f = cc

        by : (x : Option (List ℕ)) → left (inlet_reader i) ≡ x → IfSome x (λ file. IsIn o file → (recording : Content) (bytes : List ℕ) → recording_of file ≡ Ok recording → text_in form recording ≡ Some bytes → PutsPrefix held a b bytes)
        by None e = tt
        by (Some file) e = λ in_it recording bytes has text.
            let own : recording ≡ recording_in o in_it.sound = same_content (recording_of file) recording (recording_in o in_it.sound) has (ap recording_of in_it.file_is ∙ recorded o is in_it.sound in_it.samples) in
            let one : bytes ≡ written_in form o in_it.sound = same_bytes (text_in form recording) bytes (written_in form o in_it.sound) text (ap (text_in form) own ∙ text_is in_it.sound) in
            subst (PutsPrefix held a b) (sym one) (put in_it.sound in_it.samples (e ∙ ap (λ (xs : List ℕ). Some xs) in_it.file_is))

    pub starts_not : (a b : Outlet W) → outlet_writer b ≡ outlet_writer a → StartsOutline left i o form held a b
    starts_not a b same = starts a b (λ sound samples e. subst (λ w. AppendsPrefix (held (outlet_writer a)) (held w) (written_in form o sound)) (sym same) (prefix_nil (held (outlet_writer a)) (written_in form o sound)))

    pub starts_head : (a b : Outlet W) → PutsPrefix held a b (head_in form (silent_in o) o.count) → StartsOutline left i o form held a b
    starts_head a b put = starts a b (λ sound samples e. prefix_more (held (outlet_writer a)) (held (outlet_writer b)) _ _ put)

    -- what the inlet has left after the first bytes
    after_front : (j : Inlet R) (sound : List ℕ) → PullsBytes left i j o.front.items → left (inlet_reader i) ≡ Some (file_in o sound) → left (inlet_reader j) ≡ Some (sound ++ o.back.items)
    after_front j sound pulled e = by (left (inlet_reader i)) (left (inlet_reader j)) pulled e
      where
        cancel : (xs ys zs : List ℕ) → xs ++ ys ≡ xs ++ zs → zs ≡ ys
        cancel xs ys zs same = sym (drop_at xs zs (length xs) refl) ∙ ap (drop (length xs)) (sym same) ∙ drop_at xs ys (length xs) refl

        by : (x y : Option (List ℕ)) → Consumes x y o.front.items → x ≡ Some (file_in o sound) → y ≡ Some (sound ++ o.back.items)
        by None y c e = absurd cc
        by (Some x) None c e = absurd c
        by (Some x) (Some y) c e = (let same : x ≡ file_in o sound = cc (e) in ap (λ (xs : List ℕ). Some xs) (cancel o.front.items (sound ++ o.back.items) y (sym same ∙ c)))

    pub starts_samples : (j : Inlet R) (a b c : Outlet W) → PullsBytes left i j o.front.items → Puts held a b (head_in form (silent_in o) o.count) → StartsSamples left j o form held b c → StartsOutline left i o form held a c
    starts_samples j a b c pulled put samples = starts a c (λ sound are e.
        let bits = subst (λ x. IfSome x (λ rest. (all back : List ℕ) → rest ≡ all ++ back → length all ≡ sound_long o.head → PutsPrefix held b c (bits_in form o all))) (after_front j sound pulled e) samples in
        prefix_on (held (outlet_writer a)) (held (outlet_writer b)) (held (outlet_writer c)) _ _ put (prefix_more (held (outlet_writer b)) (held (outlet_writer c)) _ _ (bits sound o.back.items refl are.long)))

    -- the samples that were read are those of the file
    own_samples : (j k : Inlet R) (sound all : List ℕ) → PullsBytes left j k all → length all ≡ length sound → left (inlet_reader j) ≡ Some (sound ++ o.back.items) → all ≡ sound
    own_samples j k sound all pulled long e = by (left (inlet_reader j)) (left (inlet_reader k)) pulled e
      where
        firsts : (xs ys us vs : List ℕ) → xs ++ ys ≡ us ++ vs → length us ≡ length xs → us ≡ xs
        firsts xs ys us vs same long = sym (take-append_seam us vs) ∙ ap (take (length us)) (sym same) ∙ ap (λ n. take n (xs ++ ys)) long ∙ take-append_seam xs ys

        by : (x y : Option (List ℕ)) → Consumes x y all → x ≡ Some (sound ++ o.back.items) → all ≡ sound
        by None y c e = absurd cc
        by (Some x) None c e = absurd c
        by (Some x) (Some y) c e = (let same : x ≡ sound ++ o.back.items = cc (e) in firsts sound o.back.items all y (sym same ∙ c) long)

    pub starts_tail : (j k : Inlet R) (a b c d : Outlet W) → PullsBytes left i j o.front.items → Puts held a b (head_in form (silent_in o) o.count) → PutsSamples left j k o form held b c → PutsPrefix held c d (tail_in form (silent_in o) o.count) → StartsOutline left i o form held a d
    starts_tail j k a b c d pulled put samples tail = starts a d (λ sound are e.
        let same = own_samples j k sound samples.sound samples.pulled (samples.samples.long ∙ sym are.long) (after_front j sound pulled e) in
        let bits = subst (λ (xs : List ℕ). Puts held b c (bits_in form o xs)) same samples.written in
        prefix_on (held (outlet_writer a)) (held (outlet_writer b)) (held (outlet_writer d)) _ _ put (prefix_on (held (outlet_writer b)) (held (outlet_writer c)) (held (outlet_writer d)) _ _ bits tail))
