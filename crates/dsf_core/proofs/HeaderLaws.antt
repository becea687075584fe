-- The prefix of a file, and the files that begin with it.
use Rattle.std.proofs.Common.{◌≡◌, ◌<◌, ℕ, ◌+◌, ◌-◌, ◌^◌, ◌&&◌, ◌≤◌, ◌⊎◌, inl, inr, Bool, true, false, cond, ltb, eqb, not, List, ◌++◌, length, take, drop, Result, Ok, Err, refl, sym, ap, subst, ◌∙◌, arith}
use Rattle.std.proofs.lemmas.Bool.{cases_lt, lt-ltb, le-ltb}
use Rattle.std.proofs.lemmas.List.{drop-append-le, take-append-drop, take-append-le, length-append, length-drop, length-take-le}
use Rattle.std.proofs.lemmas.List.FromFn.{length-map-range_with_len}
use Rattle.byteorder.specs.Endian.{little_number}
use Rattle.byteorder.specs.Numbers.{little_from-take}
use Rattle.chunk_core.specs.Steps.{◌>>=◌}
use Rattle.chunk_core.specs.Numbers.{id_at}
use Rattle.dsd_bits.specs.declared.blocks.BitOrder.{BitOrder}
use Rattle.dsd_bits.specs.declared.blocks.BitOrder.TheVariants.{LeastFirst, MostFirst}
use Rattle.dsd_bits.specs.declared.interleaving.Interleaving.TheVariants.{Blocks}
use Rattle.dsd_bits.specs.declared.sound.Sound.{Sound}
use Rattle.dsd_bits.specs.declared.sound.SoundAt.{SoundAt}
use Rattle.dsd_bits.specs.declared.sound.SoundAt.TheVariants.{More, Refused, Found}
use Rattle.dsd_bits.specs.Blocks.{unblocked}
use Rattle.dsd_bits.specs.Channels.{count_of}
use Rattle.dsd_bits.specs.Contents.{Content}
use Rattle.dsd_bits.specs.Ids.{same_id, DSD}
use Rattle.dsd_bits.specs.Sounds.{HasSound, IfFound, IfMore, IfRefused, IsSound, has_blocks}
use Rattle.dsd_bits.proofs.BlockLemmas.{unblocked_count}
use Rattle.dsd_bits.proofs.SoundLemmas.{unblocked_all-take}
use Rattle.dsf_core.specs.declared.fault.DsfFault.{DsfFault}
use Rattle.dsf_core.specs.declared.fault.DsfFault.TheVariants as faults
use Rattle.dsf_core.specs.declared.fault.DsfFault.TheVariants.{HeadCut}
use Rattle.dsf_core.specs.declared.header.Header.{Header}
use Rattle.dsf_core.specs.declared.locating.Located.{Located}
use Rattle.dsf_core.specs.declared.locating.Located.TheVariants as answers
use Rattle.dsf_core.specs.Fields.{u64_at, FMT, DATA, first_size, pointer, stated_format_size, version, format, channel_number, rate, bits_per_sample, count, block_size, data_place, stated_data_size, held, sound_place, needed}
use Rattle.dsf_core.specs.Files.{IsDsf}
use Rattle.dsf_core.specs.Headers.{HoldsHead, IsAccepted, IsLocated, as_located, is_cut, located, sound_at, without_fault}
use Rattle.dsf_core.specs.Reading.{chunks_of, cut_at, file_header, stated_header, order_of, stated_order, recording_of, stated_sound}
use Rattle.dsf_core.proofs.FileLaws.{Leads, done, dsf_is_read, is_sound, prefix_done, prefix_ok, prefix_read}

-- ---- fields in the prefix of a file

id_prefix : (at : ℕ) (prefix rest : List ℕ) → at + 4 ≤ length prefix → id_at (prefix ++ rest) at ≡ id_at prefix at
id_prefix at prefix rest h =
    ap (take 4) (drop-append-le at prefix rest (omega arith)) ∙ take-append-le 4 (drop at prefix) rest (omega (arith, length-drop at prefix))

number_prefix : (n at : ℕ) (prefix rest : List ℕ) → at + n ≤ length prefix → little_number n (drop at (prefix ++ rest)) ≡ little_number n (drop at prefix)
number_prefix n at prefix rest h =
    let here : List ℕ = drop at prefix in
    let inside : n ≤ length here = omega (arith, length-drop at prefix) in
    ap (little_number n) (drop-append-le at prefix rest (omega arith))
    ∙ sym (little_from-take 0 n n (here ++ rest) (omega arith))
    ∙ ap (little_number n) (take-append-le n here rest inside)
    ∙ little_from-take 0 n n here (omega arith)

-- of a prefix with its whole head all fields are those of the file
module _ (prefix rest : List ℕ) (h : HoldsHead prefix) where
  pub size_is : stated_format_size (prefix ++ rest) ≡ stated_format_size prefix
  size_is = number_prefix 8 32 prefix rest (omega (arith, h.fields))

  pub pointer_is : pointer (prefix ++ rest) ≡ pointer prefix
  pointer_is = number_prefix 8 20 prefix rest (omega (arith, h.fields))

  data_is : stated_data_size (prefix ++ rest) ≡ stated_data_size prefix
  data_is = ap (λ (k : ℕ). u64_at (prefix ++ rest) (28 + k + 4)) size_is ∙ number_prefix 8 (data_place prefix + 4) prefix rest (omega (arith, h.head))

  number_is : channel_number (prefix ++ rest) ≡ channel_number prefix
  number_is = number_prefix 4 52 prefix rest (omega (arith, h.fields))

  rate_is : rate (prefix ++ rest) ≡ rate prefix
  rate_is = number_prefix 4 56 prefix rest (omega (arith, h.fields))

  count_is : count (prefix ++ rest) ≡ count prefix
  count_is = number_prefix 8 64 prefix rest (omega (arith, h.fields))

  needed_is : needed (prefix ++ rest) ≡ needed prefix
  needed_is = rw (number_is, count_is) refl

  chunks_same : chunks_of (prefix ++ rest) ≡ chunks_of prefix
  unfolding chunks_of
  chunks_same =
      let long = length-append prefix rest in
      let third : id_at (prefix ++ rest) (data_place (prefix ++ rest)) ≡ id_at prefix (data_place prefix) = ap (λ (k : ℕ). id_at (prefix ++ rest) (28 + k)) size_is ∙ id_prefix (data_place prefix) prefix rest (omega (arith, h.head)) in
      rw (le-ltb (length (prefix ++ rest)) 4 (omega (arith, h.fields, long)), le-ltb (length prefix) 4 (omega (arith, h.fields)), id_prefix 0 prefix rest (omega (arith, h.fields)), le-ltb (length (prefix ++ rest)) 80 (omega (arith, h.fields, long)), le-ltb (length prefix) 80 h.fields, number_prefix 8 4 prefix rest (omega (arith, h.fields)), id_prefix 28 prefix rest (omega (arith, h.fields)), third, data_is, size_is, le-ltb (length (prefix ++ rest)) (data_place prefix + 12) (omega (arith, h.head, long)), le-ltb (length prefix) (data_place prefix + 12) h.head, number_prefix 4 44 prefix rest (omega (arith, h.fields))) refl

  order_same : order_of (prefix ++ rest) ≡ order_of prefix
  order_same = λ j. stated_order (number_prefix 4 40 prefix rest (omega (arith, h.fields)) j) (number_is j) (rate_is j) (number_prefix 4 60 prefix rest (omega (arith, h.fields)) j) (number_prefix 4 72 prefix rest (omega (arith, h.fields)) j) (count_is j)

  stated_same : (order : BitOrder) → stated_header (prefix ++ rest) order ≡ stated_header prefix order
  stated_same order = λ j. record {
    sound = record { rate = rate_is j; channels = number_is j; count = count_is j; start = 28 + size_is j + 12; size = needed_is j; interleaving = Blocks order };
    order = order;
    kind = number_prefix 4 48 prefix rest (omega (arith, h.fields)) j;
    tag_at = pointer_is j;
  }

  -- and so is what it states
  pub prefix_same : file_header (prefix ++ rest) ≡ file_header prefix
  unfolding file_header
  prefix_same = λ j. chunks_same j >>= (λ place. order_same j >>= (λ order. cond (ltb (data_is j - 12) (needed_is j)) (Err (cut_at (stated_same order j).sound (data_is j - 12) true)) (prefix_done (stated_same order j))))

-- ---- a prefix without its whole head

-- a header is cut short
abbrev IsCut : {A : Type 0} → Result A DsfFault → Type 0
IsCut x = (size : ℕ) × (x ≡ Err (HeadCut size))

-- the first is a cut head, or both are the same fault
abbrev CutOr : {A : Type 0} → Result A DsfFault → Result A DsfFault → Type 0
CutOr x y = IsCut x ⊎ ((e : DsfFault) × (x ≡ Err e) × (y ≡ Err e))

-- after the same test for a fault
after : {A : Type 0} (b : Bool) (d : DsfFault) (x y : Result A DsfFault) → CutOr x y → CutOr (cond b (Err d) x) (cond b (Err d) y)
after true d x y h = inr (d, refl, refl)
after false d x y h = h

module _ (prefix rest : List ℕ) (some : 4 ≤ length prefix) where
  size : length (prefix ++ rest) ≡ length prefix + length rest
  size = length-append prefix rest

  chunks_cut : (HoldsHead prefix → ⊥) → CutOr (chunks_of prefix) (chunks_of (prefix ++ rest))
  unfolding chunks_of
  chunks_cut none = elim (cases_lt (length prefix) 80) [
    | inl short ↦
        rw (le-ltb (length prefix) 4 some, le-ltb (length (prefix ++ rest)) 4 (omega (arith, size, some)), id_prefix 0 prefix rest (omega arith), lt-ltb (length prefix) 80 short)
        (after (not (same_id (id_at prefix 0) DSD)) faults.NotDsf _ _ (inl (_, refl)))
    | inr fields ↦ elim (cases_lt (length prefix) (sound_place prefix)) [
      | inl short ↦
          let first = number_prefix 8 4 prefix rest (omega arith) in
          let second = number_prefix 8 32 prefix rest (omega arith) in
          rw (le-ltb (length prefix) 4 some, le-ltb (length (prefix ++ rest)) 4 (omega (arith, size, some)), id_prefix 0 prefix rest (omega arith), le-ltb (length prefix) 80 fields, le-ltb (length (prefix ++ rest)) 80 (omega (arith, size, fields)), first, id_prefix 28 prefix rest (omega arith), second, lt-ltb (length prefix) (data_place prefix + 12) short)
          (after (not (same_id (id_at prefix 0) DSD)) faults.NotDsf _ _
          (after (not (eqb (first_size prefix) 28)) _ _ _
          (after (not (same_id (id_at prefix 28) FMT)) _ _ _
          (after (ltb (stated_format_size prefix) 52) _ _ _ (inl (_, refl))))))
      | inr head ↦ absurd (none (record { fields = fields; head = head }))
    ]
  ]

  -- what a whole prefix states is stated by every file that begins with it
  pub prefix_agrees : IsCut (file_header prefix) ⊎ (file_header (prefix ++ rest) ≡ file_header prefix)
  unfolding file_header
  prefix_agrees = elim (cases_lt (length prefix) 80) [
    | inl short ↦ by (chunks_cut (λ h. omega (arith, h.fields, short)))
    | inr fields ↦ elim (cases_lt (length prefix) (sound_place prefix)) [
      | inl short ↦ by (chunks_cut (λ h. omega (arith, h.head, short)))
      | inr head ↦ inr (prefix_same prefix rest (record { fields = fields; head = head }))
    ]
  ]
    where
      by : CutOr (chunks_of prefix) (chunks_of (prefix ++ rest)) → IsCut (file_header prefix) ⊎ (file_header (prefix ++ rest) ≡ file_header prefix)
      by (inl cut) = inl (cut.0, rw cut.1 refl)
      by (inr (e, one, other)) = inr (rw (one, other) refl)

-- ---- a cut head is one

-- no fault of the reading is a cut head
record Whole {A : Type 0} (r : Result A DsfFault) : Type 0 where
  no : (e : DsfFault) → r ≡ Err e → is_cut e ≡ false

other : {A : Type 0} (b : Bool) (d : DsfFault) (r : Result A DsfFault) → is_cut d ≡ false → Whole r → Whole (cond b (Err d) r)
other true d r h w = record { no = λ e same. (let is : d ≡ e = cc in ap is_cut (sym is) ∙ h) }
other false d r h w = w

ok_whole : {A : Type 0} (x : A) → Whole (let r : Result A DsfFault = Ok x in r)
ok_whole x = record { no = λ e same. absurd cc }

bind_whole : {A B : Type 0} (x : Result A DsfFault) (f : A → Result B DsfFault) → Whole x → ((y : A) → Whole (f y)) → Whole (x >>= f)
bind_whole (Ok y) f one two = two y
bind_whole (Err d) f one two = record { no = λ e same. one.no e (let is : d ≡ e = cc in ap (λ (d : DsfFault). Err d) is) }

chunks_whole : (prefix : List ℕ) → HoldsHead prefix → Whole (chunks_of prefix)
unfolding chunks_of
chunks_whole prefix holds =
    rw (le-ltb (length prefix) 80 holds.fields, le-ltb (length prefix) (data_place prefix + 12) holds.head) (
    other (ltb (length prefix) 4) faults.NotDsf _ refl
    (other (not (same_id (id_at prefix 0) DSD)) faults.NotDsf _ refl
    (other (not (eqb (first_size prefix) 28)) _ _ refl
    (other (not (same_id (id_at prefix 28) FMT)) _ _ refl
    (other (ltb (stated_format_size prefix) 52) _ _ refl
    (other (not (same_id (id_at prefix (data_place prefix)) DATA)) _ _ refl
    (other (ltb (stated_data_size prefix) 12) _ _ refl
    (other (not (eqb (format prefix) 0)) _ _ refl (ok_whole (data_place prefix))))))))))

order_whole : (prefix : List ℕ) → Whole (order_of prefix)
unfolding stated_order
order_whole prefix =
    other (not (eqb (version prefix) 1)) _ _ refl
    (other (ltb (channel_number prefix) 1) _ _ refl
    (other (ltb 6 (channel_number prefix)) _ _ refl
    (other (ltb (rate prefix) 1000000) _ _ refl
    (other (ltb 50000000 (rate prefix)) _ _ refl
    (other (not (eqb (bits_per_sample prefix) 1) && not (eqb (bits_per_sample prefix) 8)) _ _ refl
    (other (not (eqb (block_size prefix) 4096)) _ _ refl
    (other (ltb (2 ^ 36) (count prefix)) _ _ refl (ok_whole (cond (eqb (bits_per_sample prefix) 1) LeastFirst MostFirst)))))))))

-- more bytes are needed only if the head is not whole
prefix_whole : (prefix : List ℕ) → HoldsHead prefix → Whole (file_header prefix)
unfolding file_header
prefix_whole prefix holds =
    bind_whole (chunks_of prefix) _ (chunks_whole prefix holds) (λ place.
    bind_whole (order_of prefix) _ (order_whole prefix) (λ order.
    other (ltb (held prefix) (needed prefix)) _ _ refl (ok_whole (stated_header prefix order))))

-- ---- what the first bytes state

abbrev pub found : Sound → SoundAt
found s = Found s

-- a sound is found by what a prefix of four bytes and more states
pub found_prefix : (prefix : List ℕ) (s : Sound) → sound_at prefix ≡ Found s → (4 ≤ length prefix) × (f : Header) × (file_header prefix ≡ Ok f) × (f.sound ≡ s)
unfolding sound_at located
found_prefix prefix s e = elim (cases_lt (length prefix) 4) [
  | inl short ↦ let none : More ≡ Found s = rw (lt-ltb (length prefix) 4 short) at e in absurd cc
  | inr long ↦
      let stated : without_fault (as_located (file_header prefix)) ≡ Found s = rw (le-ltb (length prefix) 4 long) at e in
      (let f = by (file_header prefix) stated in (long, f.0, f.1, f.2))
]
  where
    none : (cut : Bool) (d : DsfFault) → without_fault (cond cut (answers.More d) (answers.Refused d)) ≡ Found s → ⊥
    none true d e = cc
    none false d e = cc

    by : (x : Result Header DsfFault) → without_fault (as_located x) ≡ Found s → (f : Header) × (x ≡ Ok f) × (f.sound ≡ s)
    by (Ok f) e = (f, refl, cc)
    by (Err d) e = absurd (none (is_cut d) d e)

pub found_leads : (prefix : List ℕ) (s : Sound) → sound_at prefix ≡ Found s → Leads prefix s
found_leads prefix s e =
    let f = found_prefix prefix s e in
    subst (Leads prefix) f.3 (prefix_ok prefix f.1 f.2).0

-- and a prefix that leads to a sound finds it
pub prefix_found : (prefix : List ℕ) (order : BitOrder) → HoldsHead prefix → file_header prefix ≡ Ok (stated_header prefix order) → sound_at prefix ≡ Found (stated_sound prefix order)
unfolding sound_at located
prefix_found prefix order holds e = rw (le-ltb (length prefix) 4 (omega (arith, holds.fields)), e) refl

short_prefix : (prefix : List ℕ) → length prefix < 4 → file_header prefix ≡ Err faults.NotDsf
unfolding file_header chunks_of
short_prefix prefix short = rw (lt-ltb (length prefix) 4 short) refl

pub is_located : (prefix : List ℕ) → IsLocated prefix (located prefix)
unfolding located sound_at recording_of
is_located prefix = elim (cases_lt (length prefix) 4) [
  | inl short ↦ rw (lt-ltb (length prefix) 4 short) (λ holds. omega (arith, holds.fields, short), rw (short_prefix prefix short) refl)
  | inr long ↦ rw (le-ltb (length prefix) 4 long) (by long (file_header prefix) refl)
]
  where
    refused : (d : DsfFault) → 4 ≤ length prefix → file_header prefix ≡ Err d → (cut : Bool) → cut ≡ is_cut d → IsLocated prefix (cond cut (answers.More d) (answers.Refused d))
    refused d long e true is = (λ holds. (let no = (prefix_whole prefix holds).no d e in absurd cc), rw e refl)
    refused d long e false is = λ rest. elim (prefix_agrees prefix rest long) [
      | inl cut ↦ (let same : d ≡ HeadCut cut.0 = cc (cut.1, e) in let yes : false ≡ true = is ∙ ap is_cut same in absurd cc)
      | inr same ↦ rw (same, e) refl
    ]

    by : 4 ≤ length prefix → (x : Result Header DsfFault) → file_header prefix ≡ x → IsLocated prefix (as_located x)
    by long (Ok f) e = rw (le-ltb (length prefix) 4 long, e) refl
    by long (Err d) e = refused d long e (is_cut d) refl

-- ---- the sound that is found

-- a file that holds a recording has the sound that it states
pub sound_of_stated : (file : List ℕ) (r : Content) (order : BitOrder) → IsDsf file r order → HasSound file r (stated_sound file order)
sound_of_stated file r order h =
    let n : ℕ = channel_number file in
    let c : ℕ = count file in
    let bytes : List ℕ = drop (sound_place file) file in
    record {
      rate = h.rate_read;
      number = ap length h.channels_read ∙ length-map-range_with_len (unblocked order bytes n c) 0 n;
      count = ap count_of h.channels_read ∙ unblocked_count order bytes n c h.some_channel;
      in_file = h.in_file;
      channels = h.channels_read ∙ sym (unblocked_all-take order bytes n c (needed file) (omega arith));
    }

-- the sound of a prefix that leads to one is that of each file that begins so
pub same_sound : (prefix rest : List ℕ) (s : Sound) (order : BitOrder) (r : Content) → sound_at prefix ≡ Found s → IsDsf (prefix ++ rest) r order → stated_sound (prefix ++ rest) order ≡ s
same_sound prefix rest s order r e h =
    let f = found_prefix prefix s e in
    let again : prefix_done f.1 ≡ prefix_done (stated_header (prefix ++ rest) order) = sym f.2 ∙ sym (prefix_same prefix rest (found_leads prefix s e).holds) ∙ prefix_read (prefix ++ rest) r order h in
    let same : f.1 ≡ stated_header (prefix ++ rest) order = cc in
    sym (ap (λ (x : Header). x.sound) same) ∙ f.3

pub ends_prefix : (prefix : List ℕ) (s : Sound) → sound_at prefix ≡ Found s → sound_at (take s.start prefix) ≡ Found s
ends_prefix prefix s e =
    let l = found_leads prefix s e in
    let f = found_prefix prefix s e in
    let short : List ℕ = take s.start prefix in
    let rest : List ℕ = drop s.start prefix in
    let whole : short ++ rest ≡ prefix = take-append-drop s.start prefix in
    let start : s.start ≡ sound_place prefix = ap (λ (t : Sound). t.start) l.stated in
    let long : length short ≡ s.start = length-take-le s.start prefix (omega (arith, start, l.holds.head)) in
    let fields : 80 ≤ length short = omega (arith, long, start, l.heads.second_long) in
    let size : stated_format_size prefix ≡ stated_format_size short = ap stated_format_size (sym whole) ∙ number_prefix 8 32 short rest (omega (arith, fields)) in
    let holds : HoldsHead short = record { fields = fields; head = omega (arith, long, start, size) } in
    let stated : file_header short ≡ Ok f.1 = sym (prefix_same short rest holds) ∙ ap file_header whole ∙ f.2 in
    let leads = prefix_ok short f.1 stated in
    prefix_found short leads.0.order holds (stated ∙ ap prefix_done leads.1) ∙ ap found (sym leads.0.stated ∙ f.3)

-- ---- each answer
pub if_found : (prefix : List ℕ) (x : SoundAt) → x ≡ sound_at prefix → IfFound x (λ s. (rest : List ℕ) (r : Content) (order : BitOrder) → IsDsf (prefix ++ rest) r order → HasSound (prefix ++ rest) r s × (s.interleaving ≡ Blocks order))
if_found prefix More e = tt
if_found prefix Refused e = tt
if_found prefix (Found s) e = λ rest r order h.
    subst (λ (t : Sound). HasSound (prefix ++ rest) r t × (t.interleaving ≡ Blocks order)) (same_sound prefix rest s order r (sym e) h) (sound_of_stated (prefix ++ rest) r order h, refl)

pub in_limits : (prefix : List ℕ) (x : SoundAt) → x ≡ sound_at prefix → IfFound x IsSound
in_limits prefix More e = tt
in_limits prefix Refused e = tt
in_limits prefix (Found s) e = is_sound prefix s (found_leads prefix s (sym e))

pub inside : (prefix : List ℕ) (x : SoundAt) → x ≡ sound_at prefix → IfFound x (λ s. s.start ≤ length prefix)
inside prefix More e = tt
inside prefix Refused e = tt
inside prefix (Found s) e = let l = found_leads prefix s (sym e) in subst (λ (t : Sound). t.start ≤ length prefix) (sym l.stated) l.holds.head

pub in_blocks : (prefix : List ℕ) (x : SoundAt) → x ≡ sound_at prefix → IfFound x (λ s. has_blocks s.interleaving ≡ true)
in_blocks prefix More e = tt
in_blocks prefix Refused e = tt
in_blocks prefix (Found s) e = let l = found_leads prefix s (sym e) in rw l.stated refl

pub if_refused : (prefix : List ℕ) (x : Located) → IsLocated prefix x → IfRefused (without_fault x) ((rest : List ℕ) → IsAccepted (prefix ++ rest) → ⊥)
if_refused prefix (answers.Found s) e = tt
if_refused prefix (answers.More d) e = tt
if_refused prefix (answers.Refused d) e = λ rest accepted. (let none : done (accepted.0, accepted.1) ≡ Err d = sym (dsf_is_read (prefix ++ rest) accepted.0 accepted.1 accepted.2) ∙ e rest in absurd cc)

pub if_more : (prefix : List ℕ) (x : Located) → IsLocated prefix x → IfMore (without_fault x) (HoldsHead prefix → ⊥)
if_more prefix (answers.Found s) e = tt
if_more prefix (answers.More d) e = e.0
if_more prefix (answers.Refused d) e = tt
