-- The one sound that a file states, whichever prefix of it was read.
use Rattle.std.proofs.Common.{◌≡◌, ℕ, ◌+◌, ◌-◌, ◌≤◌, inl, inr, List, [], ◌++◌, length, take, drop, Option, None, Some, sym, subst, ap, ◌∙◌, arith, append-nil, length-append, take-append-drop}
use Rattle.std.specs.Prelude.{Result, Ok, slice_range}
use Rattle.std.proofs.lemmas.Bool.{cases_lt}
use Rattle.std.proofs.lemmas.List.{take-append-le}
use Rattle.chunk_core.specs.Chunks.{chunks}
use Rattle.chunk_core.specs.Inlets.{inlet_given, inlet_reader}
use Rattle.chunk_core.specs.declared.inlet.Inlet.{Inlet}
use Rattle.dsd_bits.specs.declared.blocks.BitOrder.{BitOrder}
use Rattle.dsd_bits.specs.declared.interleaving.Interleaving.{Interleaving}
use Rattle.dsd_bits.specs.declared.interleaving.Interleaving.TheVariants.{Bytes, Blocks}
use Rattle.dsd_bits.specs.declared.sound.Sound.{Sound}
use Rattle.dsd_bits.specs.declared.sound.SoundAt.{SoundAt}
use Rattle.dsd_bits.specs.declared.sound.SoundAt.TheVariants.{More, Refused, Found}
use Rattle.dsd_bits.specs.Contents.{Content}
use Rattle.dsd_bits.specs.Ids.{DSD}
use Rattle.dsd_bits.specs.Sounds.{IfMore}
use Rattle.dsdiff_core.specs.declared.fault.DsdiffFault.{DsdiffFault}
use Rattle.dsdiff_core.specs.Fields.{form_size}
use Rattle.dsdiff_core.specs.Files.{IsDsdiff}
use Rattle.dsdiff_core.specs.Headers as dsdiff
use Rattle.dsdiff_core.specs.Headers.{seek, size_at}
use Rattle.dsdiff_core.proofs.HeaderEnds as form
use Rattle.dsdiff_core.proofs.HeaderLaws as form_headers
use Rattle.dsdiff_core.proofs.StatedLaws as form_stated
use Rattle.dsdiff_core.proofs.LeadLaws.{Sought, number_prefix, part_header, seek_again}
use Rattle.dsf_core.specs.Fields.{sound_place}
use Rattle.dsf_core.specs.Files.{IsDsf}
use Rattle.dsf_core.specs.Headers as dsf
use Rattle.dsf_core.proofs.HeaderLaws as blocks
use Rattle.dsf_core.proofs.StatedLaws as blocks_stated
use Rattle.sound_core.specs.Files.{GivesNone, HoldsRecording, HoldsSomeRecording, IsBeforeSound, IsHeaderOf, LeadsToSound}
use Rattle.sound_core.specs.Laws.{OneSoundIsStated}
use Rattle.sound_core.specs.Reads.{GivesBytes, Reads}
use Rattle.sound_core.proofs.HeadLaws.{IsFound, dsdiff_found, dsf_found, never_found, other_head, stated_found}
use Rattle.sound_core.proofs.ReadLaws.{gives_read}

same_sound : (s t : Sound) → (let x : SoundAt = Found s in x) ≡ Found t → s ≡ t
same_sound s t e = cc

-- ---- a DSDIFF file
-- a prefix that leads to a sound holds its head, and so does what begins with it
form_head : (prefix more : List ℕ) (s : Sound) → dsdiff.sound_at prefix ≡ Found s → dsdiff.HoldsHead (prefix ++ more)
form_head prefix more s e =
    let l = form_headers.found_leads prefix s e in
    let t = form_headers.sought_of prefix l.at l.sought in
    let range : slice_range (prefix ++ more) 16 l.at ≡ slice_range prefix 16 l.at = part_header (l.at - 16) 16 prefix more (omega (arith, t.onward, t.whole)) in
    record {
      at = l.at;
      before = t.before;
      are_before = subst (λ (bs : List ℕ). chunks bs t.before) (sym range) t.are_before;
      no_gap = t.no_gap;
      no_sound = t.none;
      id = part_header 4 l.at prefix more (omega (arith, t.whole)) ∙ t.id;
      whole = omega (arith, t.whole, length-append prefix more);
    }

sought_more : (prefix rest : List ℕ) (at : ℕ) → Sought prefix 16 (form_size prefix) at → seek (prefix ++ rest) ≡ Ok (Some at)
unfolding seek
sought_more prefix rest at t =
    let file = prefix ++ rest in
    let long = length-append prefix rest in
    let range : slice_range file 16 at ≡ slice_range prefix 16 at = part_header (at - 16) 16 prefix rest (omega (arith, t.onward, t.whole)) in
    let size : form_size file ≡ form_size prefix = number_prefix 8 4 prefix rest (omega (arith, t.onward, t.whole)) in
    let here : size_at file at ≡ size_at prefix at = number_prefix 8 (at + 4) prefix rest (omega (arith, t.whole)) in
    seek_again (length file) 16 (form_size file) file at t.before (subst (λ (bs : List ℕ). chunks bs t.before) (sym range) t.are_before) t.no_gap t.none (part_header 4 at prefix rest (omega (arith, t.whole)) ∙ t.id)
    (omega (arith, t.whole, long)) t.onward (omega (arith, t.fits, here, size)) (omega arith)

abbrev at_place : ℕ → Result (Option ℕ) DsdiffFault
at_place at = Ok (Some at)

same_place : (x y : ℕ) → at_place x ≡ at_place y → x ≡ y
same_place x y e = cc

form_once : (prefix rest : List ℕ) (s t : Sound) → dsdiff.sound_at prefix ≡ Found s → dsdiff.sound_at (prefix ++ rest) ≡ Found t → t ≡ s
form_once prefix rest s t e f =
    let file = prefix ++ rest in
    let l = form_headers.found_leads prefix s e in
    let m = form_headers.found_leads file t f in
    let first = form_headers.sought_of prefix l.at l.sought in
    let place : l.at ≡ m.at = same_place l.at m.at (sym (sought_more prefix rest l.at first) ∙ m.sought) in
    let start_s = (form_headers.sound_is_at prefix l.at s l.is).0 in
    let start_t = (form_headers.sound_is_at file m.at t m.is).0 in
    let start : t.start ≡ s.start = omega (arith, place, start_s, start_t) in
    let short : take t.start file ≡ take s.start prefix = ap (λ n. take n file) start ∙ take-append-le s.start prefix rest (omega (arith, start_s, first.whole)) in
    same_sound t s (sym (form.ends_prefix file t f) ∙ ap dsdiff.sound_at short ∙ form.ends_prefix prefix s e)

form_later : (prefix rest : List ℕ) (t : Sound) → (dsdiff.HoldsHead prefix → ⊥) → dsdiff.sound_at (prefix ++ rest) ≡ Found t → length prefix ≤ t.start
form_later prefix rest t none f = elim (cases_lt t.start (length prefix)) [
  | inl less ↦ (let short : take t.start (prefix ++ rest) ≡ take t.start prefix = take-append-le t.start prefix rest (omega (arith, less)) in
      let found : dsdiff.sound_at (take t.start prefix) ≡ Found t = ap dsdiff.sound_at (sym short) ∙ form.ends_prefix (prefix ++ rest) t f in
      absurd (none (subst dsdiff.HoldsHead (take-append-drop t.start prefix) (form_head (take t.start prefix) (drop t.start prefix) t found))))
  | inr more ↦ more
]

-- ---- a DSF file
dsf_start : (prefix : List ℕ) (s : Sound) → dsf.sound_at prefix ≡ Found s → (s.start ≡ sound_place prefix) × (92 ≤ s.start)
dsf_start prefix s e =
    let l = blocks.found_leads prefix s e in
    let start : s.start ≡ sound_place prefix = ap (λ (t : Sound). t.start) l.stated in
    (start, omega (arith, start, l.heads.second_long))

dsf_once : (prefix rest : List ℕ) (s t : Sound) → dsf.sound_at prefix ≡ Found s → dsf.sound_at (prefix ++ rest) ≡ Found t → t ≡ s
dsf_once prefix rest s t e f =
    let file = prefix ++ rest in
    let l = blocks.found_leads prefix s e in
    let size = blocks.size_is prefix rest l.holds in
    let place_s = (dsf_start prefix s e).0 in
    let start : t.start ≡ s.start = omega (arith, (dsf_start file t f).0, place_s, size) in
    let short : take t.start file ≡ take s.start prefix = ap (λ n. take n file) start ∙ take-append-le s.start prefix rest (omega (arith, place_s, l.holds.head)) in
    same_sound t s (sym (blocks.ends_prefix file t f) ∙ ap dsf.sound_at short ∙ blocks.ends_prefix prefix s e)

dsf_head : (prefix more : List ℕ) (s : Sound) → dsf.sound_at prefix ≡ Found s → dsf.HoldsHead (prefix ++ more)
dsf_head prefix more s e =
    let l = blocks.found_leads prefix s e in
    let size = blocks.size_is prefix more l.holds in
    let long = length-append prefix more in
    record { fields = omega (arith, l.holds.fields, long); head = omega (arith, l.holds.head, long, size) }

dsf_later : (prefix rest : List ℕ) (t : Sound) → (dsf.HoldsHead prefix → ⊥) → dsf.sound_at (prefix ++ rest) ≡ Found t → length prefix ≤ t.start
dsf_later prefix rest t none f = elim (cases_lt t.start (length prefix)) [
  | inl less ↦ (let short : take t.start (prefix ++ rest) ≡ take t.start prefix = take-append-le t.start prefix rest (omega (arith, less)) in
      let found : dsf.sound_at (take t.start prefix) ≡ Found t = ap dsf.sound_at (sym short) ∙ blocks.ends_prefix (prefix ++ rest) t f in
      absurd (none (subst dsf.HoldsHead (take-append-drop t.start prefix) (dsf_head (take t.start prefix) (drop t.start prefix) t found))))
  | inr more ↦ more
]

-- ---- of either format
first_four : (prefix rest : List ℕ) (t : Sound) → 4 ≤ length prefix → dsf.sound_at (prefix ++ rest) ≡ Found t → take 4 prefix ≡ DSD
first_four prefix rest t long f = sym (take-append-le 4 prefix rest long) ∙ (blocks.found_leads (prefix ++ rest) t f).heads.first

other_form : (prefix rest : List ℕ) (s t : Sound) → dsdiff.sound_at prefix ≡ Found s → dsf.sound_at (prefix ++ rest) ≡ Found t → ⊥
other_form prefix rest s t e f =
    let long = (form_headers.found_leads prefix s e).long in
    let refused : Found s ≡ Refused = sym e ∙ other_head prefix long (first_four prefix rest t (omega (arith, long)) f) in
    absurd cc

other_blocks : (prefix rest : List ℕ) (s t : Sound) → dsf.sound_at prefix ≡ Found s → dsdiff.sound_at (prefix ++ rest) ≡ Found t → ⊥
other_blocks prefix rest s t e f =
    let l = blocks.found_leads prefix s e in
    let long = form_headers.found_leads (prefix ++ rest) t f in
    let id : take 4 (prefix ++ rest) ≡ DSD = take-append-le 4 prefix rest (omega (arith, l.holds.fields)) ∙ l.heads.first in
    let refused : Found t ≡ Refused = sym f ∙ other_head (prefix ++ rest) long.long id in
    absurd cc

pub stated_once : (prefix rest : List ℕ) (s t : Sound) → LeadsToSound prefix s → LeadsToSound (prefix ++ rest) t → t ≡ s
stated_once prefix rest s t states later = by s.interleaving t.interleaving (stated_found s.interleaving prefix s states.leads) (stated_found t.interleaving (prefix ++ rest) t later.leads)
  where
    by : (o p : Interleaving) → IsFound o prefix s → IsFound p (prefix ++ rest) t → t ≡ s
    by Bytes Bytes e f = form_once prefix rest s t e f
    by Bytes (Blocks p) e f = absurd (other_form prefix rest s t e f)
    by (Blocks o) Bytes e f = absurd (other_blocks prefix rest s t e f)
    by (Blocks o) (Blocks p) e f = dsf_once prefix rest s t e f

-- ---- a file that holds a recording
form_states : (file : List ℕ) (r : Content) → IsDsdiff file r → (s : Sound) × LeadsToSound file s
form_states file r h =
    let stated = form_stated.sound_is_stated file r h in
    let s : Sound = stated.0 in
    let is : Found s ≡ dsdiff.sound_at file = sym ((form_stated.found_is_stated file s).1 stated.1) in
    (s, dsdiff_found file (Found s) is (form_headers.if_found file (Found s) is) (form_headers.in_limits file (Found s) is) (form_headers.inside file (Found s) is))

blocks_state : (file : List ℕ) (r : Content) (order : BitOrder) → IsDsf file r order → (s : Sound) × LeadsToSound file s
blocks_state file r order h =
    let stated = blocks_stated.sound_is_stated file r order h in
    let s : Sound = stated.0 in
    let is : Found s ≡ dsf.sound_at file = sym ((blocks_stated.found_is_stated file s).1 stated.1) in
    let no_form = form_headers.if_refused file Refused (sym (other_head file (omega (arith, h.second_long, h.in_file)) h.first)) in
    (s, dsf_found file no_form (Found s) is (blocks.if_found file (Found s) is) (blocks.in_limits file (Found s) is) (blocks.inside file (Found s) is) (blocks.in_blocks file (Found s) is))

only : (file : List ℕ) → (s : Sound) × LeadsToSound file s → (s : Sound) × LeadsToSound file s × ((t : Sound) → LeadsToSound file t → t ≡ s)
only file states = (states.0, states.1, λ t stated. stated_once file [] states.0 t states.1 (subst (λ xs. LeadsToSound xs t) (sym (append-nil file)) stated))

pub one_sound : OneSoundIsStated
one_sound file accepted = elim accepted.1 [
  | inl form ↦ only file (form_states file accepted.0 form)
  | inr (order, is) ↦ only file (blocks_state file accepted.0 order is)
]

-- the head states the sound that it leads to
pub states_at : (head : List ℕ) (s : Sound) → IsHeaderOf head s → LeadsToSound head s
states_at head s at = by s.interleaving (stated_found s.interleaving head s at.leads)
  where
    by : (o : Interleaving) → IsFound o head s → LeadsToSound head s
    by Bytes e = dsdiff_found head (Found s) (sym e) (form_headers.if_found head (Found s) (sym e)) (form_headers.in_limits head (Found s) (sym e)) (form_headers.inside head (Found s) (sym e))
    by (Blocks order) e =
        let l = blocks.found_leads head s e in
        let no_form = form_headers.if_refused head Refused (sym (other_head head (omega (arith, l.holds.fields)) l.heads.first)) in
        dsf_found head no_form (Found s) (sym e) (blocks.if_found head (Found s) (sym e)) (blocks.in_limits head (Found s) (sym e)) (blocks.inside head (Found s) (sym e)) (blocks.in_blocks head (Found s) (sym e))

-- ---- where more bytes are needed
pub form_wanted : (prefix : List ℕ) (x : SoundAt) → x ≡ dsdiff.sound_at prefix → IfMore x (dsdiff.HoldsHead prefix → ⊥) → IfMore x (IsBeforeSound prefix)
form_wanted prefix x is more = by x is more
  where
    by : (x : SoundAt) → x ≡ dsdiff.sound_at prefix → IfMore x (dsdiff.HoldsHead prefix → ⊥) → IfMore x (IsBeforeSound prefix)
    by Refused is more = tt
    by (Found s) is more = tt
    by More is more = λ rest t accepted states. of rest t t.interleaving (stated_found t.interleaving (prefix ++ rest) t states.leads)
      where
        of : (rest : List ℕ) (t : Sound) (o : Interleaving) → IsFound o (prefix ++ rest) t → length prefix ≤ t.start
        of rest t Bytes f = form_later prefix rest t more f
        of rest t (Blocks o) f = elim (cases_lt (length prefix) 16) [
          | inl short ↦ omega (arith, short, (dsf_start (prefix ++ rest) t f).1)
          | inr long ↦ (let refused : More ≡ Refused = is ∙ other_head prefix long (first_four prefix rest t (omega (arith, long)) f) in absurd cc)
        ]

pub dsf_wanted : (prefix : List ℕ) (no_form : (rest : List ℕ) → dsdiff.IsAccepted (prefix ++ rest) → ⊥) (x : SoundAt) → IfMore x (dsf.HoldsHead prefix → ⊥) → IfMore x (IsBeforeSound prefix)
dsf_wanted prefix no_form x more = by x more
  where
    never : (rest : List ℕ) (t : Sound) (r : Content) → HoldsRecording (prefix ++ rest) r → dsdiff.sound_at (prefix ++ rest) ≡ Found t → ⊥
    never rest t r (inl is) f = no_form rest (r, is)
    never rest t r (inr (order, is)) f = never_found (prefix ++ rest) [] t r order f (subst (λ xs. IsDsf xs r order) (sym (append-nil (prefix ++ rest))) is)

    by : (x : SoundAt) → IfMore x (dsf.HoldsHead prefix → ⊥) → IfMore x (IsBeforeSound prefix)
    by Refused more = tt
    by (Found s) more = tt
    by More more = λ rest t accepted states. of rest t accepted t.interleaving (stated_found t.interleaving (prefix ++ rest) t states.leads)
      where
        of : (rest : List ℕ) (t : Sound) → HoldsSomeRecording (prefix ++ rest) → (o : Interleaving) → IsFound o (prefix ++ rest) t → length prefix ≤ t.start
        of rest t accepted Bytes f = absurd (never rest t accepted.0 accepted.1 f)
        of rest t accepted (Blocks o) f = dsf_later prefix rest t more f

-- before the first byte
pub before_first : (prefix : List ℕ) → prefix ≡ [] → IsBeforeSound prefix
before_first prefix none = λ rest t accepted states. let e : length prefix ≡ 0 = ap length none in omega (arith, e)

-- nothing was read
pub unread_none : (left : Option (List ℕ)) (n : ℕ) → GivesNone left n n
unread_none None n = tt
unread_none (Some file) n = λ s accepted states. omega arith

-- before the sound
pub gives_none : {R : Type 0} (left : R → Option (List ℕ)) (i j : Inlet R) (n : ℕ) (prefix : List ℕ) → Reads left i j prefix → IsBeforeSound prefix → n ≡ inlet_given j → GivesNone (left (inlet_reader i)) (inlet_given i) n
gives_none left i j n prefix reads before same = by (left (inlet_reader i)) (gives_read left i j n prefix reads same)
  where
    by : (o : Option (List ℕ)) → GivesBytes o (inlet_given i) n prefix → GivesNone o (inlet_given i) n
    by None gives = tt
    by (Some xs) gives = λ s accepted states.
        let start = gives.begins in
        omega (arith, before start.0 s (subst HoldsSomeRecording start.1 accepted) (subst (λ ys. LeadsToSound ys s) start.1 states), gives.given)
