-- The prefix of a file, and the files that begin with it.
use Rattle.std.proofs.Common.{◌≡◌, ℕ, ◌+◌, ◌*◌, ◌/◌, ◌%◌, ◌^◌, ◌≤◌, ◌⊎◌, inl, inr, Bool, true, false, cond, ltb, eqb, ◌||◌, not, List, [], ◌∷◌, ◌++◌, length, map, take, drop, Option, Some, None, Result, Ok, Err, refl, sym, ap, subst, ◌∙◌, arith, eq-eqb}
use Rattle.std.specs.Prelude.{IfOk, filter}
use Rattle.std.proofs.Math.Nat.{div-add-mod'}
use Rattle.std.proofs.lemmas.Bool.{cases_lt, eqb-true, lt-ltb, le-ltb, ltb-false}
use Rattle.std.proofs.lemmas.List.{length-append, length-map}
use Rattle.std.proofs.lemmas.List.Elements.{filter-append}
use Rattle.std.proofs.lemmas.List.FromFn.{get_or-map-range_with_len, length-map-range_with_len}
use Rattle.byteorder.specs.Endian.{big_number}
use Rattle.chunk_core.specs.declared.layout.Span.{Span}
use Rattle.chunk_core.specs.Chunks.{Chunk}
use Rattle.chunk_core.specs.Places.{places, span_chunk}
use Rattle.chunk_core.specs.Steps.{◌>>=◌}
use Rattle.chunk_core.proofs.PlaceLaws.{spans_again}
use Rattle.chunk_core.proofs.Steps.{bind_then, guard_ok}
use Rattle.dsd_bits.specs.declared.interleaving.Interleaving.TheVariants.{Bytes}
use Rattle.dsd_bits.specs.declared.sound.Sound.{Sound}
use Rattle.dsd_bits.specs.declared.sound.SoundAt.{SoundAt}
use Rattle.dsd_bits.specs.declared.sound.SoundAt.TheVariants.{More, Refused, Found}
use Rattle.dsd_bits.specs.Channels.{count_of}
use Rattle.dsd_bits.specs.Contents.{Content}
use Rattle.dsd_bits.specs.Ids.{same_id, FVER, PROP, DSD}
use Rattle.dsd_bits.specs.Lacing.{laced_bit, unlaced, unlaced_all}
use Rattle.dsd_bits.specs.Sounds.{HasSound, IfFound, IfMore, IfRefused, IsSound}
use Rattle.dsdiff_core.specs.declared.fault.DsdiffFault.{DsdiffFault}
use Rattle.dsdiff_core.specs.declared.fault.DsdiffFault.TheVariants as faults
use Rattle.dsdiff_core.specs.Fields.{form_end, form_size}
use Rattle.dsdiff_core.specs.Files.{IsDsdiff}
use Rattle.dsdiff_core.specs.Headers.{HoldsHead, IsAccepted, as_sound_at, form_of, frames_fit, leading_of, sound_head_place, seek, size_at, sound_at, sound_with_head, sound_from, sound_in, sound_of_fields}
use Rattle.dsdiff_core.specs.Kinds.{FRM8, has_id, is_property}
use Rattle.dsdiff_core.specs.Properties.{property_of}
use Rattle.dsdiff_core.specs.Spans.{span_has, top_kinds}
use Rattle.dsdiff_core.proofs.FileLaws.{is_property_of, stands}
use Rattle.dsdiff_core.proofs.FormLaws.{version_again}
use Rattle.dsdiff_core.proofs.KindLaws.{bool_cases, filter_chunks, no_property, not_both, nothing_first, order_again, passes}
use Rattle.dsdiff_core.proofs.LeadLaws.{Led, Sought, after_on, number_prefix, part_header, seek_ends, seek_ok, seek_right}
use Rattle.dsdiff_core.proofs.OnceLaws.{once_again}
use Rattle.dsdiff_core.proofs.PropertyLaws.{property_again, property_ok, stated_by}
use Rattle.dsdiff_core.proofs.Steps.{not_false}

-- ---- the chunks before the sound

abbrev pub either : Chunk → Bool
either c = is_property c || has_id DSD c

either_left : (a : Bool) → (a || false) ≡ a
either_left true = refl
either_left false = refl

pub only_properties : (cs : List Chunk) → filter (has_id DSD) cs ≡ [] → filter either cs ≡ filter is_property cs
only_properties [] e = refl
only_properties (c ∷ cs) e = elim (bool_cases (has_id DSD c)) [
  | inl y ↦ absurd (nothing_first c (filter (has_id DSD) cs) (rw y at e))
  | inr other ↦ rw (other, either_left (is_property c)) (ap (λ (rest : List Chunk). cond (is_property c) (c ∷ rest) rest) (only_properties cs (rw other at e)))
]

-- a list before a chunk and others makes two chunks
two_chunks : (L F : List Chunk) (s p q : Chunk) → L ++ (s ∷ F) ≡ p ∷ q ∷ [] → (s ≡ p) ⊎ ((L ≡ p ∷ []) × (s ≡ q) × (F ≡ []))
two_chunks [] F s p q e = inl cc
two_chunks (x ∷ []) F s p q e = inr (cc, cc, cc)
two_chunks (x ∷ y ∷ L) F s p q e = absurd (omega (arith, ap length e, length-append L (s ∷ F)))

no_prefix : (a b : List Chunk) → a ++ b ≡ [] → (a ≡ []) × (b ≡ [])
no_prefix [] b e = (refl, e)
no_prefix (x ∷ a) b e = absurd cc

pub record Parted (before later : List Chunk) (s p q : Chunk) : Type 0 where
  pub one_property : filter is_property before ≡ p ∷ []
  pub is_sound : s ≡ q
  pub none_later : filter either later ≡ []

pub parted : (before later : List Chunk) (s p q : Chunk) → filter (has_id DSD) before ≡ [] → has_id DSD s ≡ true → filter either (before ++ s ∷ later) ≡ p ∷ q ∷ [] → is_property p ≡ true → Parted before later s p q
parted before later s p q none is e yes_p =
    let ns : is_property s ≡ false = no_property s (not_both DSD PROP s refl is) in
    let here : filter either (s ∷ later) ≡ s ∷ filter either later = rw (ns, is) refl in
    let split : filter is_property before ++ (s ∷ filter either later) ≡ p ∷ q ∷ [] =
    ap (λ (L : List Chunk). L ++ (s ∷ filter either later)) (sym (only_properties before none))
    ∙ ap (λ (F : List Chunk). filter either before ++ F) (sym here)
    ∙ sym (filter-append either before (s ∷ later))
    ∙ e in
    elim (two_chunks (filter is_property before) (filter either later) s p q split) [
      | inl same ↦ let bad : is_property s ≡ true = rw same yes_p in let bad2 : true ≡ false = sym bad ∙ ns in absurd cc
      | inr both ↦ record { one_property = both.0; is_sound = both.1; none_later = both.2 }
    ]

-- the version is before the sound
pub record Versioned (before later : List Chunk) (s v : Chunk) : Type 0 where
  pub after : List Chunk
  pub first : before ≡ v ∷ after
  pub once : filter (has_id FVER) before ≡ v ∷ []
  pub none_later : filter (has_id FVER) (s ∷ later) ≡ []

pub versioned : (before later rest : List Chunk) (s v : Chunk) → before ++ s ∷ later ≡ v ∷ rest → filter (has_id FVER) (before ++ s ∷ later) ≡ v ∷ [] → has_id FVER v ≡ true → has_id DSD s ≡ true → Versioned before later s v
versioned [] later rest s v e once is sound =
    let same : s ≡ v = cc (e) in
    let no_dsd : has_id DSD s ≡ false = not_both FVER DSD s refl (rw same is) in
    let bad : true ≡ false = sym sound ∙ no_dsd in
    absurd cc
versioned (b ∷ bs) later rest s v e once is sound =
    let same : b ≡ v = cc (e) in
    let here : has_id FVER b ≡ true = rw same is in
    let split : b ∷ (filter (has_id FVER) bs ++ filter (has_id FVER) (s ∷ later)) ≡ v ∷ [] =
    ap (λ (L : List Chunk). b ∷ L) (sym (filter-append (has_id FVER) bs (s ∷ later))) ∙ rw here at once in
    let none : filter (has_id FVER) bs ++ filter (has_id FVER) (s ∷ later) ≡ [] = cc (split) in
    let both = no_prefix (filter (has_id FVER) bs) (filter (has_id FVER) (s ∷ later)) none in
    record {
      after = bs;
      first = ap (λ (x : Chunk). x ∷ bs) same;
      once = rw (here, both.0) (ap (λ (x : Chunk). x ∷ []) same);
      none_later = both.1;
    }

-- ---- what the prefix states of an accepted file

unlaced_count : (bytes : List ℕ) (n : ℕ) → 1 ≤ n → count_of (unlaced_all bytes n) ≡ 8 * (length bytes / n)
unlaced_count bytes n some =
    ap length (get_or-map-range_with_len (unlaced bytes n) 0 n 0 0 [] (omega arith) refl) ∙ length-map-range_with_len (laced_bit bytes n 0) 0 (8 * (length bytes / n))

pub record HeaderStates (prefix rest : List ℕ) (r : Content) (at : ℕ) : Type 0 where
  pub stated : sound_with_head prefix at ≡ Ok (sound_of_fields r.rate (length r.ids) at (size_at prefix at))
  pub has : HasSound (prefix ++ rest) r (sound_of_fields r.rate (length r.ids) at (size_at prefix at))

states : (prefix rest : List ℕ) (r : Content) (h : IsDsdiff (prefix ++ rest) r) (at : ℕ) → Led prefix rest 16 (form_end (prefix ++ rest)) h.top at → HeaderStates prefix rest r at
unfolding sound_with_head leading_of
states prefix rest r h at l =
    let order = order_again h.top h.property h.sound h.property_then_sound h.property_is h.sound_is in
    let p = parted l.before l.later l.sound h.property h.sound l.none l.is_sound (ap (filter either) (sym l.is) ∙ h.property_then_sound) h.property_is in
    let version_is = passes (has_id FVER) h.top h.version [] h.version_once in
    let v = versioned l.before l.later h.later l.sound h.version (sym l.is ∙ h.version_first) (ap (filter (has_id FVER)) (sym l.is) ∙ h.version_once) version_is l.is_sound in
    let top : List Span = places 16 l.before in
    let again = spans_again prefix 16 at l.before l.are_before in
    let vs = stands prefix (has_id FVER) top l.before h.version again.1 v.once in
    let ps = stands prefix is_property top l.before h.property again.1 p.one_property in
    let no_sound : map (span_chunk prefix) (filter (span_has DSD) top) ≡ [] = sym (filter_chunks prefix (has_id DSD) top) ∙ ap (filter (has_id DSD)) again.1 ∙ l.none in
    let none : length (filter (span_has DSD) top) ≤ 1 = omega (arith, length-map (filter (span_has DSD) top) (span_chunk prefix), ap length no_sound) in
    let version = version_again (map (span_chunk prefix) top) (record { version = h.version; later = v.after; is = again.1 ∙ v.first; id = version_is; long = h.version_long; main = h.version_main }) in
    let once = once_again (top_kinds prefix) [] top (vs.once, (ps.once, (none, tt))) in
    let parts : List Span = places (ps.span.start + 4) h.states.parts in
    let property = property_again prefix top (stated_by r.rate r.ids parts) (is_property_of (prefix ++ rest) r h prefix top parts ps.span ps.found ps.is refl) in
    let number : length r.ids ≡ h.number = ap length h.ids ∙ length-map-range_with_len (λ k. take 4 (drop (4 * k) (drop 2 h.states.names.content))) 0 h.number in
    let size_is : size_at prefix at ≡ length h.sound.content = sym (number_prefix 8 (at + 4) prefix rest (omega (arith, l.whole))) ∙ l.at_sound.size ∙ ap (λ (c : Chunk). length c.content) p.is_sound in
    let whole : size_at prefix at % length r.ids ≡ 0 = rw (size_is, number) h.whole in
    let short : 8 * (size_at prefix at / length r.ids) ≤ 2 ^ 36 = rw (size_is, number) h.not_long in
    let frames : frames_fit (size_at prefix at) (length r.ids) ≡ Ok tt = rw (eq-eqb (size_at prefix at % length r.ids) 0 whole, le-ltb (2 ^ 36) (8 * (size_at prefix at / length r.ids)) short) refl in
    let own : length l.sound.content ≡ size_at prefix at = sym (size_is ∙ ap (λ (c : Chunk). length c.content) (sym p.is_sound)) in
    let bytes : List ℕ = take (size_at prefix at) (drop (at + 12) (prefix ++ rest)) in
    let content : h.sound.content ≡ bytes = ap (λ (c : Chunk). c.content) (sym p.is_sound) ∙ sym l.at_sound.content ∙ ap (λ (k : ℕ). take k (drop (at + 12) (prefix ++ rest))) own in
    let channels : r.channels ≡ unlaced_all h.sound.content (length r.ids) = h.channels ∙ ap (λ (k : ℕ). unlaced_all h.sound.content k) (sym number) in
    record {
      stated = rw (again.0, version, once, property, frames) refl;
      has = record {
        rate = refl;
        number = ap length channels ∙ length-map-range_with_len (unlaced h.sound.content (length r.ids)) 0 (length r.ids);
        count = ap count_of channels ∙ unlaced_count h.sound.content (length r.ids) (omega (arith, number, h.states.some_channel)) ∙ ap (λ (k : ℕ). 8 * (k / length r.ids)) (sym size_is);
        in_file = omega (arith, l.at_sound.inside, own);
        channels = channels ∙ ap (λ (bs : List ℕ). unlaced_all bs (length r.ids)) content;
      };
    }

abbrev done : Option Sound → Result (Option Sound) DsdiffFault
done s = Ok s

-- the prefix of an accepted file states its sound, or more of it is needed
pub prefix_states : (prefix rest : List ℕ) (r : Content) → IsDsdiff (prefix ++ rest) r → ((s : Sound) × (sound_in prefix ≡ Ok (Some s)) × HasSound (prefix ++ rest) r s) ⊎ (sound_in prefix ≡ Ok None)
unfolding sound_in sound_head_place form_of seek
prefix_states prefix rest r h = elim (cases_lt (length prefix) 16) [
  | inl short ↦ inr (rw (lt-ltb (length prefix) 16 short) refl)
  | inr long ↦
      let size : form_size (prefix ++ rest) ≡ form_size prefix = number_prefix 8 4 prefix rest (omega arith) in
      let form : take 4 prefix ≡ FRM8 = sym (part_header 4 0 prefix rest (omega arith)) ∙ h.form in
      let kind : take 4 (drop 12 prefix) ≡ DSD = sym (part_header 4 12 prefix rest (omega arith)) ∙ h.kind in
      let is_form : not (same_id (take 4 prefix) FRM8) ≡ false = rw form refl in
      let is_dsd : not (same_id (take 4 (drop 12 prefix)) DSD) ≡ false = rw kind refl in
      let holds = le-ltb (form_size prefix) 4 (omega (arith, size, h.holds_type)) in
      let order = order_again h.top h.property h.sound h.property_then_sound h.property_is h.sound_is in
      let low : form_end (prefix ++ rest) ≤ 12 + form_size prefix = omega (arith, size) in
      elim (seek_right (length prefix) 16 (form_size prefix) (form_end (prefix ++ rest)) prefix rest h.top h.sound [] low h.are_top order.1) [
        | inl wanted ↦ inr (rw (le-ltb (length prefix) 16 long, is_form, is_dsd, holds, wanted) refl)
        | inr found ↦
            let t = states prefix rest r h found.0 found.2 in
            inl (sound_of_fields r.rate (length r.ids) found.0 (size_at prefix found.0), rw (le-ltb (length prefix) 16 long, is_form, is_dsd, holds, found.1, t.stated) refl, t.has)
      ]
]

-- ---- each answer

abbrev found : Sound → SoundAt
found s = Found s

same_sound : (s t : Sound) → found s ≡ found t → s ≡ t
same_sound s t e = cc

pub answers : (prefix rest : List ℕ) (r : Content) → IsDsdiff (prefix ++ rest) r → ((s : Sound) × (sound_at prefix ≡ Found s) × HasSound (prefix ++ rest) r s) ⊎ (sound_at prefix ≡ More)
answers prefix rest r h = elim (prefix_states prefix rest r h) [
  | inl stated ↦ inl (stated.0, ap as_sound_at stated.1, stated.2)
  | inr more ↦ inr (ap as_sound_at more)
]

pub if_found : (prefix : List ℕ) (x : SoundAt) → x ≡ sound_at prefix → IfFound x (λ s. (rest : List ℕ) (r : Content) → IsDsdiff (prefix ++ rest) r → HasSound (prefix ++ rest) r s)
if_found prefix More e = tt
if_found prefix Refused e = tt
if_found prefix (Found s) e = λ rest r h. elim (answers prefix rest r h) [
  | inl stated ↦ subst (λ (t : Sound). HasSound (prefix ++ rest) r t) (same_sound stated.0 s (sym stated.1 ∙ sym e)) stated.2
  | inr more ↦ let none : More ≡ Found s = sym more ∙ sym e in absurd cc
]

pub if_refused : (prefix : List ℕ) (x : SoundAt) → x ≡ sound_at prefix → IfRefused x ((rest : List ℕ) → IsAccepted (prefix ++ rest) → ⊥)
if_refused prefix More e = tt
if_refused prefix (Found s) e = tt
if_refused prefix Refused e = λ rest accepted. elim (answers prefix rest accepted.0 accepted.1) [
  | inl stated ↦ let none : Found stated.0 ≡ Refused = sym stated.1 ∙ sym e in absurd cc
  | inr more ↦ let none : More ≡ Refused = sym more ∙ sym e in absurd cc
]

-- ---- what a prefix that leads to a sound holds

some_is : (s t : Sound) → done (Some s) ≡ done (Some t) → s ≡ t
some_is s t e = cc

none_some : (s : Sound) → done None ≡ done (Some s) → ⊥
none_some s e = cc

from_ok : (prefix : List ℕ) (place : Option ℕ) (s : Sound) → sound_from prefix place ≡ Ok (Some s) → (at : ℕ) × (place ≡ Some at) × (sound_with_head prefix at ≡ Ok s)
from_ok prefix None s e = absurd (none_some s e)
from_ok prefix (Some at) s e =
    bind_then (sound_with_head prefix at) (λ t. Ok (Some t)) (Some s) e (λ t e1 h1. (at, refl, e1 ∙ ap (λ (x : Sound). Ok x) (some_is t s h1)))

pub record Leads (prefix : List ℕ) (s : Sound) : Type 0 where
  pub long : 16 ≤ length prefix
  pub at : ℕ
  pub form : form_of prefix ≡ Ok tt
  pub sought : seek prefix ≡ Ok (Some at)
  pub is : sound_with_head prefix at ≡ Ok s

sound_ok : (prefix : List ℕ) (s : Sound) → sound_in prefix ≡ Ok (Some s) → Leads prefix s
unfolding sound_in sound_head_place
sound_ok prefix s e = elim (cases_lt (length prefix) 16) [
  | inl short ↦ absurd (none_some s (rw (lt-ltb (length prefix) 16 short) at e))
  | inr long ↦
      bind_then (form_of prefix >>= λ form. seek prefix) _ (Some s) (rw (le-ltb (length prefix) 16 long) at e) (λ place e0 h2.
      bind_then (form_of prefix) _ place e0 (λ u e1 e2.
      let f = from_ok prefix place s h2 in
      record { long = long; at = f.0; form = e1; sought = e2 ∙ ap (λ (x : Option ℕ). Ok x) f.1; is = f.2 }))
]

found_of : (x : Result (Option Sound) DsdiffFault) (s : Sound) → as_sound_at x ≡ Found s → x ≡ Ok (Some s)
found_of (Ok (Some t)) s e = ap (λ (u : Sound). done (Some u)) (same_sound t s e)
found_of (Ok None) s e = absurd cc
found_of (Err f) s e = absurd cc

more_of : (x : Result (Option Sound) DsdiffFault) → as_sound_at x ≡ More → x ≡ Ok None
more_of (Ok (Some t)) e = absurd cc
more_of (Ok None) e = refl
more_of (Err f) e = absurd cc

pub found_leads : (prefix : List ℕ) (s : Sound) → sound_at prefix ≡ Found s → Leads prefix s
found_leads prefix s e = sound_ok prefix s (found_of (sound_in prefix) s e)

sound_limits : (prefix : List ℕ) (at : ℕ) (s : Sound) → sound_with_head prefix at ≡ Ok s → IsSound s × (s.interleaving ≡ Bytes) × (s.count % 8 ≡ 0)
unfolding sound_with_head
sound_limits prefix at s e =
    bind_then (leading_of prefix at) _ s e (λ top e1 h1.
    bind_then (property_of prefix top) _ s h1 (λ stated e2 h2.
    bind_then (frames_fit (size_at prefix at) (length stated.ids)) _ s h2 (λ u e3 h3.
    let p = property_ok prefix top stated e2 in
    let size : ℕ = size_at prefix at in
    let n : ℕ = length stated.ids in
    let number : n ≡ big_number 2 p.names = ap length p.is_stated.ids ∙ length-map-range_with_len (λ k. take 4 (drop (4 * k) (drop 2 p.names))) 0 (big_number 2 p.names) in
    let a = guard_ok (not (eqb (size % n) 0)) (faults.PartFrame size n) (cond (ltb (2 ^ 36) (8 * (size / n))) (Err (faults.TooLong size n)) (Ok tt)) u e3 in
    let b = guard_ok (ltb (2 ^ 36) (8 * (size / n))) (faults.TooLong size n) (Ok tt) u a.1 in
    let whole : size % n ≡ 0 = eqb-true _ _ (not_false _ a.0) in
    let eighth : 8 * (size / n) / 8 ≡ size / n = omega arith in
    let same : sound_of_fields stated.rate n at size ≡ s = cc (h3) in
    subst (λ (t : Sound). IsSound t × (t.interleaving ≡ Bytes) × (t.count % 8 ≡ 0)) same (
      record {
        rate_low = p.is_stated.rate_low;
        rate_high = p.is_stated.rate_high;
        some_channel = omega (arith, number, p.is_stated.some_channel);
        six_channels = omega (arith, number, p.is_stated.six_channels);
        in_limit = ltb-false _ _ b.0;
        size = (let even : size / n * n + 0 ≡ size / n * n = omega arith in sym (div-add-mod' size n) ∙ ap (λ (k : ℕ). size / n * n + k) whole ∙ even ∙ ap (λ (k : ℕ). k * n) (sym eighth));
      },
      refl,
      omega arith,
    ))))

-- where the sound starts, and its size
pub sound_is_at : (prefix : List ℕ) (at : ℕ) (s : Sound) → sound_with_head prefix at ≡ Ok s → (s.start ≡ at + 12) × (s.size ≡ size_at prefix at)
unfolding sound_with_head
sound_is_at prefix at s e =
    bind_then (leading_of prefix at) _ s e (λ top e1 h1.
    bind_then (property_of prefix top) _ s h1 (λ stated e2 h2.
    bind_then (frames_fit (size_at prefix at) (length stated.ids)) _ s h2 (λ u e3 h3.
    let same : sound_of_fields stated.rate (length stated.ids) at (size_at prefix at) ≡ s = cc (h3) in
    (ap (λ (x : Sound). x.start) (sym same), ap (λ (x : Sound). x.size) (sym same)))))

pub in_limits : (prefix : List ℕ) (x : SoundAt) → x ≡ sound_at prefix → IfFound x (λ s. IsSound s × (s.interleaving ≡ Bytes) × (s.count % 8 ≡ 0))
in_limits prefix More e = tt
in_limits prefix Refused e = tt
in_limits prefix (Found s) e = let l = found_leads prefix s (sym e) in sound_limits prefix l.at s l.is

pub sought_of : (prefix : List ℕ) (at : ℕ) → seek prefix ≡ Ok (Some at) → Sought prefix 16 (form_size prefix) at
unfolding seek
sought_of prefix at e = seek_ok (length prefix) 16 (form_size prefix) prefix at e

pub starts_inside : (prefix : List ℕ) (s : Sound) → sound_at prefix ≡ Found s → s.start ≤ length prefix
starts_inside prefix s e =
    let l = found_leads prefix s e in
    omega (arith, (sound_is_at prefix l.at s l.is).0, (sought_of prefix l.at l.sought).whole)

pub inside : (prefix : List ℕ) (x : SoundAt) → x ≡ sound_at prefix → IfFound x (λ s. s.start ≤ length prefix)
inside prefix More e = tt
inside prefix Refused e = tt
inside prefix (Found s) e = starts_inside prefix s (sym e)

-- ---- where more bytes are needed

some_none : (s : Sound) → done (Some s) ≡ done None → ⊥
some_none s e = cc

not_wanted : (x : Result Sound DsdiffFault) → (x >>= λ s. done (Some s)) ≡ Ok None → ⊥
not_wanted (Ok s) e = some_none s e
not_wanted (Err f) e = absurd cc

head_there : (prefix : List ℕ) (place : Option ℕ) → HoldsHead prefix → seek prefix ≡ Ok place → sound_from prefix place ≡ Ok None → ⊥
unfolding seek
head_there prefix None h e f = seek_ends (length prefix) 16 (form_size prefix) prefix h.at h.before h.are_before h.no_gap h.no_sound h.id h.whole (omega arith) e
head_there prefix (Some at) h e f = not_wanted (sound_with_head prefix at) f

more_wanted : (prefix : List ℕ) → HoldsHead prefix → sound_in prefix ≡ Ok None → ⊥
unfolding sound_in sound_head_place
more_wanted prefix h e =
    let long : 16 ≤ length prefix = omega (arith, after_on 16 h.before, h.no_gap, h.whole) in
    bind_then (form_of prefix >>= λ form. seek prefix) _ None (rw (le-ltb (length prefix) 16 long) at e) (λ place e0 h2.
    bind_then (form_of prefix) _ place e0 (λ u e1 e2. head_there prefix place h e2 h2))

pub if_more : (prefix : List ℕ) (x : SoundAt) → x ≡ sound_at prefix → IfMore x (HoldsHead prefix → ⊥)
if_more prefix More e = λ h. more_wanted prefix h (more_of (sound_in prefix) (sym e))
if_more prefix Refused e = tt
if_more prefix (Found s) e = tt

-- ---- where no memory was needed

pub when_ok : {A E : Type 0} (P : A → Type 0) (Q : A → Type 0) (x : Result A E) → ((y : A) → P y → Q y) → IfOk x P → IfOk x Q
when_ok P Q (Ok y) f h = f y h
when_ok P Q (Err e) f h = tt
