-- What the prefix of a file of either format states of its sound.
use Rattle.std.proofs.Common.{◌≡◌, ◌≢◌, ℕ, ◌%◌, ◌≤◌, ◌⊎◌, inl, inr, true, List, [], ◌++◌, length, take, refl, sym, subst, ◌∙◌, arith, append-nil}
use Rattle.std.proofs.lemmas.Bool.{cases_lt, lt-ltb, le-ltb}
use Rattle.std.proofs.lemmas.List.{take-append-le}
use Rattle.dsd_bits.specs.declared.blocks.BitOrder.{BitOrder}
use Rattle.dsd_bits.specs.declared.interleaving.Interleaving.{Interleaving}
use Rattle.dsd_bits.specs.declared.interleaving.Interleaving.TheVariants.{Bytes, Blocks}
use Rattle.dsd_bits.specs.declared.sound.Sound.{Sound}
use Rattle.dsd_bits.specs.declared.sound.SoundAt.{SoundAt}
use Rattle.dsd_bits.specs.declared.sound.SoundAt.TheVariants.{More, Refused, Found}
use Rattle.dsd_bits.specs.Contents.{Content}
use Rattle.dsd_bits.specs.Ids.{DSD}
use Rattle.dsd_bits.specs.Sounds.{HasSound, IfFound, IfMore, IfRefused, IsSound, has_blocks}
use Rattle.dsdiff_core.specs.Files.{IsDsdiff}
use Rattle.dsdiff_core.specs.Headers as dsdiff
use Rattle.dsdiff_core.proofs.OtherSound.{has_head}
use Rattle.dsdiff_core.proofs.StatedLaws as form_stated
use Rattle.dsf_core.specs.Files.{IsDsf}
use Rattle.dsf_core.specs.Headers as dsf
use Rattle.dsf_core.proofs.StatedLaws as blocks_stated
use Rattle.sound_core.specs.Files.{IsRefused, StatesSoundAs, LeadsToSound}

-- ---- a DSF file is no DSDIFF file
-- a form begins otherwise
pub other_head : (prefix : List ℕ) → 16 ≤ length prefix → take 4 prefix ≡ DSD → dsdiff.sound_at prefix ≡ Refused
unfolding dsdiff.sound_in dsdiff.form_of dsdiff.sound_head_place
other_head prefix long id = rw (le-ltb (length prefix) 16 long, id) refl

-- and fewer bytes than its head state nothing
short_prefix : (prefix : List ℕ) → (16 ≤ length prefix) ⊎ (dsdiff.sound_at prefix ≡ More)
unfolding dsdiff.sound_in dsdiff.sound_head_place
short_prefix prefix = elim (cases_lt (length prefix) 16) [
  | inl short ↦ inr (rw (lt-ltb (length prefix) 16 short) refl)
  | inr long ↦ inl long
]

-- a longer DSF file begins so
begins : (prefix rest : List ℕ) (r : Content) (order : BitOrder) → 16 ≤ length prefix → IsDsf (prefix ++ rest) r order → take 4 prefix ≡ DSD
begins prefix rest r order long is = sym (take-append-le 4 prefix rest (omega (arith, long))) ∙ is.first

dsf_head : (prefix : List ℕ) (r : Content) (order : BitOrder) → IsDsf prefix r order → dsf.HoldsHead prefix
dsf_head prefix r order is = record { fields = omega (arith, is.in_file, is.second_long); head = omega (arith, is.in_file) }

pub never_found : (prefix rest : List ℕ) (s : Sound) (r : Content) (order : BitOrder) → dsdiff.sound_at prefix ≡ Found s → IsDsf (prefix ++ rest) r order → ⊥
never_found prefix rest s r order found is = elim (short_prefix prefix) [
  | inl long ↦ (let refused : Found s ≡ Refused = sym found ∙ other_head prefix long (begins prefix rest r order long is) in absurd cc)
  | inr more ↦ (let wanted : Found s ≡ More = sym found ∙ more in absurd cc)
]

never_more : (prefix : List ℕ) (r : Content) (order : BitOrder) → dsdiff.sound_at prefix ≡ More → IsDsf prefix r order → ⊥
never_more prefix r order more is =
    let whole : IsDsf (prefix ++ []) r order = subst (λ f. IsDsf f r order) (sym (append-nil prefix)) is in
    let long : 16 ≤ length prefix = omega (arith, (dsf_head prefix r order is).fields) in
    let refused : More ≡ Refused = sym more ∙ other_head prefix long (begins prefix [] r order long whole) in
    absurd cc

-- ---- a prefix states what the reading of its format finds
abbrev pub IsFound : Interleaving → List ℕ → Sound → Type 0
IsFound Bytes prefix s = dsdiff.sound_at prefix ≡ Found s
IsFound (Blocks order) prefix s = dsf.sound_at prefix ≡ Found s

pub stated_found : (o : Interleaving) (prefix : List ℕ) (s : Sound) → StatesSoundAs o prefix s → IsFound o prefix s
stated_found Bytes prefix s leads = (form_stated.found_is_stated prefix s).1 leads
stated_found (Blocks order) prefix s leads = (blocks_stated.found_is_stated prefix s).1 leads

pub found_stated : (o : Interleaving) (prefix : List ℕ) (s : Sound) → IsFound o prefix s → StatesSoundAs o prefix s
found_stated Bytes prefix s found = (form_stated.found_is_stated prefix s).0 found
found_stated (Blocks order) prefix s found = (blocks_stated.found_is_stated prefix s).0 found

-- ---- by the DSDIFF reading
pub not_refused : (x : SoundAt) (P : Type 0) → x ≢ Refused → IfRefused x P
not_refused More P other = tt
not_refused (Found s) P other = tt
not_refused Refused P other = absurd (other refl)

module _ (prefix : List ℕ) (x : SoundAt) (is : x ≡ dsdiff.sound_at prefix) where
  pub dsdiff_found : IfFound x (λ s. (rest : List ℕ) (r : Content) → IsDsdiff (prefix ++ rest) r → HasSound (prefix ++ rest) r s)
      → IfFound x (λ s. IsSound s × (s.interleaving ≡ Bytes) × (s.count % 8 ≡ 0)) → IfFound x (λ s. s.start ≤ length prefix) → IfFound x (LeadsToSound prefix)
  dsdiff_found has limits within = by x is has limits within
    where
      by : (x : SoundAt) → x ≡ dsdiff.sound_at prefix → IfFound x (λ s. (rest : List ℕ) (r : Content) → IsDsdiff (prefix ++ rest) r → HasSound (prefix ++ rest) r s)
          → IfFound x (λ s. IsSound s × (s.interleaving ≡ Bytes) × (s.count % 8 ≡ 0)) → IfFound x (λ s. s.start ≤ length prefix) → IfFound x (LeadsToSound prefix)
      by More is has limits within = tt
      by Refused is has limits within = tt
      by (Found s) is has limits within = record {
        leads = subst (λ o. StatesSoundAs o prefix s) (sym limits.1) (found_stated Bytes prefix s (sym is));
        is_sound = limits.0;
        whole = λ _. limits.2;
        within = within;
        has = λ rest r h. elim h [
          | inl form ↦ has rest r form
          | inr (order, dsf_is) ↦ absurd (never_found prefix rest s r order (sym is) dsf_is)
        ];
      }

  pub dsdiff_more : IfMore x (dsdiff.HoldsHead prefix → ⊥) → IfMore x (IsRefused prefix)
  dsdiff_more more = by x is more
    where
      by : (x : SoundAt) → x ≡ dsdiff.sound_at prefix → IfMore x (dsdiff.HoldsHead prefix → ⊥) → IfMore x (IsRefused prefix)
      by Refused is more = tt
      by (Found s) is more = tt
      by More is more = λ r h. elim h [
        | inl form ↦ more (has_head prefix (r, form))
        | inr (order, dsf_is) ↦ never_more prefix r order (sym is) dsf_is
      ]

-- ---- by the DSF reading, where the DSDIFF reading refuses
module _ (prefix : List ℕ) (no_form : (rest : List ℕ) → dsdiff.IsAccepted (prefix ++ rest) → ⊥) (x : SoundAt) (is : x ≡ dsf.sound_at prefix) where
  pub dsf_found : IfFound x (λ s. (rest : List ℕ) (r : Content) (order : BitOrder) → IsDsf (prefix ++ rest) r order → HasSound (prefix ++ rest) r s × (s.interleaving ≡ Blocks order))
      → IfFound x IsSound → IfFound x (λ s. s.start ≤ length prefix) → IfFound x (λ s. has_blocks s.interleaving ≡ true) → IfFound x (LeadsToSound prefix)
  dsf_found has limits within order = by x is has limits within order
    where
      leads : (o : Interleaving) (s : Sound) → has_blocks o ≡ true → dsf.sound_at prefix ≡ Found s → StatesSoundAs o prefix s
      leads Bytes s some e = absurd cc
      leads (Blocks order) s some e = found_stated (Blocks order) prefix s e

      not_bytes : (o : Interleaving) → has_blocks o ≡ true → o ≡ Bytes → ⊥
      not_bytes Bytes some e = absurd cc
      not_bytes (Blocks order) some e = absurd cc

      by : (x : SoundAt) → x ≡ dsf.sound_at prefix → IfFound x (λ s. (rest : List ℕ) (r : Content) (order : BitOrder) → IsDsf (prefix ++ rest) r order → HasSound (prefix ++ rest) r s × (s.interleaving ≡ Blocks order))
          → IfFound x IsSound → IfFound x (λ s. s.start ≤ length prefix) → IfFound x (λ s. has_blocks s.interleaving ≡ true) → IfFound x (LeadsToSound prefix)
      by More is has limits within order = tt
      by Refused is has limits within order = tt
      by (Found s) is has limits within order = record {
        leads = leads s.interleaving s order (sym is);
        is_sound = limits;
        whole = λ none. absurd (not_bytes s.interleaving order none);
        within = within;
        has = λ rest r h. elim h [
          | inl form ↦ absurd (no_form rest (r, form))
          | inr (stated, dsf_is) ↦ (has rest r stated dsf_is).0
        ];
      }

  pub dsf_refused : IfRefused x ((rest : List ℕ) → dsf.IsAccepted (prefix ++ rest) → ⊥) → IfRefused x ((rest : List ℕ) → IsRefused (prefix ++ rest))
  dsf_refused refused = by x refused
    where
      by : (x : SoundAt) → IfRefused x ((rest : List ℕ) → dsf.IsAccepted (prefix ++ rest) → ⊥) → IfRefused x ((rest : List ℕ) → IsRefused (prefix ++ rest))
      by More refused = tt
      by (Found s) refused = tt
      by Refused refused = λ rest r h. elim h [
        | inl form ↦ no_form rest (r, form)
        | inr (order, dsf_is) ↦ refused rest (r, order, dsf_is)
      ]

  pub dsf_more : IfMore x (dsf.HoldsHead prefix → ⊥) → IfMore x (IsRefused prefix)
  dsf_more more = by x more
    where
      by : (x : SoundAt) → IfMore x (dsf.HoldsHead prefix → ⊥) → IfMore x (IsRefused prefix)
      by Refused more = tt
      by (Found s) more = tt
      by More more = λ r h. elim h [
        | inl form ↦ no_form [] (subst dsdiff.IsAccepted (sym (append-nil prefix)) (r, form))
        | inr (order, dsf_is) ↦ more (dsf_head prefix r order dsf_is)
      ]
