-- The loop that looks for the head of the sound.
use Rattle.std.proofs.Common.{◌≡◌, ℕ, zero, suc, ◌+◌, ◌-◌, ◌%◌, ◌≤◌, ◌<◌, true, false, cond, ltb, List, [], ◌++◌, length, take, drop, Option, Some, None, Result, Ok, Err, refl, sym, ap, subst, ◌∙◌, arith}
use Rattle.std.proofs.lemmas.List.{append-nil, append_assoc, length-append}
use Rattle.std.proofs.lemmas.Bool.{lt-ltb, le-ltb}
use Rattle.dsd_bits.specs.Ids.{same_id, DSD}
use Rattle.dsdiff_core.specs.declared.fault.DsdiffFault.{DsdiffFault}
use Rattle.dsdiff_core.specs.declared.fault.DsdiffFault.TheVariants as faults
use Rattle.dsdiff_core.specs.Fields.{form_size}
use Rattle.dsdiff_core.specs.Headers.{data_cut, seek, seek_for, size_at}
use Rattle.dsdiff_core.specs.Walks.{IsSought, IsWalked}
use Rattle.dsdiff_core.proofs.LeadLaws.{number_prefix, part_header}

pub sought_first : (prefix : List ℕ) (size : ℕ) → 16 ≤ length prefix → size ≡ form_size prefix → IsSought prefix 16 size
unfolding seek
sought_first prefix size long e = record {
  from = omega arith;
  within = omega arith;
  steps = length prefix;
  enough = omega arith;
  so_far = rw e refl;
}

abbrev next_at : List ℕ → ℕ → ℕ
next_at prefix at = at + (12 + size_at prefix at + size_at prefix at % 2)

-- one step
abbrev step : ℕ → ℕ → List ℕ → ℕ → Result (Option ℕ) DsdiffFault
step steps at prefix size =
    cond (ltb size at) (Err faults.NoSound) (
    cond (ltb (length prefix) (at + 12)) (Ok None) (
    cond (ltb size (at + size_at prefix at)) (Err (data_cut prefix at)) (
    cond (same_id (take 4 (drop at prefix)) DSD) (Ok (Some at)) (
    cond (ltb (length prefix) (at + 12 + size_at prefix at)) (Ok None) (
    seek_for steps (next_at prefix at) prefix size)))))

-- one more step
pub record Steps (prefix : List ℕ) (at size : ℕ) : Type 0 where
  pub steps : ℕ
  pub enough : length prefix < at + steps
  pub is : seek prefix ≡ step steps at prefix size

steps_of : (prefix : List ℕ) (at size steps : ℕ) → at ≤ length prefix + 1 → length prefix + 1 < at + steps → seek_for steps at prefix size ≡ seek prefix → Steps prefix at size
unfolding seek_for
steps_of prefix at size zero within enough e = absurd (omega arith)
steps_of prefix at size (suc steps) within enough e = record { steps = steps; enough = omega arith; is = sym e }

-- data of which no more is named than is left
pub data_fit : (prefix : List ℕ) (at size named : ℕ) → at ≤ size → named ≤ size - at → named ≡ size_at prefix at → at + size_at prefix at ≤ size
data_fit prefix at size named h k e = omega (arith, e)

module _ (prefix : List ℕ) (at size : ℕ) (w : IsSought prefix at size) where
  on : Steps prefix at size
  on = steps_of prefix at size w.steps w.within w.enough w.so_far

  pub past_end : size < at → seek prefix ≡ Err faults.NoSound
  past_end h = on.is ∙ rw (lt-ltb size at h) refl

  pub no_head : at ≤ size → length prefix < at + 12 → seek prefix ≡ Ok None
  no_head h k = on.is ∙ rw (le-ltb size at h, lt-ltb (length prefix) (at + 12) k) refl

  pub data_past : at ≤ size → at + 12 ≤ length prefix → size < at + size_at prefix at → seek prefix ≡ Err (data_cut prefix at)
  data_past h k m = on.is ∙ rw (le-ltb size at h, le-ltb (length prefix) (at + 12) k, lt-ltb size (at + size_at prefix at) m) refl

  pub here : at + 12 ≤ length prefix → at + size_at prefix at ≤ size → same_id (take 4 (drop at prefix)) DSD ≡ true → seek prefix ≡ Ok (Some at)
  here k m id = on.is ∙ rw (le-ltb size at (omega arith), le-ltb (length prefix) (at + 12) k, le-ltb size (at + size_at prefix at) m, id) refl

  pub data_wanted : at + 12 ≤ length prefix → at + size_at prefix at ≤ size → same_id (take 4 (drop at prefix)) DSD ≡ false → length prefix < at + 12 + size_at prefix at → seek prefix ≡ Ok None
  data_wanted k m id n = on.is ∙ rw (le-ltb size at (omega arith), le-ltb (length prefix) (at + 12) k, le-ltb size (at + size_at prefix at) m, id, lt-ltb (length prefix) (at + 12 + size_at prefix at) n) refl

  pub sought_on : at + size_at prefix at ≤ size → same_id (take 4 (drop at prefix)) DSD ≡ false → at + 12 + size_at prefix at ≤ length prefix → IsSought prefix (next_at prefix at) size
  sought_on m id n =
      let one : seek prefix ≡ seek_for on.steps (next_at prefix at) prefix size =
      on.is ∙ rw (le-ltb size at (omega arith), le-ltb (length prefix) (at + 12) (omega arith), le-ltb size (at + size_at prefix at) m, id, le-ltb (length prefix) (at + 12 + size_at prefix at) n) refl in
      record { from = omega (arith, w.from); within = omega arith; steps = on.steps; enough = omega (arith, on.enough); so_far = sym one }

-- ---- whatever follows the prefix
pub walked_first : (prefix : List ℕ) → IsWalked prefix 16
walked_first prefix = λ rest long. sought_first (prefix ++ rest) (form_size (prefix ++ rest)) long refl

pub walked_later : (prefix more : List ℕ) (at : ℕ) → IsWalked prefix at → IsWalked (prefix ++ more) at
walked_later prefix more at w = λ rest long.
    let whole : (prefix ++ more) ++ rest ≡ prefix ++ (more ++ rest) = append_assoc prefix more rest in
    subst (λ file. IsSought file at (form_size file)) (sym whole) (w (more ++ rest) (omega (arith, ap length whole, long)))

-- of the prefix itself
pub walked_here : (prefix : List ℕ) (at size : ℕ) → 16 ≤ length prefix → size ≡ form_size prefix → IsWalked prefix at → IsSought prefix at size
walked_here prefix at size long e w =
    rw e (subst (λ file. IsSought file at (form_size file)) (append-nil prefix) (w [] (omega (arith, ap length (append-nil prefix), long))))

-- over a chunk that the prefix holds
pub walked_on : (prefix : List ℕ) (at size : ℕ) → 16 ≤ length prefix → size ≡ form_size prefix → IsWalked prefix at → at + size_at prefix at ≤ size → same_id (take 4 (drop at prefix)) DSD ≡ false → at + 12 + size_at prefix at ≤ length prefix → IsWalked prefix (next_at prefix at)
walked_on prefix at size long e w fits id held = λ rest more.
    let file : List ℕ = prefix ++ rest in
    let here : size_at file at ≡ size_at prefix at = number_prefix 8 (at + 4) prefix rest (omega (arith, held)) in
    let form : form_size file ≡ form_size prefix = number_prefix 8 4 prefix rest (omega (arith, long)) in
    let other : same_id (take 4 (drop at file)) DSD ≡ false = ap (λ (x : List ℕ). same_id x DSD) (part_header 4 at prefix rest (omega (arith, held))) ∙ id in
    let next : next_at file at ≡ next_at prefix at = ap (λ (n : ℕ). at + (12 + n + n % 2)) here in
    subst (λ (n : ℕ). IsSought file n (form_size file)) next (sought_on file at (form_size file) (w rest more) (omega (arith, fits, here, form, e)) other (omega (arith, held, here, length-append prefix rest)))
