-- The bytes after a sound, and the head of it.
use Rattle.std.proofs.Common.{◌≡◌, ℕ, ◌+◌, ◌≤◌, inl, inr, Bool, true, false, not, List, [], ◌∷◌, ◌++◌, length, drop, refl, sym, ap, subst, ◌∙◌, arith}
use Rattle.std.specs.Prelude.{filter, slice_range}
use Rattle.std.proofs.lemmas.List.{append-nil, drop_at, drop-drop, length-append}
use Rattle.chunk_core.specs.Chunks.{Chunk, chunks, width}
use Rattle.dsd_bits.specs.declared.marks.Place.TheVariants.{Form}
use Rattle.dsd_bits.specs.Ids.{FVER, DSD}
use Rattle.dsd_bits.specs.Shape.{has_part}
use Rattle.dsdiff_core.specs.Fields.{form_end}
use Rattle.dsdiff_core.specs.Files.{IsDsdiff}
use Rattle.dsdiff_core.specs.Kinds.{has_id}
use Rattle.dsdiff_core.specs.Laws.{SoundHasHead}
use Rattle.dsdiff_core.proofs.KindLaws.{bool_cases, id_is, not_both, order_again}
use Rattle.dsdiff_core.proofs.LeadLaws.{Led, led_here, led_on, part_header, range_parts}

-- after the sound the same bytes follow
pub tail_is : (prefix sound back : List ℕ) (k : ℕ) → drop (length prefix + length sound + k) (prefix ++ (sound ++ back)) ≡ drop k back
tail_is prefix sound back k =
    let one : drop (length prefix) (prefix ++ (sound ++ back)) ≡ sound ++ back = drop_at prefix (sound ++ back) (length prefix) refl in
    let two : drop (length sound) (sound ++ back) ≡ back = drop_at sound back (length sound) refl in
    sym (drop-drop k (length prefix + length sound) (prefix ++ (sound ++ back)))
    ∙ ap (drop k) (sym (drop-drop (length sound) (length prefix) (prefix ++ (sound ++ back))) ∙ ap (drop (length sound)) one ∙ two)

abbrev pub is_kept : Chunk → Bool
is_kept c = not (has_part Form c.id c.content)

pub sound_not_kept : (c : Chunk) → has_id DSD c ≡ true → is_kept c ≡ false
sound_not_kept c is = let other : has_id FVER c ≡ false = not_both DSD FVER c refl is in rw (other, is) refl

-- ---- the head of the sound

-- the chunks of a file up to its first sound
led_all : (file rest : List ℕ) (from stop : ℕ) (cs : List Chunk) (s : Chunk) (more : List Chunk) → length rest ≡ 0 → chunks (slice_range (file ++ rest) from stop) cs → filter (has_id DSD) cs ≡ s ∷ more → (at : ℕ) × Led file rest from stop cs at
led_all file rest from stop [] s more none h f = absurd cc
led_all file rest from stop (c ∷ cs) s more none h f =
    let p = range_parts (file ++ rest) from stop c cs h in
    let whole : from + 12 ≤ length file = omega (arith, p.0.inside, length-append file rest) in
    elim (bool_cases (has_id DSD c)) [
      | inl y ↦ (from, led_here file rest from stop c cs y whole p.0 p.1)
      | inr other ↦
          let l = led_all file rest (from + width c) stop cs s more none p.1 (rw other at f) in
          (l.0, led_on file rest from stop l.0 c cs other p.0 l.1)
    ]

pub has_head : SoundHasHead
has_head file accepted =
    let r = accepted.0 in
    let h : IsDsdiff (file ++ []) r = subst (λ (bs : List ℕ). IsDsdiff bs r) (sym (append-nil file)) accepted.1 in
    let order = order_again h.top h.property h.sound h.property_then_sound h.property_is h.sound_is in
    let found = led_all file [] 16 (form_end (file ++ [])) h.top h.sound [] refl h.are_top order.1 in
    let l = found.1 in
    record {
      at = found.0;
      before = l.before;
      are_before = l.are_before;
      no_gap = l.no_gap;
      no_sound = l.none;
      id = sym (part_header 4 found.0 file [] (omega (arith, l.whole))) ∙ l.at_sound.id ∙ id_is l.sound.id DSD l.is_sound;
      whole = l.whole;
    }
