-- The text of bytes that may not be UTF-8, piece by piece.
use Rattle.std.proofs.Common.{arith, ◌≡◌, ◌≢◌, ◌∙◌, ℕ, List, [], ◌∷◌, ◌++◌, ap, append_assoc, append-nil, length, refl, subst, sym}
use Rattle.std.proofs.lemmas.Str.{IsUtf8-nil}
use Rattle.std.specs.Str.{IsUtf8, IsValidUpTo}
use Rattle.form_core.specs.Infos.{hexadecimal}
use Rattle.command_core.specs.Spelling.{IsSpelled, SpellsUpTo}

-- a piece is not all that there is of no bytes
not_empty : (valid : List ℕ) (byte : ℕ) (rest : List ℕ) → [] ≢ valid ++ byte ∷ rest
not_empty [] byte rest is = absurd cc
not_empty (x ∷ xs) byte rest is = absurd cc

-- the text of no bytes is empty
none_left : (tail : List ℕ) → IsSpelled [] tail → tail ≡ []
none_left tail ([], is) = is.1
none_left tail (piece ∷ pieces, is) = absurd (not_empty piece.valid piece.byte is.0 is.2)

-- bytes that are UTF-8 are the last
pub spells_last : (bytes old new : List ℕ) → IsUtf8 bytes → new ≡ old ++ bytes → SpellsUpTo bytes old [] new
spells_last bytes old new is grown = (bytes, grown, λ tail h. subst (λ t. IsSpelled bytes (bytes ++ t)) (sym (none_left tail h)) ([], (is, append-nil bytes)))

-- what is before a NUL, and what is after it
after_nul : (valid digits tail : List ℕ) → (valid ++ 0 ∷ digits) ++ tail ≡ valid ++ 0 ∷ digits ++ tail
after_nul [] digits tail = refl
after_nul (x ∷ xs) digits tail = ap (λ l. x ∷ l) (after_nul xs digits tail)

-- bytes that are UTF-8, and one that is not
pub spells_piece : (bytes valid rest old between new : List ℕ) (byte : ℕ) → bytes ≡ valid ++ byte ∷ rest → IsValidUpTo bytes (length valid)
    → between ≡ old ++ valid → new ≡ between ++ 0 ∷ hexadecimal byte → SpellsUpTo bytes old rest new
spells_piece bytes valid rest old between new byte parts up first second = (
  valid ++ 0 ∷ hexadecimal byte,
  second ∙ ap (λ l. l ++ 0 ∷ hexadecimal byte) first ∙ append_assoc old valid (0 ∷ hexadecimal byte),
  λ tail h. (record { valid = valid; byte = byte } ∷ h.0, (rest, tail, parts, up, after_nul valid (hexadecimal byte) tail, h.1)),
)

-- one piece more
pub spells_more : (bytes rest left old between new : List ℕ) → SpellsUpTo bytes old rest between → SpellsUpTo rest between left new → SpellsUpTo bytes old left new
spells_more bytes rest left old between new first second = (
  first.0 ++ second.0,
  second.1 ∙ ap (λ l. l ++ second.0) first.1 ∙ append_assoc old first.0 second.0,
  λ tail h. subst (IsSpelled bytes) (sym (append_assoc first.0 second.0 tail)) (first.2 (second.0 ++ tail) (second.2 tail h)),
)

-- nothing is left
empty : (rest : List ℕ) → length rest ≡ 0 → rest ≡ []
empty [] is = refl
empty (x ∷ xs) is = absurd (omega arith)

pub all_spelled : (bytes rest text : List ℕ) → length rest ≡ 0 → SpellsUpTo bytes [] rest text → IsSpelled bytes text
all_spelled bytes rest text is so_far =
    let whole = so_far.2 [] (subst (λ r. IsSpelled r []) (sym (empty rest is)) ([], (IsUtf8-nil, refl))) in
    subst (IsSpelled bytes) (append-nil so_far.0 ∙ sym so_far.1) whole
