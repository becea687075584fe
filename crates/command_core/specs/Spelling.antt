-- How bytes that may not be UTF-8 are written as text.
use Rattle.std.specs.Prelude.{◌≡◌, ℕ, List, [], ◌∷◌, ◌++◌, length}
use Rattle.std.specs.Str.{IsUtf8, IsValidUpTo}
use Rattle.form_core.specs.Infos.{hexadecimal}

-- the longest part that is UTF-8, and the byte after it
pub record Piece : Type 0 where
  pub valid : List ℕ
  pub byte : ℕ

-- bytes are these pieces and then UTF-8: what is UTF-8 is as it is, and each other byte is a NUL and its two digits
abbrev pub Spells : List Piece → List ℕ → List ℕ → Type 0
Spells [] bytes text = IsUtf8 bytes × (text ≡ bytes)
Spells (piece ∷ pieces) bytes text = (rest : List ℕ) × (spelled : List ℕ) × (bytes ≡ piece.valid ++ piece.byte ∷ rest) × IsValidUpTo bytes (length piece.valid)
    × (text ≡ piece.valid ++ 0 ∷ hexadecimal piece.byte ++ spelled) × Spells pieces rest spelled

-- a text is that of these bytes
abbrev pub IsSpelled : List ℕ → List ℕ → Type 0
IsSpelled bytes text = (pieces : List Piece) × Spells pieces bytes text

-- a text grew by a part of that of some bytes, to which that of the bytes that are left is to be added
abbrev pub SpellsUpTo : List ℕ → List ℕ → List ℕ → List ℕ → Type 0
SpellsUpTo bytes old rest new = (done : List ℕ) × (new ≡ old ++ done) × ((tail : List ℕ) → IsSpelled rest tail → IsSpelled bytes (done ++ tail))
