-- What contracts see of a file that is read except for some gaps.
use Rattle.std.specs.Prelude.{◌≡◌, ℕ, ◌+◌, ◌-◌, ◌^◌, ◌<◌, ◌≤◌, ◌⊎◌, min, nat_lt, Bool, true, false, if◌then◌else◌, List, [], ◌∷◌, Option, option_map, Result, IfOk, MatchResult}
use Rattle.std.specs.Io.KnownBytes.{ConsumesCount, IsAtEnd}
use Rattle.folder_core.specs.declared.gapped_file.Gap.{Gap}
use Rattle.folder_core.specs.declared.gapped_file.Gaps.{Gaps}
use Rattle.folder_core.specs.declared.gapped_file.GappedFile.{GappedFile}

-- the file itself
abbrev pub gapped_file : {F I O : Type 0} → GappedFile F I O → I
gapped_file file = file.file

-- the place of its next byte
abbrev pub gapped_place : {F I O : Type 0} → GappedFile F I O → ℕ
gapped_place file = file.place

-- the two gaps
abbrev pub gaps_of : {F I O : Type 0} → GappedFile F I O → Gaps
gaps_of file = file.gaps

-- the `size` bytes from a place on lie in one of the two gaps
abbrev pub LiesInGap : Gaps → ℕ → ℕ → Type 0
LiesInGap gaps place size = ((gaps.first.start ≤ place) × (place + size ≤ gaps.first.stop)) ⊎ ((gaps.second.start ≤ place) × (place + size ≤ gaps.second.stop))

-- the `size` bytes from a place on lie before a gap, or after it
abbrev pub LiesBeside : Gap → ℕ → ℕ → Type 0
LiesBeside gap place size = (place + size ≤ gap.start) ⊎ (gap.stop ≤ place)

-- the `size` bytes from a place on lie in neither gap
abbrev pub LiesOutside : Gaps → ℕ → ℕ → Type 0
LiesOutside gaps place size = LiesBeside gaps.first place size × LiesBeside gaps.second place size

-- after a read the place is as many bytes further, and stays at the greatest; after a read that failed it is the same
abbrev pub IsMovedOn : {E : Type 0} → ℕ → ℕ → Result ℕ E → Type 0
IsMovedOn old new got = MatchResult got (λ count. new ≡ min (old + count) (2 ^ 64 - 1)) (λ e. new ≡ old)

-- whether a place lies in a gap
abbrev pub is_in : Gap → ℕ → Bool
is_in gap place = if nat_lt place gap.start then false else nat_lt place gap.stop

-- whether a place lies in one of two gaps
abbrev pub is_in_one : Gaps → ℕ → Bool
is_in_one gaps place = if is_in gaps.first place then true else is_in gaps.second place

-- the bytes from a place on, but with a zero for each that lies in a gap
abbrev pub zeroed : Gaps → ℕ → List ℕ → List ℕ
zeroed gaps place [] = []
zeroed gaps place (x ∷ xs) = (if is_in_one gaps place then 0 else x) ∷ zeroed gaps (place + 1) xs

-- the gaps lie after one place as they do after another
abbrev pub HasSameGaps : Gaps → ℕ → ℕ → Type 0
HasSameGaps gaps place other = (bytes : List ℕ) → zeroed gaps other bytes ≡ zeroed gaps place bytes

-- known bytes with such zeros
abbrev pub zeroed_known : Gaps → ℕ → Option (List ℕ) → Option (List ℕ)
zeroed_known gaps place known = option_map (zeroed gaps place) known

-- the bytes that a file has left, where they are known, with a zero for each that lies in a gap
abbrev pub left_but_gaps : {F I O : Type 0} → (I → Option (List ℕ)) → GappedFile F I O → Option (List ℕ)
left_but_gaps left file = zeroed_known file.gaps file.place (left file.file)

-- a reader moved on by the bytes that came, and is at its end if none came where there was room; after an error it has
-- what it had
pub record MovesOn {E : Type 0} (old new : Option (List ℕ)) (got : Result ℕ E) (room : ℕ) : Type 0 where
  pub consumed : ConsumesCount old new got
  pub at_end : IfOk got (λ count. count ≡ 0 → 0 < room → IsAtEnd new)
