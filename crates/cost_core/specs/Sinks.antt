-- What is known of rows that were handed over.
use Rattle.std.specs.Prelude.{◌≡◌, ℕ, Bool, true, false, Option, Result, MatchResult, List, ◌++◌, flat_map}
use Rattle.std.specs.Io.KnownBytes.{Appends}

-- bytes, if they are known, grew by a prefix of these
abbrev pub GrowsByPrefix : Option (List ℕ) → Option (List ℕ) → List ℕ → Type 0
GrowsByPrefix old new bytes = (prefix : List ℕ) × (back : List ℕ) × (bytes ≡ prefix ++ back) × Appends old new prefix

-- the spellings of these rows were appended to the text, if it is known, in order
abbrev pub HandsOver : (List ℕ → List ℕ) → Option (List ℕ) → Option (List ℕ) → List (List ℕ) → Type 0
HandsOver spelling old new rows = Appends old new (flat_map spelling rows)

-- the spellings of these rows were appended to the text, if it is known, and then a prefix of the spelling of one more
-- row
abbrev pub HandsOverPart : (List ℕ → List ℕ) → Option (List ℕ) → Option (List ℕ) → List (List ℕ) → List ℕ → Type 0
HandsOverPart spelling old new rows row = (prefix : List ℕ) × (back : List ℕ) × (spelling row ≡ prefix ++ back) × Appends old new (flat_map spelling rows ++ prefix)

-- the flag is set exactly if the call failed
abbrev pub IsErrFlag : {T E : Type 0} → Result T E → Bool → Type 0
IsErrFlag result flag = MatchResult result (λ _. flag ≡ false) (λ _. flag ≡ true)
