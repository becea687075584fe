-- What is known of bytes that were read under a name, whether the folder's bytes are known or not.
use Rattle.std.proofs.Common.{◌≡◌, ℕ, Bool, List, [], IsTrue, Option, Some, false, true, refl, subst, sym, ◌∙◌}
use Rattle.std.specs.Prelude.{IfSome}
use Rattle.folder_core.specs.Files.{OpensAs, IsGiven, IsReadOf, View}

-- of a folder whose bytes are unknown nothing is asked
pub unknown_view : {A : Type 0} (reported : Bool) → reported ≡ false → IsTrue reported → A
unknown_view reported is h = let no : false ≡ true = sym is ∙ h in absurd cc

-- what holds of the bytes that a reader has left holds of bytes that were read under its name
pub known_or_some : (view : View) (name : List ℕ) (left : Option (List ℕ)) (P : List ℕ → Type 0) → IsGiven view name left → IfSome left P → (file : List ℕ) × P file → (file : List ℕ) × IsReadOf view name file × P file
known_or_some view name left P given known some = by view.is_known refl
  where
    by : (reported : Bool) → view.is_known ≡ reported → (file : List ℕ) × IsReadOf view name file × P file
    by true is = let h = given is in (h.0, (λ reported. h.1), subst (λ o. IfSome o P) h.2 known)
    by false is = (some.0, unknown_view view.is_known is, some.1)

-- the bytes of a reader that was opened under a name, and those read before if its bytes are unknown
pub last_of : (view : View) (name : List ℕ) (left : Option (List ℕ)) → IsGiven view name left → (file : List ℕ) → IsReadOf view name file → (last : List ℕ) × IsReadOf view name last × (IsTrue view.is_known → left ≡ Some last)
last_of view name left given file read = by view.is_known refl
  where
    by : (reported : Bool) → view.is_known ≡ reported → (last : List ℕ) × IsReadOf view name last × (IsTrue view.is_known → left ≡ Some last)
    by true is = let h = given is in (h.0, (λ reported. h.1), (λ reported. h.2))
    by false is = (file, read, unknown_view view.is_known is)

-- what a reader gave to its end was read of the name that it was opened under
pub held_read : (view : View) (name : List ℕ) (left : Option (List ℕ)) (bytes : List ℕ) → IsGiven view name left → IfSome left (λ all. bytes ≡ all) → IsReadOf view name bytes
held_read view name left bytes given is = λ reported.
    let g = given reported in
    subst (OpensAs view name) (sym (subst (λ o. IfSome o (λ all. bytes ≡ all)) g.2 is)) g.1

-- of a name that was opened some bytes were read
pub opened_read : (view : View) (name : List ℕ) (left : Option (List ℕ)) → IsGiven view name left → (file : List ℕ) × IsReadOf view name file
opened_read view name left given = by view.is_known refl
  where
    by : (reported : Bool) → view.is_known ≡ reported → (file : List ℕ) × IsReadOf view name file
    by true is = let h = given is in (h.0, λ reported. h.1)
    by false is = ([], unknown_view view.is_known is)
