-- What is known of bytes that were read under a name, whether the folder's bytes are known or not.
use Rattle.std.proofs.Common.{◌≡◌, ◌∙◌, ℕ, Bool, Err, IfOk, IfSome, IsTrue, List, Ok, Option, Result, false, refl, subst, sym, true}
use Rattle.folder_core.specs.Files.{IsGiven, IsReadOf, View}

unknown_view : {A : Type 0} (is_known : Bool) → is_known ≡ false → IsTrue is_known → A
unknown_view is_known is h = let no : false ≡ true = sym is ∙ h in absurd cc

-- what holds of the bytes that a reader has left holds of bytes that were read under its name
pub known_or_some : (view : View) (name : List ℕ) (left : Option (List ℕ)) (P : List ℕ → Type 0) → IsGiven view name left → IfSome left P → (file : List ℕ) × P file → (file : List ℕ) × IsReadOf view name file × P file
known_or_some view name left P given known some = by view.is_known refl
  where
    by : (is_known : Bool) → view.is_known ≡ is_known → (file : List ℕ) × IsReadOf view name file × P file
    by true is = let h = given is in (h.0, (λ stated. h.1), subst (λ (o : Option (List ℕ)). IfSome o P) h.2 known)
    by false is = (some.0, unknown_view view.is_known is, some.1)

-- the same of an answer
pub found_read : {X E : Type 0} (view : View) (name : List ℕ) (left : Option (List ℕ)) (P : List ℕ → X → Type 0) → IsGiven view name left → (r : Result X E) → IfOk r (λ x. IfSome left (λ file. P file x)) → IfOk r (λ x. (file : List ℕ) × P file x)
    → IfOk r (λ x. (file : List ℕ) × IsReadOf view name file × P file x)
found_read view name left P given (Ok x) known some = known_or_some view name left (λ file. P file x) given known some
found_read view name left P given (Err e) known some = tt
