use Rattle.std.proofs.Common.{◌≡◌, false, List, refl, ℕ}
use Rattle.std.specs.Str.{bytes_eq}
use Rattle.std.proofs.lemmas.Bool.{not-true}
use Rattle.std.proofs.lemmas.Bool.Decides.{Decides-not}
use Rattle.std.proofs.lemmas.Slice.Eq.{bytes_eq-Decides}
use Rattle.form_core.proofs.form_names.form_named.Goals as goal

-- texts that differ
other : (xs ys : List ℕ) → (xs ≡ ys → ⊥) → bytes_eq xs ys ≡ false
other xs ys apart = not-true (bytes_eq xs ys) ((Decides-not (bytes_eq xs ys) (bytes_eq-Decides xs ys)).1 apart)

pub returns-in_default : goal.returns-in_default
returns-in_default c = rw (other _ _ c.in_default.not-dsdiff, other _ _ c.in_default.not-dsf, other _ _ c.in_default.not-dsf8) refl
