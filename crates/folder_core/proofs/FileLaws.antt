-- Files that are read one after the other, and files that were given up.
use Rattle.std.proofs.Common.{◌≡◌, ℕ, Bool, Err, IsTrue, Ok, Option, Result, false, inl, inr, true, ◌+◌, ◌<◌, ◌++◌, ◌∷◌, ◌∙◌, [], List, Vec, Global, String, ap, get_or, length, map, subst, sym, take}
use Rattle.std.specs.List.{AllZip}
use Rattle.std.specs.Prelude.{OnErr, OnOk, string_bytes}
use Rattle.std.proofs.lemmas.List.{map-append, take_more}
use Rattle.folder_core.specs.Files.{AreReadOf, IsEnded, IsGivenUp, IsReadOf, View}

pub zip_more : {A B : Type 0} (R : A → B → Type 0) (xs : List A) (ys : List B) (x : A) (y : B) → AllZip R xs ys → R x y → AllZip R (xs ++ x ∷ []) (ys ++ y ∷ [])
zip_more R [] [] x y before one = (one, tt)
zip_more R [] (b ∷ ys) x y before one = absurd before
zip_more R (a ∷ xs) [] x y before one = absurd before
zip_more R (a ∷ xs) (b ∷ ys) x y before one = (before.0, zip_more R xs ys x y before.1 one)

pub one_file_more : (view : View) (names : List (String Global)) (i : ℕ) (name : String Global) (files more : List (Vec ℕ Global)) (file : List ℕ) → i < length names → name ≡ get_or names i name → AreReadOf view (map string_bytes (take i names)) (map (λ (file : Vec ℕ Global). file.items) files)
    → IsReadOf view (string_bytes name) file → map (λ (file : Vec ℕ Global). file.items) more ≡ map (λ (file : Vec ℕ Global). file.items) files ++ file ∷ [] → AreReadOf view (map string_bytes (take (i + 1) names)) (map (λ (file : Vec ℕ Global). file.items) more)
one_file_more view names i name files more file lt is before given next =
    let last : take (i + 1) names ≡ take i names ++ name ∷ [] = take_more names i name lt ∙ ap (λ n. take i names ++ n ∷ []) (sym is) in
    let named : map string_bytes (take (i + 1) names) ≡ map string_bytes (take i names) ++ string_bytes name ∷ [] = ap (map string_bytes) last ∙ map-append string_bytes (take i names) (name ∷ []) in
    let grown = zip_more (IsReadOf view) (map string_bytes (take i names)) (map (λ (file : Vec ℕ Global). file.items) files) (string_bytes name) file before given in
    subst (λ (ns : List (List ℕ)). AreReadOf view ns (map (λ (file : Vec ℕ Global). file.items) more)) (sym named)
    (subst (λ (fs : List (List ℕ)). AreReadOf view (map string_bytes (take i names) ++ string_bytes name ∷ []) fs) (sym next) grown)

-- a created file that was not written whole was given up
pub given_up : (name : List ℕ) (old new : View) (is_whole : Bool) (held : Option (List ℕ)) {T E : Type 0} (r : Result T E) → is_whole ≡ false → OnOk r (is_whole ≡ true) → OnErr r (IsEnded name old new is_whole held) → IsTrue old.is_known → IsGivenUp name old new held
given_up name old new is_whole held (Ok x) part whole refused stated = let e : false ≡ true = sym part ∙ whole in absurd cc
given_up name old new is_whole held (Err e) part whole (inl same) stated = inl same
given_up name old new is_whole held (Err e) part whole (inr ended) stated = ended.1 stated

-- a file that was written whole and not kept leaves what was there
pub not_kept : (name : List ℕ) (old new : View) (is_whole : Bool) (held : Option (List ℕ)) → is_whole ≡ true → IsEnded name old new is_whole held → new.file name ≡ old.file name
not_kept name old new is_whole held all (inl same) = same
not_kept name old new is_whole held all (inr ended) = let e : false ≡ true = sym ended.0 ∙ all in absurd cc
