-- What was consumed so far, and what is left.
use Rattle.std.proofs.Common.{◌≡◌, ℕ, ◌+◌, ◌*◌, ◌<◌, List, [], ◌∷◌, ◌++◌, ◌∙◌, Option, None, Some, Result, Ok, Err, IfSome, refl, sym, ap, subst, length, arith}
use Rattle.std.proofs.lemmas.List.{length-append}
use Rattle.std.specs.Int.{w64, to_be_bytes}
use Rattle.std.specs.Io.KnownBytes.{Consumes, IsAtEnd}
use Rattle.cert_core.specs.Spelling.{row_text}
use Rattle.cert_core.specs.declared.version.Version.TheVariants.{One}
use Rattle.cert_core.specs.declared.verdict.CertReason.{CertReason}
use Rattle.cert_core.specs.declared.stop.Stop.{Stop}
use Rattle.cert_core.specs.declared.stop.Stop.TheVariants.{Reason, Device, Memory}
use Rattle.cert_core.specs.Stops.{OnReason, failed_stops}

pub row_text-length : (row : List ℕ) → length (row_text One row) ≡ 8 * length row
row_text-length [] = refl
row_text-length (v ∷ row) = omega (arith, row_text-length row, length-append (to_be_bytes w64 v) (row_text One row))

-- a fact of what is left is one of all, with what was consumed before it
pub before : (P Q : List ℕ → Type 0) (a b : Option (List ℕ)) (bs : List ℕ) → Consumes a b bs → ((rest : List ℕ) → P rest → Q (bs ++ rest)) → IfSome b P → IfSome a Q
before P Q None b bs c f p = tt
before P Q (Some xs) None bs c f p = absurd c
before P Q (Some xs) (Some ys) bs c f p = subst Q (sym c) (f ys p)

-- what holds of what was consumed and anything after it
pub after : (Q : List ℕ → Type 0) (a b : Option (List ℕ)) (bs : List ℕ) → Consumes a b bs → ((rest : List ℕ) → Q (bs ++ rest)) → IfSome a Q
after Q None b bs c f = tt
after Q (Some xs) None bs c f = absurd c
after Q (Some xs) (Some ys) bs c f = subst Q (sym c) (f ys)

-- a reason goes on to the caller
pub maps : {A : Type 0} (r : Result A Stop) (P Q : CertReason → Type 0) → ((reason : CertReason) → P reason → Q reason) → OnReason r P → OnReason r Q
maps (Ok x) P Q f p = tt
maps (Err (Reason reason)) P Q f p = f reason p
maps (Err Device) P Q f p = tt
maps (Err Memory) P Q f p = tt

-- what an exit says of the fault that it passes on
pub stated_back : {A : Type 0} (r : Result A Stop) (stop : Stop) (P : CertReason → Type 0) → r ≡ Err stop → OnReason {T = A} (Err stop) P → OnReason r P
stated_back r stop P is = subst (λ r. OnReason r P) (sym is)

pub counted_back : {A : Type 0} (r : Result A Stop) (stop : Stop) (new old : ℕ) → r ≡ Err stop → new ≡ old + failed_stops {T = A} (Err stop) → new ≡ old + failed_stops r
counted_back r stop new old is = subst (λ r. new ≡ old + failed_stops r) (sym is)

pub if_some : (a : Option (List ℕ)) (P Q : List ℕ → Type 0) → ((bytes : List ℕ) → P bytes → Q bytes) → IfSome a P → IfSome a Q
if_some None P Q f p = tt
if_some (Some xs) P Q f p = f xs p

-- where nothing was consumed and nothing is left, nothing was left
pub end_before : (a b : Option (List ℕ)) (bs : List ℕ) → Consumes a b bs → IsAtEnd b → length bs ≡ 0 → IsAtEnd a
end_before None b bs c e n = tt
end_before (Some xs) None bs c e n = absurd c
end_before (Some xs) (Some ys) [] c e n = c ∙ e
end_before (Some xs) (Some ys) (x ∷ bs) c e n = absurd (omega arith)

-- all that was left is shorter
pub short_before : (a b : Option (List ℕ)) (bs : List ℕ) (n : ℕ) → Consumes a b bs → IsAtEnd b → length bs < n → IfSome a (λ bytes. length bytes < n)
short_before None b bs n c e h = tt
short_before (Some xs) None bs n c e h = absurd c
short_before (Some xs) (Some ys) bs n c e h = omega (arith, ap length c, length-append bs ys, ap length e)
