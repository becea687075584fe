-- Bytes that don't begin with a head.
use Rattle.std.proofs.Common.{◌≡◌, ◌≢◌, ℕ, ◌<◌, List, ◌++◌, Option, None, Some, IfSome, inl, inr, refl, sym, ap, ◌∙◌, length, take, arith}
use Rattle.std.proofs.lemmas.List.{length-append, append-nil, take_at}
use Rattle.std.specs.Io.KnownBytes.{Consumes, IsAtEnd}
use Rattle.cert_core.specs.Text.{cert_head}
use Rattle.cert_core.specs.Reasons.{HeadReason}
use Rattle.cert_core.specs.declared.verdict.CertReason.TheVariants.{Cut, Head}
use Rattle.cert_core.specs.declared.version.Version.{Version}
use Rattle.cert_core.proofs.Consuming.{after, if_some, short_before}

-- all that was left is shorter than a head
pub short_head : (a b : Option (List ℕ)) (weights entries : ℕ) (bs : List ℕ) → Consumes a b bs → IsAtEnd b → length bs < 12 → IfSome a (λ bytes. (v : Version) → (rest : List ℕ) → bytes ≡ cert_head v weights entries ++ rest → ⊥)
short_head None b weights entries bs c e h = tt
short_head (Some xs) None weights entries bs c e h = absurd c
short_head (Some xs) (Some ys) weights entries bs c e h = λ v rest is.
    let all : xs ≡ bs = c ∙ ap (λ l. bs ++ l) e ∙ append-nil bs in
    absurd (omega (arith, ap length (sym all ∙ is), length-append (cert_head v weights entries) rest))

-- the first twelve bytes are others
pub other_head : (a b : Option (List ℕ)) (weights entries : ℕ) (bs : List ℕ) → Consumes a b bs → length bs ≡ 12 → ((v : Version) → bs ≢ cert_head v weights entries) → IfSome a (λ bytes. (v : Version) → (rest : List ℕ) → bytes ≡ cert_head v weights entries ++ rest → ⊥)
other_head None b weights entries bs c n ne = tt
other_head (Some xs) None weights entries bs c n ne = absurd c
other_head (Some xs) (Some ys) weights entries bs c n ne = λ v rest is.
    ne v (sym (take_at bs ys 12 n) ∙ ap (take 12) (sym c ∙ is) ∙ take_at (cert_head v weights entries) rest 12 refl)

-- the reasons of both
pub short_reason : (a b : Option (List ℕ)) (weights entries : ℕ) (bs : List ℕ) → Consumes a b bs → IsAtEnd b → length bs < 12 → IfSome a (λ bytes. HeadReason weights entries bytes Cut)
short_reason a b weights entries bs c e h = if_some a (λ bytes. length bytes < 12) _ (λ bytes short. inl (refl, short)) (short_before a b bs 12 c e h)

pub other_reason : (a b : Option (List ℕ)) (weights entries : ℕ) (bs : List ℕ) → Consumes a b bs → length bs ≡ 12 → ((v : Version) → bs ≢ cert_head v weights entries) → IfSome a (λ bytes. HeadReason weights entries bytes Head)
other_reason a b weights entries bs c n ne = after (λ bytes. HeadReason weights entries bytes Head) a b bs c (λ rest. inr (refl, (bs, rest, refl, n, ne)))
