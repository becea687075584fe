-- From the bytes that were read to what they say of a row of the second version.
use Rattle.std.proofs.Common.{◌≡◌, ℕ, ◌+◌, ◌*◌, ◌^◌, ◌<◌, ◌≤◌, ◌⊎◌, List, [], ◌∷◌, ◌++◌, map, Option, refl, sym, ap, ap₂, ◌∙◌, subst, append_assoc, length, length-take-le, take, take-append-drop, get_or, inl, inr, arith}
use Rattle.std.specs.List.{flat_map}
use Rattle.std.specs.Int.{w64, to_be_bytes, bytes_high_first}
use Rattle.std.proofs.Math.Seq.{drop-cons}
use Rattle.std.proofs.lemmas.List.{drop_all, get_or-map, length-map}
use Rattle.std.specs.Io.KnownBytes.{Consumes}
use Rattle.std.proofs.KnownBytes.{Consumes-trans}
use Rattle.cert_core.specs.declared.verdict.CertReason.{CertReason}
use Rattle.cert_core.specs.declared.verdict.CertReason.TheVariants.{Cut, Row}
use Rattle.cert_core.specs.Reasons.{Bounded, SpellingReason}
use Rattle.cert_core.specs.Spelling.{HoldsRow, IsTooWide, floor, raised_text}
use Rattle.cert_core.specs.Stops.{CutBelow, InForm, InSpelling, RaisedReason}
use Rattle.cert_core.specs.declared.version.Version.TheVariants.{Two}
use Rattle.cert_core.proofs.Consuming.{after, before}
use Rattle.cert_core.proofs.Raised.{floor_low, own_only}

-- what a row begins with, and its excesses
pub raised_consumed : (a b c : Option (List ℕ)) (least width : ℕ) (over bs : List ℕ) → Consumes a b (raised_text least width []) → Consumes b c bs → bs ≡ flat_map (bytes_high_first width) over → Consumes a c (raised_text least width over)
raised_consumed a b c least width over bs p q is =
    subst (Consumes a c) (append_assoc (to_be_bytes w64 least) (width ∷ []) bs ∙ ap (λ l. to_be_bytes w64 least ++ (width ∷ l)) is) (Consumes-trans a b c (raised_text least width []) bs p q)

-- bytes that end before the excesses do
pub cut_in_excesses : (a b : Option (List ℕ)) (m level least width : ℕ) (reason : CertReason) → Consumes a b (raised_text least width []) → width ≤ 8 → CutBelow b (width * m) reason → InSpelling Two m level a reason
cut_in_excesses a b m level least width reason p few (is, short) =
    subst (InSpelling Two m level a) (sym is)
    (before (λ rest. length rest < width * m) (λ bytes. SpellingReason Two m level bytes Cut) a b (raised_text least width []) p
    (λ rest h. inr (to_be_bytes w64 least, width, rest, append_assoc (to_be_bytes w64 least) (width ∷ []) rest, refl, few, h)) short)

-- the nine bytes before the excesses
module _ (form : List ℕ) (nine : length form ≡ 9) where
  parts : (width : ℕ) → width ≡ get_or form 8 0 → form ≡ take 8 form ++ (width ∷ [])
  parts width w =
      sym (take-append-drop 8 form) ∙ ap (λ l. take 8 form ++ l) (drop-cons form 8 0 (omega arith) ∙ ap₂ (λ x l. x ∷ l) (sym w) (drop_all 9 form (omega arith)))

  -- are a number and a width
  pub form_text : (least width : ℕ) → take 8 form ≡ to_be_bytes w64 least → width ≡ get_or form 8 0 → form ≡ raised_text least width []
  form_text least width is w = parts width w ∙ ap (λ l. l ++ (width ∷ [])) is

  -- perhaps one that is too wide
  pub too_wide : (a b : Option (List ℕ)) (level width : ℕ) → Consumes a b form → width ≡ get_or form 8 0 → 8 < width → InForm level a (Row level)
  too_wide a b level width p w wide =
      after (λ bytes. ((Row level ≡ Cut) × (length bytes < 9)) ⊎ ((Row level ≡ Row level) × IsTooWide Two bytes)) a b form p
      (λ rest. inr (refl, (take 8 form, width, rest, ap (λ l. l ++ rest) (parts width w) ∙ append_assoc (take 8 form) (width ∷ []) rest, length-take-le 8 form (omega arith), wide)))

-- what is wrong with numbers over another is wrong with the row of the bytes that they were read from
pub raised_first : (a c : Option (List ℕ)) (m level least width : ℕ) (over : List ℕ) (reason : CertReason) → Consumes a c (raised_text least width over) → length over ≡ m → 0 < m → least < 2 ^ 64 → width ≤ 8
    → ((q : ℕ) → get_or over q 0 < 256 ^ width) → RaisedReason least width level over reason → InSpelling Two m level a reason
raised_first a c m level least width over reason p long some small few fits w = after (λ bytes. SpellingReason Two m level bytes reason) a c (raised_text least width over) p (λ rest. stated rest w) where
  row : List ℕ
  row = map (λ v. least + v) over

  held : (rest : List ℕ) → HoldsRow Two m (raised_text least width over ++ rest) row rest
  held rest = (least, width, over, refl, long, small, few, fits, refl)

  stated : (rest : List ℕ) → RaisedReason least width level over reason → SpellingReason Two m level (raised_text least width over ++ rest) reason
  stated rest (inl (e, (q, below, above))) =
      let at : get_or row q 0 ≡ least + get_or over q 0 = get_or-map (λ v. least + v) over q 0 0 below in
      subst (SpellingReason Two m level (raised_text least width over ++ rest)) (sym e) (row, rest, held rest, (q, omega (arith, below, long), omega (arith, above, at)))
  stated rest (inr (e, bounded, other)) =
      let all : Bounded m row = λ q h. bounded q (omega (arith, h, long)) in
      let n : 0 < length over = omega (arith, some, long) in
      let low : floor row < 2 ^ 64 = omega (arith, floor_low row 0 (omega (arith, n, length-map over (λ v. least + v))), all 0 some) in
      subst (SpellingReason Two m level (raised_text least width over ++ rest)) (sym e) (refl, inr (row, rest, held rest, all, λ is. own_only least width over n small low rest is other))
