use Rattle.std.proofs.Common.{◌≡◌, ◌∙◌, ◌++◌, ℤ, List, ℕ, OnOk, ap, append_assoc, codes, refl, string_bytes, subst, w64}
use Rattle.std.specs.Fmt.{decimal, signed_decimal}
use Rattle.std.proofs.lemmas.Int.{to_z-of_z}
use Rattle.dsd_bits.specs.Contents.{mark_content, MarkContent}
use Rattle.dsdiff_core.specs.MarkPlaces.{place_of}
use Rattle.form_core.proofs.info.push_mark.Goals as goal

-- a text and the line of a mark after it, grouped as they are written
abbrev written : List ℕ → ℤ → MarkContent → List ℕ
written text place mark = text ++ (codes "\nmark " ++ (signed_decimal place ++ (codes " type " ++ (decimal mark.kind ++ (codes " channel " ++ decimal mark.channel)))))

regrouped : (xs₁ xs₂ xs₃ xs₄ xs₅ : List ℕ) → xs₁ ++ (xs₂ ++ (xs₃ ++ (xs₄ ++ xs₅))) ≡ xs₁ ++ xs₂ ++ xs₃ ++ xs₄ ++ xs₅
regrouped xs₁ xs₂ xs₃ xs₄ xs₅ = simp append_assoc refl

pub returns : goal.returns
returns c =
    let mark = mark_content c.args.mark.now in
    let text = string_bytes c.args.text.now in
    let same = to_z-of_z w64 c.place-at.result (record { sfits = c.place-at.type_inv }) in
    subst (λ (line : List ℕ). OnOk c.write.result (string_bytes c.write.new.self ≡ line)) (ap (λ (place : ℤ). written text place mark) (same ∙ c.place-at.ensures) ∙ ap (λ (line : List ℕ). text ++ (codes "\nmark " ++ line)) (regrouped (signed_decimal (place_of mark c.args.rate)) (codes " type ") (decimal mark.kind) (codes " channel ") (decimal mark.channel))) c.write.ensures.bytes
