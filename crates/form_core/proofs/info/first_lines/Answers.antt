use Rattle.std.proofs.Common.{◌≡◌, ◌∙◌, ◌++◌, IfOk, List, ℕ, ap, append_assoc, codes, length, refl, string_bytes, subst}
use Rattle.std.specs.Fmt.{decimal}
use Rattle.form_core.specs.FormNames.{name_of}
use Rattle.form_core.proofs.info.first_lines.Goals as goal

-- the lines, grouped as they are written
abbrev written : List ℕ → ℕ → ℕ → ℕ → List ℕ
written form rate channels count = codes "form " ++ (form ++ (codes "\nrate " ++ (decimal rate ++ (codes "\nchannels " ++ (decimal channels ++ (codes "\nsamples " ++ decimal count))))))

regrouped : (xs₁ xs₂ xs₃ xs₄ xs₅ xs₆ xs₇ : List ℕ) → xs₁ ++ (xs₂ ++ (xs₃ ++ (xs₄ ++ (xs₅ ++ (xs₆ ++ xs₇))))) ≡ xs₁ ++ xs₂ ++ xs₃ ++ xs₄ ++ xs₅ ++ xs₆ ++ xs₇
regrouped xs₁ xs₂ xs₃ xs₄ xs₅ xs₆ xs₇ = simp append_assoc refl

pub returns : goal.returns
returns c =
    let form = name_of c.args.form in
    let d = c.args.description.now in
    let reported : written c.name_of-form.result.now c.rate-rate.result (length c.ids.result.now) c.count-count.result ≡ written form d.rate (length d.ids) d.count =
    λ i. written (c.name_of-form.ensures i) (c.rate-rate.ensures.value i) (length (c.ids.ensures.value i)) (c.count-count.ensures.value i) in
    let grouped = ap (λ (lines : List ℕ). codes "form " ++ lines) (regrouped form (codes "\nrate ") (decimal d.rate) (codes "\nchannels ") (decimal (length d.ids)) (codes "\nsamples ") (decimal d.count)) in
    subst (λ (lines : List ℕ). IfOk c.format.result (λ text. string_bytes text ≡ lines)) (reported ∙ grouped) c.format.ensures.ok
