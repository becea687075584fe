use Rattle.std.proofs.Common.{◌≡◌, ℕ, List, None, Err, refl, inl, inr, sym, ◌∙◌}
use Rattle.std.specs.Str.{IsUtf8, is_utf8}
use Rattle.std.proofs.lemmas.Bool.{cases_Bool, false≢true}
use Rattle.std.proofs.lemmas.Str.{is_utf8-from_IsUtf8, IsUtf8-from_is_utf8}
use Rattle.toml.specs.Parse.{parse_document}
use Rattle.project_core.specs.declared.fault.ProjectFault.TheVariants.{NotToml}
use Rattle.project_core.specs.Reading.{document}
use Rattle.project_core.proofs.table.document.Goals as goal

refused : (bytes : List ℕ) → (IsUtf8 bytes → parse_document bytes ≡ None) → document bytes ≡ Err NotToml
unfolding document
refused bytes h =
    elim (cases_Bool (is_utf8 bytes)) [
      | inl is_text ↦ rw (is_text, h (IsUtf8-from_is_utf8 bytes is_text)) refl
      | inr is_none ↦ rw is_none refl
    ]

pub returns-in-Ok : goal.returns-in-Ok
unfolding document
returns-in-Ok c = rw (is_utf8-from_IsUtf8 c.args.bytes.now c.in-Ok.ensures.ok.0, c.in-Ok.ensures.ok.1) refl

pub returns-else-is_memory : goal.returns-else-is_memory
returns-else-is_memory c =
    refused c.args.bytes.now (c.in-Err.ensures.refused (λ m. false≢true (sym c.if-is_memory.false ∙ c.is_memory.ensures.1 m)))
