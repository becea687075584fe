use Rattle.std.proofs.Common.{◌≡◌, ◌<◌, ◌∙◌, [], Global, List, String, ℕ, ap, arith, get_or, length, map, subst, sym}
use Rattle.std.specs.Prelude.{IfOk, string_bytes}
use Rattle.std.proofs.lemmas.List.{get_or-map, length-map}
use Rattle.clip_core.specs.Contents.{mix_content}
use Rattle.null_commands.specs.Sources.{ReadsNamed}
use Rattle.null_commands.proofs.MasterLaws.{take_named}
use Rattle.null_commands.proofs.sources.numbered_take.Goals as goal

-- the name of a number, as bytes
named : (names : List (String Global)) (n : ℕ) (name : String Global) (bytes : List ℕ) → n < length (map string_bytes names) → name ≡ get_or names n name → bytes ≡ string_bytes name → bytes ≡ get_or (map string_bytes names) n []
named names n name bytes there is own = own ∙ ap string_bytes is ∙ sym (get_or-map string_bytes names n name [] (omega (arith, there, length-map names string_bytes)))

pub returns-in-Ok-clause-take : goal.returns-in-Ok-clause-take
returns-in-Ok-clause-take g c =
    let view = g.F.Folder.view c.args.folder.now in
    let mix = mix_content c.args.mix.now in
    let name = named c.args.mix.now.takes.items c.args.number c.index-name.result.now c.deref.result.now c.requires c.index-name.ensures c.deref.ensures in
    subst (λ (name : List ℕ). IfOk c.opened_take.result (ReadsNamed view mix c.args.number name)) name
    (take_named view mix c.args.number c.deref.result.now (g.F.In.Read.remaining c.in-Ok.file) c.in-Ok.ensures.bytes c.opened_take.result c.opened_take.ensures.take c.opened_take.ensures.any_reader)
