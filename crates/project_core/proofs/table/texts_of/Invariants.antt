use Rattle.std.proofs.Common.{◌≡◌, map, string_bytes}
use Rattle.toml.specs.View.{items_view}
use Rattle.project_core.specs.Reading.{text_of, texts_of}
use Rattle.project_core.specs.Tables.{list_of}
use Rattle.project_core.proofs.Each.{values_left}
use Rattle.project_core.proofs.table.texts_of.Given as goal

abbrev pub invariant-loop-value : goal.invariant-loop-value
invariant-loop-value l = values_left (λ _. text_of l.key l.place) (map string_bytes l.texts.items) l.value-index l.values ≡ texts_of l.key l.place (list_of (items_view l.values))
