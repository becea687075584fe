use Rattle.std.proofs.Common.{◌≡◌, ◌++◌, codes, flat_map, string_bytes, take}
use Rattle.form_core.specs.Infos.{id_text}
use Rattle.form_core.proofs.info.push_ids.Given as goal

abbrev pub invariant-loop-id : goal.invariant-loop-id
invariant-loop-id l = string_bytes l.text ≡ string_bytes l.fn.text ++ codes "\nids" ++ flat_map id_text (take l.id-index l.ids)
