use Rattle.std.proofs.Common.{◌≡◌, ◌++◌, codes, flat_map, string_bytes, take}
use Rattle.form_core.specs.Infos.{hexadecimal}
use Rattle.command_core.proofs.file_texts.push_id.Given as goal

abbrev pub invariant-loop-byte : goal.invariant-loop-byte
invariant-loop-byte l = string_bytes l.text ≡ string_bytes l.fn.text ++ codes " " ++ flat_map hexadecimal (take l.byte-index l.fn.id)
