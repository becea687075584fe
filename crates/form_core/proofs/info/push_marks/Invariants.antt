use Rattle.std.proofs.Common.{◌≡◌, ◌++◌, flat_map, map, string_bytes, take}
use Rattle.dsd_bits.specs.Contents.{mark_content}
use Rattle.form_core.specs.Infos.{mark_line}
use Rattle.form_core.proofs.info.push_marks.Given as goal

abbrev pub invariant-loop-mark : goal.invariant-loop-mark
invariant-loop-mark l = string_bytes l.text ≡ string_bytes l.fn.text ++ flat_map (mark_line l.rate) (map mark_content (take l.mark-index l.marks))
