-- Marks of a recording.
use Rattle.std.proofs.Common.{◌≡◌, ℕ, ◌<◌, List, Some, get_or, length, map, option_map, slice_get, ap, sym, ◌∙◌}
use Rattle.std.proofs.lemmas.Option.{slice_get-get_or, slice_get-map}
use Rattle.dsd_bits.specs.declared.marks.Mark.{Mark}
use Rattle.dsd_bits.specs.Contents.{mark_content}

pub mark_there : (marks : List Mark) (n : ℕ) (m : Mark) → n < length marks → m ≡ get_or marks n m → slice_get (map mark_content marks) n ≡ Some (mark_content m)
mark_there marks n m low is = slice_get-map mark_content marks n ∙ ap (option_map mark_content) (slice_get-get_or marks n m low ∙ ap (λ x. Some x) (sym is))
