-- Law: the cut of files and a splice is the result of reading them in order.
use Rattle.std.specs.Prelude.{◌≡◌, ◌↔◌, ℕ, List, Ok, Option}
use Rattle.splice_core.specs.Splices.{SpliceContent}
use Rattle.form_core.specs.declared.form.Form.{Form}
use Rattle.cut_core.specs.Cuts.{CutContent}
use Rattle.cut_core.specs.Opening.{OpensCut, cut_of}

-- files hold the takes of a cut exactly if reading in order returns it
abbrev pub OpensInOrder : Type 0
OpensInOrder = (splice : SpliceContent) (files : List (List ℕ)) (form : Option Form) (cut : CutContent) → OpensCut splice files form cut ↔ (cut_of splice files form ≡ Ok cut)
