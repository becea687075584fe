use Rattle.std.proofs.Common.{◌∙◌, ◌++◌, List, Vec, ap, ℕ}
use Rattle.std.specs.declared.alloc.Global.{Global}
use Rattle.archive_core.proofs.editing.master_of.Goals as goal

pub returns-in-Ok-clause-bytes : goal.returns-in-Ok-clause-bytes
returns-in-Ok-clause-bytes c = λ file is.
    let items : Vec ℕ Global → List ℕ = λ (v : Vec ℕ Global). v.items in
    ap items c.into_inner.ensures ∙ c.in-Ok.ensures.ok file is ∙ ap (λ (l : List ℕ). l ++ file) (ap items c.new-outlet.ensures.writer ∙ c.new.ensures.items)
