use Rattle.std.proofs.Common.{◌∙◌, subst, sym}
use denote.RawPtr.{InBlock}
use Rattle.dsdarc_c.proofs.handle.into_pointer.Goals as goal

pub returns : goal.returns
returns c = subst InBlock (sym (c.as_ptr.ensures ∙ c.cast.ensures ∙ c.from_mut.ensures.value)) tt
