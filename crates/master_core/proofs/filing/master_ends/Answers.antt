use Rattle.std.proofs.Common.{◌≡◌, ◌∙◌, Err, Ok, Result, ap₂, arith, subst}
use Rattle.std.proofs.lemmas.Result.{err_from_is_err_and}
use Rattle.dsdiff_core.specs.ReadAgain.{FitsFields}
use Rattle.dsdiff_core.specs.declared.write_fault.WriteFault.{WriteFault}
use Rattle.dsdiff_core.specs.declared.write_fault.WriteFault.TheVariants.{Memory, NotWholeBytes}
use Rattle.form_core.specs.declared.parts.Ends.{Ends}
use Rattle.form_core.specs.Parts.{FitsIn, head_in, tail_in}
use Rattle.master_core.proofs.filing.master_ends.Goals as goal

-- an answer other than `NotWholeBytes`
want_only : (let r : Result Ends WriteFault = Err Memory in r ≡ Err NotWholeBytes) → ⊥
want_only e = cc

is_well : (ends : Ends) → (let r : Result Ends WriteFault = Ok ends in r ≡ Err NotWholeBytes) → ⊥
is_well ends e = cc

pub returns-in_err-silent : goal.returns-in_err-silent
returns-in_err-silent c =
    let e = err_from_is_err_and c.from_residual.result c.from_residual.ensures.1 in
    record {
      ok = rw e.1 tt;
      not_whole_bytes = rw (e.1, e.2) (λ is. absurd (want_only is));
    }

pub returns-in_err-ends : goal.returns-in_err-ends
returns-in_err-ends c =
    let e = err_from_is_err_and c.from_residual-in_err-ends.result c.from_residual-in_err-ends.ensures.1 in
    record {
      ok = rw e.1 tt;
      not_whole_bytes = rw (e.1, e.2) (λ is. subst (λ n. FitsIn c.args.form n → ⊥) c.length.ensures.value (c.in_err-ends.ensures.not_whole_bytes.0 is));
    }

pub ends_in-requires : goal.ends_in-requires
ends_in-requires c = record { in_limit = c.length.ensures.in_limit }

pub returns-then-len-gt-MOST_AROUND : goal.returns-then-len-gt-MOST_AROUND
returns-then-len-gt-MOST_AROUND c = record {
  ok = tt;
  not_whole_bytes = λ is. absurd (want_only is);
}

pub returns : goal.returns
returns c = record {
  ok = let ends = c.in_ok-ends.ensures in
      record {
        head = ends.head ∙ ap₂ (λ r n. head_in c.args.form r n) c.in_ok-silent.ensures c.length.ensures.value;
        tail = ends.tail ∙ ap₂ (λ r n. tail_in c.args.form r n) c.in_ok-silent.ensures c.length.ensures.value;
        fits = subst (FitsIn c.args.form) c.length.ensures.value ends.fits;
        fields = subst FitsFields c.in_ok-silent.ensures c.fields_fit.ensures;
        head_short = omega (arith, c.if-len-gt-MOST_AROUND.false, c.len.ensures);
        tail_short = omega (arith, c.if-len-gt-MOST_AROUND-2.false, c.len-else-len-gt-MOST_AROUND.ensures);
      };
  not_whole_bytes = λ is. absurd (is_well _ is);
}
