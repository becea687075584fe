use Rattle.std.proofs.Common.{◌≡◌, List, ℕ, [], ◌++◌, Err, subst}
use Rattle.std.proofs.lemmas.Result.{IfErr-weaker}
use Rattle.dop_core.specs.Reading.{recording_of}
use Rattle.dop_core.proofs.FaultLaws.{fault_is}
use Rattle.dop_core.proofs.OutlineLaws.{names_before, read_before, refused_on}
use Rattle.dop_core.proofs.ReadingLaws.{names_any}
use Rattle.dop_core.proofs.outline.scan_dop.Goals as goal

pub returns-in_err-said-clause-named : goal.returns-in_err-said-clause-named
returns-in_err-said-clause-named g c =
    let front = c.in_ok-front.front.items in
    rw (fault_is c.from_residual-in_err-said.result _ c.from_residual-in_err-said.ensures.1)
    (names_any g.R.Read.remaining c.args.inlet.now c.read_front.new.inlet [] front _ c.in_ok-front.ensures.front.pulled (λ rest. subst (λ (xs : List ℕ). recording_of (xs ++ rest) ≡ Err c.in_err-said.field-0.0) c.deref.ensures.value (c.in_err-said.ensures.refused rest)))

pub returns-clause-named : goal.returns-clause-named
returns-clause-named g c =
    let front = c.in_ok-front.front.items in
    IfErr-weaker c.scan_after.result _ _ (λ stop. refused_on stop _ _ (λ e. names_before g.R.Read.remaining c.args.inlet.now c.read_front.new.inlet c.scan_after.new.inlet front e c.in_ok-front.ensures.front.pulled)) c.scan_after.ensures.named

pub returns-clause-read : goal.returns-clause-read
returns-clause-read g c = read_before g.R.Read.remaining c.args.inlet.now c.read_front.new.inlet c.scan_after.new.inlet c.in_ok-front.front.items c.scan_after.result c.in_ok-front.ensures.front.pulled c.scan_after.ensures.front c.scan_after.ensures.read
