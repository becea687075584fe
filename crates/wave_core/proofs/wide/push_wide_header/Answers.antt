use Rattle.std.proofs.Common.{arith, refl}
use Rattle.std.proofs.lemmas.Result.{err_from_is_err_and}
use Rattle.wave_core.specs.Heads.{wide_header}
use Rattle.wave_core.proofs.FaultLaws.{memory_stated}
use Rattle.wave_core.proofs.wide.push_wide_header.Goals as goal

pub returns-in_default : goal.returns-in_default
returns-in_default c = record { ok = tt; fits = tt; too_large = (λ e. c.in_default.ensures.none, λ large. refl); unchanged = refl }

pub returns-in_err-header : goal.returns-in_err-header
returns-in_err-header c =
    let stated = c.from_residual.ensures.1 in
    let e = err_from_is_err_and c.from_residual.result stated in
    record {
      ok = rw e.1 tt;
      fits = rw e.1 tt;
      too_large = memory_stated c.from_residual.result _ stated (λ large. omega (arith, c.in-Some.ensures.riff_size, large));
      unchanged = rw e.1 (λ i. c.args.out.now.items);
    }

pub returns-in_err-push_wide_fields : goal.returns-in_err-push_wide_fields
returns-in_err-push_wide_fields c =
    let stated = c.from_residual-in_err-push_wide_fields.ensures.1 in
    let e = err_from_is_err_and c.from_residual-in_err-push_wide_fields.result stated in
    record {
      ok = rw e.1 tt;
      fits = rw e.1 tt;
      too_large = memory_stated c.from_residual-in_err-push_wide_fields.result _ stated (λ large. omega (arith, c.in-Some.ensures.riff_size, large));
      unchanged = rw e.1 (λ i. c.args.out.now.items);
    }

pub returns-in_err-extend_from_slice : goal.returns-in_err-extend_from_slice
returns-in_err-extend_from_slice c =
    let stated = c.from_residual-in_err-extend_from_slice.ensures.1 in
    let e = err_from_is_err_and c.from_residual-in_err-extend_from_slice.result stated in
    record {
      ok = rw e.1 tt;
      fits = rw e.1 tt;
      too_large = memory_stated c.from_residual-in_err-extend_from_slice.result _ stated (λ large. omega (arith, c.in-Some.ensures.riff_size, large));
      unchanged = rw e.1 c.in_err-extend_from_slice.ensures.items;
    }

pub returns-clause-ok : goal.returns-clause-ok
unfolding wide_header
returns-clause-ok c =
    rw (c.in_ok-extend_from_slice.ensures.items, c.deref.ensures.value, c.in_ok-push_wide_fields.ensures, c.in_ok-header.ensures.items, c.in-Some.ensures.riff_size, c.in-Some.ensures.data_size, c.in-Some.ensures.frames) refl
