use Rattle.std.proofs.Common.{◌≡◌, ◌-◌, ◌≤◌, ◌++◌, length, ap, subst, sym, ◌∙◌, refl, Ok, arith}
use Rattle.dop_core.specs.Fields.{channel_number, frame_rate, size_at}
use Rattle.dop_core.specs.Fronts.{Announces}
use Rattle.dop_core.specs.Reading.{checked, format_of}
use Rattle.dop_core.proofs.AnnounceLaws.{announced_by, announced_head, checked_refused, format_refused, stream_refused}
use Rattle.dop_core.proofs.FaultLaws.{fault_is}
use Rattle.dop_core.proofs.FrontLaws.{size_in}
use Rattle.dop_core.proofs.shape.read_announced.Goals as goal

pub returns-in_err-format-clause-refused : goal.returns-in_err-format-clause-refused
returns-in_err-format-clause-refused c =
    let front = c.args.front.now in
    let place : length front - 8 ≡ c.requires.place = omega (arith, c.requires.long) in
    rw (fault_is c.from_residual.result _ c.from_residual.ensures.1) (λ rest.
    format_refused front rest c.requires.place (c.requires.found rest) c.requires.long c.in_err-format.field-0.0 (ap (format_of front) (sym place) ∙ sym c.in_err-format.ensures.exact))

pub returns-in_err-check_format-clause-refused : goal.returns-in_err-check_format-clause-refused
returns-in_err-check_format-clause-refused c =
    let front = c.args.front.now in
    let place : length front - 8 ≡ c.requires.place = omega (arith, c.requires.long) in
    rw (fault_is c.from_residual-in_err-check_format.result _ c.from_residual-in_err-check_format.ensures.1) (λ rest.
    checked_refused front rest c.requires.place (c.requires.found rest) c.requires.long c.in_ok-format.format (ap (format_of front) (sym place) ∙ sym c.in_ok-format.ensures.exact) c.in_ok-format.ensures.long c.in_ok-format.ensures.inside c.in_err-check_format.field-0.0 (sym c.in_err-check_format.ensures.exact))

pub returns-then-size-clause-refused : goal.returns-then-size-clause-refused
returns-then-size-clause-refused c = λ rest.
    let front = c.args.front.now in
    let f = c.in_ok-format.format in
    let place : length front - 8 ≡ c.requires.place = omega (arith, c.requires.long) in
    let same : checked front f ≡ Ok f = sym c.in_ok-check_format.ensures.exact ∙ ap Ok c.in_ok-check_format.ensures.same in
    let size : size_at front c.requires.place ≡ 4294967295 = ap (size_at front) (sym place) ∙ sym c.long_at-size.ensures ∙ c.if-size.true in
    rw c.if-size.true (stream_refused front rest c.requires.place (c.requires.found rest) c.requires.long f (ap (format_of front) (sym place) ∙ sym c.in_ok-format.ensures.exact) c.in_ok-format.ensures.long c.in_ok-format.ensures.inside same size)

pub returns-clause-ok : goal.returns-clause-ok
returns-clause-ok c =
    let front = c.args.front.now in
    let f = c.in_ok-format.format in
    let d = c.requires.place in
    let place : length front - 8 ≡ d = omega (arith, c.requires.long) in
    let format : format_of front d ≡ Ok f = ap (format_of front) (sym place) ∙ sym c.in_ok-format.ensures.exact in
    let same : checked front f ≡ Ok f = sym c.in_ok-check_format.ensures.exact ∙ ap Ok c.in_ok-check_format.ensures.same in
    let size : size_at front d ≡ c.long_at-size.result = ap (size_at front) (sym place) ∙ sym c.long_at-size.ensures in
    let few = c.long_at-size.type_inv in
    let one = c.in_ok-check_format.ensures.same in
    let channels = c.in_ok-check_format.ensures.channels in
    let rate = c.in_ok-check_format.ensures.rate in
    let all : Announces front (announced_by front d f) = record {
      start = refl;
      long = omega (arith, c.requires.long);
      size_is = λ rest. ap (size_at (front ++ rest)) place ∙ size_in d front rest (omega (arith, c.requires.long));
      some = subst (λ g. 1 ≤ channel_number front g) one channels.0;
      six = subst (λ g. channel_number front g ≤ 6) one channels.1;
      rate_low = omega (arith, subst (λ g. 62500 ≤ frame_rate front g) one rate.0);
      rate_high = omega (arith, subst (λ g. frame_rate front g ≤ 3125000) one rate.1);
      frames = refl;
      few = omega (arith, size, few);
      heads = λ rest. announced_head front rest d (c.requires.found rest) c.requires.long f format c.in_ok-format.ensures.long c.in_ok-format.ensures.inside same (λ is. c.if-size.false (sym size ∙ is));
    } in
    rw (c.from-channels.ensures ∙ c.short_at.ensures, c.long_at.ensures, sym size) all
