use Rattle.std.proofs.Common.{OnOk, subst, sym}
use Rattle.std.specs.Prelude.{IfErr}
use Rattle.chunk_core.specs.Outlets.{outlet_writer}
use Rattle.sound_core.specs.Outlines.{around_of}
use Rattle.sound_core.specs.Relays.{Relays, RelaysPrefix}
use Rattle.transfer_commands.proofs.renaming.relay_to.Goals as goal

pub returns-clause-ok : goal.returns-clause-ok
returns-clause-ok g c =
    let left = g.R.Read.remaining in
    let held = g.W.Write.contents in
    let o = around_of c.args.outline.now in
    let target = c.args.target.now in
    let came = c.relay-came.result in
    let after = outlet_writer c.relay-came.new.outlet in
    let from = subst (λ r. OnOk came (Relays (left r) target o (held (outlet_writer c.new-outlet.result)) (held after))) c.new-inlet.ensures.reader c.relay-came.ensures.ok in
    let to = subst (λ w. OnOk came (Relays (left c.args.reader) target o (held w) (held after))) c.new-outlet.ensures.writer from in
    subst (λ w. OnOk came (Relays (left c.args.reader) target o (held c.args.made) (held w))) (sym c.into_inner.ensures) to

pub returns-clause-prefix : goal.returns-clause-prefix
returns-clause-prefix g c =
    let left = g.R.Read.remaining in
    let held = g.W.Write.contents in
    let o = around_of c.args.outline.now in
    let target = c.args.target.now in
    let came = c.relay-came.result in
    let after = outlet_writer c.relay-came.new.outlet in
    let from = subst (λ r. IfErr came (RelaysPrefix (left r) target o (held (outlet_writer c.new-outlet.result)) (held after))) c.new-inlet.ensures.reader c.relay-came.ensures.prefix in
    let to = subst (λ w. IfErr came (RelaysPrefix (left c.args.reader) target o (held w) (held after))) c.new-outlet.ensures.writer from in
    subst (λ w. IfErr came (RelaysPrefix (left c.args.reader) target o (held c.args.made) (held w))) (sym c.into_inner.ensures) to
