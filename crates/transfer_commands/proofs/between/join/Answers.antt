use Rattle.std.proofs.Common.{List, refl, subst, sym, ℕ}
use Rattle.chunk_core.specs.Outlets.{outlet_writer}
use Rattle.dsd_bits.specs.Lacing.{unlaced_all}
use Rattle.player_core.specs.Between.{AppliesBetweenBy, PlaysBetween}
use Rattle.player_core.specs.Playing.{WritesPrefix}
use Rattle.player_core.specs.declared.joining.Neighbours.{Neighbours}
use Rattle.request_core.specs.Faults.{IfNamed}
use Rattle.sound_core.specs.Naming.{plain}
use Rattle.transfer_core.proofs.StreamLaws.{unread_named}
use Rattle.transfer_commands.specs.Outlining.{IsFirstFault}
use Rattle.transfer_commands.proofs.BetweenLaws.{first_refused}
use Rattle.transfer_commands.proofs.ReportLaws.{first_of_reader}
use Rattle.transfer_commands.proofs.between.join.Goals as goal

pub returns : goal.returns
returns g c =
    let left = g.R.Read.remaining in
    let held = g.W.Write.contents in
    let e = c.args.joined.edges.now in
    let d = c.args.joined.taps.now in
    let head = c.args.joined.head in
    let u = c.in-Err.unread in
    let own = left c.args.reader in
    let after = outlet_writer c.play_between-played.new.outlet in
    let plays = PlaysBetween head d e.rate (unlaced_all e.before.items e.channels) (unlaced_all e.after.items e.channels) in
    let first = first_of_reader left c.args.reader c.new-inlet.result c.play_between-played.new.inlet u c.new-inlet.ensures.reader c.in-Err.ensures.named in
    let around : Neighbours = record { rate = e.rate; channels = e.channels; before = c.deref.result; after = c.deref-2.result } in
    record {
      faults = (
        u,
        c.from.ensures,
        record {
          around = around;
          are_kept = record { rate = refl; channels = refl; before = c.deref.ensures.value; after = c.deref-2.ensures.value };
          applies = subst (λ r. AppliesBetweenBy (left r) head d around (plain u)) c.new-inlet.ensures.reader c.in-Err.ensures.fault;
          first = first_refused own u first;
        },
      );
      named = subst (λ f. IfNamed f (IsFirstFault own)) (sym c.from.ensures) (unread_named (IsFirstFault own) u first);
      prefix = subst (λ w. WritesPrefix own plays (held c.args.wave) (held w)) (sym c.into_inner-wave.ensures)
          (subst (λ w. WritesPrefix own plays (held w) (held after)) c.new-outlet.ensures.writer
          (subst (λ r. WritesPrefix (left r) plays (held (outlet_writer c.new-outlet.result)) (held after)) c.new-inlet.ensures.reader
          (subst (λ (xs : List ℕ). WritesPrefix (left c.new-inlet.result.reader) (PlaysBetween head d e.rate (unlaced_all e.before.items e.channels) (unlaced_all xs e.channels)) (held (outlet_writer c.new-outlet.result)) (held after)) c.deref-2.ensures.value
          (subst (λ (xs : List ℕ). WritesPrefix (left c.new-inlet.result.reader) (PlaysBetween head d e.rate (unlaced_all xs e.channels) (unlaced_all c.deref-2.result.now e.channels)) (held (outlet_writer c.new-outlet.result)) (held after)) c.deref.ensures.value c.in-Err.ensures.prefix))));
    }
