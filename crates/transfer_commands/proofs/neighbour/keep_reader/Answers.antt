use Rattle.std.proofs.Common.{◌∷◌, [], List, Option, ap, subst, ℕ}
use Rattle.std.specs.Prelude.{IfSome}
use Rattle.sound_core.specs.Keeping.{IsKeptOf, stretches_in}
use Rattle.sound_core.specs.Outlines.{around_of}
use Rattle.transfer_commands.proofs.ReportLaws.{first_of_reader}
use Rattle.transfer_commands.proofs.neighbour.keep_reader.Goals as goal

pub returns-in-Ok : goal.returns-in-Ok
returns-in-Ok g c =
    let is = c.in-Ok.ensures in
    let k = c.in-Ok.kept in
    let left = ap g.R.Read.remaining c.new-inlet.ensures.reader in
    record {
      kept = record {
        keeps = record { stated = is.ok.0; some = (is.any_reader.0, is.any_reader.2) };
        known = subst (λ (o : Option (List ℕ)). IfSome o (IsKeptOf (around_of k.outline) (c.args.range ∷ []) (stretches_in k))) left is.ok.1;
      };
      fault = tt;
    }

pub returns : goal.returns
returns g c =
    let left = g.R.Read.remaining in
    record {
      kept = tt;
      fault = c.refusal_of.ensures (left c.args.reader) (first_of_reader left c.args.reader c.new-inlet.result c.read_stretches.new.inlet c.in-Err.unread c.new-inlet.ensures.reader c.in-Err.ensures.named);
    }
