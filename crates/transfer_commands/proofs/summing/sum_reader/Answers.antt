use Rattle.std.proofs.Common.{List, Option, ap, subst, ℕ}
use Rattle.std.specs.Prelude.{IfSome}
use Rattle.transfer_commands.specs.Summing.{AreSumsIn}
use Rattle.transfer_commands.proofs.ReportLaws.{first_of_reader}
use Rattle.transfer_commands.proofs.SumLaws.{left_summed, taken_summed}
use Rattle.transfer_commands.proofs.summing.sum_reader.Goals as goal

pub returns-in-Ok-sums_of : goal.returns-in-Ok-sums_of
returns-in-Ok-sums_of g c =
    let k = c.read_named.new.sink in
    let outline = c.in-Ok.outline in
    let sums = c.in-Ok-sums_of.sums in
    let left = ap g.R.Read.remaining c.new-inlet.ensures.reader in
    let read = c.in-Ok.ensures.any_reader in
    record {
      summed = subst (λ (o : Option (List ℕ)). IfSome o (λ file. AreSumsIn file sums)) left (left_summed k outline sums c.in-Ok-sums_of.ensures _ c.in-Ok.ensures.ok);
      any_reader = (read.0, taken_summed k outline sums c.in-Ok-sums_of.ensures c.in-Ok.ensures.ok.0 read.0 read.2);
      fault = tt;
    }

pub returns-in-Err : goal.returns-in-Err
returns-in-Err g c = record {
  summed = tt;
  any_reader = tt;
  fault = c.refusal_of.ensures (g.R.Read.remaining c.args.file) (first_of_reader g.R.Read.remaining c.args.file c.new-inlet.result c.read_named.new.inlet c.in-Err.unread c.new-inlet.ensures.reader c.in-Err.ensures.named);
}
