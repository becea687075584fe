-- Nothing is known of a disk's bytes, so that what any folder ensures of them holds.
use Rattle.std.proofs.Common.{refl}
use Rattle.folder_core.proofs.DiskLaws.{if_ok, keeps_unknown, not_known, on_err, on_ok}
use Rattle.folder_core.proofs.disk.DiskFolder.TheImpl.Goals as goal

pub open-tells : goal.open-tells
open-tells g x c = record { same = refl; bytes = if_ok c.result (λ file stated. not_known stated) }

pub create-tells : goal.create-tells
create-tells g x c = record { same = refl; empty = if_ok c.result (λ made stated. not_known stated) }

pub keep-tells : goal.keep-tells
keep-tells g x c = record {
  others = keeps_unknown c.args.name.now;
  bytes = on_ok c.result (λ stated. not_known stated);
  refused = on_err c.result refl;
}

pub give_up-tells : goal.give_up-tells
give_up-tells g x c = record { others = keeps_unknown c.args.name.now; left = λ stated. not_known stated }
