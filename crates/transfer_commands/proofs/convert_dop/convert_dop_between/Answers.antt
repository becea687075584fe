use Rattle.transfer_commands.proofs.DopFileLaws.{dop_to}
use Rattle.transfer_commands.proofs.convert_dop.convert_dop_between.Goals as goal

pub returns : goal.returns
returns g c =
    rw (← c.new-inlet.ensures.reader, ← c.new-outlet.ensures.writer, c.into_inner.ensures) (dop_to g.R.Read.remaining g.W.Write.contents c.args.outline.now c.args.form c.new-inlet.result c.convert_dop-came.new.inlet c.new-outlet.result c.convert_dop-came.new.outlet c.convert_dop-came.result c.convert_dop-came.ensures.ok c.convert_dop-came.ensures.prefix)
