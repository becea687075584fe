use Rattle.std.proofs.lemmas.Result.{IfErr-weaker}
use Rattle.chunk_core.specs.Inlets.{inlet_reader}
use Rattle.dop_core.proofs.CauseLaws.{causes}
use Rattle.dop_core.proofs.playing.play_dop.Goals as goal

pub returns-clause-cause : goal.returns-clause-cause
returns-clause-cause g c = causes (g.R.Read.remaining (inlet_reader c.args.inlet.now)) c.play_file.result (IfErr-weaker c.play_file.result _ _ (λ u h. h.fault) c.play_file.ensures.fault)
