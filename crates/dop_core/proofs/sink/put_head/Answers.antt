use Rattle.std.proofs.Common.{arith, subst}
use Rattle.std.specs.Io.KnownBytes.{Appends}
use Rattle.std.proofs.lemmas.Result.{IfErr-weaker, on_err_weaker, on_ok_weaker}
use Rattle.chunk_core.specs.Outlets.{AppendsPart}
use Rattle.sound_core.proofs.FaultLaws.{by_writing}
use Rattle.dop_core.specs.Sinks.{IsDopFault}
use Rattle.dop_core.proofs.FaultLaws.{not_before}
use Rattle.dop_core.proofs.PlayLaws.{part_is_prefix}
use Rattle.dop_core.proofs.WriteLaws.{head_made}
use Rattle.dop_core.proofs.sink.put_head.Goals as goal

pub returns-in-Ok-clause-ok : goal.returns-in-Ok-clause-ok
returns-in-Ok-clause-ok g c = on_ok_weaker c.put.result (λ out. record { divided = omega (arith, c.if-sound-ne0.false); fits = c.in-Ok.ensures.fits; written = subst (Appends _ _) (head_made c.clear.ensures.items c.in-Ok.ensures.ok c.as_slice.ensures.value) out }) c.put.ensures.ok

pub returns-in-Ok-clause-err : goal.returns-in-Ok-clause-err
returns-in-Ok-clause-err g c = on_err_weaker c.put.result (λ out. part_is_prefix _ _ _ (subst (AppendsPart _ _) (head_made c.clear.ensures.items c.in-Ok.ensures.ok c.as_slice.ensures.value) out)) c.put.ensures.err

pub returns-in-Ok-clause-fault : goal.returns-in-Ok-clause-fault
returns-in-Ok-clause-fault g c = IfErr-weaker c.put.result _ _ (λ f h. by_writing (IsDopFault c.args.sound.now) tt tt f h) c.put.ensures.fault

pub returns-in-Ok-clause-unwritten : goal.returns-in-Ok-clause-unwritten
returns-in-Ok-clause-unwritten g c = IfErr-weaker c.put.result _ _ (λ f h. not_before f h) c.put.ensures.fault
