use Rattle.std.proofs.Common.{◌≡◌, [], Err, IsTrue, Ok, Some, ap, false, refl, subst, sym, true}
use Rattle.std.specs.Prelude.{is_ok}
use Rattle.folder_core.specs.Files.{IsGiven, View}
use Rattle.folder_core.proofs.FileLaws.{given_up, not_kept}
use Rattle.transfer_commands.specs.Playing.{PlayedComesTo, StopsRange, WritesRange, left_in}
use Rattle.transfer_commands.specs.declared.fault.CommandFault.TheVariants.{Call, WriteFailed}
use Rattle.transfer_commands.proofs.PlayLaws.{ended, named_read, played}
use Rattle.transfer_commands.proofs.playing.play_to.Goals as goal

pub returns-in_default : goal.returns-in_default
returns-in_default g c = λ input given. rw c.in_default.ensures.same (record { others = λ other differs. refl; same_known = refl; same_keeping = refl }, refl)

pub returns-in-Ok-handed : goal.returns-in-Ok-handed
returns-in-Ok-handed g c = λ input given.
    let project = c.args.source.project.now in
    let range = c.args.source.range in
    let view = g.F.Folder.view in
    let same = c.in-Ok.ensures.same in
    let left = left_in g.F.In.Read.remaining c.args.source in
    let held = g.F.Out.Write.contents c.in-Ok.wave in
    let written = g.F.Out.Write.contents c.play_source-played.result.1 in
    let made : WritesRange project range left held written c.in-Ok-played.count = rw c.in-Ok-played.is at c.play_source-played.ensures in
    let given_then = subst (λ (v : View). IsGiven v input left) (sym same) given in
    let empty = subst (λ (v : View). IsTrue v.is_known → held ≡ Some []) (sym same) c.in-Ok.ensures.empty in
    subst (λ (v : View). PlayedComesTo project range input c.args.output.now v (view c.hand_back-handed.new.folder) (Ok c.in-Ok-played.count)) same
    (played project range input c.args.output.now (view c.create.new.self) (view c.hand_back-handed.new.folder) left held written given_then empty c.hand_back-handed.ensures.others c.in-Ok-handed.ensures.bytes c.in-Ok-played.count made)

pub returns-in-Err-handed : goal.returns-in-Err-handed
returns-in-Err-handed g c = λ input given.
    let project = c.args.source.project.now in
    let range = c.args.source.range in
    let view = g.F.Folder.view in
    let whole : is_ok c.play_source-played.result.0 ≡ true = ap is_ok c.in-Ok-played.is in
    subst (λ (v : View). PlayedComesTo project range input c.args.output.now v (view c.hand_back-handed.new.folder) (Err WriteFailed)) c.in-Ok.ensures.same
    (c.hand_back-handed.ensures.others, not_kept c.args.output.now (view c.create.new.self) (view c.hand_back-handed.new.folder) (is_ok c.play_source-played.result.0) (g.F.Out.Write.contents c.play_source-played.result.1) whole c.in-Err-handed.ensures.refused)

pub returns-in-Err : goal.returns-in-Err
returns-in-Err g c = λ input given.
    let project = c.args.source.project.now in
    let range = c.args.source.range in
    let fault = c.in-Err.fault in
    let view = g.F.Folder.view in
    let same = c.in-Ok.ensures.same in
    let left = left_in g.F.In.Read.remaining c.args.source in
    let held = g.F.Out.Write.contents c.in-Ok.wave in
    let written = g.F.Out.Write.contents c.play_source-played.result.1 in
    let old = view c.create.new.self in
    let new = view c.hand_back-handed.new.folder in
    let in_part : is_ok c.play_source-played.result.0 ≡ false = ap is_ok c.in-Err.is in
    let stops : StopsRange project range left held written fault = rw c.in-Err.is at c.play_source-played.ensures in
    let given_then = subst (λ (v : View). IsGiven v input left) (sym same) given in
    let empty = subst (λ (v : View). IsTrue v.is_known → held ≡ Some []) (sym same) c.in-Ok.ensures.empty in
    subst (λ (v : View). PlayedComesTo project range input c.args.output.now v new (Err (Call fault))) same (
      (λ reported.
          let file = given_then reported in
          let stays = given_up c.args.output.now old new (is_ok c.play_source-played.result.0) written c.hand_back-handed.result in_part c.hand_back-handed.ensures.whole c.hand_back-handed.ensures.refused reported in
          (file.0, file.1, ended project range c.args.output.now old new left held written stays fault stops file.0 file.2 (empty reported))),
      named_read old input left fault given_then stops.named,
      c.hand_back-handed.ensures.others,
    )
