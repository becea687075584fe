use Rattle.std.proofs.Common.{◌≡◌, Err, IsTrue, [], Ok, Some, ap, false, length, subst, sym}
use Rattle.std.specs.Prelude.{is_ok}
use Rattle.folder_core.specs.Files.{IsGiven, View}
use Rattle.folder_core.proofs.FileLaws.{given_up}
use Rattle.transfer_commands.specs.Playing.{PlaysTo, WritesRange}
use Rattle.transfer_commands.specs.Speaking.{SpokenComesTo, left_spoken, ordered_spoken, with_order}
use Rattle.speaker_core.specs.Reordered.{reordering_groups, reordering_order, reordering_size}
use Rattle.transfer_commands.specs.declared.fault.CommandFault.TheVariants.{Call}
use Rattle.transfer_commands.proofs.SpeakLaws.{spoken_played, spoken_stopped}
use Rattle.transfer_commands.proofs.speaking.speak_to.Goals as goal

pub returns-in-Ok-handed : goal.returns-in-Ok-handed
returns-in-Ok-handed g c = λ input given.
    let spoken = c.args.spoken in
    let view = g.F.Folder.view in
    let left = g.R.Read.remaining in
    let same = c.in-Ok.ensures.same in
    let held = g.F.Out.Write.contents c.in-Ok.wave in
    let written = g.F.Out.Write.contents c.speak-played.result.1 in
    let order = with_order (reordering_order spoken.reordering) (reordering_size spoken.reordering) (reordering_groups spoken.reordering) (length spoken.before.items) in
    let wrote : WritesRange spoken.project.now spoken.range (ordered_spoken left spoken) held written c.in-Ok-played.count = rw c.in-Ok-played.is at c.speak-played.ensures in
    let given_then = subst (λ (v : View). IsGiven v input (left_spoken left spoken)) (sym same) given in
    let empty = subst (λ (v : View). IsTrue v.is_known → held ≡ Some []) (sym same) c.in-Ok.ensures.empty in
    subst (λ (v : View). SpokenComesTo spoken.project.now spoken.range order input c.args.output.now v (view c.hand_back-handed.new.folder) (Ok c.in-Ok-played.count)) same
    (spoken_played left spoken input c.args.output.now (view c.create.new.self) (view c.hand_back-handed.new.folder) given_then c.hand_back-handed.ensures.others held written empty c.in-Ok-handed.ensures.bytes c.in-Ok-played.count wrote)

pub returns-in-Err : goal.returns-in-Err
returns-in-Err g c = λ input given.
    let spoken = c.args.spoken in
    let view = g.F.Folder.view in
    let left = g.R.Read.remaining in
    let same = c.in-Ok.ensures.same in
    let fault = c.in-Err.fault in
    let held = g.F.Out.Write.contents c.in-Ok.wave in
    let written = g.F.Out.Write.contents c.speak-played.result.1 in
    let old = view c.create.new.self in
    let new = view c.hand_back-handed.new.folder in
    let order = with_order (reordering_order spoken.reordering) (reordering_size spoken.reordering) (reordering_groups spoken.reordering) (length spoken.before.items) in
    let in_part : is_ok c.speak-played.result.0 ≡ false = ap is_ok c.in-Err.is in
    let stops : PlaysTo g.F.Out.Write.contents spoken.project.now spoken.range (ordered_spoken left spoken) c.in-Ok.wave c.speak-played.result.1 (Err fault) = rw c.in-Err.is at c.speak-played.ensures in
    let given_then = subst (λ (v : View). IsGiven v input (left_spoken left spoken)) (sym same) given in
    let empty = subst (λ (v : View). IsTrue v.is_known → held ≡ Some []) (sym same) c.in-Ok.ensures.empty in
    subst (λ (v : View). SpokenComesTo spoken.project.now spoken.range order input c.args.output.now v new (Err (Call fault))) same
    (spoken_stopped left spoken input c.args.output.now old new given_then c.hand_back-handed.ensures.others held written empty
    (λ reported. given_up c.args.output.now old new (is_ok c.speak-played.result.0) written c.hand_back-handed.result in_part c.hand_back-handed.ensures.whole c.hand_back-handed.ensures.refused reported) fault stops)
