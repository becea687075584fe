use Rattle.std.proofs.Common.{◌≡◌, Err, IsTrue, [], Ok, Some, ap, false, subst, sym}
use Rattle.std.specs.Prelude.{is_ok}
use Rattle.folder_core.specs.Files.{IsGiven, View}
use Rattle.folder_core.proofs.FileLaws.{given_up}
use Rattle.transfer_commands.specs.BetweenPlaying.{StopsBetween, WritesBetween, edge_channels}
use Rattle.transfer_commands.specs.BetweenSpeaking.{SpokenBetweenComesTo, ordered_parts, parts_order}
use Rattle.transfer_commands.specs.Renaming.{left_parts}
use Rattle.transfer_commands.specs.declared.fault.CommandFault.TheVariants.{Call}
use Rattle.transfer_commands.proofs.BetweenSpeaking.{spoken_between_played, spoken_between_stopped}
use Rattle.transfer_commands.proofs.between_speakers.speak_to.Goals as goal

pub returns-in-Ok-handed : goal.returns-in-Ok-handed
returns-in-Ok-handed g c = λ input given.
    let spoken = c.args.spoken in
    let e = spoken.edges in
    let d = c.args.taps.now in
    let b = edge_channels e e.before.items in
    let a = edge_channels e e.after.items in
    let view = g.F.Folder.view in
    let left = g.R.Read.remaining in
    let same = c.in-Ok.ensures.same in
    let held = g.F.Out.Write.contents c.in-Ok.wave in
    let written = g.F.Out.Write.contents c.speak-played.result.1 in
    let new = view c.hand_back-handed.new.folder in
    let wrote : WritesBetween spoken.head d e.rate b a (ordered_parts left spoken) held written c.in-Ok-played.count = rw c.in-Ok-played.is at c.speak-played.ensures in
    let given_then = subst (λ (v : View). IsGiven v input (left_parts left spoken.parts)) (sym same) given in
    let empty = subst (λ (v : View). IsTrue v.is_known → held ≡ Some []) (sym same) c.in-Ok.ensures.empty in
    subst (λ (v : View). SpokenBetweenComesTo spoken.head d e (parts_order spoken) input c.args.output.now v new (Ok c.in-Ok-played.count)) same
    (spoken_between_played left d spoken input c.args.output.now (view c.create.new.self) new given_then c.hand_back-handed.ensures.others held written empty c.in-Ok-handed.ensures.bytes c.in-Ok-played.count wrote)

pub returns-in-Err : goal.returns-in-Err
returns-in-Err g c = λ input given.
    let spoken = c.args.spoken in
    let e = spoken.edges in
    let d = c.args.taps.now in
    let view = g.F.Folder.view in
    let left = g.R.Read.remaining in
    let output = c.args.output.now in
    let same = c.in-Ok.ensures.same in
    let fault = c.in-Err.fault in
    let held = g.F.Out.Write.contents c.in-Ok.wave in
    let written = g.F.Out.Write.contents c.speak-played.result.1 in
    let old = view c.create.new.self in
    let new = view c.hand_back-handed.new.folder in
    let in_part : is_ok c.speak-played.result.0 ≡ false = ap is_ok c.in-Err.is in
    let stops : StopsBetween spoken.head d e (ordered_parts left spoken) held written fault = rw c.in-Err.is at c.speak-played.ensures in
    let given_then = subst (λ (v : View). IsGiven v input (left_parts left spoken.parts)) (sym same) given in
    let empty = subst (λ (v : View). IsTrue v.is_known → held ≡ Some []) (sym same) c.in-Ok.ensures.empty in
    subst (λ (v : View). SpokenBetweenComesTo spoken.head d e (parts_order spoken) input output v new (Err (Call fault))) same
    (spoken_between_stopped left d spoken input output old new given_then c.hand_back-handed.ensures.others held written empty
    (λ reported. given_up output old new (is_ok c.speak-played.result.0) written c.hand_back-handed.result in_part c.hand_back-handed.ensures.whole c.hand_back-handed.ensures.refused reported) fault stops)
