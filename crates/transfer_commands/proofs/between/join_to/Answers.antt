use Rattle.std.proofs.Common.{◌≡◌, Err, IsTrue, [], Ok, Some, ap, false, subst, sym}
use Rattle.std.specs.Prelude.{is_ok}
use Rattle.folder_core.specs.Files.{IsGiven, View}
use Rattle.folder_core.proofs.FileLaws.{given_up}
use Rattle.transfer_commands.specs.BetweenPlaying.{FaultsBetween, JoinedComesTo, JoinsTo, StopsBetween, WritesBetween, edge_channels}
use Rattle.transfer_commands.specs.Opening.{left_of}
use Rattle.transfer_commands.specs.declared.fault.CommandFault.TheVariants.{Call}
use Rattle.transfer_commands.proofs.BetweenLaws.{between_ended, between_played}
use Rattle.transfer_commands.proofs.PlayLaws.{named_read}
use Rattle.transfer_commands.proofs.SpeakLaws.{after_bytes}
use Rattle.transfer_commands.proofs.between.join_to.Goals as goal

pub returns-in-Ok-handed : goal.returns-in-Ok-handed
returns-in-Ok-handed g c = λ input given.
    let e = c.args.joined.edges.now in
    let d = c.args.joined.taps.now in
    let head = c.args.joined.head in
    let opened = c.args.opened in
    let view = g.F.Folder.view in
    let same = c.in-Ok.ensures.same in
    let left = left_of g.F.In.Read.remaining opened in
    let held = g.F.Out.Write.contents c.in-Ok.wave in
    let written = g.F.Out.Write.contents c.join-played.result.1 in
    let file = after_bytes c.new.result.inner.items c.new.result.pos opened.prefix.items _ (g.F.In.Read.remaining opened.file) c.chain.ensures.bytes (ap (λ v. v.items) c.new.ensures.inner) c.new.ensures.position in
    let joins = subst (λ o. JoinsTo head d e o held written c.join-played.result.0) file c.join-played.ensures in
    let made : WritesBetween head d e.rate (edge_channels e e.before.items) (edge_channels e e.after.items) left held written c.in-Ok-played.count = rw c.in-Ok-played.is at joins in
    let given_then = subst (λ (v : View). IsGiven v input left) (sym same) given in
    let empty = subst (λ (v : View). IsTrue v.is_known → held ≡ Some []) (sym same) c.in-Ok.ensures.empty in
    subst (λ (v : View). JoinedComesTo head d e input c.args.output.now v (view c.hand_back-handed.new.folder) (Ok c.in-Ok-played.count)) same
    (between_played head d e input c.args.output.now (view c.create.new.self) (view c.hand_back-handed.new.folder) left held written given_then empty c.hand_back-handed.ensures.others c.in-Ok-handed.ensures.bytes c.in-Ok-played.count made)

pub returns-in-Err : goal.returns-in-Err
returns-in-Err g c = λ input given.
    let e = c.args.joined.edges.now in
    let d = c.args.joined.taps.now in
    let head = c.args.joined.head in
    let opened = c.args.opened in
    let view = g.F.Folder.view in
    let same = c.in-Ok.ensures.same in
    let fault = c.in-Err.fault in
    let left = left_of g.F.In.Read.remaining opened in
    let held = g.F.Out.Write.contents c.in-Ok.wave in
    let written = g.F.Out.Write.contents c.join-played.result.1 in
    let old = view c.create.new.self in
    let new = view c.hand_back-handed.new.folder in
    let file = after_bytes c.new.result.inner.items c.new.result.pos opened.prefix.items _ (g.F.In.Read.remaining opened.file) c.chain.ensures.bytes (ap (λ v. v.items) c.new.ensures.inner) c.new.ensures.position in
    let joins = subst (λ o. JoinsTo head d e o held written c.join-played.result.0) file c.join-played.ensures in
    let stops : StopsBetween head d e left held written fault = rw c.in-Err.is at joins in
    let in_part : is_ok c.join-played.result.0 ≡ false = ap is_ok c.in-Err.is in
    let given_then = subst (λ (v : View). IsGiven v input left) (sym same) given in
    let empty = subst (λ (v : View). IsTrue v.is_known → held ≡ Some []) (sym same) c.in-Ok.ensures.empty in
    subst (λ (v : View). JoinedComesTo head d e input c.args.output.now v new (Err (Call fault))) same (
      (λ reported.
          let opens = given_then reported in
          let stays = given_up c.args.output.now old new (is_ok c.join-played.result.0) written c.hand_back-handed.result in_part c.hand_back-handed.ensures.whole c.hand_back-handed.ensures.refused reported in
          (opens.0, opens.1, between_ended head d e input c.args.output.now old new left held written stays fault stops opens.0 opens.2 (empty reported), subst (λ o. FaultsBetween o head d e fault) opens.2 stops.faults)),
      named_read old input left fault given_then stops.named,
      c.hand_back-handed.ensures.others,
    )
