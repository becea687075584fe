use Rattle.std.proofs.Common.{◌≡◌, ◌∙◌, [], IsTrue, Some, ap, false, refl, subst, sym, true}
use Rattle.std.specs.Prelude.{is_ok}
use Rattle.folder_core.specs.Files.{IsGiven, View}
use Rattle.folder_core.proofs.FileLaws.{given_up, not_kept}
use Rattle.transfer_commands.specs.DopPlaying.{IsDopUnwritten, LeavesDop, PlaysDopFile, StopsDop, WritesDop}
use Rattle.transfer_commands.proofs.DopLaws.{dop_ended, dop_played}
use Rattle.transfer_commands.proofs.PlayLaws.{named_read}
use Rattle.transfer_commands.proofs.ReadLaws.{opened_read}
use Rattle.transfer_commands.proofs.play_dop.play_dop_file.Goals as goal

pub returns-in_default : goal.returns-in_default
returns-in_default g c = c.open.ensures.same

pub returns-in_default-create : goal.returns-in_default-create
returns-in_default-create g c =
    let view = g.F.Folder.view in
    let input = c.args.input.now in
    let output = c.args.output.now in
    let old = view c.args.folder.now in
    let new = view c.create.new.self in
    let same : new ≡ old = c.in_default-create.ensures.same ∙ c.in-Ok.ensures.same in
    let read = opened_read old input (g.F.In.Read.remaining c.in-Ok.file) c.in-Ok.ensures.bytes in
    record {
      file = read.0;
      file_read = read.1;
      same = ap (λ (v : View). v.file output) same;
      others = rw same (record { others = λ other differs. refl; same_known = refl; same_keeping = refl });
    }

pub returns-in-Ok-handed : goal.returns-in-Ok-handed
returns-in-Ok-handed g c =
    let view = g.F.Folder.view in
    let input = c.args.input.now in
    let output = c.args.output.now in
    let mid = view c.create.new.self in
    let new = view c.hand_back-handed.new.folder in
    let same : mid ≡ view c.args.folder.now = c.in-Ok-create.ensures.same ∙ c.in-Ok.ensures.same in
    let left = g.F.In.Read.remaining c.in-Ok.file in
    let held = g.F.Out.Write.contents c.in-Ok-create.wave in
    let written = g.F.Out.Write.contents c.play_between-played.result.1 in
    let made : WritesDop left held written c.in-Ok-played.count = rw c.in-Ok-played.is at c.play_between-played.ensures in
    let given = subst (λ (v : View). IsGiven v input left) (sym same) c.in-Ok.ensures.bytes in
    let empty = subst (λ (v : View). IsTrue v.is_known → held ≡ Some []) (sym c.in-Ok-create.ensures.same) c.in-Ok-create.ensures.empty in
    subst (λ (v : View). PlaysDopFile input output v new c.in-Ok-played.count) same
    (dop_played input output mid new left held written given empty c.hand_back-handed.ensures.others c.in-Ok-handed.ensures.bytes c.in-Ok-played.count made)

pub returns-in-Err-handed : goal.returns-in-Err-handed
returns-in-Err-handed g c =
    let view = g.F.Folder.view in
    let input = c.args.input.now in
    let output = c.args.output.now in
    let mid = view c.create.new.self in
    let new = view c.hand_back-handed.new.folder in
    let same : mid ≡ view c.args.folder.now = c.in-Ok-create.ensures.same ∙ c.in-Ok.ensures.same in
    let left = g.F.In.Read.remaining c.in-Ok.file in
    let whole : is_ok c.play_between-played.result.0 ≡ true = ap is_ok c.in-Ok-played.is in
    let read = opened_read mid input left (subst (λ (v : View). IsGiven v input left) (sym same) c.in-Ok.ensures.bytes) in
    subst (λ (v : View). IsDopUnwritten input output v new) same (record {
      file = read.0;
      file_read = read.1;
      same = not_kept output mid new (is_ok c.play_between-played.result.0) (g.F.Out.Write.contents c.play_between-played.result.1) whole c.in-Err-handed.ensures.refused;
      others = c.hand_back-handed.ensures.others;
    })

pub returns-in-Err : goal.returns-in-Err
returns-in-Err g c =
    let view = g.F.Folder.view in
    let input = c.args.input.now in
    let output = c.args.output.now in
    let mid = view c.create.new.self in
    let new = view c.hand_back-handed.new.folder in
    let same : mid ≡ view c.args.folder.now = c.in-Ok-create.ensures.same ∙ c.in-Ok.ensures.same in
    let left = g.F.In.Read.remaining c.in-Ok.file in
    let held = g.F.Out.Write.contents c.in-Ok-create.wave in
    let written = g.F.Out.Write.contents c.play_between-played.result.1 in
    let fault = c.in-Err.fault in
    let in_part : is_ok c.play_between-played.result.0 ≡ false = ap is_ok c.in-Err.is in
    let stops : StopsDop left held written fault = rw c.in-Err.is at c.play_between-played.ensures in
    let given = subst (λ (v : View). IsGiven v input left) (sym same) c.in-Ok.ensures.bytes in
    let empty = subst (λ (v : View). IsTrue v.is_known → held ≡ Some []) (sym c.in-Ok-create.ensures.same) c.in-Ok-create.ensures.empty in
    subst (λ (v : View). LeavesDop input output v new fault) same (record {
      ended = λ reported.
          let file = given reported in
          let stays = given_up output mid new (is_ok c.play_between-played.result.0) written c.hand_back-handed.result in_part c.hand_back-handed.ensures.whole c.hand_back-handed.ensures.refused reported in
          (file.0, file.1, dop_ended output mid new left held written stays fault stops file.0 file.2 (empty reported));
      named = named_read mid input left fault given stops.named;
      others = c.hand_back-handed.ensures.others;
    })
