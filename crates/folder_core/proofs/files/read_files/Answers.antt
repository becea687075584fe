use Rattle.std.proofs.Common.{◌∙◌, ℕ, Global, List, Vec, map, subst}
use Rattle.std.specs.Prelude.{string_bytes}
use Rattle.std.proofs.lemmas.List.{take_all}
use Rattle.folder_core.specs.Files.{AreReadOf, IsReadOf, View}
use Rattle.folder_core.proofs.FileLaws.{one_file_more}
use Rattle.folder_core.proofs.files.read_files.Goals as goal

pub loop-name-preserved : goal.loop-name-preserved
loop-name-preserved g c =
    let old = g.F.Folder.view c.args.folder.now in
    let so_far = c.loop-name.invariant in
    let read = c.in_ok-push_file.ensures in
    record {
      same = read.same ∙ so_far.same;
      bytes =
          let one = read.bytes in
          let given = subst (λ (v : View). IsReadOf v c.deref.result.now one.0) so_far.same one.1 in
          one_file_more old c.args.names.now c.loop-name.name-index c.name-item.result c.loop-name.files.items c.push_file.new.files.items one.0 c.loop-name-test.true c.name-item.is so_far.bytes
          (subst (λ (name : List ℕ). IsReadOf old name one.0) c.deref.ensures given) one.2;
    }

pub returns-clause-bytes : goal.returns-clause-bytes
returns-clause-bytes g c =
    subst (λ names. AreReadOf (g.F.Folder.view c.args.folder.now) (map string_bytes names) (map (λ (file : Vec ℕ Global). file.items) c.loop-name.files.items)) (take_all c.loop-name.name-index c.args.names.now c.loop-name-test.false) c.loop-name.invariant.bytes
