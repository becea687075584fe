use Rattle.std.proofs.Common.{◌≡◌, ◌∙◌, [], IsTrue, Some, ap, arith, inl, refl, subst}
use Rattle.std.specs.Prelude.{OnErr, OnOk, is_ok}
use Rattle.chunk_core.specs.Outlets.{outlet_writer}
use Rattle.folder_core.specs.Files.{IsEnded, KeepsOthers, View}
use Rattle.command_core.proofs.WritingLaws.{file_prefix, file_whole, unchanged}
use Rattle.command_core.proofs.writing.write_master.Goals as goal

pub returns : goal.returns
returns g c =
    let name = c.args.name.now in
    let contents = g.F.Out.Write.contents in
    let a = contents (outlet_writer c.new-outlet.result) in
    let b = contents (outlet_writer c.write_master-written.new.outlet) in
    let made = contents c.into_inner.result in
    let old = g.F.Folder.view c.args.folder.now in
    let new = g.F.Folder.view c.hand_back.new.folder in
    let same = c.create_before.ensures.same in
    let others = subst (λ (v : View). KeepsOthers name v new) same c.hand_back.ensures.others in
    let empty : IsTrue old.is_known → a ≡ Some [] = λ reported. ap contents c.new-outlet.ensures.writer ∙ c.in-Ok.ensures.empty reported in
    record {
      planned = c.write_master-written.ensures.planned;
      same = c.write_master-written.ensures.same;
      others = others;
      bytes = λ file is. file_whole name old new others a b made (ap contents c.into_inner.ensures) empty c.write_master-written.result file c.hand_back.result (c.write_master-written.ensures.ok file is) c.hand_back.ensures.whole (subst (λ (v : View). OnOk c.hand_back.result (IsTrue v.is_known → new.file name ≡ made)) same c.hand_back.ensures.bytes);
      refused = λ file is. file_prefix name old new others a b made (ap contents c.into_inner.ensures) empty c.write_master-written.result file c.hand_back.result (c.write_master-written.ensures.err file is) (subst (λ (v : View). OnErr c.hand_back.result (IsEnded name v new (is_ok c.write_master-written.result) made)) same c.hand_back.ensures.refused);
      fault = c.hand_back.ensures.fault;
    }

pub write_master-written-requires : goal.write_master-written-requires
write_master-written-requires g c = record { planned = c.requires; ready = omega arith }

pub returns-in_default : goal.returns-in_default
returns-in_default g c = record {
  planned = c.requires;
  same = refl;
  others = unchanged c.args.name.now (g.F.Folder.view c.args.folder.now) (g.F.Folder.view c.create_before.new.folder) c.create_before.ensures.same;
  bytes = λ file is. tt;
  refused = λ file is reported. inl (ap (λ (v : View). v.file c.args.name.now) c.create_before.ensures.same);
  fault = refl;
}
