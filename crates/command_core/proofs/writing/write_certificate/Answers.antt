use Rattle.std.proofs.Common.{◌≡◌, ◌∙◌, [], IsTrue, Some, ap, arith, inl, refl, subst}
use Rattle.std.specs.Prelude.{OnErr, OnOk, is_ok}
use Rattle.chunk_core.specs.Outlets.{outlet_writer}
use Rattle.folder_core.specs.Files.{IsEnded, KeepsOthers, View}
use Rattle.command_core.proofs.WritingLaws.{cert_prefix, cert_whole, unchanged}
use Rattle.command_core.proofs.writing.write_certificate.Goals as goal

pub returns : goal.returns
returns g c =
    let name = c.args.name.now in
    let contents = g.F.Out.Write.contents in
    let a = contents (outlet_writer c.new.result) in
    let b = contents (outlet_writer c.certify_shown-written.result.1) in
    let made = contents c.into_inner.result in
    let old = g.F.Folder.view c.args.folder.now in
    let new = g.F.Folder.view c.hand_back.new.folder in
    let same = c.certify_shown-written.ensures.same ∙ c.create.ensures.same in
    let others = subst (λ (v : View). KeepsOthers name v new) same c.hand_back.ensures.others in
    let empty : IsTrue old.is_known → a ≡ Some [] = λ reported. ap contents c.new.ensures.writer ∙ c.in-Ok.ensures.empty reported in
    record {
      others = others;
      bytes = cert_whole name old new others a b made (ap contents c.into_inner.ensures) empty c.certify_shown-written.result.0 c.args.planned c.hand_back.result c.certify_shown-written.ensures.ok c.hand_back.ensures.whole (subst (λ (v : View). OnOk c.hand_back.result (IsTrue v.is_known → new.file name ≡ made)) same c.hand_back.ensures.bytes);
      refused = cert_prefix name old new others a b made (ap contents c.into_inner.ensures) empty c.certify_shown-written.result.0 c.args.planned c.hand_back.result c.is_certifiable.ensures c.certify_shown-written.ensures.err (subst (λ (v : View). OnErr c.hand_back.result (IsEnded name v new (is_ok c.certify_shown-written.result.0) made)) same c.hand_back.ensures.refused);
      fault = c.hand_back.ensures.fault;
    }

pub certify_shown-written-requires : goal.certify_shown-written-requires
certify_shown-written-requires g c = record { planned = c.requires; ready = omega arith }

pub returns-in_default : goal.returns-in_default
returns-in_default g c =
    let cert = c.is_certifiable.ensures in
    record {
      others = unchanged c.args.name.now (g.F.Folder.view c.args.folder.now) (g.F.Folder.view c.create.new.self) c.create.ensures.same;
      bytes = tt;
      refused = (cert.0, cert.1, λ reported. inl (ap (λ (v : View). v.file c.args.name.now) c.create.ensures.same));
      fault = refl;
    }
