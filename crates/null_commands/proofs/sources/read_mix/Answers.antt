use Rattle.std.proofs.Common.{IfErr, IfOk, List, ℕ, subst}
use Rattle.clip_core.specs.Contents.{mix_content}
use Rattle.mix_core.specs.Meaning.{IsMix}
use Rattle.null_commands.specs.Sources.{IsTextFault}
use Rattle.null_commands.proofs.SourceLaws.{mix_read, mix_unread}
use Rattle.null_commands.proofs.sources.read_mix.Goals as goal

pub returns-in-Ok : goal.returns-in-Ok
returns-in-Ok g c =
    let old = g.F.Folder.view c.args.folder.now in
    let text = c.in-Ok.text.items in
    let bytes = c.deref.ensures.value in
    record {
      same = c.read_file.ensures.same;
      mix = mix_read old c.args.name.now text c.mix_of.result c.in-Ok.ensures.bytes (subst (λ (text : List ℕ). IfOk c.mix_of.result (λ mix. IsMix text (mix_content mix))) bytes c.mix_of.ensures.says);
      fault = mix_unread old c.args.name.now text c.mix_of.result c.in-Ok.ensures.bytes (subst (λ (text : List ℕ). IfErr c.mix_of.result (IsTextFault text)) bytes c.mix_of.ensures.fault);
    }
