use Rattle.std.proofs.Common.{Global, List, Vec, map, string_bytes, subst}
use Rattle.std.proofs.lemmas.Result.{on_ok_weaker}
use Rattle.null_core.specs.declared.stretch.Stretch.{Stretch}
use Rattle.null_commands.specs.Lines.{Appends, ShowsAllFound, found_from}
use Rattle.null_commands.proofs.LineLaws.{heard_shown}
use Rattle.null_commands.proofs.lines.push_heard.Goals as goal

pub returns : goal.returns
returns c =
    let old = string_bytes c.args.text.now in
    let mid = string_bytes c.push_stretches.new.text in
    on_ok_weaker c.push_verdict.result (heard_shown c.args.full c.args.heard.now old mid (string_bytes c.push_verdict.new.text)
    (subst (λ (lists : List (Vec Stretch Global)). Appends (ShowsAllFound c.args.full (found_from 0 (map (λ (found : Vec Stretch Global). found.items) lists))) old mid) c.as_slice.ensures.value c.in_ok-push_stretches.ensures))
    c.push_verdict.ensures
