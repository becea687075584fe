use Rattle.std.proofs.Common.{string_bytes}
use Rattle.std.proofs.lemmas.Result.{on_ok_weaker}
use Rattle.null_commands.proofs.LineLaws.{accepted_shown, level_shown}
use Rattle.null_commands.proofs.lines.push_accepted.Goals as goal

pub returns : goal.returns
returns c =
    let start = string_bytes c.write.new.self in
    let new = string_bytes c.push_level.new.text in
    on_ok_weaker c.push_level.result (accepted_shown c.args.full c.args.residual (string_bytes c.args.text.now) start new c.in_ok-write.ensures.bytes)
    (level_shown c.args.full c.args.residual start new c.push_level.result c.push_level.ensures.nothing c.push_level.ensures.level)
