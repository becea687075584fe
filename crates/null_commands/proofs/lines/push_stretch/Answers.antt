use Rattle.std.proofs.Common.{string_bytes}
use Rattle.null_commands.proofs.LineLaws.{line_shown, shown_level}
use Rattle.null_commands.proofs.lines.push_stretch.Goals as goal

pub returns : goal.returns
returns c =
    let mid = string_bytes c.push_places.new.text in
    let new = string_bytes c.push_level.new.text in
    let level = shown_level c.args.full c.args.stretch.residual mid new c.in_ok-push_level.ensures.nothing c.in_ok-push_level.ensures.level in
    line_shown c.args.full c.args.channel c.args.stretch (string_bytes c.args.text.now) mid new (string_bytes c.writeln.new.self) c.writeln.result c.in_ok-push_places.ensures level c.writeln.ensures.bytes
