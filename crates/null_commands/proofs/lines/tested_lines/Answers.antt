use Rattle.std.proofs.Common.{string_bytes}
use Rattle.null_commands.specs.Lines.{ShowsTested}
use Rattle.null_commands.proofs.LineLaws.{all_shown}
use Rattle.null_commands.proofs.lines.tested_lines.Goals as goal

pub returns-in-Ok : goal.returns-in-Ok
returns-in-Ok c = all_shown (ShowsTested c.args.tested.now) (string_bytes c.new-text.result) (string_bytes c.push_tested.new.text) c.new-text.ensures.bytes c.in-Ok.ensures
