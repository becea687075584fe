use Rattle.std.proofs.Common.{◌≡◌, [], length, rules, string_bytes}
use Rattle.command_core.proofs.SpellingLaws.{all_spelled, spells_more}
use Rattle.command_core.proofs.spelling.spelled.Goals as goal

pub loop-rest-preserved : goal.loop-rest-preserved
loop-rest-preserved c = spells_more c.args.bytes.now c.loop-rest.rest.now c.in_ok-rest.rest.now [] (string_bytes c.loop-rest.text) (string_bytes c.push_piece.new.text) c.loop-rest.invariant c.in_ok-rest.ensures.spelled

pub returns : goal.returns
returns c =
    let none : length c.loop-rest.rest.now ≡ 0 = search rules in
    all_spelled c.args.bytes.now c.loop-rest.rest.now (string_bytes c.loop-rest.text) none c.loop-rest.invariant
