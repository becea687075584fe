use Rattle.std.proofs.Common.{◌∙◌, ◌++◌, ap, string_bytes, subst, sym}
use Rattle.std.specs.Str.{IsValidUpTo}
use Rattle.command_core.proofs.SpellingLaws.{spells_last, spells_piece}
use Rattle.command_core.proofs.spelling.push_piece.Goals as goal

pub returns-in_ok-push_str-in-Ok-clause-spelled : goal.returns-in_ok-push_str-in-Ok-clause-spelled
returns-in_ok-push_str-in-Ok-clause-spelled c =
    let (same, utf8) = c.in-Ok.ensures.cases in
    let old = string_bytes c.args.text.now in
    spells_last c.args.bytes.now old (string_bytes c.push_str.new.self) utf8 (c.in_ok-push_str-in-Ok.ensures.bytes ∙ ap (λ l. old ++ l) same)

pub returns-in_ok-rest-in-Err-clause-spelled : goal.returns-in_ok-rest-in-Err-clause-spelled
returns-in_ok-rest-in-Err-clause-spelled c =
    let bytes = c.args.bytes.now in
    let valid = c.split_at.result.0.now in
    let (byte, begins, grown) = c.in_ok-rest-in-Err.ensures in
    let up = subst (IsValidUpTo bytes) (sym (c.split_at.ensures.front_len ∙ c.valid_up_to.ensures)) c.in-Err.ensures.cases.1 in
    spells_piece bytes valid c.in_ok-rest-in-Err.rest.now (string_bytes c.args.text.now) (string_bytes c.push_valid.new.text) (string_bytes c.push_first.new.text) byte
    (c.split_at.ensures.by_index.0 ∙ ap (λ l. valid ++ l) begins) up c.in_ok-push_valid-in-Err.ensures grown
