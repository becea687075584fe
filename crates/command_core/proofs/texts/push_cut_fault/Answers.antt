use Rattle.std.proofs.Common.{◌≡◌, ◌∙◌, ◌++◌, List, OnOk, ap, append_assoc, codes, refl, string_bytes, subst, ℕ}
use Rattle.std.specs.Fmt.{decimal}
use Rattle.command_core.specs.Texts.{cut_text, read_text}
use Rattle.command_core.proofs.texts.push_cut_fault.Goals as goal

regrouped : (old name number space text : List ℕ) → old ++ (name ++ (number ++ space)) ++ text ≡ old ++ (name ++ number ++ space ++ text)
regrouped old name number space text = simp append_assoc refl

pub returns-in_ok-write-in-TakeUnread : goal.returns-in_ok-write-in-TakeUnread
unfolding cut_text
returns-in_ok-write-in-TakeUnread c =
    let text = read_text c.in-TakeUnread.fault in
    let whole = ap (λ (before : List ℕ). before ++ text) c.in_ok-write-in-TakeUnread.ensures.bytes ∙ regrouped (string_bytes c.args.text.now) (codes "TakeUnread ") (decimal c.in-TakeUnread.take) (codes " ") text in
    rw c.in-TakeUnread.is (subst (λ (bytes : List ℕ). OnOk c.push_read_fault.result (string_bytes c.push_read_fault.new.text ≡ bytes)) whole c.push_read_fault.ensures)

pub returns-in-TakeMismatch : goal.returns-in-TakeMismatch
unfolding cut_text
returns-in-TakeMismatch c = rw c.in-TakeMismatch.is c.write-in-TakeMismatch.ensures.bytes

pub returns-in-CueOutside : goal.returns-in-CueOutside
unfolding cut_text
returns-in-CueOutside c = rw c.in-CueOutside.is c.write-in-CueOutside.ensures.bytes

pub returns-in-NoRoomBefore : goal.returns-in-NoRoomBefore
unfolding cut_text
returns-in-NoRoomBefore c = rw c.in-NoRoomBefore.is c.write-in-NoRoomBefore.ensures.bytes

pub returns-in-NoRoomAfter : goal.returns-in-NoRoomAfter
unfolding cut_text
returns-in-NoRoomAfter c = rw c.in-NoRoomAfter.is c.write-in-NoRoomAfter.ensures.bytes
