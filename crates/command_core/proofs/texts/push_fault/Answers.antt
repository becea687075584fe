use Rattle.std.proofs.Common.{◌≡◌, ◌∙◌, ◌++◌, List, Result, Ok, Err, OnOk, ap, append_assoc, codes, cond, is_ok, refl, string_bytes, subst, ℕ}
use Rattle.command_core.specs.Texts.{fault_text, read_text}
use Rattle.command_core.proofs.texts.push_fault.Goals as goal

-- on Ok a text holds what was written
written_on_ok : {X E : Type 0} (new more old : List ℕ) (r : Result X E) → new ≡ cond (is_ok r) more old → OnOk r (new ≡ more)
written_on_ok new more old (Ok x) e = e
written_on_ok new more old (Err f) e = tt

regrouped : (old name text : List ℕ) → old ++ name ++ text ≡ old ++ (name ++ text)
regrouped old name text = simp append_assoc refl

pub returns-in_ok-push_str-in-FileUnread : goal.returns-in_ok-push_str-in-FileUnread
unfolding fault_text
returns-in_ok-push_str-in-FileUnread c =
    let text = read_text c.in-FileUnread.fault in
    let whole = ap (λ (before : List ℕ). before ++ text) c.in_ok-push_str-in-FileUnread.ensures.bytes ∙ regrouped (string_bytes c.args.text.now) (codes "FileUnread ") text in
    rw c.in-FileUnread.is (subst (λ (bytes : List ℕ). OnOk c.push_read_fault.result (string_bytes c.push_read_fault.new.text ≡ bytes)) whole c.push_read_fault.ensures)

pub returns-in-FileRefused : goal.returns-in-FileRefused
unfolding fault_text
returns-in-FileRefused c =
    rw c.in-FileRefused.is (written_on_ok _ (string_bytes c.args.text.now ++ codes "FileRefused") _ c.push_str-in-FileRefused.result c.push_str-in-FileRefused.ensures.bytes)
