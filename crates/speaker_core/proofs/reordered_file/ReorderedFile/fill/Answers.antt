use Rattle.std.proofs.Common.{◌≡◌, ◌*◌, ◌≤◌, IfOk, IsTrue, IsFalse, [], length, take, drop, drop_of_length-le, refl, sym, ap, ap₂, subst, ◌∙◌, arith}
use Rattle.std.specs.Io.KnownBytes.{IsAtEnd, Keeps, prepend_known}
use Rattle.std.proofs.lemmas.List.{with_items_is}
use Rattle.speaker_core.specs.Reordered.{left_in_order, reordered_known}
use Rattle.speaker_core.specs.Reordering.{groups_in}
use Rattle.speaker_core.proofs.ReadingLaws.{filled_up, fits_room, has_next, left_again, on_either, on_ok_too, times_le, waited}
use Rattle.speaker_core.proofs.reordered_file.ReorderedFile.fill.Goals as goal

pub returns-in-Ok-clause-kept : goal.returns-in-Ok-clause-kept
returns-in-Ok-clause-kept g c =
    let left = g.R.Read.remaining in
    let own = c.args.self.now in
    let new = c.put_in_order.new.self in
    let order = own.order.items in
    let size = own.size in
    let filled = c.read_on-filled.result.0 in
    let buffer = c.read_on-filled.new.buffer in
    let file = c.read_on-filled.new.file in
    let groups = c.parts_of-groups.result.0 in
    let later = c.parts_of-groups.result.1 in
    let wanted = c.min-batch.result * (c.len.result * size) in
    let value = c.deref_mut.ensures.value in
    let long : length buffer ≡ own.raw.len = c.read_on-filled.ensures.long ∙ ap length value ∙ sym own.raw.ok.0 in
    let raw_is = with_items_is own.raw buffer long in
    let keeps = subst (λ l. Keeps (prepend_known (take own.filled l) (left own.file)) (prepend_known (take filled buffer) (left file))) value c.read_on-filled.ensures.kept in
    let size_is = ap (λ n. c.min-batch.result * (n * size)) (c.len.ensures ∙ own.order.ok.0) in
    let room : wanted ≤ length buffer = omega (arith, size_is, times_le c.min-batch.result own.most (length order * size) (omega (arith, c.min-batch.ensures)), own.room, long, own.raw.ok.0) in
    let none = drop_of_length-le own.ready.items c.requires.given in
    let front = drop own.given own.ready.items in
    on_either c.put_in_order.result c.put_in_order.ensures.ok c.put_in_order.ensures.err
    (λ is.
    let kept = filled_up order size own.groups c.min-batch.result groups later filled wanted front new.raw.items new.ready.items buffer (prepend_known (take own.filled own.raw.items) (left own.file)) (left file) c.in-Ok.is_at_end none keeps
    (is.ready ∙ ap (λ l. groups_in order size groups (take filled l)) raw_is)
    (subst (λ r. IfOk r (λ e. IsTrue e → IsAtEnd (left file))) c.in-Ok.is c.read_on-filled.ensures.at_end) c.parts_of-groups.ensures.ended
    (subst (λ r. IfOk r (λ e. IsFalse e → filled ≡ wanted)) c.in-Ok.is c.read_on-filled.ensures.full) c.parts_of-groups.ensures.not_ended size_is room in
    subst (Keeps (left_in_order left own)) (sym (left_again order new.order.items size new.size later new.groups 0 new.given 0 new.filled new.ready.items new.ready.items new.raw.items new.raw.items (left file) (left new.file) is.order is.size is.groups_left is.given is.filled refl refl (ap left is.file))) kept)
    (λ is.
    subst (Keeps (left_in_order left own)) (sym (left_again order new.order.items size new.size own.groups new.groups 0 new.given filled new.filled [] new.ready.items buffer new.raw.items (left file) (left new.file) is.order is.size is.groups_left is.given is.filled is.ready (is.raw ∙ raw_is) (ap left is.file)))
    (waited order size own.groups front _ _ none keeps))

pub returns-in-Ok-clause-some : goal.returns-in-Ok-clause-some
returns-in-Ok-clause-some g c =
    let own = c.args.self.now in
    let new = c.put_in_order.new.self in
    let order = own.order.items in
    let size = own.size in
    let filled = c.read_on-filled.result.0 in
    let buffer = c.read_on-filled.new.buffer in
    let groups = c.parts_of-groups.result.0 in
    let wanted = c.min-batch.result * (c.len.result * size) in
    let long : length buffer ≡ own.raw.len = c.read_on-filled.ensures.long ∙ ap length c.deref_mut.ensures.value ∙ sym own.raw.ok.0 in
    let raw_is = with_items_is own.raw buffer long in
    let size_is = ap (λ n. c.min-batch.result * (n * size)) (c.len.ensures ∙ own.order.ok.0) in
    let room : wanted ≤ length buffer = omega (arith, size_is, times_le c.min-batch.result own.most (length order * size) (omega (arith, c.min-batch.ensures)), own.room, long, own.raw.ok.0) in
    on_ok_too c.put_in_order.result c.put_in_order.ensures.ok (λ is.
    has_next order size own.groups c.min-batch.result groups c.parts_of-groups.result.1 filled wanted new.given new.groups new.ready.items buffer c.in-Ok.is_at_end own.channels own.some
    (omega (arith, c.min-batch.ensures, own.at_once, c.requires.some)) is.given is.groups_left (is.ready ∙ ap (λ l. groups_in order size groups (take filled l)) raw_is) c.parts_of-groups.ensures.ended
    (subst (λ r. IfOk r (λ e. IsFalse e → filled ≡ wanted)) c.in-Ok.is c.read_on-filled.ensures.full) c.parts_of-groups.ensures.not_ended size_is room)

pub overflow_mul-wanted : goal.overflow_mul-wanted
overflow_mul-wanted g c =
    let own = c.args.self.now in
    omega (arith, ap (λ n. n * own.size) (c.len.ensures ∙ own.order.ok.0), own.fits)

pub overflow_mul-wanted-2 : goal.overflow_mul-wanted-2
overflow_mul-wanted-2 g c =
    let own = c.args.self.now in
    omega (arith, fits_room c.min-batch.result own.most own.groups c.len.result (length own.order.items) own.size (length own.raw.items) c.min-batch.ensures (c.len.ensures ∙ own.order.ok.0) own.room, own.raw.small)

pub read_on-filled-requires-clause-room : goal.read_on-filled-requires-clause-room
read_on-filled-requires-clause-room g c =
    let own = c.args.self.now in
    omega (arith, fits_room c.min-batch.result own.most own.groups c.len.result (length own.order.items) own.size (length own.raw.items) c.min-batch.ensures (c.len.ensures ∙ own.order.ok.0) own.room, ap length c.deref_mut.ensures.value)

pub read_on-filled-requires-clause-few : goal.read_on-filled-requires-clause-few
read_on-filled-requires-clause-few g c =
    let own = c.args.self.now in
    omega (arith, own.few, ap₂ (λ b n. b * (n * own.size)) c.min-batch.ensures (c.len.ensures ∙ own.order.ok.0))

pub returns-in-Err-clause-kept : goal.returns-in-Err-clause-kept
returns-in-Err-clause-kept g c =
    let left = g.R.Read.remaining in
    let own = c.args.self.now in
    let order = own.order.items in
    let filled = c.read_on-filled.result.0 in
    let buffer = c.read_on-filled.new.buffer in
    let file = c.read_on-filled.new.file in
    let value = c.deref_mut.ensures.value in
    let long : length buffer ≡ own.raw.len = c.read_on-filled.ensures.long ∙ ap length value ∙ sym own.raw.ok.0 in
    let keeps = subst (λ l. Keeps (prepend_known (take own.filled l) (left own.file)) (prepend_known (take filled buffer) (left file))) value c.read_on-filled.ensures.kept in
    let none = drop_of_length-le own.ready.items c.requires.given in
    let front = drop own.given own.ready.items in
    subst (λ l. Keeps (left_in_order left own) (prepend_known front (reordered_known order own.size own.groups (prepend_known (take filled l) (left file))))) (sym (with_items_is own.raw buffer long))
    (subst (λ f. Keeps (left_in_order left own) (prepend_known f (reordered_known order own.size own.groups (prepend_known (take filled buffer) (left file))))) (sym none)
    (waited order own.size own.groups front _ _ none keeps))
