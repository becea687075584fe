use Rattle.std.proofs.Common.{◌≡◌, ◌-◌, ◌*◌, ◌≤◌, ℕ, length, take, drop, drop_of_length-le, inl, inr, sym, ap, subst, ◌∙◌, arith, length-drop, length-take}
use lib.Seq.{take-take}
use Rattle.std.specs.Prelude.{min}
use Rattle.std.specs.Io.KnownBytes.{ReadConsumes}
use Rattle.speaker_core.specs.Reordered.{left_in_order}
use Rattle.speaker_core.proofs.ReadingLaws.{given_ready, kept_consumes, kept_reads, left_of, plain_left}
use Rattle.speaker_core.proofs.reordered_file.ReorderedFileRead.read.Goals as goal

nothing_filled : (filled most groups group : ℕ) → filled ≤ min most groups * group → groups ≡ 0 → filled ≡ 0
nothing_filled filled most groups group few none =
    let zero_is : min most groups ≡ 0 = omega (arith, none) in
    omega (arith, few, ap (λ n. n * group) zero_is)

pub returns-then-self-len-clause-bytes : goal.returns-then-self-len-clause-bytes
returns-then-self-len-clause-bytes g c =
    let left = g.R.Read.remaining in
    let own = c.args.self.now in
    let now = c.prepare.new.self in
    let over : length now.ready.items ≤ now.given = omega (arith, c.if-self-len.true, c.len.ensures) in
    let last : now.groups ≡ 0 = elim c.in_ok-prepare.ensures.some [ inl some ↦ absurd (omega (arith, some, over)) | inr none ↦ none ] in
    let empty = nothing_filled now.filled now.most now.groups (length now.order.items * now.size) now.few last in
    let none = drop_of_length-le now.ready.items over in
    let before = plain_left now.order.items now.size now.groups now.given now.filled now.ready.items now.raw.items (left now.file) none last empty in
    let after = plain_left now.order.items now.size now.groups now.given now.filled now.ready.items now.raw.items (left c.read.new.self) none last empty in
    kept_reads (left_in_order left own) (left_in_order left now) _ c.read.result c.read.new.buf c.in_ok-prepare.ensures.kept
    (subst (λ a. ReadConsumes a (left_of now.order.items now.size now.groups now.given now.ready.items now.filled now.raw.items (left c.read.new.self)) c.read.result c.read.new.buf) (sym before)
    (subst (λ a. ReadConsumes (left now.file) a c.read.result c.read.new.buf) (sym after) c.read.ensures.bytes))

pub returns-clause-bytes : goal.returns-clause-bytes
returns-clause-bytes g c =
    let left = g.R.Read.remaining in
    let own = c.args.self.now in
    let now = c.prepare.new.self in
    let n = c.give-count.result in
    let rest = length c.deref.result.now - now.given in
    let few : n ≤ rest = omega (arith, c.give-count.ensures.count, length-take rest (drop now.given c.deref.result.now)) in
    let front = c.give-count.ensures.front ∙ take-take n rest (drop now.given c.deref.result.now) few ∙ ap (λ l. take n (drop now.given l)) c.deref.ensures.value in (
      kept_consumes (left_in_order left own) (left_in_order left now) _ (take n c.give-count.new.buffer) c.in_ok-prepare.ensures.kept (given_ready now.order.items now.size now.groups now.given now.filled n now.ready.items now.raw.items (take n c.give-count.new.buffer) (left now.file) front),
      λ none some. absurd (omega (arith, none, some, c.give-count.ensures.count, c.give-count.ensures.long, length-take rest (drop now.given c.deref.result.now), length-drop now.given c.deref.result.now, ap length c.deref.ensures.value, c.if-self-len.false, c.len.ensures)),
    )
