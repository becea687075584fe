use Rattle.std.proofs.Common.{◌≡◌, ◌+◌, ◌≤◌, inl, inr, refl, sym, ◌∙◌, arith}
use Rattle.dsdiff_core.specs.Faulty.{next_place}
use Rattle.dsdiff_core.specs.Headers.{size_at}
use Rattle.dsdiff_core.proofs.FaultyPlaces.{id_next, last_next, next_span, passed, property_next, size_next}
use Rattle.dsdiff_core.proofs.faulty.next_chunk.Goals as goal
use Rattle.dsdiff_core.proofs.faulty.next_chunk.Goals.{then-start-at-via-then-start-at, then-start-at-via-else-start-at+then-start-at-2}

pub returns-then-start-at-clause-last : goal.returns-then-start-at-clause-last
returns-then-start-at-clause-last c = λ none long file h next few.
    let at_is : c.saturating_add-at.result ≡ next_place c.args.start = omega (arith, c.saturating_add-at.ensures, few) in
    let size : c.in-Some.chunk.size ≡ size_at file (next_place c.args.start) = c.in-Some.ensures.size ∙ size_next file c.args.start c.args.bytes.now next long in
    last_next file c.args.start c.in-Some.chunk.size h size (elim c.then-start-at.branch [
      | then-start-at-via-then-start-at w ↦ inl (omega (arith, w.if-start-at.true, at_is))
      | then-start-at-via-else-start-at+then-start-at-2 w ↦ inr (omega (arith, w.if-start-at.false, w.if-start-at-2.true, at_is))
    ])

pub returns-clause-size : goal.returns-clause-size
returns-clause-size c = λ file next. c.in-Some.ensures.size ∙ size_next file c.args.start c.args.bytes.now next c.in-Some.ensures.whole

pub returns-clause-after : goal.returns-clause-after
returns-clause-after c = λ file h next held few.
    let head = c.in-Some.ensures.whole in
    let at_is : c.saturating_add-at.result ≡ next_place c.args.start = omega (arith, c.saturating_add-at.ensures, few) in
    let end_is : c.saturating_add-2.result ≡ next_place c.args.start + 12 + c.in-Some.chunk.size = omega (arith, at_is, c.saturating_add.ensures, c.saturating_add-2.ensures, few) in
    let size : c.in-Some.chunk.size ≡ size_at file (next_place c.args.start) = c.in-Some.ensures.size ∙ size_next file c.args.start c.args.bytes.now next head in
    let fits : next_place c.args.start + c.in-Some.chunk.size ≤ c.args.start.form = omega (arith, c.if-start-at.false, c.if-start-at-2.false, at_is) in
    let j = c.judged_after-judged.ensures file h.lead (next_span file c.args.start c.args.bytes.now next head c.in-Some.chunk.size size held) h.judges (id_next file c.args.start c.args.bytes.now next head ∙ sym c.in-Some.ensures.id)
    (property_next file c.args.start c.args.bytes.now next head c.in-Some.chunk.size size held c.in-Some.chunk.id (omega (arith, fits, h.size)) c.in-Some.ensures.id ∙ sym c.is_property_head.ensures) in
    (passed file c.args.start c.args.bytes.now next head c.in-Some.chunk.size size held _ h fits refl end_is refl (record { fault = j.fault; version = j.version; property = j.property; sound = j.sound }), end_is)
