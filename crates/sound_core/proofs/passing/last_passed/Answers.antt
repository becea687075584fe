use Rattle.std.proofs.Common.{◌+◌, ◌≤◌, ap, arith, inl, inr, length, length-append, length-drop, refl}
use Rattle.std.proofs.lemmas.Bool.{cases_lt}
use Rattle.dsdiff_core.specs.Faulty.{next_place}
use Rattle.dsdiff_core.specs.Fields.{form_end}
use Rattle.dsdiff_core.specs.Headers.{size_at}
use Rattle.dsdiff_core.proofs.FaultyPlaces.{next_head}
use Rattle.sound_core.proofs.PassingLaws.{ends_before, short_stop}
use Rattle.sound_core.proofs.passing.last_passed.Goals as goal
use Rattle.sound_core.proofs.passing.last_passed.Goals.{in_default-via-in-Some+else-next-bytes, in_default-via-in_default}

pub returns-in-Some : goal.returns-in-Some
returns-in-Some c = λ file h next few.
    let held : next_place c.args.start + 12 + c.in-Some.next.size ≤ length file = omega (arith, c.if-next-bytes.true, c.in-Some.ensures.head, ap length next.are, length-drop (next_place c.args.start) file, length-append c.args.bytes.now next.more) in
    let passed = c.in-Some.ensures.after file h next held (omega (arith, held, few)) in
    let stop : form_end file ≤ next_place c.args.start + length c.args.bytes.now = short_stop file c.args.start c.args.bytes.now next c.requires in
    (passed.0, λ fits. absurd (omega (arith, fits, passed.1, stop, c.requires)), omega (arith, passed.1, stop, c.requires))

pub returns-in_default : goal.returns-in_default
returns-in_default c = λ file h next few.
    let stop : form_end file ≤ next_place c.args.start + length c.args.bytes.now = short_stop file c.args.start c.args.bytes.now next c.requires in (
      h,
      elim c.in_default.branch [
        | in_default-via-in-Some+else-next-bytes w ↦ λ fits. ends_before (form_end file) (next_place c.args.start + length c.args.bytes.now) (next_place c.args.start) w.in-Some.next.size (size_at file (next_place c.args.start)) stop (omega (arith, w.if-next-bytes.false, w.in-Some.ensures.head)) (w.in-Some.ensures.size file next)
        | in_default-via-in_default w ↦ elim (cases_lt (length c.args.bytes.now) 12) [
          | inl short ↦ λ fits. absurd (omega (arith, fits, stop, short))
          | inr head ↦ w.in_default.ensures.last refl head file h next (omega (arith, few, head, ap length next.are, length-drop (next_place c.args.start) file, length-append c.args.bytes.now next.more))
        ]
      ],
      next_head file c.args.start c.args.bytes.now c.head.result next c.head.ensures,
    )
