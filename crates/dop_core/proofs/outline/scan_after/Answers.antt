use Rattle.std.proofs.Common.{◌≡◌, ◌%◌, false, List, ℕ, ◌++◌, Ok, Err, length, length-append, ap, subst, sym, ◌∙◌, arith}
use Rattle.chunk_core.specs.Inlets.{PullsBytes}
use Rattle.dop_core.specs.declared.shape.Announced.{Announced}
use Rattle.dop_core.specs.Fields.{COUNT, chunk_from}
use Rattle.dop_core.specs.Fronts.{Announces}
use Rattle.dop_core.specs.Reading.{count_by, count_in, head_of}
use Rattle.dop_core.specs.Sounds.{sound_long}
use Rattle.dop_core.proofs.FaultLaws.{fault_is}
use Rattle.dop_core.proofs.OutlineLaws.{count_after, count_refused, few_frames}
use Rattle.dop_core.proofs.ReadingLaws.{names_end, not_whole, pulls_on}
use Rattle.dop_core.proofs.RefusalLaws.{head_ok, size_refused}
use Rattle.dop_core.proofs.outline.scan_after.Given.{Over}
use Rattle.dop_core.proofs.outline.scan_after.Goals as goal
use Rattle.dop_core.proofs.outline.scan_after.Goals.{In_ok-hold_until}

-- what comes after the samples was read to its end
rest_pulled : (g : Over) (c : In_ok-hold_until g) → PullsBytes g.R.Read.remaining c.read_sound.new.inlet c.hold_until.new.inlet c.hold_until.new.held.items
rest_pulled g c =
    let r = c.in_ok-hold_until.ensures.read in
    subst (PullsBytes g.R.Read.remaining c.read_sound.new.inlet c.hold_until.new.inlet) (sym (r.appended ∙ ap (λ xs. xs ++ r.read) c.new-back.ensures.items)) r.pulled

all_pulled : (g : Over) (c : In_ok-hold_until g) → PullsBytes g.R.Read.remaining c.args.inlet.now c.hold_until.new.inlet (c.in_ok-first.ensures.ok.sound ++ c.hold_until.new.held.items)
all_pulled g c = pulls_on g.R.Read.remaining c.args.inlet.now c.read_sound.new.inlet c.hold_until.new.inlet c.in_ok-first.ensures.ok.sound c.hold_until.new.held.items c.in_ok-first.ensures.ok.pulled (rest_pulled g c)

is_short : (g : Over) (c : In_ok-hold_until g) → c.in_ok-hold_until.field-0 ≡ false
is_short g c = not_whole c.in_ok-hold_until.field-0 (length c.hold_until.new.held.items) c.in_ok-hold_until.ensures.read.whole (omega (arith, c.hold_until.new.held.small))

pub returns-then-is_open-clause-named : goal.returns-then-is_open-clause-named
returns-then-is_open-clause-named g c =
    let at = (goal.at.returns-then-is_open-clause-named g c).In_ok-hold_until in
    let s = c.in_ok-first.ensures.ok in
    let back = c.hold_until.new.held.items in
    let open_ = c.is_open.ensures.yes c.if-is_open.true in
    names_end g.R.Read.remaining c.args.inlet.now c.hold_until.new.inlet c.args.front.items (s.sound ++ back) _ (all_pulled g at) (c.in_ok-hold_until.ensures.read.at_end (is_short g at))
    (size_refused c.args.front.items c.args.said c.requires s.whole (s.sound ++ back) open_.0 (omega (arith, length-append s.sound back, ap length c.deref-2.ensures.value, open_.1)))

-- how many bits there are, whichever bytes the samples have
counted : (front back : List ℕ) (said : Announced) → Announces front said → said.size ≡ sound_long said.head → (sound : List ℕ) → length sound ≡ sound_long said.head → count_in (front ++ (sound ++ back)) said.head ≡ count_by back said.head.frames (chunk_from COUNT back (said.size % 2))
counted front back said is whole sound long = count_after front sound back said.head said.size is.start is.long (is.size_is (sound ++ back)) (omega (arith, long, whole))

headed : (front back : List ℕ) (said : Announced) → Announces front said → said.size ≡ sound_long said.head → (said.size ≡ 0 → length back ≡ 0) → (sound : List ℕ) → length sound ≡ sound_long said.head → head_of (front ++ (sound ++ back)) ≡ Ok said.head
headed front back said is whole none sound long = head_ok front said is whole (sound ++ back) (omega (arith, long, whole, length-append sound back)) (λ empty. omega (arith, none empty, empty, long, whole, length-append sound back))

pub returns-in_err-count-clause-named : goal.returns-in_err-count-clause-named
returns-in_err-count-clause-named g c =
    let at = (goal.at.returns-in_err-count-clause-named g c).In_ok-hold_until in
    let front = c.args.front.items in
    let said = c.args.said in
    let s = c.in_ok-first.ensures.ok in
    let back = c.hold_until.new.held.items in
    let none : said.size ≡ 0 → length back ≡ 0 = λ empty. omega (arith, ap length c.deref-2.ensures.value, c.is_open.ensures.no c.if-is_open.false empty) in
    let count = counted front back said c.requires s.whole s.sound s.long in
    let read = c.in_err-count.ensures.exact in
    let fault : count_by back said.head.frames (chunk_from COUNT back (said.size % 2)) ≡ Err c.in_err-count.field-0.0 = ap (λ (xs : List ℕ). count_by xs said.head.frames (chunk_from COUNT xs (said.size % 2))) (sym c.deref-3.ensures.value) ∙ sym read in
    rw (fault_is c.from_residual-in_err-count.result _ c.from_residual-in_err-count.ensures.1)
    (names_end g.R.Read.remaining c.args.inlet.now c.hold_until.new.inlet front (s.sound ++ back) _ (all_pulled g at) (c.in_ok-hold_until.ensures.read.at_end (is_short g at))
    (count_refused front s.sound back said.head c.in_ok-first.first c.requires.start c.requires.some s.long s.either s.marked (headed front back said c.requires s.whole none s.sound s.long) c.in_err-count.field-0.0 (count ∙ fault)))

pub returns-clause-outline : goal.returns-clause-outline
returns-clause-outline g c =
    let front = c.args.front.items in
    let said = c.args.said in
    let s = c.in_ok-first.ensures.ok in
    let back = c.hold_until.new.held.items in
    let none : said.size ≡ 0 → length back ≡ 0 = λ empty. omega (arith, ap length c.deref-2.ensures.value, c.is_open.ensures.no c.if-is_open.false empty) in
    let read = c.in_ok-count.ensures.exact in
    let is : count_by back said.head.frames (chunk_from COUNT back (said.size % 2)) ≡ Ok c.in_ok-count.count = ap (λ (xs : List ℕ). count_by xs said.head.frames (chunk_from COUNT xs (said.size % 2))) (sym c.deref-3.ensures.value) ∙ sym read in
    record {
      start = c.requires.start;
      some = c.requires.some;
      six = c.requires.six;
      rate_low = c.requires.rate_low;
      rate_high = c.requires.rate_high;
      few = omega (arith, c.requires.frames, c.requires.few, s.whole, few_frames said.head.frames said.head.channels c.requires.some);
      either = s.either;
      most = c.in_ok-count.ensures.fills.0;
      least = c.in_ok-count.ensures.fills.1;
      heads = λ sound long. headed front back said c.requires s.whole none sound long;
      counts = λ sound long. counted front back said c.requires s.whole sound long ∙ is;
    }

pub returns-clause-read : goal.returns-clause-read
returns-clause-read g c =
    let at = (goal.at.returns-clause-read g c).In_ok-hold_until in
    let s = c.in_ok-first.ensures.ok in
    record {
      sound = s.sound;
      pulled = all_pulled g at;
      at_end = c.in_ok-hold_until.ensures.read.at_end (is_short g at);
      samples = record { long = s.long; marked = s.marked };
    }
