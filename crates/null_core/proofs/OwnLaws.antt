-- Where a master has the bits of parts.
use Rattle.std.proofs.Common.{◌≡◌, ◌≢◌, ℕ, ◌+◌, ◌-◌, ◌<◌, ◌≤◌, ◌⊎◌, ℤ, Bool, IsTrue, false, List, length, map, get_or, slice_get, option_map, MatchOption, Option, None, Some, inl, inr, sym, ap, subst, ◌∙◌, arith}
use Rattle.std.proofs.lemmas.Bool.{cases_lt}
use Rattle.std.proofs.lemmas.Bool.Decides.{nat_tests}
use Rattle.std.proofs.lemmas.Option.{MatchOption-at_none, MatchOption-at_some, same_Some, slice_get-get_or, slice_get-map, slice_get_within}
use Rattle.null_core.specs.declared.alone.Alone.{Alone}
use Rattle.null_core.specs.declared.alone.Source.{Source}
use Rattle.null_core.specs.declared.own.OwnRun.{OwnRun}
use Rattle.null_core.specs.declared.part.Part.{Part}
use Rattle.null_core.specs.Own.{HasBit, IsAlone, IsHeard, IsOwn}
use Rattle.null_core.specs.Parts.{PartContent, has_place, part_bit, part_content}
use Rattle.null_core.specs.Walks.{AreAlikeTo, AreOwn, HasPlaces, HearSame, IsAlikeTo, IsAloneFrom, IsNoOnes, IsNoOnesAlone, IsOwnFrom, IsOwnPiece, IsOwnTo, IsPastHeard, IsPastOther, IsPastOthers}

-- a part in memory is that of the list of parts
pub part_there : (parts : List Part) (n : ℕ) (p : Part) → n < length parts → p ≡ get_or parts n p → slice_get (map part_content parts) n ≡ Some (part_content p)
part_there parts n p low is = slice_get-map part_content parts n ∙ ap (option_map part_content) (slice_get-get_or parts n p low ∙ ap (λ x. Some x) (sym is))

-- a part that has a place
pub place_there : (m : ℕ) (p : PartContent) → IsTrue (has_place m p) → (p.at ≤ m) × (m < p.at + p.size)
place_there m p h = grind (arith, nat_tests)

pub place_within : (m : ℕ) (p : PartContent) → p.at ≤ m → m < p.at + p.size → IsTrue (has_place m p)
place_within m p h k = grind (arith, nat_tests)

-- bits that are alike from a place on, which is bit `own` of a part
module _ (bits : List Bool) (p : PartContent) (m own : ℕ) (begun : p.at ≤ m) (is : own ≡ p.start + (m - p.at)) where
  pub own_place : (k : ℕ) → m ≤ k → get_or p.bits (own + (k - m)) false ≡ part_bit p k
  own_place k from = let place : own + (k - m) ≡ p.start + (k - p.at) = omega arith in ap (λ n. get_or p.bits n false) place

  pub alike_from : (alike : ℕ) → ((k : ℕ) → k < alike → get_or bits (m + k) false ≡ get_or p.bits (own + k) false) → (k : ℕ) → m ≤ k → k < m + alike → get_or bits k false ≡ part_bit p k
  alike_from alike same k from to =
      let there : m + (k - m) ≡ k = omega arith in
      ap (λ n. get_or bits n false) (sym there) ∙ same (k - m) (omega arith) ∙ own_place k from

  pub alike_to_other : (end alike : ℕ) → m ≤ end → alike ≤ end - m → ((k : ℕ) → k < alike → get_or bits (m + k) false ≡ get_or p.bits (own + k) false) → (alike < end - m → get_or bits (m + alike) false ≢ get_or p.bits (own + alike) false)
      → IsAlikeTo p bits m end (m + alike)
  alike_to_other end alike order few same other = record {
    after = omega arith;
    before = omega arith;
    same = alike_from alike same;
    ends = λ lt is.
        let there : own + alike ≡ own + (m + alike - m) = omega arith in
        other (omega arith) (is ∙ sym (own_place (m + alike) (omega arith)) ∙ ap (λ n. get_or p.bits n false) (sym there));
  }

-- at a place the master hasn't the bit of a part that is heard at place m
pub record OtherAt (parts : List PartContent) (bits : List Bool) (m k : ℕ) : Type 0 where
  pub index : ℕ
  pub part : PartContent
  pub there : slice_get parts index ≡ Some part
  pub heard : IsHeard m part
  pub differs : get_or bits k false ≢ part_bit part k

-- of those parts before one that are heard at place m the master has the bits up to a place
pub record AlikeSoFar (parts : List PartContent) (bits : List Bool) (m until i end : ℕ) : Type 0 where
  pub after : m ≤ end
  pub before : end ≤ until
  pub same : (j : ℕ) (p : PartContent) → j < i → slice_get parts j ≡ Some p → IsHeard m p → (k : ℕ) → m ≤ k → k < end → get_or bits k false ≡ part_bit p k
  pub ends : end < until → OtherAt parts bits m end

module _ (parts : List PartContent) (bits : List Bool) (m until i end : ℕ) (p : PartContent) (there : slice_get parts i ≡ Some p) (so_far : AlikeSoFar parts bits m until i end) where
  here : (j : ℕ) (q : PartContent) → j < i + 1 → i ≤ j → slice_get parts j ≡ Some q → q ≡ p
  here j q lt ge get =
      let same : j ≡ i = omega arith in
      same_Some q p (sym get ∙ ap (slice_get parts) same ∙ there)

  pub AlikeSoFar-heard : (new : ℕ) → IsHeard m p → IsAlikeTo p bits m end new → AlikeSoFar parts bits m until (i + 1) new
  AlikeSoFar-heard new heard alike = record {
    after = alike.after;
    before = omega (arith, alike.before, so_far.before);
    same = λ j q lt get hears k from to. elim (cases_lt j i) [
      | inl below ↦ so_far.same j q below get hears k from (omega (arith, to, alike.before))
      | inr past ↦ subst (λ (x : PartContent). get_or bits k false ≡ part_bit x k) (sym (here j q lt past get)) (alike.same k from to)
    ];
    ends = λ lt. elim (cases_lt new end) [
      | inl sooner ↦ record { index = i; part = p; there = there; heard = heard; differs = alike.ends sooner }
      | inr not_sooner ↦ (let same : end ≡ new = omega (arith, not_sooner, alike.before) in subst (OtherAt parts bits m) same (so_far.ends (omega (arith, lt, same))))
    ];
  }

  pub AlikeSoFar-silent : (IsHeard m p → ⊥) → AlikeSoFar parts bits m until (i + 1) end
  AlikeSoFar-silent silent = record {
    after = so_far.after;
    before = so_far.before;
    same = λ j q lt get hears k from to. elim (cases_lt j i) [
      | inl below ↦ so_far.same j q below get hears k from to
      | inr past ↦ absurd (silent (subst (IsHeard m) (here j q lt past get) hears))
    ];
    ends = so_far.ends;
  }

module _ (parts : List PartContent) (bits : List Bool) (m until : ℕ) (heard : (k : ℕ) → m ≤ k → k < until → HearSame parts m k) where
  -- at a place up to which the same parts are heard the master hasn't the bits of all that are
  pub no_bits : (k : ℕ) → m ≤ k → k < until → OtherAt parts bits m k → HasBit parts bits k → ⊥
  no_bits k from to other has = other.differs (has other.index other.part other.there ((heard k from to other.index other.part other.there).0 other.heard))

  pub alike_to : (n end : ℕ) → length parts ≤ n → AlikeSoFar parts bits m until n end → AreAlikeTo parts bits m until end
  alike_to n end all so_far = record {
    after = so_far.after;
    before = so_far.before;
    same = λ k from to i p get hears. so_far.same i p (omega (arith, slice_get_within parts i p get)) get ((heard k from (omega (arith, to, so_far.before)) i p get).1 hears) k from to;
    ends = λ lt has. no_bits end so_far.after lt (so_far.ends lt) has;
  }

  -- a part that is heard has all these places
  pub has_places : (p : PartContent) (i end : ℕ) → slice_get parts i ≡ Some p → IsHeard m p → m ≤ end → end ≤ until → until ≤ length bits → HasPlaces p bits m end
  has_places p i end get hears after before inside = elim (cases_lt m end) [
    | inl some ↦
        let last = (heard (end - 1) (omega arith) (omega arith) i p get).0 hears in
        record { begun = (place_there m p hears.there).0; in_order = after; not_ended = omega (arith, (place_there (end - 1) p last.there).1); inside = omega arith }
    | inr none ↦ record { begun = (place_there m p hears.there).0; in_order = after; not_ended = omega (arith, (place_there m p hears.there).1); inside = omega arith }
  ]

pub later_places : (p : PartContent) (bits : List Bool) (low past end : ℕ) → low ≤ past → past ≤ end → HasPlaces p bits low end → HasPlaces p bits past end
later_places p bits low past end after before places = record { begun = omega (arith, places.begun); in_order = before; not_ended = places.not_ended; inside = places.inside }

-- place `past` is place `low`, or the one after a place that hasn't the bit of a part that is heard at place `low`
pub record PastSoFar (parts : List PartContent) (bits : List Bool) (low high past : ℕ) : Type 0 where
  pub after : low ≤ past
  pub before : past ≤ high
  pub other : low < past → OtherAt parts bits low (past - 1)

pub PastSoFar-heard : (parts : List PartContent) (bits : List Bool) (low high past new i : ℕ) (p : PartContent) → slice_get parts i ≡ Some p → PastSoFar parts bits low high past → IsHeard low p → IsPastOther p bits past high new → PastSoFar parts bits low high new
PastSoFar-heard parts bits low high past new i p there so_far heard other = record {
  after = omega (arith, so_far.after, other.after);
  before = other.before;
  other = λ lt. elim (cases_lt past new) [
    | inl later ↦ record { index = i; part = p; there = there; heard = heard; differs = other.other later }
    | inr not_later ↦ (let same : past ≡ new = omega (arith, not_later, other.after) in subst (λ n. OtherAt parts bits low (n - 1)) same (so_far.other (omega (arith, lt, same))))
  ];
}

pub past_heard : (parts : List PartContent) (bits : List Bool) (low high past : ℕ) → ((k : ℕ) → low ≤ k → k < high → HearSame parts low k) → PastSoFar parts bits low high past → IsPastHeard parts bits low high past
past_heard parts bits low high past heard so_far = record {
  after = so_far.after;
  before = so_far.before;
  other = λ lt. no_bits parts bits low high heard (past - 1) (omega arith) (omega (arith, lt, so_far.before)) (so_far.other lt);
}

-- ---- whose own bits
module _ (parts : List PartContent) (bits : List Bool) (m until high : ℕ) (alone : Alone) (from_here : IsAloneFrom parts m alone) (less : until ≤ alone.until) (inside : until ≤ high) where
  none_alone : alone.source ≡ None → (k : ℕ) → m ≤ k → k < until → IsNoOnes parts bits k
  none_alone is k from to t o own = MatchOption-at_none (IsNoOnesAlone parts k) (λ (s : Source). IsAlone parts s.take s.ahead k) is (from_here.same k from (omega arith)) t o own.alone

  pub piece_none : m < until → alone.source ≡ None → IsOwnPiece parts bits m high (record { source = None; until = until })
  piece_none some is = record { some = some; inside = inside; same = none_alone is }

  pub past_none : m < until → alone.source ≡ None → IsPastOthers parts bits m high until
  past_none some is = record { after = omega arith; before = inside; other = λ lt. none_alone is (until - 1) (omega arith) (omega arith) }

  pub piece_own : (source : Source) (end : ℕ) (run : OwnRun) → m < until → alone.source ≡ Some source → AreAlikeTo parts bits m until end → (end ≡ m → run ≡ record { source = None; until = m + 1 }) → (m < end → run ≡ record { source = Some source; until = end })
      → IsOwnPiece parts bits m high run
  piece_own source end run some is alike none own = elim (cases_lt m end) [
    | inl lt ↦ subst (IsOwnPiece parts bits m high) (sym (own lt)) (record {
      some = lt;
      inside = omega (arith, alike.before);
      same = λ k from to. record {
        alone = MatchOption-at_some (IsNoOnesAlone parts k) (λ (s : Source). IsAlone parts s.take s.ahead k) source is (from_here.same k from (omega (arith, to, alike.before)));
        same = alike.same k from to;
      };
    })
    | inr past ↦
        let same : end ≡ m = omega (arith, past, alike.after) in
        subst (IsOwnPiece parts bits m high) (sym (none same)) (record {
          some = omega arith;
          inside = omega arith;
          same = λ k from to t o own. (let here : k ≡ end = omega arith in alike.ends (omega arith) (subst (HasBit parts bits) here own.same));
        })
  ]

-- a place is the own of one source alone
pub one_source : (parts : List PartContent) (k t u : ℕ) (o v : ℤ) → IsAlone parts t o k → IsAlone parts u v k → (t ≡ u) × (o ≡ v)
one_source parts k t u o v first second =
    let (i, p, get, hears) = first.heard in
    let one = first.each i p get hears in
    let other = second.each i p get hears in
    (sym one.take ∙ other.take, sym one.ahead ∙ other.ahead)

abbrev source_of : ℕ → ℤ → Source
source_of x y = record { take = x; ahead = y }

same_source : (s t : Source) → s.take ≡ t.take → s.ahead ≡ t.ahead → s ≡ t
same_source s t take ahead = ap (λ (x : ℕ). source_of x s.ahead) take ∙ ap (λ (y : ℤ). source_of t.take y) ahead

-- what was found at a place isn't this source, so the place isn't its own
pub other_source : (parts : List PartContent) (bits : List Bool) (k : ℕ) (source : Source) (found : Option Source) → MatchOption found (IsNoOnes parts bits k) (λ (s : Source). IsOwn parts bits s.take s.ahead k) → (found ≡ Some source → ⊥)
    → IsOwn parts bits source.take source.ahead k → ⊥
other_source parts bits k source None here other own = here source.take source.ahead own
other_source parts bits k source (Some s) here other own =
    let same = one_source parts k s.take source.take s.ahead source.ahead here.alone own.alone in
    other (ap (λ (x : Source). Some x) (same_source s source same.0 same.1))

module _ (parts : List PartContent) (bits : List Bool) (high : ℕ) (source : Source) where
  piece_at : (m k : ℕ) (run : OwnRun) → IsOwnPiece parts bits m high run → run.source ≡ Some source → m ≤ k → k < run.until → IsOwn parts bits source.take source.ahead k
  piece_at m k run piece is from to = MatchOption-at_some (IsNoOnes parts bits k) (λ (s : Source). IsOwn parts bits s.take s.ahead k) source is (piece.same k from to)

  pub own_more : (from m : ℕ) (run : OwnRun) → AreOwn parts bits source.take source.ahead from m → IsOwnPiece parts bits m high run → run.source ≡ Some source → AreOwn parts bits source.take source.ahead from run.until
  own_more from m run so_far piece is k after to = elim (cases_lt k m) [
    | inl before ↦ so_far k after before
    | inr past ↦ piece_at m k run piece is past to
  ]

  pub run_own : (m until : ℕ) (run : OwnRun) → IsOwnPiece parts bits m high run → run.source ≡ Some source → IsOwnTo parts bits source run.until high until → IsOwnFrom parts bits m high (record { source = Some source; until = until })
  run_own m until run piece is to = record {
    some = omega (arith, piece.some, to.after);
    inside = to.inside;
    same = λ k after before. elim (cases_lt k run.until) [
      | inl first ↦ piece_at m k run piece is after first
      | inr later ↦ to.same k later before
    ];
    ends = λ s same. subst (λ (x : Source). (until ≡ high) ⊎ (IsOwn parts bits x.take x.ahead until → ⊥)) (same_Some source s same) to.ends;
  }

-- where the own bits of a run end, those of no source go on from it
pub ends_here : (parts : List PartContent) (bits : List Bool) (m high k t : ℕ) (o : ℤ) (run : OwnRun) (s : Source) → IsOwnFrom parts bits m high run → run.source ≡ Some s → m ≤ k → k < run.until → run.until < high → IsOwn parts bits t o k → IsOwn parts bits t o run.until → ⊥
ends_here parts bits m high k t o run s from_here is from to inside own_here own_there =
    let own_run = MatchOption-at_some (IsNoOnes parts bits k) (λ (x : Source). IsOwn parts bits x.take x.ahead k) s is (from_here.same k from to) in
    let same = one_source parts k t s.take o s.ahead own_here.alone own_run.alone in
    elim (from_here.ends s is) [
      | inl last ↦ omega arith
      | inr other ↦ other (subst (λ (x : ℤ). IsOwn parts bits s.take x run.until) same.1 (subst (λ (x : ℕ). IsOwn parts bits x o run.until) same.0 own_there))
    ]
