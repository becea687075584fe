-- What asks for the same is judged alike.
use Rattle.std.proofs.Common.{◌≡◌, ℕ, ◌+◌, ◌/◌, ◌%◌, ◌^◌, ◌<◌, ◌≤◌, ℤ, pos, Bool, false, List, [], Result, Ok, Err, Some, length, map, get_or, slice_get, unsigned_abs, sym, ◌∙◌, ap, subst, arith}
use Rattle.std.proofs.lemmas.List.{ext_get_or, length-map, get_or-map}
use Rattle.std.proofs.lemmas.List.Elements.{All-weaker}
use Rattle.std.proofs.lemmas.Option.{slice_get-get_or, slice_get_within}
use Rattle.std.specs.List.{range_with_len}
use Rattle.clip_core.specs.Mixes.{total}
use Rattle.heard_core.specs.Residuals.{residual}
use Rattle.null_core.specs.declared.stretch.Stretch.{Stretch}
use Rattle.null_core.specs.Errors.{IsLoud, error_at, error_of, residual_size}
use Rattle.null_core.specs.Judged.{IsJudged, IsTooLoud}
use Rattle.null_core.specs.Judging.{JudgesChannel}
use Rattle.null_core.specs.Likeness.{AreAskedAlike, SoundAlike}
use Rattle.null_core.specs.Own.{HasBit, IsAlone, IsHeard, IsOwnAround, IsWhole}
use Rattle.null_core.specs.Parts.{AskedContent, PartContent, added, has_place, mix_at, part_gain, reach}
use Rattle.null_core.specs.Stretches.{AreStretches, HasNext, IsGreatest, IsJudgedFrom, IsStretch}

back : (p q : PartContent) → SoundAlike p q → SoundAlike q p
back p q like = record {
  take = sym like.take;
  ahead = sym like.ahead;
  at = sym like.at;
  size = sym like.size;
  points = sym like.points;
  sound = λ m. sym (like.sound m);
  bit = λ m has. sym (like.bit m ((λ j. has_place m (record q { at = like.at j; size = like.size j })) ∙ has));
}

turned : (a b : AskedContent) → AreAskedAlike a b → AreAskedAlike b a
turned a b alike = record {
  unit = sym alike.unit;
  audible = sym alike.audible;
  every = sym alike.every;
  as_many = sym alike.as_many;
  each = λ i p q is_p is_q. back q p (alike.each i q p is_q is_p);
}

-- ---- a part
module _ (p q : PartContent) (like : SoundAlike p q) (m : ℕ) where
  same_place : has_place m p ≡ has_place m q
  same_place j = has_place m (record q { at = like.at j; size = like.size j })

  same_gain : part_gain p m ≡ part_gain q m
  same_gain j = part_gain (record q { at = like.at j; points = like.points j }) m

  heard_too : IsHeard m p → IsHeard m q
  heard_too heard = record { there = sym same_place ∙ heard.there; loud = λ silent. heard.loud (same_gain ∙ silent) }

  whole_too : (t : ℕ) (o : ℤ) → IsWhole t o m p → IsWhole t o m q
  whole_too t o whole = record { full = sym same_gain ∙ whole.full; take = sym like.take ∙ whole.take; ahead = sym like.ahead ∙ whole.ahead }

-- ---- what is asked for
no_part : PartContent
no_part = record { take = 0; ahead = pos 0; at = 0; size = 0; points = []; taps = []; bits = []; start = 0 }

module _ (a b : AskedContent) (alike : AreAskedAlike a b) where
  other : (i : ℕ) (p : PartContent) → slice_get a.parts i ≡ Some p → (q : PartContent) × (slice_get b.parts i ≡ Some q) × SoundAlike p q
  other i p is =
      let there : i < length b.parts = omega (arith, slice_get_within a.parts i p is, alike.as_many) in
      let q = get_or b.parts i no_part in
      let is_q = slice_get-get_or b.parts i no_part there in
      (q, is_q, alike.each i p q is is_q)

  other_back : (i : ℕ) (q : PartContent) → slice_get b.parts i ≡ Some q → (p : PartContent) × (slice_get a.parts i ≡ Some p) × SoundAlike p q
  other_back i q is =
      let there : i < length a.parts = omega (arith, slice_get_within b.parts i q is, alike.as_many) in
      let p = get_or a.parts i no_part in
      let is_p = slice_get-get_or a.parts i no_part there in
      (p, is_p, alike.each i p q is_p is)

  alone_too : (t : ℕ) (o : ℤ) (m : ℕ) → IsAlone a.parts t o m → IsAlone b.parts t o m
  alone_too t o m alone =
      let there = other alone.heard.0 alone.heard.1 alone.heard.2 in
      record {
        heard = (alone.heard.0, there.0, there.1, heard_too alone.heard.1 there.0 there.2 m alone.heard.3);
        each = λ i q is_q heard.
            let p = other_back i q is_q in
            whole_too p.0 q p.2 m t o (alone.each i p.0 p.1 (heard_too q p.0 (back p.0 q p.2) m heard));
      }

  has_bit_too : (bits : List Bool) (m : ℕ) → HasBit a.parts bits m → HasBit b.parts bits m
  has_bit_too bits m has i q is_q heard =
      let p = other_back i q is_q in
      let before = heard_too q p.0 (back p.0 q p.2) m heard in
      has i p.0 p.1 before ∙ p.2.bit m before.there

  same_reach : reach a ≡ reach b
  same_reach j = length (alike.audible j) / 2

  own_around_too : (bits : List Bool) (t : ℕ) (o : ℤ) (n : ℕ) → IsOwnAround a bits t o n → IsOwnAround b bits t o n
  own_around_too bits t o n own m before after inside =
      let here = own m (omega (arith, before, same_reach)) (omega (arith, after, same_reach)) inside in
      record { alone = alone_too t o m here.alone; same = has_bit_too bits m here.same }

  same_mix : (m : ℕ) → mix_at a.parts m ≡ mix_at b.parts m
  same_mix m = ap total (ext_get_or (pos 0) _ _ (length-map a.parts (added m) ∙ alike.as_many ∙ sym (length-map b.parts (added m))) (λ i lt.
      let there : i < length a.parts = omega (arith, length-map a.parts (added m), lt) in
      let there_too : i < length b.parts = omega (arith, there, alike.as_many) in
      get_or-map (added m) a.parts i no_part (pos 0) there
      ∙ (alike.each i _ _ (slice_get-get_or a.parts i no_part there) (slice_get-get_or b.parts i no_part there_too)).sound m
      ∙ sym (get_or-map (added m) b.parts i no_part (pos 0) there_too)))

  module _ (bits : List Bool) where
    same_error : (m : ℕ) → error_at a bits m ≡ error_at b bits m
    same_error m j = error_of (alike.unit j) (get_or bits m false) (same_mix m j)

    same_size : (n : ℕ) → residual_size a bits n ≡ residual_size b bits n
    same_size n j = unsigned_abs (residual (alike.audible j) (map (λ m. same_error m j) (range_with_len 0 (length bits))) n)

    loud_too : (m : ℕ) → IsLoud a bits m → IsLoud b bits m
    loud_too m loud = subst (λ (e : ℤ). 2 ^ 31 ≤ unsigned_abs e) (same_error m) loud

module _ (a b : AskedContent) (alike : AreAskedAlike a b) (bits : List Bool) where
  judged_too : (n : ℕ) → IsJudged a bits n → IsJudged b bits n
  judged_too n judged = record {
    inside = judged.inside;
    due = subst (λ (k : ℕ). n % k ≡ 0) alike.every judged.due;
    edited = λ t o own. judged.edited t o (own_around_too b a (turned a b alike) bits t o n own);
  }

  too_loud_too : (m : ℕ) → IsTooLoud a bits m → IsTooLoud b bits m
  too_loud_too m loud = record {
    inside = loud.inside;
    loud = loud_too a b alike bits m loud.loud;
    place = loud.place;
    judged = judged_too loud.place loud.judged;
    before = omega (arith, loud.before, same_reach a b alike);
    after = omega (arith, loud.after, same_reach a b alike);
  }

  judged_from_too : (first last n : ℕ) → IsJudgedFrom a bits first last n → IsJudgedFrom b bits first last n
  judged_from_too first last n judged = record { judged = judged_too n judged.judged; from = judged.from; to = judged.to }

  same_length : length a.audible ≡ length b.audible
  same_length = ap length alike.audible

  next_too : (last n : ℕ) → HasNext a bits last n → HasNext b bits last n
  next_too last n next = record { next = next.next; judged = judged_from_too (n + 1) last next.next next.judged; near = omega (arith, next.near, same_length) }

module _ (a b : AskedContent) (alike : AreAskedAlike a b) (bits : List Bool) where
  back_from : (first last n : ℕ) → IsJudgedFrom b bits first last n → IsJudgedFrom a bits first last n
  back_from = judged_from_too b a (turned a b alike) bits

  greatest_too : (first last greatest place : ℕ) → IsGreatest a bits first last greatest place → IsGreatest b bits first last greatest place
  greatest_too first last greatest place is = record {
    judged = judged_from_too a b alike bits first last place is.judged;
    size = sym (same_size a b alike bits place) ∙ is.size;
    most = λ n from. omega (arith, same_size a b alike bits n, is.most n (back_from first last n from));
    first_of = λ n from before. omega (arith, same_size a b alike bits n, is.first_of n (back_from first last n from) before);
  }

  stretch_too : (s : Stretch) → IsStretch a bits s → IsStretch b bits s
  stretch_too s is = record {
    first = judged_from_too a b alike bits s.first s.last s.first is.first;
    last = judged_from_too a b alike bits s.first s.last s.last is.last;
    near = λ n from before. next_too a b alike bits s.last n (is.near n (back_from s.first s.last n from) before);
    greatest = greatest_too s.first s.last s.residual s.place is.greatest;
  }

  stretches_too : (stretches : List Stretch) → AreStretches a bits stretches → AreStretches b bits stretches
  stretches_too stretches are = record {
    each = All-weaker (IsStretch a bits) (IsStretch b bits) stretch_too stretches are.each;
    apart = λ i s t is_s is_t. omega (arith, same_length a b alike bits, are.apart i s t is_s is_t);
    before = are.before;
    all = λ n judged. are.all n (judged_too b a (turned a b alike) bits n judged);
  }

  loud_back : (m : ℕ) → IsTooLoud b bits m → IsTooLoud a bits m
  loud_back = too_loud_too b a (turned a b alike) bits

  judged_of : (found : Result (List Stretch) ℕ) → JudgesChannel a bits found → JudgesChannel b bits found
  judged_of (Ok stretches) judges = (stretches_too stretches judges.0, λ m loud. judges.1 m (loud_back m loud))
  judged_of (Err place) first = record { here = too_loud_too a b alike bits place first.here; before = λ earlier lt loud. first.before earlier lt (loud_back earlier loud) }

pub judged_alike : (a b : AskedContent) → AreAskedAlike a b → (bits : List Bool) (found : Result (List Stretch) ℕ) → JudgesChannel a bits found → JudgesChannel b bits found
judged_alike a b alike bits found = judged_of a b alike bits found
