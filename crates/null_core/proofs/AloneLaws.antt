-- Laws of what is heard of parts.
use Rattle.std.proofs.Common.{rules, IsTrue, ◌≡◌, eqb, ◌&&◌, ℕ, zero, suc, ◌+◌, ◌-◌, ◌/◌, ◌<◌, ◌≤◌, ◌⊎◌, ◌++◌, ◌∷◌, [], ℤ, pos, negsuc, ◌+ℤ◌, ◌-ℤ◌, ◌*ℤ◌, List, length, slice_get, Option, Some, None, refl, sym, ◌∙◌, ap, subst, inl, inr, arith, mul-le-mul_left}
use Rattle.std.specs.Prelude.{◌<ℤ◌, ◌≤ℤ◌}
use Rattle.std.specs.Int.{int_div_euclid}
use Rattle.std.specs.Int.Signed.{<ℤ-≤ℤ_trans}
use Rattle.std.specs.Bool.{Decides}
use Rattle.std.specs.Ordering.{int_eq}
use Rattle.std.proofs.lemmas.Bool.Decides.{Decides-and, Decides-eqb, Decides-int_eq, Decides-like}
use Rattle.std.proofs.lemmas.Int.{ints}
use Rattle.std.proofs.lemmas.Nat.{le-div}
use Rattle.std.proofs.lemmas.Option.{none-some, same_Some}
use Rattle.std.proofs.Math.Nat.{div-mul-le_self}
use Rattle.clip_core.specs.declared.gain.Point.{Point}
use Rattle.clip_core.specs.declared.line.Line.{Line}
use Rattle.clip_core.specs.Gains.{full_gain, on_line}
use Rattle.clip_core.specs.Lines.{IsLineOf, IsOnLine, line_gain, until}
use Rattle.null_core.specs.declared.alone.Heard.{Heard}
use Rattle.null_core.specs.declared.alone.Heard.TheVariants.{Nothing, Single, Mixed}
use Rattle.null_core.specs.declared.alone.Level.{Level}
use Rattle.null_core.specs.declared.alone.Level.TheVariants.{Negative, Zero, Reduced, Full, Raised}
use Rattle.null_core.specs.declared.alone.Source.{Source}
use Rattle.null_core.specs.Alone.{AreHeard, HasLevel, IsLevel, IsLevelUntil, IsPartHeard, IsPartHeardFrom, IsSourceOf}
use Rattle.null_core.specs.Own.{IsHeard, IsWhole}
use Rattle.null_core.specs.Parts.{PartContent, has_place}
use Rattle.null_core.specs.Walks.{IsAloneFrom}

-- ---- a gain that is between two others

-- the second of three numbers isn't outside of the others
pub data IsBetween (a x b : ℤ) : Type 0 where
  rising : a ≤ℤ x → x ≤ℤ b → IsBetween a x b
  falling : x ≤ℤ a → b ≤ℤ x → IsBetween a x b

-- ---- orders of whole numbers
less_under : (x b g : ℤ) → x ≤ℤ b → b <ℤ g → x <ℤ g
less_under x b g h k = omega (arith, ints, h, k)

squeezed : (a x b g : ℤ) → a ≤ℤ x → x ≤ℤ b → a ≡ g → b ≡ g → x ≡ g
squeezed a x b g l h first last = omega (arith, ints, l, h, first, last)

less_added : (from a b : ℤ) → a ≤ℤ b → (from +ℤ a) ≤ℤ (from +ℤ b)
less_added from a b h = omega (arith, ints, h)

-- it has a level that both of them have
pub level_between : (level : Level) (a x b : ℤ) → IsBetween a x b → IsLevel level a → IsLevel level b → IsLevel level x
level_between Negative a x b (rising l h) first last = less_under x b (pos 0) h last
level_between Negative a x b (falling l h) first last = less_under x a (pos 0) l first
level_between Zero a x b (rising l h) first last = squeezed a x b (pos 0) l h first last
level_between Zero a x b (falling l h) first last = squeezed b x a (pos 0) h l last first
level_between Reduced a x b (rising l h) first last = (<ℤ-≤ℤ_trans first.0 l, less_under x b full_gain h last.1)
level_between Reduced a x b (falling l h) first last = (<ℤ-≤ℤ_trans last.0 h, less_under x a full_gain l first.1)
level_between Full a x b (rising l h) first last = squeezed a x b full_gain l h first last
level_between Full a x b (falling l h) first last = squeezed b x a full_gain h l last first
level_between Raised a x b (rising l h) first last = <ℤ-≤ℤ_trans first l
level_between Raised a x b (falling l h) first last = <ℤ-≤ℤ_trans last h

less_div : (a b n : ℕ) → 0 < n → a ≤ b → a / n ≤ b / n
less_div a b n some less = le-div (a / n) b n some (omega (arith, div-mul-le_self a n, less))

less_floor : (a b : ℤ) (n : ℕ) → 0 < n → a ≤ℤ b → int_div_euclid a (pos n) ≤ℤ int_div_euclid b (pos n)
less_floor (pos a) (pos b) n some less = let h = less_div a b n some (omega (arith, ints, less)) in omega (arith, ints, h)
less_floor (pos a) (negsuc b) n some less = absurd (omega (arith, ints, less))
less_floor (negsuc a) (pos b) n some less = omega (arith, ints)
less_floor (negsuc a) (negsuc b) n some less = let h = less_div b a n some (omega (arith, ints, less)) in omega (arith, ints, h)

more_times : (rise x y : ℕ) → x ≤ y → (pos rise *ℤ pos x) ≤ℤ (pos rise *ℤ pos y)
more_times rise x y less = omega (arith, ints, mul-le-mul_left rise less)

fewer_times : (rise x y : ℕ) → x ≤ y → (negsuc rise *ℤ pos y) ≤ℤ (negsuc rise *ℤ pos x)
fewer_times rise x y less = omega (arith, ints, mul-le-mul_left (suc rise) less)

times_between : (rise : ℤ) (x y z : ℕ) → x ≤ y → y ≤ z → IsBetween (rise *ℤ pos x) (rise *ℤ pos y) (rise *ℤ pos z)
times_between (pos rise) x y z before after = rising (more_times rise x y before) (more_times rise y z after)
times_between (negsuc rise) x y z before after = falling (fewer_times rise x y before) (fewer_times rise y z after)

floor_between : (from a x b : ℤ) (n : ℕ) → 0 < n → IsBetween a x b → IsBetween (from +ℤ int_div_euclid a (pos n)) (from +ℤ int_div_euclid x (pos n)) (from +ℤ int_div_euclid b (pos n))
floor_between from a x b n some (rising l h) = rising (less_added from _ _ (less_floor a x n some l)) (less_added from _ _ (less_floor x b n some h))
floor_between from a x b n some (falling l h) = falling (less_added from _ _ (less_floor x a n some l)) (less_added from _ _ (less_floor b x n some h))

-- the gain on a line at a place between two others
pub gain_between : (p q : Point) (k j last : ℕ) → p.place < q.place → k ≤ j → j ≤ last → IsBetween (on_line p q k) (on_line p q j) (on_line p q last)
gain_between p q k j last some before after =
    floor_between p.gain _ _ _ (q.place - p.place) (omega arith) (times_between (q.gain -ℤ p.gain) (k - p.place) (j - p.place) (last - p.place) (omega arith) (omega arith))

-- from a place of a line up to the last one that is known to have the level of that place
pub level_to : (line : Line) (k : ℕ) (level : Level) (last after : ℕ) → IsOnLine line k → IsLevel level (line_gain line k) → k ≤ last → after ≡ last + 1 → after ≤ until line → IsLevel level (line_gain line last) → IsLevelUntil line k level after
level_to line k level last after on first begun next inside here = record {
  some = omega arith;
  inside = inside;
  each = λ j from to. level_between level (line_gain line k) (line_gain line j) (line_gain line last) (gain_between line.from line.to k j last (omega (arith, on.begun, on.not_ended)) from (omega arith)) first here;
}

-- ---- sources

pub same_sources : (a b : Source) → Decides (eqb a.take b.take && int_eq a.ahead b.ahead) (a ≡ b)
same_sources a b =
    Decides-like (eqb a.take b.take && int_eq a.ahead b.ahead) (λ h j. record { take = h.0 j; ahead = h.1 j }) (λ e. (ap (λ (s : Source). s.take) e, ap (λ (s : Source). s.ahead) e))
    (Decides-and (eqb a.take b.take) (int_eq a.ahead b.ahead) (Decides-eqb a.take b.take) (Decides-int_eq a.ahead b.ahead))

-- ---- one part

-- a part has its places and no others
has_within : (p : PartContent) (k : ℕ) → p.at ≤ k → k < p.at + p.size → IsTrue (has_place k p)
has_within p k from to = search rules

within : (p : PartContent) (k : ℕ) → IsTrue (has_place k p) → (p.at ≤ k) × (k < p.at + p.size)
within p k there = search rules

silent_before : (p : PartContent) (k : ℕ) → k < p.at → IsHeard k p → ⊥
silent_before p k before heard = let there = within p k heard.there in omega (arith, there)

silent_after : (p : PartContent) (k : ℕ) → p.at + p.size ≤ k → IsHeard k p → ⊥
silent_after p k after heard = let there = within p k heard.there in omega (arith, there)

pub before_part : (p : PartContent) (m : ℕ) → m < p.at → IsPartHeardFrom p m (record { heard = Nothing; until = p.at })
before_part p m before = record { some = before; each = λ k from to. (silent_before p m before, silent_before p k to) }

pub after_part : (p : PartContent) (m until : ℕ) → p.at + p.size ≤ m → m < until → IsPartHeardFrom p m (record { heard = Nothing; until = until })
after_part p m until after below = record { some = below; each = λ k from to. (silent_after p m after, silent_after p k (omega (arith, after, from))) }

module _ (p : PartContent) (m : ℕ) (line : Line) (level : Level) (after : ℕ) (from : p.at ≤ m) (gains : IsLineOf p.points line) (on : IsOnLine line (m - p.at)) (kept : IsLevelUntil line (m - p.at) level after) where
  has_level : (k : ℕ) → m ≤ k → k < p.at + p.size → k < p.at + after → HasLevel level p k
  has_level k later inside to = record {
    there = has_within p k (omega arith) inside;
    gain = subst (IsLevel level) (gains (k - p.at) (record { begun = omega (arith, on.begun); not_ended = omega (arith, kept.inside) })) (kept.each (k - p.at) (omega arith) (omega arith));
  }

  pub within_part : (heard : Heard) (end : ℕ) → ((m k : ℕ) → HasLevel level p m → HasLevel level p k → IsPartHeard heard p m k) → m < end → end ≤ p.at + p.size → end ≤ p.at + after → IsPartHeardFrom p m (record { heard = heard; until = end })
  within_part heard end is some inside to = record {
    some = some;
    each = λ k later below. is m k (has_level m (omega arith) (omega arith) (omega arith)) (has_level k later (omega arith) (omega arith));
  }

-- ---- parts in a list

sg_left : (xs : List PartContent) (y : PartContent) (i : ℕ) (p : PartContent) → slice_get xs i ≡ Some p → slice_get (xs ++ y ∷ []) i ≡ Some p
sg_left [] y i p at = absurd (none-some p at)
sg_left (x ∷ xs) y zero p at = at
sg_left (x ∷ xs) y (suc i) p at = sg_left xs y i p at

sg_last : (xs : List PartContent) (y : PartContent) → slice_get (xs ++ y ∷ []) (length xs) ≡ Some y
sg_last [] y = refl
sg_last (x ∷ xs) y = sg_last xs y

sg_split : (xs : List PartContent) (y : PartContent) (i : ℕ) (p : PartContent) → slice_get (xs ++ y ∷ []) i ≡ Some p → (slice_get xs i ≡ Some p) ⊎ (y ≡ p)
sg_split [] y zero p at = inr (same_Some y p at)
sg_split [] y (suc i) p at = absurd (none-some p at)
sg_split (x ∷ xs) y zero p at = inl at
sg_split (x ∷ xs) y (suc i) p at = sg_split xs y i p at

-- what is heard of parts and of one more
module _ (parts : List PartContent) (p : PartContent) (m k : ℕ) where
  abbrev IsSame : PartContent → Type 0
  IsSame q = (IsHeard m q → IsHeard k q) × (IsHeard k q → IsHeard m q)

  all_more : (P : PartContent → Type 0) → ((i : ℕ) (q : PartContent) → slice_get parts i ≡ Some q → P q) → P p → (i : ℕ) (q : PartContent) → slice_get (parts ++ p ∷ []) i ≡ Some q → P q
  all_more P all one i q at = elim (sg_split parts p i q at) [ inl before ↦ all i q before | inr last ↦ subst P last one ]

  pub still_mixed : AreHeard Mixed parts m k → AreHeard Mixed (parts ++ p ∷ []) m k
  still_mixed are = λ t o whole. are t o (λ i q at. whole i q (sg_left parts p i q at))

  pub mixed_more : IsPartHeard Mixed p m k → AreHeard Mixed (parts ++ p ∷ []) m k
  mixed_more one = λ t o whole. one.1 t o (whole (length parts) p (sg_last parts p) one.0)

  pub nothing_more : (heard : Heard) → AreHeard heard parts m k → IsPartHeard Nothing p m k → AreHeard heard (parts ++ p ∷ []) m k
  nothing_more Nothing are none = all_more (λ q. (IsHeard m q → ⊥) × (IsHeard k q → ⊥)) are none
  nothing_more (Single s) are none =
      let one = are.0.heard in (
        record { heard = (one.0, one.1, sg_left parts p one.0 one.1 one.2, one.3); each = all_more (λ q. IsHeard k q → IsWhole s.take s.ahead k q) are.0.each (λ h. absurd (none.1 h)) },
        all_more IsSame are.1 ((λ h. absurd (none.0 h)), (λ h. absurd (none.1 h))),
      )
  nothing_more Mixed are none = still_mixed are

  pub first_single : (s : Source) → AreHeard Nothing parts m k → IsPartHeard (Single s) p m k → AreHeard (Single s) (parts ++ p ∷ []) m k
  first_single s none one = (
    record { heard = (length parts, p, sg_last parts p, one.1); each = all_more (λ q. IsHeard k q → IsWhole s.take s.ahead k q) (λ i q at h. absurd ((none i q at).1 h)) (λ h. one.2) },
    all_more IsSame (λ i q at. ((λ h. absurd ((none i q at).0 h)), (λ h. absurd ((none i q at).1 h)))) ((λ h. one.1), (λ h. one.0)),
  )

  pub same_single : (s : Source) → AreHeard (Single s) parts m k → IsPartHeard (Single s) p m k → AreHeard (Single s) (parts ++ p ∷ []) m k
  same_single s are one =
      let first = are.0.heard in (
        record { heard = (first.0, first.1, sg_left parts p first.0 first.1 first.2, first.3); each = all_more (λ q. IsHeard k q → IsWhole s.take s.ahead k q) are.0.each (λ h. one.2) },
        all_more IsSame are.1 ((λ h. one.1), (λ h. one.0)),
      )

  -- no source is that of two parts of different ones
  pub other_single : (s r : Source) → (s ≡ r → ⊥) → AreHeard (Single s) parts m k → IsPartHeard (Single r) p m k → AreHeard Mixed (parts ++ p ∷ []) m k
  other_single s r apart are one = λ t o whole.
      let first = are.0.heard in
      let its = are.0.each first.0 first.1 first.2 first.3 in
      let asked = whole first.0 first.1 (sg_left parts p first.0 first.1 first.2) first.3 in
      let last = whole (length parts) p (sg_last parts p) one.1 in
      let take : s.take ≡ r.take = sym its.take ∙ asked.take ∙ sym last.take ∙ one.2.take in
      let ahead : s.ahead ≡ r.ahead = sym its.ahead ∙ asked.ahead ∙ sym last.ahead ∙ one.2.ahead in
      apart (λ j. record { take = take j; ahead = ahead j })

-- whose own bits are asked for, by what is heard
module _ (parts : List PartContent) (m until : ℕ) (some : m < until) where
  pub is_alone_from : (heard : Heard) → ((k : ℕ) → m ≤ k → k < until → AreHeard heard parts m k) → (found : Option Source) → IsSourceOf heard found → IsAloneFrom parts m (record { source = found; until = until })
  is_alone_from Nothing each None is = record { some = some; same = λ k from to t o alone. (each k from to alone.heard.0 alone.heard.1 alone.heard.2).1 alone.heard.3; heard = λ s at. absurd (none-some s at) }
  is_alone_from (Single s) each None is = absurd (is s refl)
  is_alone_from Mixed each None is = record { some = some; same = λ k from to t o alone. each k from to t o alone.each; heard = λ s at. absurd (none-some s at) }
  is_alone_from heard each (Some s) is =
      let are = λ (k : ℕ) (from : m ≤ k) (to : k < until). subst (λ h. AreHeard h parts m k) is (each k from to) in
      record { some = some; same = λ k from to. (are k from to).0; heard = λ r at k from to. (are k from to).1 }
