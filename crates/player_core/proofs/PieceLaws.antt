-- Pieces of a sound that are played one after the other.
use Rattle.std.proofs.Common.{◌≡◌, ◌⊎◌, ◌<◌, ◌≤◌, inl, inr, ℕ, ◌-◌, List, [], ◌++◌, drop, length, slice_range, Option, refl, sym, subst, ap, ◌∙◌, arith, append_assoc, append-nil, length-append, take}
use Rattle.std.specs.Io.KnownBytes.{Appends}
use Rattle.std.proofs.KnownBytes.{Appends-nil, Appends-trans}
use Rattle.std.proofs.lemmas.List.{nil_from_length}
use Rattle.chunk_core.specs.Outlets.{AppendsPrefix, AppendsPart}
use Rattle.dsd_bits.specs.declared.sound.Sound.{Sound}
use Rattle.fir_core.specs.Decimator.{Decimator}
use Rattle.player_core.specs.Due.{bytes_known, due_bytes}
use Rattle.player_core.specs.PartView.{FeedsPart, FinishesPart, IsPartComplete, IsPartFed, IsPartOf, IsPartPlayer, IsSamePart, part_all, part_due, part_fed, part_filter, part_rest, part_start}
use Rattle.player_core.specs.Pieces.{PutsDue, PutsPrefixOf, PutsRest}
use Rattle.player_core.specs.PlayerView.{IsPlayer, filter_of}
use Rattle.player_core.specs.declared.parts.PartPlayer.{PartPlayer}
use Rattle.player_core.specs.declared.player.Player.{Player}
use Rattle.player_core.proofs.PrefixLaws.{prefix_of_all}
use Rattle.player_core.proofs.SliceLaws.{slice_more}
use Rattle.player_core.proofs.StepLaws.{filter_known}

-- ---- prefixes of what is written
pub prefix_nil : (a : Option (List ℕ)) (all : List ℕ) → AppendsPrefix a a all
prefix_nil a all = ([], all, refl, Appends-nil a)

pub prefix_more : (a b : Option (List ℕ)) (xs ys : List ℕ) → AppendsPrefix a b xs → AppendsPrefix a b (xs ++ ys)
prefix_more a b xs ys f = (f.0, f.1 ++ ys, ap (λ zs. zs ++ ys) f.2 ∙ append_assoc f.0 f.1 ys, f.3)

pub part_is_prefix : (a b : Option (List ℕ)) (all : List ℕ) → AppendsPart a b all → AppendsPrefix a b all
part_is_prefix a b all out = (out.0, out.1, out.2, out.4)

pub whole_prefix : (a b : Option (List ℕ)) (all : List ℕ) → Appends a b all → AppendsPrefix a b all
whole_prefix a b all out = (all, [], sym (append-nil all), out)

pub prefix_on : (a b c : Option (List ℕ)) (xs ys : List ℕ) → Appends a b xs → AppendsPrefix b c ys → AppendsPrefix a c (xs ++ ys)
prefix_on a b c xs ys p q = (xs ++ q.0, q.1, ap (λ zs. xs ++ zs) q.2 ∙ sym (append_assoc xs q.0 q.1), Appends-trans a b c xs q.0 p q.3)

-- ---- what is due
pub least_factor : (p : Player) → IsPlayer p → 8 ≤ (filter_of p).factor
least_factor p is = (filter_known p.taps.now p.sound.count (bytes_known p.sound p.fed) p.streams.items (omega (arith, is.number, is.sound.some_channel)) is.each).least_factor

-- what is due of a part after a prefix of the rest is a prefix of all of it
pub due_first : (p : PartPlayer) → IsPartPlayer p → (before rest : List ℕ) → length (before ++ rest) ≡ (part_rest p).size → (more : List ℕ) × (part_all p (before ++ rest) ≡ part_due p before ++ more)
due_first p is before rest all =
    let due = due_bytes (part_filter p) (part_rest p) before in
    let prefix = prefix_of_all (part_filter p) (part_rest p) before rest is.player.sound is.player.whole (least_factor p.player is.player) all in (
      slice_range prefix.0 (p.skip - length due) (p.stop - length due),
      ap (λ xs. slice_range xs p.skip p.stop) prefix.1 ∙ slice_more due prefix.0 p.skip p.stop,
    )

-- once it is complete, what is due is all of it
no_more : (p : PartPlayer) → IsPartPlayer p → IsPartComplete p → (before rest : List ℕ) → IsPartFed p before → length (before ++ rest) ≡ (part_rest p).size → part_all p (before ++ rest) ≡ part_due p before
no_more p is complete before rest fed all =
    let due = due_bytes (part_filter p) (part_rest p) before in
    let more = prefix_of_all (part_filter p) (part_rest p) before rest is.player.sound is.player.whole (least_factor p.player is.player) all in
    let none : (p.stop - length due) - (p.skip - length due) ≡ 0 = omega (arith, complete, fed.given) in
    ap (λ xs. slice_range xs p.skip p.stop) more.1
    ∙ slice_more due more.0 p.skip p.stop
    ∙ ap (λ k. part_due p before ++ take k (drop (p.skip - length due) more.0)) none
    ∙ append-nil (part_due p before)

-- ---- one piece
pub nothing_put : (p : PartPlayer) → IsPartPlayer p → (piece : List ℕ) (a : Option (List ℕ)) → PutsPrefixOf p piece a a
nothing_put p is piece a = λ before rest fed all. (let more = due_first p is before (piece ++ rest) all in (more.0, more.1, prefix_nil a more.0))

pub due_put : (p q : PartPlayer) (piece given : List ℕ) (a b : Option (List ℕ)) → FeedsPart p q piece [] given → Appends a b given → PutsDue p q piece a b
due_put p q piece given a b feeds out = (feeds.0, subst (Appends a b) feeds.1 out, feeds.2)

pub part_put : (p q : PartPlayer) → IsPartPlayer p → (piece given : List ℕ) (a b : Option (List ℕ)) → FeedsPart p q piece [] given → AppendsPrefix a b given → PutsPrefixOf p piece a b
part_put p q is piece given a b feeds out = λ before rest fed all.
    let joined : before ++ (piece ++ rest) ≡ (before ++ piece) ++ rest = sym (append_assoc before piece rest) in
    let after = due_first p is (before ++ piece) rest (ap length (sym joined) ∙ all) in (
      feeds.0 ++ after.0,
      ap (part_all p) joined ∙ after.1 ∙ ap (λ xs. xs ++ after.0) (feeds.2 before fed).1 ∙ append_assoc (part_due p before) feeds.0 after.0,
      prefix_more a b feeds.0 after.0 (subst (AppendsPrefix a b) feeds.1 out),
    )

-- ---- the rest
pub fed_all : (p : PartPlayer) → (part_fed p ≡ (part_rest p).size) ⊎ IsPartComplete p → p.given < p.stop → part_fed p ≡ (part_rest p).size
fed_all p either incomplete = elim either [
  | inl all ↦ all
  | inr complete ↦ absurd (omega (arith, complete, incomplete))
]

pub rest_put : (p : PartPlayer) → part_fed p ≡ (part_rest p).size → (given : List ℕ) (a b : Option (List ℕ)) → FinishesPart p [] given → Appends a b given → PutsRest p a b
rest_put p whole given a b finishes out = (
  finishes.0,
  subst (Appends a b) finishes.1 out,
  λ before rest fed all.
      let none : rest ≡ [] = nil_from_length rest (omega (arith, fed.fed.fed, whole, all, length-append before rest)) in
      ap (part_all p) (ap (λ xs. before ++ xs) none ∙ append-nil before) ∙ finishes.2 before fed,
)

-- nothing is left to be put of a part that is complete
pub complete_put : (p : PartPlayer) → IsPartPlayer p → IsPartComplete p → (a : Option (List ℕ)) → PutsRest p a a
complete_put p is complete a = ([], Appends-nil a, λ before rest fed all. no_more p is complete before rest fed all ∙ sym (append-nil (part_due p before)))

pub rest_part : (p : PartPlayer) → part_fed p ≡ (part_rest p).size → (given : List ℕ) (a b : Option (List ℕ)) → FinishesPart p [] given → AppendsPrefix a b given → PutsPrefixOf p [] a b
rest_part p whole given a b finishes out = λ before rest fed all.
    let none : rest ≡ [] = nil_from_length rest (omega (arith, fed.fed.fed, whole, all, length-append before rest)) in
    let same : before ++ rest ≡ before = ap (λ xs. before ++ xs) none ∙ append-nil before in
    (finishes.0, ap (part_all p) same ∙ finishes.2 before fed, subst (AppendsPrefix a b) finishes.1 out)

-- ---- the same part
pub due_same : (p q : PartPlayer) → IsSamePart p q → (xs : List ℕ) → part_due q xs ≡ part_due p xs
due_same p q same xs = rw (same.filter, same.rest, same.skip, same.stop) refl

pub all_same : (p q : PartPlayer) → IsSamePart p q → (xs : List ℕ) → part_all q xs ≡ part_all p xs
all_same p q same xs = rw (same.filter, same.rest, same.skip, same.stop) refl

pub plays_on : (d : Decimator) (s : Sound) (start stop : ℕ) (p q : PartPlayer) → IsSamePart p q → IsPartOf d s start stop p → IsPartOf d s start stop q
plays_on d s start stop p q same is = record {
  filter_is = same.filter ∙ is.filter_is;
  rest_is = same.rest ∙ is.rest_is;
  start_is = same.start ∙ is.start_is;
  skip_is = same.skip ∙ is.skip_is;
  stop_is = same.stop ∙ is.stop_is;
  gives = λ bytes all. ap (λ (n : ℕ). part_all q (drop n bytes)) same.start ∙ all_same p q same (drop (part_start p) bytes) ∙ is.gives bytes all;
}
