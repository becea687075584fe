-- A player of files that follow each other: what it gave, and what it goes on to.
use Rattle.std.proofs.Common.{◌≡◌, inl, inr, ℕ, ◌+◌, ◌*◌, ◌≤◌, ◌^◌, List, [], ◌∷◌, ◌++◌, length, drop, Option, IfSome, Result, Ok, Err, IfOk, IfErr, OnOk, refl, sym, subst, ap, ◌∙◌, ◌⊎◌, arith, append_assoc, append-nil}
use Rattle.std.proofs.lemmas.List.{drop_all}
use Rattle.joined_core.specs.Givers.{ComesFirst, HasGiven, IsGiver, Way, way_of}
use Rattle.joined_core.specs.declared.giver.Giver.{Giver}
use Rattle.joined_core.proofs.GiverLaws.{given_comes_first}
use Rattle.dsdarc_c.specs.Bare.{IsBare, MakesNone, bare_waiting}
use Rattle.dsd_bits.specs.declared.sound.Sound.{Sound}
use Rattle.native_core.specs.declared.layout.Layout.{Layout}
use Rattle.dsdarc_c.specs.BareWhole.{EndsBits, IsPrefixOfBits, PlaysBareStage, PlaysBits, bits_from}
use Rattle.dsdarc_c.specs.Joined.{IfOwn, IsAtJoin, IsBeforeOwn, IsJoined, IsNotOpen, IsNotOwn, IsOfShape, IsOwn, IsShape, Misfits, joined_waiting, own_layout}
use Rattle.dsdarc_c.specs.BareCalls.{TakesBare}
use Rattle.dsdarc_c.specs.JoinedCalls.{RefusesJoined, RefusesJoinedAt, RefusesJoinedBy, TakesJoined}
use Rattle.dsdarc_c.specs.JoinedWhole.{AddsOwn, AreAllOf, AreFirstOf, AreSoundOf, EndsRecording, GaveFirst, PlaysFile, PlaysJoinStage, PlaysJoined}
use Rattle.dsdarc_c.specs.declared.bare.Bare.{Bare}
use Rattle.dsdarc_c.specs.declared.bare.BareStage.{BareStage}
use Rattle.dsdarc_c.specs.declared.bare.BareStage.TheVariants as stages
use Rattle.dsdarc_c.specs.declared.fault.PlayFault.{PlayFault}
use Rattle.dsdarc_c.specs.declared.fault.PlayFault.TheVariants as faults
use Rattle.dsdarc_c.specs.declared.joined.JoinStage.{JoinStage}
use Rattle.dsdarc_c.specs.declared.joined.JoinStage.TheVariants as joins
use Rattle.dsdarc_c.specs.declared.joined.Joined.{Joined}
use Rattle.dsdarc_c.specs.declared.joined.Shape.{Shape}
use Rattle.dsdarc_c.proofs.BareLaws.{bits_prefix, fewer_bits}

-- ---- what came first
-- the bits that came of a file are the first of its sound
pub own_first : (b : Bare) (file bits : List ℕ) → IsBare b → b.layout ≡ own_layout → PlaysBits file 0 bits b → IsPrefixOfBits own_layout file 0 bits
own_first b file bits keeps layout plays =
    let all = bits_prefix b.layout file 0 (bits ++ bare_waiting b) b.header.items b.place b.stage keeps.stage plays.stage in
    subst (λ l. IsPrefixOfBits l file 0 bits) layout (fewer_bits b.layout file 0 bits (bare_waiting b) all)

file_first : (stage : JoinStage) (b : Bare) (file bits : List ℕ) → IsBare b → b.layout ≡ own_layout → PlaysFile stage file bits b → IsPrefixOfBits own_layout file 0 bits
file_first joins.Choosing b file bits keeps layout plays = own_first b file bits keeps layout plays
file_first (joins.Giving g) b file bits keeps layout plays = own_first b file bits keeps layout plays
file_first (joins.Ended g) b file bits keeps layout plays = plays
file_first joins.Failed b file bits keeps layout plays = plays

stage_first : (way : Way) (stage : JoinStage) (p : Joined) (bytes out : List ℕ) → IsAtJoin stage p → PlaysJoinStage way stage bytes out → ComesFirst way bytes out ⊎ AreFirstOf way bytes out
stage_first way joins.Choosing p bytes out at is = inl (λ rest frames long few. (way.frames (bytes ++ rest), ap (λ xs. xs ++ way.frames (bytes ++ rest)) (sym is.1)))
stage_first way (joins.Giving g) p bytes out at is = inl (subst (λ w. ComesFirst w bytes out) is.0 (given_comes_first g bytes out at.0 is.1))
stage_first way (joins.Ended g) p bytes out at is = inr (λ frames long. ([], sym (append-nil out ∙ is.1 frames long)))
stage_first way joins.Failed p bytes out at is = inl is

-- fewer bytes come first as well
fewer_first : (way : Way) (bytes out rest : List ℕ) → ComesFirst way bytes (out ++ rest) ⊎ AreFirstOf way bytes (out ++ rest) → ComesFirst way bytes out ⊎ AreFirstOf way bytes out
fewer_first way bytes out rest (inl first) = inl (λ more frames long few. (let f = first more frames long few in (rest ++ f.0, f.1 ∙ append_assoc out rest f.0)))
fewer_first way bytes out rest (inr first) = inr (λ frames long. (let f = first frames long in (rest ++ f.0, f.1 ∙ append_assoc out rest f.0)))

pub all_first : (way : Way) (before file pulled : List ℕ) (p : Joined) → IsJoined p → PlaysJoined way before file pulled p → GaveFirst way before file (pulled ++ joined_waiting p)
all_first way before file pulled p keeps is = record {
  bits = is.bits;
  own = file_first p.stage p.bare file is.bits keeps.bare keeps.layout is.plays;
  first = stage_first way p.stage p (before ++ is.bits) (pulled ++ joined_waiting p) keeps.stage is.stage;
}

pub fewer_gave : (way : Way) (before file out rest : List ℕ) → GaveFirst way before file (out ++ rest) → GaveFirst way before file out
fewer_gave way before file out rest is = record { bits = is.bits; own = is.own; first = fewer_first way (before ++ is.bits) out rest is.first }

-- what was given comes first, whatever follows
pub record GaveSoFar (way : Way) (before file out : List ℕ) : Type 0 where
  pub bits : List ℕ
  pub own : IsPrefixOfBits own_layout file 0 bits
  pub first : ComesFirst way (before ++ bits) out

pub given_first : (way : Way) (before file bits out : List ℕ) (b : Bare) (g : Giver) → IsBare b → b.layout ≡ own_layout → IsGiver g → PlaysBits file 0 bits b → way_of g ≡ way → HasGiven (before ++ bits) out g → GaveSoFar way before file out
given_first way before file bits out b g keeps layout ready plays is has = record {
  bits = bits;
  own = own_first b file bits keeps layout plays;
  first = subst (λ w. ComesFirst w (before ++ bits) out) is (given_comes_first g (before ++ bits) out ready has);
}

-- ---- a player that failed
pub failed_joined : (way : Way) (before file pulled : List ℕ) (new : Joined) → new.stage ≡ joins.Failed → GaveSoFar way before file (pulled ++ joined_waiting new) → PlaysJoined way before file pulled new
failed_joined way before file pulled new failed first = record {
  bits = first.bits;
  plays = subst (λ s. PlaysFile s file first.bits new.bare) (sym failed) first.own;
  stage = subst (λ s. PlaysJoinStage way s (before ++ first.bits) (pulled ++ joined_waiting new)) (sym failed) first.first;
}

-- the same where nothing waits
pub failed_empty : (way : Way) (before file pulled : List ℕ) (new : Joined) → new.stage ≡ joins.Failed → joined_waiting new ≡ [] → GaveSoFar way before file pulled → PlaysJoined way before file pulled new
failed_empty way before file pulled new failed none first =
    let same : pulled ≡ pulled ++ joined_waiting new = sym (ap (λ xs. pulled ++ xs) none ∙ append-nil pulled) in
    failed_joined way before file pulled new failed (subst (GaveSoFar way before file) same first)

-- ---- a player
pub stage_is : (way : Way) (before file pulled : List ℕ) (p : Joined) (stage : JoinStage) → p.stage ≡ stage → (is : PlaysJoined way before file pulled p)
    → PlaysFile stage file is.bits p.bare × PlaysJoinStage way stage (before ++ is.bits) (pulled ++ joined_waiting p)
stage_is way before file pulled p stage same is = (
  subst (λ s. PlaysFile s file is.bits p.bare) same is.plays,
  subst (λ s. PlaysJoinStage way s (before ++ is.bits) (pulled ++ joined_waiting p)) same is.stage,
)

pub none_joined : (p : Joined) → length p.pending.items ≤ p.pulled → joined_waiting p ≡ []
none_joined p few = drop_all p.pulled p.pending.items few

pub no_more : (xs ys : List ℕ) → ys ≡ [] → xs ++ ys ≡ xs
no_more xs ys none = ap (λ zs. xs ++ zs) none ∙ append-nil xs

-- ---- the file's bits that waited are taken
pub drained : (b : Bare) (file bits : List ℕ) (n : ℕ) → n ≡ length b.pending.items → PlaysBits file 0 bits b → PlaysBits file 0 (bits ++ bare_waiting b) (record b { pulled = n })
drained b file bits n all plays =
    let none : drop n b.pending.items ≡ [] = drop_all n b.pending.items (omega (arith, all)) in
    let same : bits ++ bare_waiting b ≡ (bits ++ bare_waiting b) ++ drop n b.pending.items = sym (no_more (bits ++ bare_waiting b) (drop n b.pending.items) none) in
    record { stage = subst (λ out. PlaysBareStage b.layout file 0 out b.header.items b.place b.stage) same plays.stage }

-- ---- what can be joined
pub misfits_none : (shape : Option Shape) (count : ℕ) (stage : BareStage) → IsNotOpen stage → Misfits shape count stage
misfits_none shape count (stages.Header walked) is = tt
misfits_none shape count (stages.Open s) is = absurd is
misfits_none shape count (stages.Sound s r) is = tt
misfits_none shape count (stages.After s back) is = tt
misfits_none shape count stages.Failed is = tt

-- none comes next where one has started
pub misfits_own : (shape : Option Shape) (count : ℕ) (stage : BareStage) (s : Sound) → IsOwn stage s → Misfits shape count stage
misfits_own shape count (stages.Header walked) s is = tt
misfits_own shape count (stages.Open t) s is = absurd is
misfits_own shape count (stages.Sound t r) s is = tt
misfits_own shape count (stages.After t back) s is = tt
misfits_own shape count stages.Failed s is = tt

-- the sound that has started is of the shape
pub own_shape : (shape : Option Shape) (stage : BareStage) (s : Sound) → IsOwn stage s → IsOfShape shape s → IfOwn stage (IsOfShape shape)
own_shape shape (stages.Header walked) s is of = tt
own_shape shape (stages.Open t) s is of = tt
own_shape shape (stages.Sound t r) s is of = subst (IsOfShape shape) (sym is) of
own_shape shape (stages.After t back) s is of = subst (IsOfShape shape) (sym is) of
own_shape shape stages.Failed s is of = tt

-- a sound that has not started is of any shape
pub not_own : (P Q : Sound → Type 0) (stage : BareStage) → IsNotOwn stage → IfOwn stage Q
not_own P Q (stages.Header walked) none = tt
not_own P Q (stages.Open s) none = tt
not_own P Q (stages.Sound s r) none = absurd none
not_own P Q (stages.After s back) none = absurd none
not_own P Q stages.Failed none = tt

-- ---- one file ends
pub before_own : (stage : BareStage) (layout : Layout) (file out header : List ℕ) (place : ℕ) → IsBeforeOwn stage → PlaysBareStage layout file 0 out header place stage → out ≡ []
before_own (stages.Header walked) layout file out header place is plays = plays.2
before_own (stages.Open s) layout file out header place is plays = plays.2
before_own (stages.Sound s r) layout file out header place is plays = absurd is
before_own (stages.After s back) layout file out header place is plays = absurd is
before_own stages.Failed layout file out header place is plays = absurd is

pub none_first : (xs ys : List ℕ) → xs ++ ys ≡ [] → xs ≡ []
none_first [] ys e = refl
none_first (x ∷ xs) ys e = absurd cc

-- nothing came of a file whose sound has not started
pub nothing_own : (b : Bare) (file bits : List ℕ) → IsBeforeOwn b.stage → PlaysBits file 0 bits b → bits ≡ []
nothing_own b file bits is plays = none_first bits (bare_waiting b) (before_own b.stage b.layout file (bits ++ bare_waiting b) b.header.items b.place is plays.stage)

-- all came of one that ends
pub all_own : (b : Bare) (file bits : List ℕ) (new : Bare) → new ≡ b → b.layout ≡ own_layout → bare_waiting b ≡ [] → EndsBits file 0 bits new → AreSoundOf file bits
all_own b file bits new same layout none ends = record {
  sound = ends.sound;
  header = ends.header;
  in_file = ends.in_file;
  own_is = sym (no_more bits (bare_waiting new) (ap bare_waiting same ∙ none)) ∙ ends.all ∙ ap (λ l. bits_from l ends.sound file 0) (ap (λ (c : Bare). c.layout) same ∙ layout);
}

-- ---- a push
pub before_fits : (stage : BareStage) (P : Sound → Type 0) → IsBeforeOwn stage → IfOwn stage P
before_fits (stages.Header walked) P is = tt
before_fits (stages.Open s) P is = tt
before_fits (stages.Sound s r) P is = absurd is
before_fits (stages.After s back) P is = absurd is
before_fits stages.Failed P is = absurd is

-- before the choice the sound doesn't start
pub fits_bare : (old new : Bare) (P : Sound → Type 0) → ((walked : ℕ) → old.stage ≡ stages.Header walked → IsNotOwn new.stage) → ((s : Sound) → old.stage ≡ stages.Open s → new ≡ old) → IsBeforeOwn old.stage → IfOwn new.stage P
fits_bare old new P header opens is = by old.stage refl is
  where
    by : (stage : BareStage) → old.stage ≡ stage → IsBeforeOwn stage → IfOwn new.stage P
    by (stages.Header walked) same before = not_own P P new.stage (header walked same)
    by (stages.Open s) same before = before_fits new.stage P (subst IsBeforeOwn (sym (ap (λ (b : Bare). b.stage) (opens s same) ∙ same)) tt)
    by (stages.Sound s r) same before = absurd before
    by (stages.After s back) same before = absurd before
    by stages.Failed same before = absurd before

pub joined_takes_ok : (p : Joined) (bytes : List ℕ) (r : Result ℕ PlayFault) → length p.pending.items ≤ p.pulled → IfOk r (TakesBare p.bare bytes) → IfOk r (TakesJoined p bytes)
joined_takes_ok p bytes (Ok n) ready taken = record { none = λ waits. absurd (omega (arith, waits, ready)); taken = λ _. taken }
joined_takes_ok p bytes (Err e) ready taken = tt

pub joined_refused_err : (p : Joined) (bytes : List ℕ) (stage : JoinStage) (r : Result ℕ PlayFault) → p.stage ≡ stage → IfErr r (RefusesJoinedAt stage p bytes) → IfErr r (RefusesJoined p bytes)
joined_refused_err p bytes stage (Ok n) is refuses = tt
joined_refused_err p bytes stage (Err e) is refuses = subst (λ s. RefusesJoinedAt s p bytes e) (sym is) refuses

-- ---- an end
pub on_two : {E A B C : Type 0} (r : Result Unit E) → (A → B → C) → OnOk r A → OnOk r B → OnOk r C
on_two (Ok x) f a b = f a b
on_two (Err e) f a b = tt

-- the frames that were not due make all
pub all_given : (way : Way) (g : Giver) (bytes pulled waits last now : List ℕ) → way_of g ≡ way → now ≡ waits ++ last
    → ((frames : ℕ) → length bytes ≡ frames * (way_of g).channels → (pulled ++ waits) ++ last ≡ (way_of g).frames bytes) → AreAllOf way bytes (pulled ++ now)
all_given way g bytes pulled waits last now is waiting all = λ frames long.
    ap (λ xs. pulled ++ xs) waiting ∙ sym (append_assoc pulled waits last)
    ∙ subst (λ (w : Way). length bytes ≡ frames * w.channels → (pulled ++ waits) ++ last ≡ w.frames bytes) is (all frames) long

-- a giver that was taken out gave so far
pub so_far : (way : Way) (before file bits out : List ℕ) (g : Giver) → IsGiver g → IsPrefixOfBits own_layout file 0 bits → way_of g ≡ way → HasGiven (before ++ bits) out g → GaveSoFar way before file out
so_far way before file bits out g ready own is has = record {
  bits = bits;
  own = own;
  first = subst (λ w. ComesFirst w (before ++ bits) out) is (given_comes_first g (before ++ bits) out ready has);
}

pub add_own : (way : Way) (before file pulled : List ℕ) (stage : BareStage) (bits : List ℕ) (new : Joined) (r : Result Unit PlayFault) → AddsOwn stage file bits → OnOk r (EndsRecording way (before ++ bits) pulled new)
    → OnOk r ((own : List ℕ) × AddsOwn stage file own × EndsRecording way (before ++ own) pulled new)
add_own way before file pulled stage bits new (Ok x) adds ends = (bits, adds, ends)
add_own way before file pulled stage bits new (Err e) adds ends = tt

-- ---- what a push leaves
pub failed_keeps : (new : Joined) → new.stage ≡ joins.Failed → IsBare new.bare → new.bare.layout ≡ own_layout → new.pulled ≤ length new.pending.items → IfSome new.shape IsShape → new.count ≤ 2 ^ 36 → IsJoined new
failed_keeps new failed bare layout pulled shape few = record { bare = bare; layout = layout; pulled = pulled; stage = subst (λ s. IsAtJoin s new) (sym failed) tt; shape = shape; few = few }

-- a player whose file alone changed, and that failed
pub same_fails : (old new : Joined) → new ≡ record old { bare = new.bare; count = new.count } → old.stage ≡ joins.Failed → old.pulled ≤ length old.pending.items → IfSome old.shape IsShape → IsBare new.bare → new.bare.layout ≡ own_layout → new.count ≤ 2 ^ 36 → IsJoined new
same_fails old new same failed pulled shape bare layout few =
    failed_keeps new (ap (λ (q : Joined). q.stage) same ∙ failed) bare layout (subst (λ (q : Joined). q.pulled ≤ length q.pending.items) (sym same) pulled) (subst (λ (q : Joined). IfSome q.shape IsShape) (sym same) shape) few

pub same_empty : (way : Way) (before file pulled : List ℕ) (old new : Joined) → new ≡ record old { bare = new.bare; count = new.count } → old.stage ≡ joins.Failed → joined_waiting old ≡ [] → GaveSoFar way before file pulled → PlaysJoined way before file pulled new
same_empty way before file pulled old new same failed none first =
    failed_empty way before file pulled new (ap (λ (q : Joined). q.stage) same ∙ failed) (ap joined_waiting same ∙ none) first

pub if_ok : {T F P : Type 0} (r : Result T F) → P → IfOk r (λ x. P)
if_ok (Ok x) is = is
if_ok (Err e) is = tt

-- where the sound comes next nothing waits
pub open_pulled : (b : Bare) (s : Sound) → IsBare b → b.stage ≡ stages.Open s → b.pulled ≡ length b.pending.items
open_pulled b s keeps is =
    let none : b.pending.items ≡ [] = subst (λ t. MakesNone t b.pending.items) is keeps.none in
    omega (arith, ap length none, keeps.pulled)

-- ---- a choice
pub refused_by : (p : Joined) (Refuses : PlayFault → Type 0) → (Refuses faults.NotJoined → ⊥) → (Refuses faults.TooLong → ⊥) → (fault : PlayFault) → Refuses fault → RefusesJoinedBy p Refuses fault
refused_by p Refuses joined long faults.FileRefused is = is
refused_by p Refuses joined long faults.RateNotDivided is = is
refused_by p Refuses joined long faults.TooLong is = absurd (long is)
refused_by p Refuses joined long faults.AfterFault is = inr is
refused_by p Refuses joined long faults.TooMuchHeld is = is
refused_by p Refuses joined long faults.NotYet is = is
refused_by p Refuses joined long faults.PastEnd is = is
refused_by p Refuses joined long faults.NoChoice is = is
refused_by p Refuses joined long faults.Chosen is = inr is
refused_by p Refuses joined long faults.NotJoined is = absurd (joined is)
refused_by p Refuses joined long faults.NoSeek is = is
refused_by p Refuses joined long faults.Memory is = is

pub if_err_map : {T F : Type 0} (A B : F → Type 0) (r : Result T F) → ((fault : F) → A fault → B fault) → IfErr r A → IfErr r B
if_err_map A B (Ok x) map is = tt
if_err_map A B (Err fault) map is = map fault is
