-- What a file whose channels are reordered has left.
use Rattle.std.proofs.Common.{◌⊎◌, ◌≡◌, ℕ, suc, ◌+◌, ◌-◌, ◌*◌, ◌<◌, ◌≤◌, Bool, true, false, IsTrue, IsFalse, OnOk, OnErr, Result, Ok, Err, List, [], ◌∷◌, ◌++◌, All, flat_map, length, min, take, drop, Option, None, Some, inl, inr, refl, sym, ap, ap₂, subst, ◌∙◌, append_assoc, append-nil, arith, length-append, length-drop, take-append-drop}
use Rattle.std.specs.Io.KnownBytes.{Consumes, IsAtEnd, Keeps, ReadConsumes, prepend_known}
use lib.Seq.{drop-drop, length-take-le}
use Rattle.std.proofs.KnownBytes.{Keeps-trans}
use Rattle.speaker_core.specs.Reordered.{reordered_known}
use Rattle.speaker_core.specs.Reordering.{NamesChannels, group_in, groups_in}
use Rattle.speaker_core.proofs.GroupLaws.{groups_join, groups_step}

-- what is left, by its parts
abbrev pub left_of : List ℕ → ℕ → ℕ → ℕ → List ℕ → ℕ → List ℕ → Option (List ℕ) → Option (List ℕ)
left_of order size groups given ready filled raw left = prepend_known (drop given ready) (reordered_known order size groups (prepend_known (take filled raw) left))

-- bytes that were read are ready now, in their order
pub turned : (order : List ℕ) (size groups later : ℕ) (front raw raw2 ready : List ℕ) (a left : Option (List ℕ)) → front ≡ [] → Keeps a (prepend_known raw left)
    → ((ys : List ℕ) → left ≡ Some ys → groups_in order size groups (raw ++ ys) ≡ ready ++ groups_in order size later ys)
    → Keeps (prepend_known front (reordered_known order size groups a)) (left_of order size later 0 ready 0 raw2 left)
turned order size groups later front raw raw2 ready None left none keeps same = tt
turned order size groups later front raw raw2 ready (Some xs) None none keeps same = absurd keeps
turned order size groups later front raw raw2 ready (Some xs) (Some ys) none keeps same =
    sym (ap₂ (λ l m. l ++ groups_in order size groups m) none (sym keeps) ∙ same ys refl)

-- at the end of a file
pub at_its_end : (order : List ℕ) (size groups later : ℕ) (raw ready : List ℕ) (left : Option (List ℕ)) → IsAtEnd left → later ≡ 0 → ready ≡ groups_in order size groups raw
    → (ys : List ℕ) → left ≡ Some ys → groups_in order size groups (raw ++ ys) ≡ ready ++ groups_in order size later ys
at_its_end order size groups later raw ready left ended last is ys left_is =
    let none : ys ≡ [] = subst IsAtEnd left_is ended in
    ap (λ l. groups_in order size groups (raw ++ l)) none ∙ ap (groups_in order size groups) (append-nil raw) ∙ sym is ∙ sym (append-nil ready)
    ∙ ap (λ l. ready ++ l) (sym (ap₂ (λ n l. groups_in order size n l) last none))

-- before it
pub in_the_midst : (order : List ℕ) (size groups batch later : ℕ) (raw ready ys : List ℕ) → batch + later ≡ groups → length raw ≡ batch * (length order * size) → ready ≡ groups_in order size batch raw
    → groups_in order size groups (raw ++ ys) ≡ ready ++ groups_in order size later ys
in_the_midst order size groups batch later raw ready ys all whole is =
    ap (λ n. groups_in order size n (raw ++ ys)) (sym all) ∙ groups_join order size batch later raw ys whole ∙ ap (λ l. l ++ groups_in order size later ys) (sym is)

-- both
pub filled_up : (order : List ℕ) (size own_groups batch groups later filled wanted : ℕ) (front raw2 ready buffer : List ℕ) (a left : Option (List ℕ)) (is_at_end : Bool)
    → front ≡ [] → Keeps a (prepend_known (take filled buffer) left) → ready ≡ groups_in order size groups (take filled buffer)
    → (IsTrue is_at_end → IsAtEnd left) → (IsTrue is_at_end → (groups ≡ own_groups) × (later ≡ 0))
    → (IsFalse is_at_end → filled ≡ wanted) → (IsFalse is_at_end → (groups ≡ batch) × (batch + later ≡ own_groups))
    → wanted ≡ batch * (length order * size) → wanted ≤ length buffer
    → Keeps (prepend_known front (reordered_known order size own_groups a)) (left_of order size later 0 ready 0 raw2 left)
filled_up order size own_groups batch groups later filled wanted front raw2 ready buffer a left true none keeps is ended all full some size_is room =
    turned order size own_groups later front (take filled buffer) raw2 ready a left none keeps
    (at_its_end order size own_groups later (take filled buffer) ready left (ended refl) (all refl).1 (is ∙ ap (λ n. groups_in order size n (take filled buffer)) (all refl).0))
filled_up order size own_groups batch groups later filled wanted front raw2 ready buffer a left false none keeps is ended all full some size_is room =
    let few : filled ≤ length buffer = omega (arith, full refl, room) in
    turned order size own_groups later front (take filled buffer) raw2 ready a left none keeps
    (λ ys left_is. in_the_midst order size own_groups batch later (take filled buffer) ready ys (some refl).1 (length-take-le filled buffer few ∙ full refl ∙ size_is) (is ∙ ap (λ n. groups_in order size n (take filled buffer)) (some refl).0))

-- the same bytes are left of equal parts
pub left_again : (order order2 : List ℕ) (size size2 groups groups2 given given2 filled filled2 : ℕ) (ready ready2 raw raw2 : List ℕ) (left left2 : Option (List ℕ))
    → order2 ≡ order → size2 ≡ size → groups2 ≡ groups → given2 ≡ given → filled2 ≡ filled → ready2 ≡ ready → raw2 ≡ raw → left2 ≡ left
    → left_of order2 size2 groups2 given2 ready2 filled2 raw2 left2 ≡ left_of order size groups given ready filled raw left
left_again order order2 size size2 groups groups2 given given2 filled filled2 ready ready2 raw raw2 left left2 o s g v f r w l =
    ap₂ (λ x y. left_of x y groups2 given2 ready2 filled2 raw2 left2) o s ∙ ap₂ (λ x y. left_of order size x y ready2 filled2 raw2 left2) g v
    ∙ ap₂ (λ x y. left_of order size groups given x y raw2 left2) r f ∙ ap₂ (λ x y. left_of order size groups given ready filled x y) w l

-- bytes that were read wait
pub waited : (order : List ℕ) (size groups : ℕ) (front : List ℕ) (a b : Option (List ℕ)) → front ≡ [] → Keeps a b → Keeps (prepend_known front (reordered_known order size groups a)) (prepend_known [] (reordered_known order size groups b))
waited order size groups front None b none keeps = tt
waited order size groups front (Some xs) None none keeps = absurd keeps
waited order size groups front (Some xs) (Some ys) none keeps = ap (groups_in order size groups) keeps ∙ sym (ap (λ l. l ++ groups_in order size groups xs) none)

-- nothing is ready, and no group is left that is to be reordered
pub plain_left : (order : List ℕ) (size groups given filled : ℕ) (ready raw : List ℕ) (left : Option (List ℕ)) → drop given ready ≡ [] → groups ≡ 0 → filled ≡ 0 → left_of order size groups given ready filled raw left ≡ left
plain_left order size groups given filled ready raw None none last empty = refl
plain_left order size groups given filled ready raw (Some xs) none last empty =
    ap Some (ap₂ (λ l n. l ++ groups_in order size n (take filled raw ++ xs)) none last ∙ ap (λ n. take n raw ++ xs) empty)

-- ---- reads
pub kept_reads : {E : Type 0} (a b c : Option (List ℕ)) (r : Result ℕ E) (buf : List ℕ) → Keeps a b → ReadConsumes b c r buf → ReadConsumes a c r buf
kept_reads None b c (Ok n) buf keeps reads = (tt, reads.1)
kept_reads (Some xs) None c (Ok n) buf keeps reads = absurd keeps
kept_reads (Some xs) (Some ys) None (Ok n) buf keeps reads = absurd reads.0
kept_reads (Some xs) (Some ys) (Some zs) (Ok n) buf keeps reads = (sym keeps ∙ reads.0, reads.1)
kept_reads a b c (Err e) buf keeps reads = Keeps-trans a b c keeps reads

-- bytes that were ready were given
pub given_ready : (order : List ℕ) (size groups given filled n : ℕ) (ready raw front : List ℕ) (left : Option (List ℕ)) → front ≡ take n (drop given ready)
    → Consumes (left_of order size groups given ready filled raw left) (left_of order size groups (given + n) ready filled raw left) front
given_ready order size groups given filled n ready raw front None is = tt
given_ready order size groups given filled n ready raw front (Some xs) is =
    let rest = groups_in order size groups (take filled raw ++ xs) in
    ap (λ l. l ++ rest) (sym (take-append-drop n (drop given ready)) ∙ ap₂ (λ l m. l ++ m) (sym is) (drop-drop n given ready)) ∙ append_assoc front (drop (given + n) ready) rest

pub kept_consumes : (a b c : Option (List ℕ)) (bs : List ℕ) → Keeps a b → Consumes b c bs → Consumes a c bs
kept_consumes None b c bs keeps reads = tt
kept_consumes (Some xs) None c bs keeps reads = absurd keeps
kept_consumes (Some xs) (Some ys) None bs keeps reads = absurd reads
kept_consumes (Some xs) (Some ys) (Some zs) bs keeps reads = sym keeps ∙ reads

-- ---- bytes come of groups
place_fits : (c n size : ℕ) → c < n → c * size + size ≤ n * size
place_fits c n size below = grind arith

part_long : (cs : List ℕ) (n size : ℕ) (group : List ℕ) → All (λ c. c < n) cs → length group ≡ n * size → length (flat_map (λ c. take size (drop (c * size) group)) cs) ≡ length cs * size
part_long [] n size group below whole = omega arith
part_long (c ∷ cs) n size group below whole =
    let fits = place_fits c n size (below 0 0 (omega arith)) in
    let one : length (take size (drop (c * size) group)) ≡ size = length-take-le size (drop (c * size) group) (omega (arith, fits, whole, length-drop (c * size) group)) in
    let sum : suc (length cs) * size ≡ size + length cs * size = grind arith in
    length-append (take size (drop (c * size) group)) (flat_map (λ c. take size (drop (c * size) group)) cs) ∙ ap₂ (λ x y. x + y) one (part_long cs n size group (λ k d within. below (suc k) d (omega (arith, within))) whole) ∙ sym sum

batch_fits : (batch group : ℕ) → 0 < batch → group ≤ batch * group
batch_fits batch group some = grind arith

pub some_ready : (order : List ℕ) (size batch : ℕ) (raw : List ℕ) → NamesChannels order → 1 ≤ length order * size → 0 < batch → length raw ≡ batch * (length order * size) → 0 < length (groups_in order size batch raw)
some_ready order size batch raw named some first whole =
    let group = length order * size in
    let long : group ≤ length raw = omega (arith, whole, batch_fits batch group first) in
    let parts = ap length (groups_step order size batch raw first long) ∙ length-append (group_in order size (take group raw)) (groups_in order size (batch - 1) (drop group raw)) in
    omega (arith, parts, part_long order (length order) size (take group raw) named (length-take-le group raw long), some)

-- after bytes were put in order, one is ready, or no group is left
pub has_next : (order : List ℕ) (size own_groups batch groups later filled wanted given2 groups2 : ℕ) (ready buffer : List ℕ) (is_at_end : Bool) → NamesChannels order → 1 ≤ length order * size → 0 < batch
    → given2 ≡ 0 → groups2 ≡ later → ready ≡ groups_in order size groups (take filled buffer)
    → (IsTrue is_at_end → (groups ≡ own_groups) × (later ≡ 0)) → (IsFalse is_at_end → filled ≡ wanted) → (IsFalse is_at_end → (groups ≡ batch) × (batch + later ≡ own_groups))
    → wanted ≡ batch * (length order * size) → wanted ≤ length buffer → (given2 < length ready) ⊎ (groups2 ≡ 0)
has_next order size own_groups batch groups later filled wanted given2 groups2 ready buffer true named some first start left is all full parts size_is room = inr (left ∙ (all refl).1)
has_next order size own_groups batch groups later filled wanted given2 groups2 ready buffer false named some first start left is all full parts size_is room =
    let few : filled ≤ length buffer = omega (arith, full refl, room) in
    let whole : length (take filled buffer) ≡ batch * (length order * size) = length-take-le filled buffer few ∙ full refl ∙ size_is in
    let same = ap length (is ∙ ap (λ n. groups_in order size n (take filled buffer)) (parts refl).0) in
    inl (omega (arith, start, same, some_ready order size batch (take filled buffer) named some first whole))

pub times_le : (a b n : ℕ) → a ≤ b → a * n ≤ b * n
times_le a b n few = grind arith

-- what is wanted fits where it is read to
pub fits_room : (batch most groups number n size room : ℕ) → batch ≡ min most groups → number ≡ n → most * (n * size) ≤ room → batch * (number * size) ≤ room
fits_room batch most groups number n size room least same fits = omega (arith, ap (λ m. batch * (m * size)) same, times_le batch most (n * size) (omega (arith, least)), fits)

-- ---- results
pub on_either : {X E : Type 0} (r : Result X E) {P Q K : Type 0} → OnOk r P → OnErr r Q → (P → K) → (Q → K) → K
on_either (Ok x) p q then_is else_is = then_is p
on_either (Err e) p q then_is else_is = else_is q

pub on_ok_too : {X E : Type 0} (r : Result X E) {P Q : Type 0} → OnOk r P → (P → Q) → OnOk r Q
on_ok_too (Ok x) p then_is = then_is p
on_ok_too (Err e) p then_is = tt
