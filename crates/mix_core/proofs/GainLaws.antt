-- The gains of a clip are read exactly where a table says them.
use Rattle.std.proofs.Common.{◌≡◌, ◌≢◌, ℕ, zero, suc, ◌+◌, ◌-◌, ◌≤◌, ◌<◌, ◌^◌, ℤ, pos, Bool, true, false, ◌&&◌, cond, eqb, leb, List, [], ◌∷◌, drop, get_or, length, map, Option, Some, None, Ok, Err, refl, sym, ap, subst, ◌∙◌, add-one, arith, unsigned_abs}
use Rattle.std.specs.Prelude.{All, nat_le, slice_get}
use Rattle.std.specs.List.{list_all}
use Rattle.std.specs.Option.{is_some, ok_or}
use Rattle.std.proofs.lemmas.Bool.{and_parts, eqb-false, le-leb, leb-true, lt-leb, lt-ltb}
use Rattle.std.proofs.lemmas.List.Elements.{All-cons, All-from_recursion, All-nil, All-head, recursion_from_All}
use Rattle.std.proofs.lemmas.List.{at_drop_all, at_drop_more, drop_all}
use Rattle.std.proofs.lemmas.Slice.Zip.{AllZip-long}
use Rattle.toml.specs.Data.{Data, integer, array, as_array, as_integer, Items, Members, get_member}
use Rattle.toml.specs.View.{items_of, items_view, view}
use Rattle.toml.specs.declared.value.Value.{Value}
use Rattle.toml.proofs.Views.{items_view-drop}
use Rattle.clip_core.specs.declared.gain.Point.{Point}
use Rattle.clip_core.specs.Clips.{GainContent, full, alike, ArePointsGiven, AreGains}
use Rattle.clip_core.specs.Clips as clips
use Rattle.clip_core.specs.Gains.{AreRising, IsPoint}
use Rattle.project_core.specs.declared.key.Key.{Key}
use Rattle.project_core.specs.declared.key.Key.TheVariants as keys
use Rattle.project_core.specs.declared.key.Table.{Table}
use Rattle.project_core.specs.declared.key.Table.TheVariants as tables
use Rattle.project_core.specs.declared.fault.ProjectFault.TheVariants.{Memory, OutOfLimit, WrongKind}
use Rattle.project_core.specs.Keys.{key_name}
use Rattle.project_core.specs.Steps.{◌>>=◌, each}
use Rattle.project_core.specs.Tables.{list_of, numbers}
use Rattle.project_core.specs.Reading.{array_of, below, integer_of, integers_of, is_number}
use Rattle.project_core.proofs.TableLaws.{array_ok, below_ok, bind_ok, each_ok, integer_ok, items_of-list_of, list_of-items_of, number_parts, ok_or_ok, passed, tested, zip_right, zip_spelled}
use Rattle.project_core.proofs.TableAgain.{each_again, number_again}
use Rattle.mix_core.specs.Values.{gain_value, gains_value, lists, point, points}
use Rattle.mix_core.specs.ReadingGains.{alone, are_integers, each_list, each_point, gain_of, gains_at, gains_or_lists, lists_of, point_at, point_in, point_of, points_of, rise_from, some_lists}

-- what a table says of the gains of a clip
pub record SaysGains (t : Members) (g : GainContent) : Type 0 where
  pub gain : get_member (key_name keys.Gain) t ≡ gain_value g
  pub gains : get_member (key_name keys.Gains) t ≡ gains_value g
  pub some_lists : g ≢ clips.each []
  pub fit : AreGains g

-- ---- a point
at_ok : (o : Option ℕ) (g : ℤ) (p : Point) → point_at o g ≡ Some p → (o ≡ Some p.place) × (g ≡ p.gain) × (unsigned_abs p.gain ≤ 2 ^ 26)
at_ok None g p e = absurd cc
at_ok (Some n) g p e = of_test (leb (unsigned_abs g) (2 ^ 26)) refl e
  where
    of_test : (b : Bool) → leb (unsigned_abs g) (2 ^ 26) ≡ b → cond b (Some (record { place = n; gain = g })) None ≡ Some p → (Some n ≡ Some p.place) × (g ≡ p.gain) × (unsigned_abs p.gain ≤ 2 ^ 26)
    of_test true t h =
        let made : Point = record { place = n; gain = g } in
        let same : made ≡ p = cc in
        rw (← same) (refl, refl, leb-true (unsigned_abs g) (2 ^ 26) t)
    of_test false t h = absurd cc

in_ok : (zs : List ℤ) (p : Point) → point_in zs ≡ Some p → (zs ≡ pos p.place ∷ p.gain ∷ []) × IsPoint p
in_ok [] p e = absurd cc
in_ok (z ∷ []) p e = absurd cc
in_ok (z ∷ g ∷ []) p e =
    let a = at_ok (below (2 ^ 36 + 1) z) g p e in
    let b = below_ok (2 ^ 36 + 1) z Memory p.place (rw a.0 refl) in
    (rw (b.0, a.1) refl, record { place_fits = omega (arith, b.1); gain_fits = a.2 })
in_ok (z ∷ g ∷ x ∷ zs) p e = absurd cc

point_ok : (key : Key) (clip : Table) (d : Data) (p : Point) → point_of key clip d ≡ Ok p → (d ≡ point p) × IsPoint p
unfolding point_of integers_of
point_ok key clip d p e =
    let a = bind_ok (array_of key clip d) (λ ds. each (λ _. integer_of key clip) 0 (list_of ds) >>= λ zs. ok_or (point_in zs) (OutOfLimit key clip)) p e in
    let b = bind_ok (each (λ _. integer_of key clip) 0 (list_of a.0)) (λ zs. ok_or (point_in zs) (OutOfLimit key clip)) p a.2 in
    let c = in_ok b.0 p (ok_or_ok (point_in b.0) (OutOfLimit key clip) p b.2) in
    let spelled : list_of a.0 ≡ map integer b.0 = zip_spelled integer (list_of a.0) b.0 (each_ok (λ _. integer_of key clip) (λ d z. d ≡ integer z) (λ _ d z h. integer_ok key clip d z h) 0 (list_of a.0) b.0 b.1) in
    let items : a.0 ≡ items_of (map integer b.0) = sym (items_of-list_of a.0) ∙ ap items_of spelled in
    (array_ok key clip d a.0 a.1 ∙ ap array items ∙ ap numbers c.0, c.1)

point_again : (key : Key) (clip : Table) (p : Point) → IsPoint p → point_of key clip (point p) ≡ Ok p
unfolding point_of integers_of
point_again key clip p h =
    let lt : p.place < 2 ^ 36 + 1 = omega (arith, h.place_fits) in
    rw (lt-ltb p.place (2 ^ 36 + 1) lt, le-leb (unsigned_abs p.gain) (2 ^ 26) h.gain_fits)

-- ---- points
pub each_point_ok : (key : Key) (clip : Table) (ds : List Data) (ps : List Point) → each_point key clip ds ≡ Ok ps → (ds ≡ map point ps) × All IsPoint ps
unfolding each_point
each_point_ok key clip ds ps e =
    let spelled = each_ok (λ _. point_of key clip) (λ d p. d ≡ point p) (λ _ d p h. (point_ok key clip d p h).0) 0 ds ps e in
    let within = each_ok (λ _. point_of key clip) (λ d p. IsPoint p) (λ _ d p h. (point_ok key clip d p h).1) 0 ds ps e in
    (zip_spelled point ds ps spelled, All-from_recursion IsPoint ps (zip_right (λ d p. IsPoint p) IsPoint (λ d p h. h) ds ps within))

rises : (least : ℕ) (ps : List Point) → rise_from least ps ≡ true → (i : ℕ) (p q : Point) → slice_get ps i ≡ Some p → slice_get ps (suc i) ≡ Some q → p.place < q.place
rises least [] h i p q hp hq = absurd cc
rises least (x ∷ []) h i p q hp hq = absurd cc
rises least (x ∷ y ∷ ps) h zero p q hp hq =
    let first : x ≡ p = cc in
    let second : y ≡ q = cc in
    let a = and_parts (nat_le least x.place) (rise_from (x.place + 1) (y ∷ ps)) h in
    let b = and_parts (nat_le (x.place + 1) y.place) (rise_from (y.place + 1) ps) a.1 in
    rw (← first, ← second) (omega (arith, leb-true (x.place + 1) y.place b.0))
rises least (x ∷ y ∷ ps) h (suc i) p q hp hq =
    let a = and_parts (nat_le least x.place) (rise_from (x.place + 1) (y ∷ ps)) h in
    rises (x.place + 1) (y ∷ ps) a.1 i p q hp hq

rising : (ps : List Point) → rise_from 0 ps ≡ true → AreRising ps
rising ps h = λ i p q hp hq. rises 0 ps h i p q hp (subst (λ (k : ℕ). slice_get ps k ≡ Some q) (add-one i) hq)

-- whether points rise is told by those from a number of them on
abbrev pub RisesSoFar : List Point → ℕ → ℕ → Type 0
RisesSoFar points least i = rise_from least (drop i points) ≡ rise_from 0 points

pub rising_ended : (points : List Point) (least i : ℕ) → length points ≤ i → RisesSoFar points least i → true ≡ rise_from 0 points
rising_ended points least i end so = sym (at_drop_all (rise_from least) points i end) ∙ so

module _ (points : List Point) (least i : ℕ) (d : Point) (inside : i < length points) (so : RisesSoFar points least i) where
  rising_next : (b : Bool) → nat_le least (get_or points i d).place ≡ b → (b && rise_from ((get_or points i d).place + 1) (drop (i + 1) points)) ≡ rise_from 0 points
  rising_next b here =
      let rest = rise_from ((get_or points i d).place + 1) (drop (i + 1) points) in
      sym (ap (λ x. x && rest) here) ∙ sym (at_drop_more (rise_from least) points i d inside) ∙ so

  pub rising_more : least ≤ (get_or points i d).place → RisesSoFar points ((get_or points i d).place + 1) (i + 1)
  rising_more le = rising_next true (le-leb least (get_or points i d).place le)

  pub falls : (get_or points i d).place < least → false ≡ rise_from 0 points
  falls lt = rising_next false (lt-leb least (get_or points i d).place lt)

-- what is told of points that are neither none nor too many
pub counted : (n : ℕ) (b r : Bool) → false ≡ eqb n 0 → n ≤ 4096 → b ≡ r → b ≡ (is_number 4096 n && r)
counted n b r some few is =
    let any : 1 ≤ n = omega (arith, eqb-false n 0 (sym some)) in
    rw (number_again 4096 n (any, few)) is

rise_again : (least : ℕ) (ps : List Point) → ((i : ℕ) (p q : Point) → slice_get ps i ≡ Some p → slice_get ps (suc i) ≡ Some q → p.place < q.place) → ((p : Point) → slice_get ps 0 ≡ Some p → least ≤ p.place) → rise_from least ps ≡ true
rise_again least [] h first = refl
rise_again least (x ∷ ps) h first =
    let later : rise_from (x.place + 1) ps ≡ true = rise_again (x.place + 1) ps (λ i p q hp hq. h (suc i) p q hp hq) (λ q hq. let lt : x.place < q.place = h 0 x q refl hq in omega arith) in
    rw (le-leb least x.place (first x refl), later)

rising_again : (ps : List Point) → AreRising ps → rise_from 0 ps ≡ true
rising_again ps h = rise_again 0 ps (λ i p q hp hq. h i p q hp (subst (λ (k : ℕ). slice_get ps k ≡ Some q) (sym (add-one i)) hq)) (λ p e. omega arith)

pub points_ok : (key : Key) (clip : Table) (d : Data) (ps : List Point) → points_of key clip d ≡ Ok ps → (d ≡ points ps) × ArePointsGiven ps
unfolding points_of
points_ok key clip d ps e =
    let a = bind_ok (array_of key clip d) (λ ds. each_point key clip (list_of ds) >>= λ xs. cond (is_number 4096 (length xs) && rise_from 0 xs) (Ok xs) (Err (OutOfLimit key clip))) ps e in
    let b = bind_ok (each_point key clip (list_of a.0)) (λ xs. cond (is_number 4096 (length xs) && rise_from 0 xs) (Ok xs) (Err (OutOfLimit key clip))) ps a.2 in
    let c = passed (is_number 4096 (length b.0) && rise_from 0 b.0) (OutOfLimit key clip) b.0 ps b.2 in
    let test = and_parts (is_number 4096 (length b.0)) (rise_from 0 b.0) c.0 in
    let number = number_parts 4096 (length b.0) test.0 in
    let read = each_point_ok key clip (list_of a.0) b.0 b.1 in
    let items : a.0 ≡ items_of (map point b.0) = sym (items_of-list_of a.0) ∙ ap items_of read.0 in
    let given : ArePointsGiven b.0 = record { some = number.0; within = record { few = number.1; each = read.1; rising = rising b.0 test.1 } } in
    subst (λ (xs : List Point). (d ≡ points xs) × ArePointsGiven xs) c.1 (array_ok key clip d a.0 a.1 ∙ ap array items, given)

points_again : (key : Key) (clip : Table) (ps : List Point) → ArePointsGiven ps → points_of key clip (points ps) ≡ Ok ps
unfolding points_of each_point
points_again key clip ps h =
    rw (
      list_of-items_of (map point ps),
      each_again (λ _. point_of key clip) point IsPoint (λ _ p fit. point_again key clip p fit) 0 ps (recursion_from_All IsPoint ps h.within.each),
      number_again 4096 (length ps) (h.some, h.within.few),
      rising_again ps h.within.rising,
    )

-- ---- all are integers
points_inside : (ps : List Point) → list_all (are_integers 1) (map point ps) ≡ true
points_inside [] = refl
points_inside (p ∷ ps) = points_inside ps

pub points_are : (ps : List Point) → are_integers 2 (points ps) ≡ true
points_are ps = rw (list_of-items_of (map point ps)) (points_inside ps)

lists_inside : (pss : List (List Point)) → list_all (are_integers 2) (map points pss) ≡ true
lists_inside [] = refl
lists_inside (ps ∷ pss) = rw (points_are ps) (lists_inside pss)

lists_are : (pss : List (List Point)) → are_integers 3 (lists pss) ≡ true
lists_are pss = rw (list_of-items_of (map points pss)) (lists_inside pss)

-- none is left to go down
pub alone_is : (depth : ℕ) (d : Data) → depth ≡ 0 → is_some (as_integer d) ≡ are_integers depth d
alone_is depth d e = rw e refl

-- one level down, as a loop over the values of an array tests them
pub deeper : (depth : ℕ) (d : Data) (ds : Items) → (depth ≡ 0 → ⊥) → as_array d ≡ Some ds → are_integers depth d ≡ list_all (are_integers (depth - 1)) (list_of ds)
deeper zero d ds some e = absurd (some refl)
deeper (suc depth) d ds some e =
    let same : suc depth - 1 ≡ depth = omega arith in
    rw (array_ok keys.Gain tables.Mix d ds (rw e refl), same) refl

pub stops : (depth : ℕ) (vs : List Value) (i : ℕ) (v : Value) → i < length vs → v ≡ get_or vs i v → are_integers depth (view v) ≡ false → list_all (are_integers depth) (list_of (items_view (drop i vs))) ≡ false
stops depth vs i v lt is h = rw (items_view-drop vs i v lt, ← is, h) refl

pub goes_on : (depth : ℕ) (vs : List Value) (i : ℕ) (v : Value) → i < length vs → v ≡ get_or vs i v → are_integers depth (view v) ≡ true → list_all (are_integers depth) (list_of (items_view (drop i vs))) ≡ list_all (are_integers depth) (list_of (items_view (drop (i + 1) vs)))
goes_on depth vs i v lt is h = rw (items_view-drop vs i v lt, ← is, h) refl

pub all_seen : (depth : ℕ) (vs : List Value) (i : ℕ) → length vs ≤ i → list_all (are_integers depth) (list_of (items_view (drop i vs))) ≡ true
all_seen depth vs i le = rw (drop_all i vs le) refl

-- ---- the gains
gain_ok : (clip : Table) (d : Data) (ps : List Point) → gain_of clip d ≡ Ok ps → (d ≡ points ps) × ArePointsGiven ps
unfolding gain_of
gain_ok clip d ps e = points_ok keys.Gain clip d ps ((tested (are_integers 2 d) (WrongKind keys.Gain clip) (points_of keys.Gain clip d) ps e).1)

gain_again : (clip : Table) (ps : List Point) → ArePointsGiven ps → gain_of clip (points ps) ≡ Ok ps
unfolding gain_of
gain_again clip ps h = rw (points_are ps) (points_again keys.Gain clip ps h)

lists_ok : (clip : Table) (d : Data) (pss : List (List Point)) → lists_of clip d ≡ Ok pss → (d ≡ lists pss) × (1 ≤ length pss) × All ArePointsGiven pss
unfolding lists_of each_list
lists_ok clip d pss e =
    let a = tested (are_integers 3 d) (WrongKind keys.Gains clip) (array_of keys.Gains clip d >>= λ ds. some_lists clip (list_of ds)) pss e in
    let b = bind_ok (array_of keys.Gains clip d) (λ ds. some_lists clip (list_of ds)) pss a.1 in
    let c = tested (nat_le 1 (length (list_of b.0))) (OutOfLimit keys.Gains clip) (each_list clip (list_of b.0)) pss b.2 in
    let spelled = each_ok (λ _. points_of keys.Gains clip) (λ d ps. d ≡ points ps) (λ _ d ps h. (points_ok keys.Gains clip d ps h).0) 0 (list_of b.0) pss c.1 in
    let within = each_ok (λ _. points_of keys.Gains clip) (λ d ps. ArePointsGiven ps) (λ _ d ps h. (points_ok keys.Gains clip d ps h).1) 0 (list_of b.0) pss c.1 in
    let items : b.0 ≡ items_of (map points pss) = sym (items_of-list_of b.0) ∙ ap items_of (zip_spelled points (list_of b.0) pss spelled) in
    let long : length pss ≡ length (list_of b.0) = AllZip-long (λ d ps. d ≡ points ps) (list_of b.0) pss spelled in
    let some : 1 ≤ length (list_of b.0) = leb-true 1 (length (list_of b.0)) c.0 in
    (array_ok keys.Gains clip d b.0 b.1 ∙ ap array items, omega arith, All-from_recursion ArePointsGiven pss (zip_right (λ d ps. ArePointsGiven ps) ArePointsGiven (λ d ps h. h) (list_of b.0) pss within))

lists_again : (clip : Table) (pss : List (List Point)) → 1 ≤ length (map points pss) → All ArePointsGiven pss → lists_of clip (lists pss) ≡ Ok pss
unfolding lists_of each_list
lists_again clip pss some fit =
    rw (
      lists_are pss,
      list_of-items_of (map points pss),
      le-leb 1 (length (map points pss)) some,
      each_again (λ _. points_of keys.Gains clip) points ArePointsGiven (λ _ ps h. points_again keys.Gains clip ps h) 0 pss (recursion_from_All ArePointsGiven pss fit),
    )

found : (clip : Table) (o others : Option Data) (g : GainContent) → gains_or_lists clip others o ≡ Ok g → (o ≡ gain_value g) × (others ≡ gains_value g) × (g ≢ clips.each []) × AreGains g
found clip None None g e =
    let same : full ≡ g = cc in
    rw (← same) (refl, refl, λ h. cc, All-nil ArePointsGiven)
found clip None (Some d) g e =
    let a = bind_ok (lists_of clip d) (λ pss. Ok (clips.each pss)) g e in
    let same : clips.each a.0 ≡ g = cc in
    let l = lists_ok clip d a.0 a.1 in
    rw (← same) (refl, ap (λ (x : Data). Some x) l.0, λ h. (let none : a.0 ≡ [] = cc in let zero_long : length a.0 ≡ 0 = ap length none in omega (arith, l.1, zero_long)), l.2)
found clip (Some d) None g e =
    let a = bind_ok (gain_of clip d) (λ ps. alone clip ps None) g e in
    let same : alike a.0 ≡ g = cc in
    let k = gain_ok clip d a.0 a.1 in
    rw (← same) (ap (λ (x : Data). Some x) k.0, refl, λ h. cc, All-cons ArePointsGiven a.0 [] k.1 (All-nil ArePointsGiven))
found clip (Some d) (Some x) g e =
    let a = bind_ok (gain_of clip d) (λ ps. alone clip ps (Some x)) g e in
    let h : Err (OutOfLimit keys.Gains clip) ≡ Ok g = a.2 in
    absurd cc

pub gains_ok : (clip : Table) (t : Members) (g : GainContent) → gains_at clip t ≡ Ok g → SaysGains t g
unfolding gains_at
gains_ok clip t g e =
    let f = found clip (get_member (key_name keys.Gain) t) (get_member (key_name keys.Gains) t) g e in
    record { gain = f.0; gains = f.1; some_lists = f.2; fit = f.3 }

pub gains_again : (clip : Table) (t : Members) (g : GainContent) → SaysGains t g → gains_at clip t ≡ Ok g
unfolding gains_at
gains_again clip t full h = rw (h.gain, h.gains)
gains_again clip t (alike ps) h = rw (h.gain, h.gains, gain_again clip ps (All-head ArePointsGiven ps [] h.fit))
gains_again clip t (clips.each []) h = absurd (h.some_lists refl)
gains_again clip t (clips.each (ps ∷ pss)) h = rw (h.gain, h.gains, lists_again clip (ps ∷ pss) (omega arith) h.fit)
