-- Lines that are appended to a text.
use Rattle.std.proofs.Common.{◌≡◌, ◌∙◌, ◌+◌, ◌++◌, [], ◌∷◌, List, ℕ, ℤ, zero, suc, inl, inr, ◌≤◌, Result, Ok, Err, OnOk, ap, sym, refl, append_assoc, arith, codes, add-one, get_or, length, map, subst, take, Vec, ◌<◌}
use Rattle.std.proofs.Math.Seq.{take-suc}
use Rattle.std.proofs.lemmas.List.{length-map, length-take-le, map-append}
use Rattle.std.specs.declared.alloc.Global.{Global}
use Rattle.std.specs.Fmt.{decimal}
use Rattle.std.specs.List.{AllZip, concat}
use Rattle.heard_core.specs.Levels.{IsLevel, level_text}
use Rattle.null_core.specs.declared.stretch.Stretch.{Stretch}
use Rattle.null_core.specs.declared.verdict.Heard.{Heard}
use Rattle.null_core.specs.declared.verdict.Verdict.TheVariants.{Accepted}
use Rattle.null_core.specs.Verdicts.{stretch_lists}
use Rattle.null_commands.specs.Lines.{Appends, EndsLine, Found, ShowsAllFound, ShowsFound, ShowsHeard, ShowsLevel, ShowsVerdict, found_at, found_from, places_text}

-- the list of a vector
abbrev items_of : Vec Stretch Global → List Stretch
items_of v = v.items

append_nil : {X : Type 0} (xs : List X) → xs ++ [] ≡ xs
append_nil [] = refl
append_nil (x ∷ xs) = ap (λ ys. x ∷ ys) (append_nil xs)

joined : {A B : Type 0} (R : A → B → Type 0) (xs : List A) (us : List B) (ys : List A) (vs : List B) → AllZip R xs us → AllZip R ys vs → AllZip R (xs ++ ys) (us ++ vs)
joined R [] [] ys vs all rest = rest
joined R [] (u ∷ us) ys vs all rest = elim all [ ]
joined R (x ∷ xs) [] ys vs all rest = elim all [ ]
joined R (x ∷ xs) (u ∷ us) ys vs all rest = (all.0, joined R xs us ys vs all.1 rest)

concat_joined : (xs ys : List (List ℕ)) → concat (map (λ line. line ++ 10 ∷ []) (xs ++ ys)) ≡ concat (map (λ line. line ++ 10 ∷ []) xs) ++ concat (map (λ line. line ++ 10 ∷ []) ys)
concat_joined [] ys = refl
concat_joined (x ∷ xs) ys = ap (λ text. (x ++ 10 ∷ []) ++ text) (concat_joined xs ys) ∙ sym (append_assoc (x ++ 10 ∷ []) _ _)

-- the lines of more stretches are appended
pub more_shown : (full : ℕ) (xs ys : List Found) (old mid new : List ℕ) → Appends (ShowsAllFound full xs) old mid → Appends (ShowsAllFound full ys) mid new → Appends (ShowsAllFound full (xs ++ ys)) old new
more_shown full xs ys old mid new (a, all, is) (b, rest, is') = (
  a ++ b,
  record {
    lines = all.lines ++ rest.lines;
    shown = joined (ShowsFound full) xs all.lines ys rest.lines all.shown rest.shown;
    text_is = (λ i. all.text_is i ++ rest.text_is i) ∙ sym (concat_joined all.lines rest.lines);
  },
  is' ∙ ap (λ text. text ++ b) is ∙ append_assoc old a b,
)

-- the line of one stretch is appended
pub one_shown : (full channel : ℕ) (s : Stretch) (old new : List ℕ) → Appends (EndsLine (ShowsFound full (found_at channel s))) old new → Appends (ShowsAllFound full (found_at channel s ∷ [])) old new
one_shown full channel s old new (text, (line, shown, is), whole) = (
  text,
  record { lines = line ∷ []; shown = (shown, tt); text_is = is ∙ sym (append_nil (line ++ 10 ∷ [])) },
  whole,
)

-- the stretches of one channel more
pub found_more : (channel : ℕ) (xs : List (List Stretch)) (ys : List Stretch) (n : ℕ) → n ≡ channel + length xs → found_from channel (xs ++ ys ∷ []) ≡ found_from channel xs ++ map (found_at n) ys
found_more channel [] ys n is = append_nil (map (found_at channel) ys) ∙ ap (λ k. map (found_at k) ys) (omega arith)
found_more channel (x ∷ xs) ys n is = ap (λ rest. map (found_at channel) x ++ rest) (found_more (channel + 1) xs ys n (omega arith)) ∙ sym (append_assoc (map (found_at channel) x) _ _)

regrouped : (old a level b d : List ℕ) → old ++ a ++ level ++ (b ++ (d ++ 10 ∷ [])) ≡ old ++ (a ++ level ++ b ++ d ++ 10 ∷ [])
regrouped old a level b d = simp append_assoc refl

-- a level is written between the start and the end of a stretch's line
pub line_shown : {E : Type 0} (full channel : ℕ) (s : Stretch) (old start mid new : List ℕ) (r : Result Unit E) → start ≡ old ++ places_text channel s → Appends (ShowsLevel full s.residual) start mid
    → OnOk r (new ≡ mid ++ (codes " place " ++ (decimal s.place ++ 10 ∷ []))) → OnOk r (Appends (EndsLine (ShowsFound full (found_at channel s))) old new)
line_shown full channel s old start mid new (Err e) is level whole = tt
line_shown full channel s old start mid new (Ok x) is (level, shown, then) whole =
    let line = places_text channel s ++ level ++ codes " place " ++ decimal s.place in
    let end = codes " place " ++ (decimal s.place ++ 10 ∷ []) in (
      line ++ 10 ∷ [],
      (line, (level, shown, refl), refl),
      whole ∙ ap (λ text. text ++ end) (then ∙ ap (λ text. text ++ level) is) ∙ regrouped old (places_text channel s) level (codes " place ") (decimal s.place),
    )

-- one stretch more of a channel
pub stretch_more : (full channel i : ℕ) (s d : Stretch) (xs : List Stretch) (old mid new : List ℕ) → i < length xs → s ≡ get_or xs i d → Appends (ShowsAllFound full (map (found_at channel) (take i xs))) old mid
    → Appends (EndsLine (ShowsFound full (found_at channel s))) mid new → Appends (ShowsAllFound full (map (found_at channel) (take (i + 1) xs))) old new
stretch_more full channel i s d xs old mid new within is so_far next =
    let more : take (i + 1) xs ≡ take i xs ++ s ∷ [] = rw (add-one i) (take-suc xs i d within ∙ ap (λ y. take i xs ++ y ∷ []) (sym is)) in
    let both : map (found_at channel) (take (i + 1) xs) ≡ map (found_at channel) (take i xs) ++ found_at channel s ∷ [] = ap (map (found_at channel)) more ∙ map-append (found_at channel) (take i xs) (s ∷ []) in
    subst (λ (found : List Found). Appends (ShowsAllFound full found) old new) (sym both) (more_shown full _ _ old mid new so_far (one_shown full channel s mid new next))

-- the stretches of one channel more
pub channel_more : (full i : ℕ) (v : Vec Stretch Global) (xs : List (Vec Stretch Global)) (found : List Stretch) (old mid new : List ℕ) → i < length xs → v ≡ get_or xs i v → found ≡ v.items
    → Appends (ShowsAllFound full (found_from 0 (map items_of (take i xs)))) old mid → Appends (ShowsAllFound full (map (found_at i) found)) mid new
    → Appends (ShowsAllFound full (found_from 0 (map items_of (take (i + 1) xs)))) old new
channel_more full i v xs found old mid new within is same so_far next =
    let more : take (i + 1) xs ≡ take i xs ++ v ∷ [] = rw (add-one i) (take-suc xs i v within ∙ ap (λ y. take i xs ++ y ∷ []) (sym is)) in
    let many : length (map items_of (take i xs)) ≡ i = length-map (take i xs) items_of ∙ length-take-le i xs (omega arith) in
    let both : found_from 0 (map items_of (take (i + 1) xs)) ≡ found_from 0 (map items_of (take i xs)) ++ map (found_at i) found =
    ap (λ ys. found_from 0 (map items_of ys)) more ∙ ap (found_from 0) (map-append items_of (take i xs) (v ∷ [])) ∙ found_more 0 (map items_of (take i xs)) v.items i (omega (arith, many)) ∙ ap (λ ys. found_from 0 (map items_of (take i xs)) ++ map (found_at i) ys) (sym same) in
    subst (λ (all : List Found). Appends (ShowsAllFound full all) old new) (sym both) (more_shown full _ _ old mid new so_far next)

-- the level that was appended
pub shown_level : (full value : ℕ) (old new : List ℕ) → (value ≡ 0 → new ≡ old ++ codes "-inf") → (1 ≤ value → (k : ℤ) × IsLevel value full k × (new ≡ old ++ level_text k)) → Appends (ShowsLevel full value) old new
shown_level full zero old new none some = (codes "-inf", inl (refl, refl), none refl)
shown_level full (suc n) old new none some = let level = some (omega arith) in (level_text level.0, inr (omega arith, (level.0, level.1, refl)), level.2)

pub level_shown : {E : Type 0} (full value : ℕ) (old new : List ℕ) (r : Result Unit E) → (value ≡ 0 → OnOk r (new ≡ old ++ codes "-inf")) → (1 ≤ value → OnOk r ((k : ℤ) × IsLevel value full k × (new ≡ old ++ level_text k))) → OnOk r (Appends (ShowsLevel full value) old new)
level_shown full value old new (Err e) none some = tt
level_shown full value old new (Ok x) none some = shown_level full value old new none some

-- what is heard: the lines of all stretches, then that of the verdict
pub heard_shown : (full : ℕ) (heard : Heard) (old mid new : List ℕ) → Appends (ShowsAllFound full (found_from 0 (stretch_lists heard))) old mid → Appends (ShowsVerdict full heard.verdict) mid new → Appends (ShowsHeard full heard) old new
heard_shown full heard old mid new (a, shown, is) (b, verdict_shown, is') = (
  a ++ b,
  record { lines = a; verdict = b; shown = shown; verdict_shown = verdict_shown; text_is = refl },
  is' ∙ ap (λ text. text ++ b) is ∙ append_assoc old a b,
)

-- what was appended to nothing
pub all_shown : (Shows : List ℕ → Type 0) (old new : List ℕ) → old ≡ [] → Appends Shows old new → Shows new
all_shown Shows old new none (text, shown, is) = subst Shows (sym (is ∙ ap (λ before. before ++ text) none)) shown

-- the line of an accepted master
pub accepted_shown : (full residual : ℕ) (old start new : List ℕ) → start ≡ old ++ (codes "accepted residual " ++ (decimal residual ++ codes " dBFS ")) → Appends (ShowsLevel full residual) start new → Appends (ShowsVerdict full (Accepted residual)) old new
accepted_shown full residual old start new is (level, shown, then) = (
  codes "accepted residual " ++ decimal residual ++ codes " dBFS " ++ level,
  (level, shown, refl),
  then ∙ ap (λ text. text ++ level) is ∙ simp append_assoc refl,
)
