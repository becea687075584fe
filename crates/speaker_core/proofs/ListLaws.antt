-- Lists that a loop makes one by one.
use Rattle.std.proofs.Common.{◌≡◌, ◌≢◌, ℕ, Bool, ◌+◌, ◌*◌, ◌<◌, ◌≤◌, List, [], ◌∷◌, ◌++◌, codes, flat_map, get_or, if◌then◌else◌, length, map, take, sym, ap, ◌∙◌, append_assoc, arith, ne_eqb}
use Rattle.std.proofs.lemmas.Grind.{flat_map-append}
use Rattle.std.proofs.lemmas.List.{append-nil, map-append, take_all, take_more}
use Rattle.std.proofs.lemmas.List.Elements.{All-get_or}
use Rattle.std.proofs.lemmas.Nat.{mul-le}
use Rattle.std.proofs.Math.Nat.{add-mul}
use Rattle.speaker_core.specs.Reordering.{NamesChannels}
use Rattle.speaker_core.specs.Speakers.{layout_ids, layout_speakers, speaker_id}

-- what a function gives for one value more
pub map_more : {A B : Type 0} (f : A → B) (d : A) (xs : List A) (i : ℕ) (made now : List B) (v : B) → i < length xs → made ≡ map f (take i xs) → now ≡ made ++ v ∷ [] → v ≡ f (get_or xs i d) → now ≡ map f (take (i + 1) xs)
map_more f d xs i made now v h before is same =
    is ∙ ap (λ l. l ++ v ∷ []) before ∙ ap (λ w. map f (take i xs) ++ w ∷ []) same ∙ sym (ap (map f) (take_more xs i d h) ∙ map-append f (take i xs) (get_or xs i d ∷ []))

pub map_all : {A B : Type 0} (f : A → B) (xs : List A) (i : ℕ) (made : List B) → made ≡ map f (take i xs) → length xs ≤ i → made ≡ map f xs
map_all f xs i made is all = is ∙ ap (map f) (take_all i xs all)

pub flat_more : (f : ℕ → List ℕ) (xs : List ℕ) (i : ℕ) (old mid new : List ℕ) → i < length xs → mid ≡ old ++ flat_map f (take i xs) → new ≡ mid ++ f (get_or xs i 0) → new ≡ old ++ flat_map f (take (i + 1) xs)
flat_more f xs i old mid new h before is =
    let v = get_or xs i 0 in
    let done = flat_map f (take i xs) in
    is ∙ ap (λ l. l ++ f v) before ∙ append_assoc old done (f v)
    ∙ ap (λ l. old ++ l) (sym (ap (flat_map f) (take_more xs i 0 h) ∙ flat_map-append f (take i xs) (v ∷ []) ∙ ap (λ l. done ++ l) (append-nil (f v))))

-- the bytes of a channel that an order names lie in the group
pub in_group : (order : List ℕ) (size i : ℕ) → NamesChannels order → i < length order → get_or order i 0 * size + size ≤ length order * size
in_group order size i channels h =
    let c = get_or order i 0 in
    let low = All-get_or (λ d. d < length order) order i 0 h channels in
    omega (arith, add-mul c 1 size, mul-le (c + 1) size (length order) size (omega (arith, low)) (omega arith))

-- the IDs of channels that aren't two
pub other_ids : (layout : ℕ) → layout ≢ 2 → layout_ids layout ≡ map speaker_id (layout_speakers layout)
other_ids layout other = ap (λ (b : Bool). if b then codes "SLFT" ∷ codes "SRGT" ∷ [] else map speaker_id (layout_speakers layout)) (ne_eqb layout 2 other)
