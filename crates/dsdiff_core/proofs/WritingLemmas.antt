-- Bytes that were appended piece by piece.
use Rattle.std.proofs.Common.{◌≡◌, true, false, ℕ, ◌+◌, ◌-◌, ◌*◌, ◌/◌, ◌%◌, ◌^◌, ◌<◌, ◌≤◌, All, List, [], ◌∷◌, ◌++◌, flat_map, length, map, replicate, take, get_or, refl, sym, ap, ap₂, subst, ◌∙◌, append_assoc, arith, mul-le-mul_left}
use Rattle.std.proofs.Math.Seq.{take-nil}
use Rattle.std.proofs.lemmas.List.{append-nil, get_or-map, length-append, length-map, map-append, take_all, take_more}
use Rattle.std.proofs.lemmas.List.Elements.{All-map, All-same, filter-append}
use Rattle.std.proofs.lemmas.Grind.{flat_map-append}
use Rattle.byteorder.specs.Endian.{big_bytes}
use Rattle.chunk_core.specs.Chunks.{Chunk, spell, spelled}
use Rattle.dsd_bits.specs.declared.marks.Mark.{Mark}
use Rattle.dsd_bits.specs.declared.marks.Other.{Other}
use Rattle.dsd_bits.specs.declared.marks.Place.{Place}
use Rattle.dsd_bits.specs.declared.marks.Place.TheVariants.{Property, Form}
use Rattle.dsd_bits.specs.Contents.{Content, MarkContent, OtherContent, mark_content, other_content}
use Rattle.dsd_bits.specs.Ids.{SND, FS, CHNL, DSD, DIIN, MARK}
use Rattle.dsd_bits.specs.Shape.{at_place, same_place}
use Rattle.dsdiff_core.specs.Kinds.{FRM8}
use Rattle.dsdiff_core.specs.MarkBytes.{mark_bytes}
use Rattle.dsdiff_core.specs.Writing.{channels_chunk, compression_chunk, edited_master, first_chunks, head_text, mark_chunk, master_chunks, other_chunk, others_of, property_chunks, size_around, tail_text}

-- the texts of marks in memory are short
pub short_texts : (marks : List Mark) → All (λ mark. length mark.text < 2 ^ 32) (map mark_content marks) → All (λ mark. length mark.text.items < 2 ^ 32) marks
short_texts marks h k d lt =
    let Short : MarkContent → Type 0 = λ mark. length mark.text < 2 ^ 32 in
    let inside : k < length (map mark_content marks) = omega (arith, length-map marks mark_content) in
    subst Short (get_or-map mark_content marks k d (mark_content d) lt) (h k (mark_content d) inside)

-- one more mark
pub marks_more : (marks : List Mark) (i : ℕ) (mark : Mark) (out content new : List ℕ) → i < length marks → mark ≡ get_or marks i mark
    → out ≡ flat_map spell (map mark_chunk (map mark_content (take i marks))) → content ≡ mark_bytes (mark_content mark) → new ≡ out ++ spelled MARK content
    → new ≡ flat_map spell (map mark_chunk (map mark_content (take (i + 1) marks)))
marks_more marks i mark out content new h found before bytes_are after =
    let chunks_of : List Mark → List Chunk = λ ms. map mark_chunk (map mark_content ms) in
    let prefix : List Mark = take i marks in
    let longer : take (i + 1) marks ≡ prefix ++ mark ∷ [] = take_more marks i mark h ∙ ap (λ m. prefix ++ m ∷ []) (sym found) in
    let split : chunks_of (prefix ++ mark ∷ []) ≡ chunks_of prefix ++ mark_chunk (mark_content mark) ∷ [] =
    ap (map mark_chunk) (map-append mark_content prefix (mark ∷ [])) ∙ map-append mark_chunk (map mark_content prefix) (mark_content mark ∷ []) in
    let last : flat_map spell (mark_chunk (mark_content mark) ∷ []) ≡ spelled MARK content = append-nil (spell (mark_chunk (mark_content mark))) ∙ ap (spelled MARK) (sym bytes_are) in
    after ∙ ap (λ bytes. bytes ++ spelled MARK content) before
    ∙ sym (ap (λ ms. flat_map spell (chunks_of ms)) longer ∙ ap (flat_map spell) split ∙ flat_map-append spell (chunks_of prefix) (mark_chunk (mark_content mark) ∷ []) ∙ ap (λ bytes. flat_map spell (chunks_of prefix) ++ bytes) last)

-- four pieces after the first
four_more : (prefix a b c d : List ℕ) (now-0 now-1 now-2 now-3 now-4 : List ℕ) → now-0 ≡ prefix → now-1 ≡ now-0 ++ a → now-2 ≡ now-1 ++ b → now-3 ≡ now-2 ++ c → now-4 ≡ now-3 ++ d
    → now-4 ≡ prefix ++ (a ++ (b ++ (c ++ d)))
four_more prefix a b c d now-0 now-1 now-2 now-3 now-4 e-0 e-1 e-2 e-3 e-4 =
    e-4 ∙ ap (λ x. x ++ d) (e-3 ∙ ap (λ x. x ++ c) (e-2 ∙ ap (λ x. x ++ b) (e-1 ∙ ap (λ x. x ++ a) e-0))) ∙ simp append_assoc

-- the data of the sound's property
pub property_is : (r : Content) (rate names : List ℕ) (now-0 now-1 now-2 now-3 now-4 : List ℕ) → rate ≡ big_bytes 4 r.rate → names ≡ (channels_chunk r.ids).content
    → now-0 ≡ SND → now-1 ≡ now-0 ++ spelled FS rate → now-2 ≡ now-1 ++ spelled CHNL names → now-3 ≡ now-2 ++ spell compression_chunk → now-4 ≡ now-3 ++ flat_map spell (others_of Property r.others)
    → now-4 ≡ SND ++ flat_map spell (property_chunks r)
property_is r rate names now-0 now-1 now-2 now-3 now-4 rate_is names_are e-0 e-1 e-2 e-3 e-4 =
    four_more SND (spelled FS (big_bytes 4 r.rate)) (spelled CHNL (channels_chunk r.ids).content) (spell compression_chunk) (flat_map spell (others_of Property r.others))
    now-0 now-1 now-2 now-3 now-4 e-0 (e-1 ∙ ap (λ x. now-0 ++ spelled FS x) rate_is) (e-2 ∙ ap (λ x. now-1 ++ spelled CHNL x) names_are) e-3 e-4

-- what holds of the items that a loop went through holds of what they are seen as
pub all_seen : {X Y : Type 0} (P : Y → Type 0) (view : X → Y) (xs : List X) (i : ℕ) → length xs ≤ i → All (λ x. P (view x)) (take i xs) → All P (map view xs)
all_seen P view xs i h all = All-map P view xs (All-same (λ x. P (view x)) xs (take i xs) (sym (take_all i xs h)) all)

-- the sound's bytes are few
pub few_bytes : (count number : ℕ) → count ≤ 2 ^ 36 → number ≤ 6 → count / 8 * number < 2 ^ 36
few_bytes count number h n = omega (arith, mul-le-mul_left (count / 8) n)

-- no bytes are no chunks
no_chunks : (cs : List Chunk) → length (flat_map spell cs) ≡ 0 → cs ≡ []
no_chunks [] e = refl
no_chunks (c ∷ cs) e =
    absurd (omega (arith, e, length-append (spell c) (flat_map spell cs), length-append (c.id ++ big_bytes 8 (length c.content) ++ c.content) (replicate (length c.content % 2) 0), length-append (c.id ++ big_bytes 8 (length c.content)) c.content, length-append c.id (big_bytes 8 (length c.content))))

-- there is no edited master
pub master_none : (cs : List Chunk) (master out new : List ℕ) → master ≡ flat_map spell cs → length master ≡ 0 → new ≡ out → new ≡ out ++ flat_map spell (edited_master cs)
master_none cs master out new is none same =
    let gone : cs ≡ [] = no_chunks cs (sym (ap length is) ∙ none) in
    same ∙ sym (append-nil out) ∙ ap (λ (ds : List Chunk). out ++ flat_map spell (edited_master ds)) (sym gone)

-- there is one
pub master_some : (cs : List Chunk) (master out new : List ℕ) → master ≡ flat_map spell cs → 1 ≤ length master → new ≡ out ++ spelled DIIN master → new ≡ out ++ flat_map spell (edited_master cs)
master_some [] master out new is some more = absurd (omega (arith, ap length is))
master_some (c ∷ cs) master out new is some more = more ∙ ap (λ (bytes : List ℕ). out ++ spelled DIIN bytes) is ∙ ap (λ (bytes : List ℕ). out ++ bytes) (sym (append-nil (spelled DIIN (flat_map spell (c ∷ cs)))))

-- the bytes of the kept chunks at a place
abbrev placed : Place → List Other → List ℕ
placed place others = flat_map spell (others_of place (map other_content others))

placed_more : (place : Place) (others : List Other) (o : Other) → placed place (others ++ o ∷ []) ≡ placed place others ++ placed place (o ∷ [])
placed_more place others o =
    let one : at_place place (map other_content (others ++ o ∷ [])) ≡ at_place place (map other_content others) ++ at_place place (other_content o ∷ []) =
    ap (at_place place) (map-append other_content others (o ∷ [])) ∙ filter-append (λ x. same_place x.place place) (map other_content others) (other_content o ∷ []) in
    ap (λ cs. flat_map spell (map other_chunk cs)) one
    ∙ ap (flat_map spell) (map-append other_chunk (at_place place (map other_content others)) (at_place place (other_content o ∷ [])))
    ∙ flat_map-append spell (others_of place (map other_content others)) (others_of place (other_content o ∷ []))

-- a kept chunk at that place
pub others_more : (place : Place) (others : List Other) (i : ℕ) (o : Other) (prefix out new : List ℕ) → i < length others → o ≡ get_or others i o → same_place o.place place ≡ true
    → out ≡ prefix ++ placed place (take i others) → new ≡ out ++ spelled o.id o.bytes.items → new ≡ prefix ++ placed place (take (i + 1) others)
others_more place others i o prefix out new h found stands before after =
    let last : placed place (o ∷ []) ≡ spelled o.id o.bytes.items = rw stands (append-nil (spelled o.id o.bytes.items)) in
    after ∙ ap (λ bytes. bytes ++ spelled o.id o.bytes.items) before ∙ append_assoc prefix (placed place (take i others)) (spelled o.id o.bytes.items)
    ∙ ap (λ bytes. prefix ++ bytes) (ap (λ bytes. placed place (take i others) ++ bytes) (sym last) ∙ sym (placed_more place (take i others) o) ∙ ap (placed place) (sym (take_more others i o h ∙ ap (λ x. take i others ++ x ∷ []) (sym found))))

-- one at another place
pub others_by : (place : Place) (others : List Other) (i : ℕ) (o : Other) (prefix out : List ℕ) → i < length others → o ≡ get_or others i o → same_place o.place place ≡ false
    → out ≡ prefix ++ placed place (take i others) → out ≡ prefix ++ placed place (take (i + 1) others)
others_by place others i o prefix out h found elsewhere before =
    let none : placed place (o ∷ []) ≡ [] = rw elsewhere refl in
    before
    ∙ ap (λ bytes. prefix ++ bytes) (sym (append-nil (placed place (take i others))) ∙ ap (λ bytes. placed place (take i others) ++ bytes) (sym none) ∙ sym (placed_more place (take i others) o) ∙ ap (placed place) (sym (take_more others i o h ∙ ap (λ x. take i others ++ x ∷ []) (sym found))))

-- one more ID
pub ids_more : (ids : List (List ℕ)) (i : ℕ) (d : List ℕ) (prefix out new : List ℕ) → i < length ids → out ≡ prefix ++ flat_map (λ id. id) (take i ids) → new ≡ out ++ get_or ids i d
    → new ≡ prefix ++ flat_map (λ id. id) (take (i + 1) ids)
ids_more ids i d prefix out new h before after =
    let last : flat_map (λ id. id) (get_or ids i d ∷ []) ≡ get_or ids i d = append-nil (get_or ids i d) in
    after ∙ ap (λ bytes. bytes ++ get_or ids i d) before ∙ append_assoc prefix (flat_map (λ id. id) (take i ids)) (get_or ids i d)
    ∙ ap (λ bytes. prefix ++ bytes) (sym (ap (flat_map (λ id. id)) (take_more ids i d h) ∙ flat_map-append (λ id. id) (take i ids) (get_or ids i d ∷ []) ∙ ap (λ bytes. flat_map (λ id. id) (take i ids) ++ bytes) last))

-- what is before the sound
pub head_is : (r : Content) (size after number long : ℕ) (first : List ℕ) (now-0 now-1 now-2 now-3 now-4 now-5 now-6 : List ℕ) → after ≡ length (tail_text r size) → first ≡ flat_map spell (first_chunks r)
    → long ≡ length first → big_bytes 8 number ≡ big_bytes 8 (4 + long + 12 + size + after)
    → now-0 ≡ [] → now-1 ≡ now-0 ++ FRM8 → now-2 ≡ now-1 ++ big_bytes 8 number → now-3 ≡ now-2 ++ DSD → now-4 ≡ now-3 ++ first → now-5 ≡ now-4 ++ DSD → now-6 ≡ now-5 ++ big_bytes 8 size → now-6 ≡ head_text r size
head_is r size after number long first now-0 now-1 now-2 now-3 now-4 now-5 now-6 tail first_is long_is sum e-0 e-1 e-2 e-3 e-4 e-5 e-6 =
    let whole : big_bytes 8 number ≡ big_bytes 8 (size_around r size) = sum ∙ ap₂ (λ (n m : ℕ). big_bytes 8 (4 + n + 12 + size + m)) (long_is ∙ ap length first_is) tail in
    let prefix : now-4 ≡ FRM8 ++ (big_bytes 8 (size_around r size) ++ (DSD ++ flat_map spell (first_chunks r))) =
    four_more [] FRM8 (big_bytes 8 (size_around r size)) DSD (flat_map spell (first_chunks r)) now-0 now-1 now-2 now-3 now-4 e-0 e-1 (e-2 ∙ ap (λ x. now-1 ++ x) whole) e-3 (e-4 ∙ ap (λ x. now-3 ++ x) first_is) in
    e-6 ∙ ap (λ x. x ++ big_bytes 8 size) (e-5 ∙ ap (λ x. x ++ DSD) prefix) ∙ simp append_assoc

-- what follows it
pub tail_is : (r : Content) (size : ℕ) (others : List OtherContent) (now-0 now-1 now-2 : List ℕ) → others ≡ r.others → now-0 ≡ replicate (size % 2) 0
    → now-1 ≡ now-0 ++ flat_map spell (edited_master (master_chunks r)) → now-2 ≡ now-1 ++ flat_map spell (others_of Form others) → now-2 ≡ tail_text r size
tail_is r size others now-0 now-1 now-2 same e-0 e-1 e-2 =
    let master = flat_map spell (edited_master (master_chunks r)) in
    let last = flat_map spell (others_of Form r.others) in
    e-2 ∙ ap (λ os. now-1 ++ flat_map spell (others_of Form os)) same ∙ ap (λ x. x ++ last) (e-1 ∙ ap (λ x. x ++ master) e-0) ∙ append_assoc (replicate (size % 2) 0) master last
    ∙ ap (λ x. replicate (size % 2) 0 ++ x) (sym (flat_map-append spell (edited_master (master_chunks r)) (others_of Form r.others)))

-- zeros in what was empty
pub zeros_in : (n long : ℕ) (old new : List ℕ) → old ≡ [] → long ≡ 0 → new ≡ take n old ++ replicate (n - long) 0 → new ≡ replicate n 0
zeros_in n long old new empty none more =
    let all : n - 0 ≡ n = omega arith in
    more ∙ ap₂ (λ (xs : List ℕ) (m : ℕ). take n xs ++ replicate (n - m) 0) empty none ∙ ap₂ (λ (xs : List ℕ) (m : ℕ). xs ++ replicate m 0) (take-nil n) all
