-- Bytes that are read, one after the other.
use Rattle.std.proofs.Common.{◌≡◌, ℕ, ◌+◌, ◌-◌, ◌≤◌, inl, inr, min, List, [], ◌++◌, length, take, drop, Option, None, Some, IfSome, subst, sym, ap, ◌∙◌, arith, append_assoc, append-nil, length-append, length-drop, length-take, take-append-drop, take-take}
use Rattle.std.specs.Io.KnownBytes.{Consumes, IsAtEnd}
use Rattle.std.proofs.KnownBytes.{Consumes-nil, Consumes-trans, Consumes-whole}
use Rattle.std.proofs.lemmas.Bool.{cases_lt}
use Rattle.std.proofs.lemmas.List.{nil_from_length, take-append-le, take_all, take_min}
use Rattle.std.proofs.Math.Seq.{take-append-add}
use Rattle.chunk_core.specs.Inlets.{inlet_given, inlet_reader}
use Rattle.chunk_core.specs.declared.inlet.Inlet.{Inlet}
use Rattle.sound_core.specs.Reads.{GivesBytes, Reads}

pub reads_none : {R : Type 0} (left : R → Option (List ℕ)) (inlet : Inlet R) → Reads left inlet inlet []
reads_none left inlet = record { consumed = Consumes-nil (left (inlet_reader inlet)); given = omega arith }

pub reads_on : {R : Type 0} (left : R → Option (List ℕ)) (a b c : Inlet R) (xs ys : List ℕ) → Reads left a b xs → Reads left b c ys → Reads left a c (xs ++ ys)
reads_on left a b c xs ys p q = record {
  consumed = Consumes-trans (left (inlet_reader a)) (left (inlet_reader b)) (left (inlet_reader c)) xs ys p.consumed q.consumed;
  given = omega (arith, p.given, q.given, length-append xs ys);
}

-- the buffered bytes after one read and another
pub ahead_on : (a b c xs ys : List ℕ) → b ≡ a ++ xs → c ≡ b ++ ys → c ≡ a ++ (xs ++ ys)
ahead_on a b c xs ys p q = q ∙ ap (λ zs. zs ++ ys) p ∙ append_assoc a xs ys

-- what holds of what was read and anything after it holds of what there is
pub after : (Q : List ℕ → Type 0) (a b : Option (List ℕ)) (bs : List ℕ) → Consumes a b bs → ((rest : List ℕ) → Q (bs ++ rest)) → IfSome a Q
after Q None b bs c f = tt
after Q (Some xs) None bs c f = absurd c
after Q (Some xs) (Some ys) bs c f = subst Q (sym c) (f ys)

-- what was read before a read that gave nothing is all
pub at_end : {R : Type 0} (left : R → Option (List ℕ)) (a b c : Inlet R) (xs ys : List ℕ) (Q : List ℕ → Type 0) → Reads left a b xs → Reads left b c ys → length ys ≡ 0 → IsAtEnd (left (inlet_reader c)) → Q xs → IfSome (left (inlet_reader a)) Q
at_end left a b c xs ys Q p q none end holds =
    let same : xs ++ ys ≡ xs = ap (λ zs. xs ++ zs) (nil_from_length ys none) ∙ append-nil xs in
    Consumes-whole (left (inlet_reader a)) (left (inlet_reader c)) (xs ++ ys) Q (reads_on left a b c xs ys p q).consumed end (subst Q (sym same) holds)

-- what was given
pub gives_read : {R : Type 0} (left : R → Option (List ℕ)) (i j : Inlet R) (n : ℕ) (xs : List ℕ) → Reads left i j xs → n ≡ inlet_given j → GivesBytes (left (inlet_reader i)) (inlet_given i) n xs
gives_read left i j n xs reads same = record { begins = by (left (inlet_reader i)) (left (inlet_reader j)) reads.consumed; given = same ∙ reads.given }
  where
    by : (o m : Option (List ℕ)) → Consumes o m xs → IfSome o (λ ys. (rest : List ℕ) × (ys ≡ xs ++ rest))
    by None m h = tt
    by (Some ys) None h = absurd h
    by (Some ys) (Some zs) h = (zs, h)

-- ---- bytes that were read before, and those after them
-- the first n of both are those before, and the rest are the others'
pub whole_is : {X : Type 0} (size : ℕ) (xs ys : List X) → take size (xs ++ ys) ≡ take size xs ++ take (size - length (take size xs)) ys
whole_is {X} size xs ys = elim (cases_lt size (length xs)) [
  | inl less ↦ (let none : size - length (take size xs) ≡ 0 = omega (arith, length-take size xs) in
      take-append-le size xs ys (omega arith) ∙ sym (append-nil (take size xs)) ∙ ap (λ n. take size xs ++ take n ys) (sym none))
  | inr more ↦ (let all : take size xs ≡ xs = sym (take_min size xs) ∙ (let m : min size (length xs) ≡ length xs = omega arith in ap (λ n. take n xs) m) ∙ sym (append-nil (take (length xs) xs)) ∙ all_taken xs in
      let total : length xs + (size - length xs) ≡ size = omega arith in
      ap (λ n. take n (xs ++ ys)) (sym total) ∙ take-append-add xs ys (size - length xs) ∙ ap (λ zs. zs ++ take (size - length zs) ys) (sym all))
]
  where
    all_taken : (xs : List X) → take (length xs) xs ++ [] ≡ xs
    all_taken xs = ap (λ zs. take (length xs) xs ++ zs) (sym (nil_from_length (drop (length xs) xs) (omega (arith, length-drop (length xs) xs)))) ∙ take-append-drop (length xs) xs

-- what is read after them is that of all after the first of them, if it fills them up
pub joined_after : {X : Type 0} (size : ℕ) (xs part : List X) → length part ≡ size - length (take size xs) → xs ++ part ≡ (take size xs ++ part) ++ drop size xs
joined_after {X} size xs part long =
    let first = take size xs in
    let rest = drop size xs in
    ap (λ zs. zs ++ part) (sym (take-append-drop size xs)) ∙ append_assoc first rest part ∙ ap (λ zs. first ++ zs) (elim (cases_lt size (length xs)) [
      | inl less ↦ (let none : part ≡ [] = nil_from_length part (omega (arith, long, length-take size xs)) in rw none (append-nil rest))
      | inr more ↦ (let none : rest ≡ [] = nil_from_length rest (omega (arith, length-drop size xs)) in rw none (sym (append-nil part)))
    ]) ∙ sym (append_assoc first part rest)

-- ---- the prefix of a block
-- what is put at the start of a block leaves its length unchanged
pub same_long : (len : ℕ) (xs block : List ℕ) → len ≡ length block → length (take len (xs ++ drop (length xs) block)) ≡ length block
same_long len xs block e = omega (arith, length-take len (xs ++ drop (length xs) block), length-append xs (drop (length xs) block), length-drop (length xs) block)

-- and there it is
pub prefix_part : (len n : ℕ) (prefix back rest : List ℕ) → n ≤ length prefix → n ≤ len → take n (take len ((prefix ++ back) ++ rest)) ≡ take n prefix
prefix_part len n prefix back rest few within = take-take n len ((prefix ++ back) ++ rest) within ∙ ap (take n) (append_assoc prefix back rest) ∙ take-append-le n prefix (back ++ rest) few

pub prefix_put : (len n : ℕ) (prefix back rest : List ℕ) → length prefix ≡ n → n ≤ len → take n (take len ((prefix ++ back) ++ rest)) ≡ prefix
prefix_put len n prefix back rest long within = prefix_part len n prefix back rest (omega (arith, long)) within ∙ take_all n prefix (omega (arith, long))
