-- Bits in blocks, as a channel has them.
use Rattle.std.proofs.Common.{◌≡◌, ℕ, ◌+◌, ◌-◌, ◌*◌, ◌/◌, ◌%◌, ◌^◌, ◌<◌, ◌≤◌, Bool, false, List, [], ◌∷◌, ◌++◌, All, length, get_or, take, drop, slice_range, inl, inr, sym, ap, subst, ◌∙◌, arith}
use Rattle.std.specs.List.{flat_map}
use Rattle.std.proofs.lemmas.Bool.{cases_lt}
use Rattle.std.proofs.lemmas.List.{append-nil, append_assoc, ext_get_or, get_or_append_left, get_or-append_right, length-append, length-drop, length-take, length-take-le, nil_from_length, take-append-drop, take-take}
use Rattle.std.proofs.lemmas.List.Concat.{flat_map-append, get_or-flat_map}
use Rattle.std.proofs.lemmas.List.Edits.{get_or-between, length-between}
use Rattle.std.proofs.lemmas.Slice.{between_is}
use Rattle.std.proofs.lemmas.List.Elements.{All-get_or, All-head, All-push, All-tail, All-take}
use Rattle.null_core.specs.declared.channel.Block.{Block}
use Rattle.null_core.specs.declared.channel.Channel.TheInside.{Inside}
use Rattle.null_core.specs.declared.channel.Piece.{Piece}
use Rattle.null_core.specs.Channels.{AreSettled, IsFull, IsPieceAt, KeepsChannel, block_bits, blocks_bits, channel_view}

-- lists of n elements each, one after another
module _ {X : Type 0} {A : Type 0} (f : X → List A) (n : ℕ) where
  pub length-blocks : (xs : List X) → All (λ x. length (f x) ≡ n) xs → length (flat_map f xs) ≡ n * length xs
  length-blocks [] all = omega arith
  length-blocks (x ∷ xs) all =
      let P = λ (y : X). length (f y) ≡ n in
      omega (arith, length-append (f x) (flat_map f xs), All-head P x xs all, length-blocks xs (All-tail P x xs all))

  pub get_or-blocks : (xs : List X) (j r : ℕ) (e : X) (d : A) → All (λ x. length (f x) ≡ n) xs → j < length xs → r < n → get_or (flat_map f xs) (n * j + r) d ≡ get_or (f (get_or xs j e)) r d
  get_or-blocks xs j r e d all lt low =
      let P = λ (y : X). length (f y) ≡ n in
      let before : length (flat_map f (take j xs)) ≡ n * j = length-blocks (take j xs) (All-take P j xs all) ∙ ap (λ k. n * k) (length-take-le j xs (omega arith)) in
      let full : length (f (get_or xs j e)) ≡ n = All-get_or P xs j e lt all in
      ap (λ k. get_or (flat_map f xs) (k + r) d) (sym before) ∙ get_or-flat_map f xs j r e d lt (omega (arith, full))

-- a range of n elements is within its list
pub within : (xs : List Bool) (first n : ℕ) → 0 < n → length (slice_range xs first (first + n)) ≡ n → first + n ≤ length xs
within xs first n some full = omega (arith, full, length-take (first + n - first) (drop first xs), length-drop first xs)

-- how many elements a range has
pub range_size : (xs : List Bool) (first n : ℕ) → first + n ≤ length xs → length (slice_range xs first (first + n)) ≡ n
range_size xs first n inside = (let it = length-between xs first (first + n) inside in omega (arith, it))

-- bits that are alike as far as a block goes
pub same_block : (xs ys : List Bool) (from first n same : ℕ) → from + n ≤ length xs → first + n ≤ length ys → n ≤ same → ((k : ℕ) → k < same → get_or xs (from + k) false ≡ get_or ys (first + k) false) → slice_range ys first (first + n) ≡ slice_range xs from (from + n)
same_block xs ys from first n same there inside all alike =
    let size = range_size ys first n inside in
    ext_get_or false (slice_range ys first (first + n)) (slice_range xs from (from + n)) (size ∙ sym (range_size xs from n there)) (λ i lt.
    let low : i < n = omega (arith, lt, size) in
    get_or-between ys first (first + n) i false (omega arith) ∙ sym (alike i (omega arith)) ∙ sym (get_or-between xs from (from + n) i false (omega arith))
    )

-- a range of all elements
pub whole_range : (xs : List Bool) (n : ℕ) → length xs ≡ n → slice_range xs 0 (0 + n) ≡ xs
whole_range xs n full =
    let size = range_size xs 0 n (omega arith) in
    ext_get_or false (slice_range xs 0 (0 + n)) xs (size ∙ sym full) (λ i lt.
    let here : 0 + i ≡ i = omega arith in
    get_or-between xs 0 (0 + n) i false (omega (arith, lt, size)) ∙ ap (λ k. get_or xs k false) here)

-- how many bits a channel has
pub length-channel : (blocks : List Block) (last : List Bool) → All IsFull blocks → length (blocks_bits blocks ++ last) ≡ 65536 * length blocks + length last
length-channel blocks last full = omega (arith, length-append (blocks_bits blocks) last, length-blocks block_bits 65536 blocks full)

-- the bits of a block among those of a channel
pub piece_in_block : (blocks : List Block) (last : List Bool) (number place i : ℕ) (block : Block) (piece : Piece) → All IsFull blocks → number < length blocks → block ≡ get_or blocks number block → i ≡ 65536 * number + place → IsPieceAt (block_bits block) place piece
    → IsPieceAt (blocks_bits blocks ++ last) i piece
piece_in_block blocks last number place i block piece full lt is at piece_at =
    let all = length-channel blocks last full in
    let size : length (block_bits block) ≡ 65536 = subst IsFull (sym is) (All-get_or IsFull blocks number block lt full) in
    record {
      some = piece_at.some;
      inside = omega (arith, all, size, piece_at.inside);
      there = piece_at.there;
      same = λ k low.
          let low_place : place + k < 65536 = omega (arith, low, size, piece_at.inside) in
          let there : i + k ≡ 65536 * number + (place + k) = omega arith in
          let before : 65536 * number + (place + k) < length (blocks_bits blocks) = omega (arith, length-blocks block_bits 65536 blocks full) in
          ap (λ n. get_or (blocks_bits blocks ++ last) n false) there ∙ get_or_append_left (blocks_bits blocks) last false (65536 * number + (place + k)) before ∙ get_or-blocks block_bits 65536 blocks number (place + k) block false full lt low_place
          ∙ ap (λ b. get_or (block_bits b) (place + k) false) (sym is) ∙ piece_at.same k low;
    }

-- the last bits of a channel
module _ (blocks : List Block) (last : List Bool) (i : ℕ) (full : All IsFull blocks) (few : length last < 65536) (inside : i < length (blocks_bits blocks ++ last)) (after : length blocks ≤ i / 65536) where
  last_number : i / 65536 ≡ length blocks
  last_number = omega (arith, length-channel blocks last full, inside, few, after)

  pub last_room : i % 65536 < length last
  last_room = omega (arith, length-channel blocks last full, inside, last_number)

  pub piece_in_last : (piece : Piece) → piece.bits.now ≡ last → piece.from ≡ i % 65536 → piece.size ≡ length last - i % 65536 → IsPieceAt (blocks_bits blocks ++ last) i piece
  piece_in_last piece bits from size =
      let start : length (blocks_bits blocks) ≡ 65536 * length blocks = length-blocks block_bits 65536 blocks full in
      let at : i ≡ 65536 * length blocks + i % 65536 = omega (arith, last_number) in
      record {
        some = omega (arith, size, last_room);
        inside = omega (arith, length-channel blocks last full, size, at, last_room);
        there = omega (arith, from, size, last_room, ap length bits);
        same = λ k low.
            let there : i + k - 65536 * length blocks ≡ piece.from + k = omega (arith, from, at) in
            get_or-append_right (blocks_bits blocks) last (65536 * length blocks) (i + k) false start (omega (arith, at)) ∙ ap (λ n. get_or last n false) there ∙ ap (λ l. get_or l (piece.from + k) false) (sym bits);
      }

-- bits of a channel that are alike up to a piece, and as far in the piece
pub alike_in_piece : (bits others : List Bool) (at own done same : ℕ) (piece : Piece) → IsPieceAt bits (at + done) piece → same ≤ piece.size → ((k : ℕ) → k < done → get_or bits (at + k) false ≡ get_or others (own + k) false)
    → ((k : ℕ) → k < same → get_or piece.bits.now (piece.from + k) false ≡ get_or others (own + done + k) false) → (k : ℕ) → k < done + same → get_or bits (at + k) false ≡ get_or others (own + k) false
alike_in_piece bits others at own done same piece is few so_far alike k lt = elim (cases_lt k done) [
  | inl before ↦ so_far k before
  | inr past ↦
      let place : at + k ≡ at + done + (k - done) = omega arith in
      let own_place : own + done + (k - done) ≡ own + k = omega arith in
      let low : k - done < same = omega arith in
      ap (λ n. get_or bits n false) place ∙ is.same (k - done) (omega arith) ∙ alike (k - done) low ∙ ap (λ n. get_or others n false) own_place
]

-- the last bits of a channel become a block, or are none and lost
module _ (blocks new_blocks : List Block) (last new_last : List Bool) (none : new_last ≡ []) where
  bits_of : (more : List Bool) → blocks_bits new_blocks ≡ more → blocks_bits new_blocks ++ new_last ≡ more
  bits_of more is = ap (λ l. blocks_bits new_blocks ++ l) none ∙ append-nil (blocks_bits new_blocks) ∙ is

  pub settled_as : (block : Block) → new_blocks ≡ blocks ++ block ∷ [] → block_bits block ≡ last → blocks_bits new_blocks ++ new_last ≡ blocks_bits blocks ++ last
  settled_as block added is =
      bits_of (blocks_bits blocks ++ last) (ap blocks_bits added ∙ flat_map-append block_bits blocks (block ∷ []) ∙ ap (λ l. blocks_bits blocks ++ l) (append-nil (block_bits block) ∙ is))

  pub AreSettled-block : (block : Block) → new_blocks ≡ blocks ++ block ∷ [] → block_bits block ≡ last → length last ≡ 65536 → AreSettled blocks last new_blocks new_last
  AreSettled-block block added is size = record {
    full = λ full. subst (All IsFull) (sym added) (All-push IsFull blocks block full (ap length is ∙ size));
    rest = omega (arith, ap length none);
    few = omega (arith, ap length (settled_as block added is));
  }

  pub AreSettled-lost : new_blocks ≡ blocks → AreSettled blocks last new_blocks new_last
  AreSettled-lost same = record {
    full = λ full. subst (All IsFull) (sym same) full;
    rest = omega (arith, ap length none);
    few = omega (arith, ap length (bits_of (blocks_bits blocks) (ap blocks_bits same)), length-append (blocks_bits blocks) last);
  }

pub AreSettled-same : (blocks : List Block) (last : List Bool) → length last < 65536 → AreSettled blocks last blocks last
AreSettled-same blocks last few = record { full = λ full. full; rest = few; few = omega arith }

-- bits are added up to one, and from there up to another
pub take_between : (xs : List Bool) (i j : ℕ) → i ≤ j → take i xs ++ slice_range xs i j ≡ take j xs
take_between xs i j le = ap (λ l. l ++ slice_range xs i j) (sym (take-take i j xs le)) ∙ ap (λ l. take i (take j xs) ++ l) (between_is xs i j) ∙ take-append-drop i (take j xs)

pub added_more : (old now more xs : List Bool) (i j : ℕ) → i ≤ j → now ≡ old ++ take i xs → more ≡ now ++ slice_range xs i j → more ≡ old ++ take j xs
added_more old now more xs i j le so_far is = is ∙ ap (λ l. l ++ slice_range xs i j) so_far ∙ append_assoc old (take i xs) (slice_range xs i j) ∙ ap (λ l. old ++ l) (take_between xs i j le)

-- a block is added to those of a channel that has no further bits
module _ (blocks : List Block) (x : Inside) (more : List Bool) (none : length x.last ≡ 0) where
  nothing : x.last ≡ []
  nothing = nil_from_length x.last none

  pub block_added : blocks_bits x.blocks.items ≡ blocks_bits blocks ++ more → channel_view x ≡ (blocks_bits blocks ++ x.last) ++ more
  block_added is =
      ap (λ l. blocks_bits x.blocks.items ++ l) nothing ∙ append-nil (blocks_bits x.blocks.items) ∙ is ∙ ap (λ l. l ++ more) (sym (append-nil (blocks_bits blocks)) ∙ ap (λ l. blocks_bits blocks ++ l) (sym nothing))

  pub block_kept : AreSettled blocks more x.blocks.items [] → All IsFull blocks → length (blocks_bits blocks ++ more) ≤ 2 ^ 36 → KeepsChannel x
  block_kept settled full fits = record {
    full = settled.full full;
    rest = omega (arith, none);
    few = omega (arith, settled.few, fits, ap (λ l. length (blocks_bits x.blocks.items ++ l)) nothing);
  }
