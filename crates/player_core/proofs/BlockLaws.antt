-- Whole groups of blocks that are taken as the frames of a sound.
use Rattle.std.proofs.Common.{◌≡◌, ℕ, ◌+◌, ◌-◌, ◌*◌, ◌/◌, ◌%◌, ◌<◌, ◌≤◌, ◌^◌, min, length-drop, List, [], map, drop, length, slice_index, sym, ap, ap₂, ◌∙◌, arith}
use Rattle.std.specs.List.{range_with_len}
use Rattle.std.specs.Int.{div_ceil}
use Rattle.std.proofs.Math.Nat.{add-mul, mul-add-div_right, mul-div_cancel, div-mul-le_self}
use Rattle.std.proofs.lemmas.Nat.{div-mul-add, mod-mul-add, mul-add-lt}
use Rattle.std.proofs.lemmas.List.{get_or-map}
use Rattle.std.proofs.lemmas.List.FromFn.{get_or-map-range_with_len, length-map-range_with_len}
use Rattle.dsd_bits.specs.declared.blocks.BitOrder.{BitOrder}
use Rattle.dsd_bits.specs.declared.interleaving.Interleaving.TheVariants.{Bytes, Blocks}
use Rattle.dsd_bits.specs.declared.sound.Sound.{Sound}
use Rattle.dsd_bits.specs.Blocks.{blocks_size, ordered, unblocked, unblocked_all}
use Rattle.dsd_bits.specs.Lacing.{frame_number, laced_byte}
use Rattle.dsd_bits.proofs.BlockLemmas.{block_source, unblocked_count}
use Rattle.dsd_bits.proofs.LacingLemmas.{map_range_same}
use Rattle.interleave_core.specs.Reinterleaving.{reinterleaved}
use Rattle.interleave_core.proofs.MovingLaws.{frames_are}
use Rattle.dsd_bits.specs.declared.interleaving.Interleaving.{Interleaving}
use Rattle.dsd_bits.specs.Sounds.{sound_size}
use Rattle.player_core.specs.Due.{bytes_known}
use Rattle.player_core.specs.Groups.{channel_byte, channel_part, group_size, part_size, whole_size}
use Rattle.player_core.specs.Pieces.{AreWholeBlocks, IsBetweenFrames, block_groups, piece_bytes}
use Rattle.player_core.specs.PlayerView.{AreNext, HasParts, IsPlayer}
use Rattle.player_core.specs.declared.piece.BlockPiece.{BlockPiece}
use Rattle.player_core.specs.declared.piece.Piece.TheVariants as pieces
use Rattle.player_core.specs.declared.player.Player.{Player}

module _ (order : BitOrder) (bytes : List ℕ) (n count : ℕ) (some : 1 ≤ n) (whole : count % 8 ≡ 0) (short : count ≤ 2 ^ 36) (small : (k : ℕ) → slice_index bytes k < 256) where
  source : ℕ → ℕ
  source p = block_source bytes n (p % n) (p / n)

  to : List ℕ
  to = map source (range_with_len 0 (count / 8 * n))

  to_long : length to ≡ count / 8 * n
  unfolding to
  to_long = length-map-range_with_len source 0 (count / 8 * n)

  to_at : (c j : ℕ) → c < n → j < count / 8 → slice_index to (j * n + c) ≡ block_source bytes n c j
  unfolding to source
  to_at c j in_list below =
      let inside : j * n + c < n * (count / 8) = mul-add-lt j n c (count / 8) below in_list in
      let q : (j * n + c) / n ≡ j = div-mul-add j n c in_list in
      let r : (j * n + c) % n ≡ c = mod-mul-add j n c in_list in
      get_or-map-range_with_len source 0 (count / 8 * n) (j * n + c) (j * n + c) 0 (omega (arith, inside)) (omega arith)
      ∙ ap₂ (block_source bytes n) r q

  frames : reinterleaved (Blocks order) Bytes n count bytes ≡ map (ordered order) to
  frames = sym (frames_are order bytes to n count some whole short small to_long to_at)

  byte_at : (c j : ℕ) → c < n → j < count / 8 → channel_byte Bytes n (map (ordered order) to) c j ≡ channel_byte (Blocks order) n bytes c j
  byte_at c j in_list below =
      let inside : j * n + c < n * (count / 8) = mul-add-lt j n c (count / 8) below in_list in
      let q : j / 1 ≡ j = omega arith in
      let place : (j / 1 * n + c) * 1 + j % 1 ≡ j * n + c = ap (λ (k : ℕ). (k * n + c) * 1 + j % 1) q ∙ omega arith in
      ap (slice_index (map (ordered order) to)) place
      ∙ get_or-map (ordered order) to (j * n + c) 0 0 (omega (arith, inside, to_long))
      ∙ ap (ordered order) (to_at c j in_list below)

  -- the frames have what the blocks have of each channel
  pub parts_same : (c : ℕ) → c < n → channel_part Bytes n (reinterleaved (Blocks order) Bytes n count bytes) c 0 (count / 8) ≡ channel_part (Blocks order) n bytes c 0 (count / 8)
  parts_same c in_list =
      ap (λ xs. channel_part Bytes n xs c 0 (count / 8)) frames
      ∙ map_range_same (count / 8) (channel_byte Bytes n (map (ordered order) to) c) (channel_byte (Blocks order) n bytes c) (λ j h. byte_at c j in_list h)

-- the blocks have room for all bytes of each channel
pub blocks_enough : (order : BitOrder) (n count size : ℕ) → 1 ≤ n → size ≡ blocks_size n count → count / 8 ≤ whole_size (Blocks order) n size
blocks_enough order n count size some is =
    let g = div_ceil count 32768 in
    let spread : g * n * 4096 ≡ g * (n * 4096) = grind arith in
    let back : g * (n * 4096) / (n * 4096) ≡ g = mul-div_cancel g (omega arith) in
    let groups : size / (n * 4096) ≡ g = ap (λ k. k / (n * 4096)) (is ∙ spread) ∙ back in
    omega (arith, groups)

-- ---- groups that a player is fed
pub piece_parts : (s : Sound) (b : BlockPiece) → s.interleaving ≡ Bytes → s.channels ≡ b.stretch.channels → AreWholeBlocks b → HasParts s (piece_bytes (pieces.Blocks b)) (block_groups b)
piece_parts s b frames channels are = record {
  number = channels;
  same = λ c h.
      let n = b.stretch.channels in
      ap₂ (λ (i : Interleaving) (m : ℕ). channel_part i m (piece_bytes (pieces.Blocks b)) c 0 (b.stretch.count / 8)) frames channels
      ∙ parts_same b.order b.bytes.now n b.stretch.count b.stretch.channel_number.0 are.whole b.stretch.in_limit are.small c h;
}

pub piece_long : (b : BlockPiece) → length (piece_bytes (pieces.Blocks b)) ≡ b.stretch.count / 8 * b.stretch.channels
piece_long b =
    let n = b.stretch.channels in
    let all = unblocked_all b.order b.bytes.now n b.stretch.count in
    length-map-range_with_len (laced_byte all) 0 (frame_number all * length all)
    ∙ ap₂ (λ (k m : ℕ). k / 8 * m) (unblocked_count b.order b.bytes.now n b.stretch.count b.stretch.channel_number.0) (length-map-range_with_len (unblocked b.order b.bytes.now n b.stretch.count) 0 n)

-- a player that holds nothing was fed whole groups
pub fed_whole : (p : Player) → IsPlayer p → p.held.items ≡ [] → (n : ℕ) → n ≡ group_size p.sound.interleaving p.sound.channels → p.fed ≡ p.fed / n * n
fed_whole p is none n n_is =
    let past = is.history in
    let held : drop (length past.0 / n * n) past.0 ≡ [] = ap (λ (k : ℕ). drop (length past.0 / k * k) past.0) n_is ∙ sym past.1.held ∙ none in
    let size : length past.0 - length past.0 / n * n ≡ 0 = sym (length-drop (length past.0 / n * n) past.0) ∙ ap length held in
    let all : length past.0 ≡ length past.0 / n * n = omega (arith, size, div-mul-le_self (length past.0) n) in
    past.1.fed ∙ all ∙ ap (λ k. k / n * n) (sym past.1.fed)

pub piece_next : (p : Player) → IsPlayer p → (b : BlockPiece) → IsBetweenFrames p b.stretch.channels → AreWholeBlocks b → p.fed + b.stretch.count / 8 * b.stretch.channels ≤ p.sound.size → AreNext p (block_groups b) (b.stretch.count / 8 * b.stretch.channels)
piece_next p is b between are few =
    let s = p.sound in
    let n = b.stretch.channels in
    let m = b.stretch.count / 8 in
    let some : 1 ≤ n = b.stretch.channel_number.0 in
    let group : group_size s.interleaving s.channels ≡ n = ap₂ (λ (i : Interleaving) (k : ℕ). group_size i k) between.frames between.channels ∙ omega arith in
    let known : (k : ℕ) → bytes_known s k ≡ min (div_ceil s.count 8) (k / n) = λ k.
    ap₂ (λ (i : Interleaving) (g : ℕ). min (div_ceil s.count 8) (k / g * part_size i)) between.frames group ∙ omega arith in
    let fed : p.fed ≡ p.fed / n * n = fed_whole p is between.held n (sym group) in
    let sum : p.fed + m * n ≡ p.fed / n * n + m * n = ap (λ k. k + m * n) fed in
    let whole : (p.fed + m * n) / n ≡ p.fed / n + m = ap (λ k. k / n) sum ∙ spread_div some (p.fed / n) m in
    let size : s.size ≡ s.count / 8 * n = is.sound.size ∙ ap₂ (λ (i : Interleaving) (k : ℕ). sound_size i k s.count) between.frames between.channels in
    let most : p.fed / n + m ≤ s.count / 8 = below_of some (omega (arith, sum, add-mul (p.fed / n) m n, size, few)) in
    let bits = is.whole between.frames in
    record {
      bytes = piece_bytes (pieces.Blocks b);
      long = piece_long b;
      parts = piece_parts s b between.frames between.channels are;
      enough = blocks_enough b.order n b.stretch.count (length b.bytes.now) some are.size;
      whole = sym (ap (λ g. m * n / g * g) group ∙ ap (λ k. k * n) (mul-div_cancel m (omega (arith, some))));
      number = known (p.fed + m * n) ∙ omega (arith, whole, known p.fed, most, bits);
    }
  where
    spread_div : {n : ℕ} → 1 ≤ n → (a m : ℕ) → (a * n + m * n) / n ≡ a + m
    spread_div {n = n} some a m = mul-add-div_right (omega (arith, some)) a (m * n) ∙ ap (λ k. a + k) (mul-div_cancel m (omega (arith, some)))

    below_of : {n a b : ℕ} → 1 ≤ n → a * n ≤ b * n → a ≤ b
    below_of some h = grind arith
