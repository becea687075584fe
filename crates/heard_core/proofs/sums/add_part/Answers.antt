use Rattle.std.proofs.Common.{◌≡◌, ℤ, pos, ◌+◌, ◌-◌, ◌*◌, ◌/◌, ◌%◌, ◌<◌, ◌≤◌, ◌+ℤ◌, ◌∙◌, List, ap, ap₂, arith, drop, get_or, length, take}
use Rattle.fir_core.specs.Convolution.{conv}
use Rattle.heard_core.specs.Pieces.{padded, part, piece}
use Rattle.heard_core.proofs.PartLaws.{nothing_more, small_before, some_more}
use Rattle.heard_core.proofs.PieceLaws.{length-all_pieces, piece_at, piece_playable, piece_sum, tables_are}
use Rattle.heard_core.proofs.sums.add_part.Goals as goal
use Rattle.heard_core.proofs.sums.add_part.Goals.{After-index-source-p}

pub returns-then-sums-skipped : goal.returns-then-sums-skipped
returns-then-sums-skipped c =
    c.requires.so_far
    ∙ nothing_more c.args.source.taps.now c.args.p c.args.source.bits.now c.args.place (length c.args.sums.now) c.requires.within
    (λ k h. omega (arith, h, c.div_ceil-skipped.ensures, c.saturating_sub.ensures, c.if-sums-skipped.true))

pub bounds-source-p : goal.bounds-source-p
bounds-source-p c = omega (arith, ap length c.args.source.whole, length-all_pieces c.args.source.taps.now, c.requires.within)

-- the piece that is read
piece_read : (c : After-index-source-p) → get_or c.args.source.pieces.now (8 * c.args.p + (c.args.place + 8 * c.div_ceil-skipped.result - 4096 * c.args.p) % 8) c.index-source-p.result
    ≡ piece (padded c.args.source.taps.now) (8 * c.args.p + (c.args.place + 8 * c.div_ceil-skipped.result - 4096 * c.args.p) % 8)
piece_read c =
    piece_at c.args.source.taps.now c.args.source.pieces.now (8 * c.args.p + (c.args.place + 8 * c.div_ceil-skipped.result - 4096 * c.args.p) % 8) c.index-source-p.result c.args.source.whole (omega (arith, c.requires.within))

pub add_piece-requires : goal.add_piece-requires
add_piece-requires c =
    let skipped = c.div_ceil-skipped.result in
    let first = c.args.place + 8 * skipped - 4096 * c.args.p in
    let later = c.split_at_mut-later.result.1.now in
    let read = piece_read (goal.at.add_piece-requires c).After-index-source-p in
    let long : length later ≤ 4096 = omega (arith, c.split_at_mut-later.ensures.back_len, c.requires.few) in
    record {
      tables = tables_are _ _ _ read;
      places = piece_playable _ _ _ read first (length later) (omega arith) (omega (arith, long, c.requires.reach, c.div_ceil-skipped.ensures, c.saturating_sub.ensures));
      few = long;
      small = λ i h.
          rw (c.split_at_mut-later.ensures.back ∙ ap (drop skipped) c.requires.so_far)
          (small_before c.args.source.taps.now c.args.p c.args.source.bits.now c.args.place (length c.args.sums.now) 268435456 skipped i c.args.source.fits.small_sum (omega (arith, h, c.split_at_mut-later.ensures.back_len, c.if-sums-skipped.false)));
    }

pub returns : goal.returns
returns c =
    let taps = c.args.source.taps.now in
    let bits = c.args.source.bits.now in
    let number = length c.args.sums.now in
    let skipped = c.div_ceil-skipped.result in
    let first = c.args.place + 8 * skipped - 4096 * c.args.p in
    let read = piece_read (goal.at.returns c).After-index-source-p in
    some_more taps c.args.p bits c.args.place number c.requires.within skipped first c.split_at_mut-later.result.0.now c.add_piece.new.sums
    (λ k h. omega (arith, h, c.div_ceil-skipped.ensures, c.saturating_sub.ensures))
    (omega (arith, c.div_ceil-skipped.ensures, c.saturating_sub.ensures))
    (omega (arith, c.if-sums-skipped.false))
    (c.split_at_mut-later.ensures.front ∙ ap (take skipped) c.requires.so_far)
    (omega (arith, c.add_piece.ensures.len, c.split_at_mut-later.ensures.back_len))
    (λ i h.
    let inside : i < length c.split_at_mut-later.result.1.now = omega (arith, h, c.split_at_mut-later.ensures.back_len) in
    let same : (8 * c.args.p + first % 8) / 8 ≡ c.args.p = omega arith in
    c.add_piece.ensures.added i inside
    ∙ ap₂ ◌+ℤ◌ (ap (λ (xs : List ℤ). get_or xs i (pos 0)) (c.split_at_mut-later.ensures.back ∙ ap (drop skipped) c.requires.so_far))
    (piece_sum _ _ _ read bits first (length c.split_at_mut-later.result.1.now) i inside
    ∙ ap (λ q. conv (part (padded taps) q) bits (i * 8 + first)) same))
