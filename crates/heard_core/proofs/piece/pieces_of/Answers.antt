use Rattle.std.proofs.Common.{◌≡◌, ◌∙◌, arith}
use Rattle.heard_core.specs.Pieces.{padded}
use Rattle.heard_core.proofs.ConvLaws.{abs_sum_padded, length-padded, piece_within}
use Rattle.heard_core.proofs.piece.pieces_of.Goals as goal
use Rattle.heard_core.proofs.piece.pieces_of.Goals.{After-as_slice}

is_padded : (c : After-as_slice) → c.as_slice.result.now ≡ padded c.args.taps.now
is_padded c = c.as_slice.ensures.value ∙ c.in_ok-padded.ensures

pub first_pieces-requires : goal.first_pieces-requires
first_pieces-requires c =
    let taps = c.args.taps.now in
    let is = is_padded (goal.at.first_pieces-requires c).After-as_slice in
    rw is (record {
      within = λ k h. piece_within taps k (omega (arith, h, c.div_ceil.ensures));
      eights = omega (arith, length-padded taps);
      small = omega (arith, abs_sum_padded taps, c.requires.small_sum);
    })

pub returns : goal.returns
returns c = rw (is_padded (goal.at.returns c).After-as_slice, c.div_ceil.ensures) at c.first_pieces.ensures
