use Rattle.dsd_bits.proofs.ExitLaws.{no_value}
use Rattle.std.proofs.Common.{[], ◌∷◌, ◌++◌, ◌∙◌, List, ap, arith, sym}
use Rattle.std.proofs.lemmas.List.FromFn.{map-range_with_len_more}
use Rattle.heard_core.specs.Pieces.{piece}
use Rattle.heard_core.specs.declared.piece.Piece.{Piece}
use Rattle.heard_core.proofs.piece.first_pieces.Goals as goal

pub push_piece-requires : goal.push_piece-requires
push_piece-requires c = record {
  within = c.requires.within c.loop-k.k c.loop-k-test.true;
  eights = c.requires.eights;
  small = c.requires.small;
}

pub loop-k-preserved : goal.loop-k-preserved
loop-k-preserved c =
    let taps = c.args.taps.now in
    let k = c.loop-k.k in
    c.in_ok-push_piece.ensures
    ∙ ap (λ (xs : List Piece). xs ++ piece taps k ∷ []) c.loop-k.invariant
    ∙ sym (map-range_with_len_more (piece taps) 0 k k (omega arith))

pub returns-in_err-push_piece : goal.returns-in_err-push_piece
returns-in_err-push_piece c = no_value _ _ c.from_residual.result c.from_residual.ensures.1
