use Rattle.std.proofs.Common.{◌≡◌, ◌∙◌, ◌++◌, ap, ap₂, arith, drop, length, List, ℕ}
use Rattle.joined_core.proofs.FrameNumbers.{drop_min}
use Rattle.joined_core.proofs.frames.moved.Goals as goal

pub returns : goal.returns
returns c =
    let all = c.args.tail.items ++ c.args.bytes.now in
    let held : c.deref.result.now ≡ all = c.deref.ensures.value ∙ c.in_ok-extend_from_slice.ensures.items in
    let long : c.len.result ≡ length all = omega (arith, c.len.ensures, c.extend_from_slice.new.self.ok.0, ap length c.in_ok-extend_from_slice.ensures.items) in
    c.in_ok-moved.ensures.items ∙ c.split_at.ensures.back ∙ ap₂ (λ (k : ℕ) (xs : List ℕ). drop k xs) c.min.ensures held ∙ drop_min c.args.left_out c.len.result all long
