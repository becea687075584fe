-- A read into the end of a buffer, seen from the whole buffer.
use Rattle.std.proofs.Common.{◌≡◌, ℕ, ◌+◌, ◌-◌, ◌<◌, ◌≤◌, List, ◌++◌, Option, Result, Ok, Err, IfOk, refl, sym, ap, ◌∙◌, length, take, length-take-le, take-take, length-append, length-take, length-drop, arith}
use Rattle.std.proofs.Math.Seq.{take-append-add}
use Rattle.std.proofs.lemmas.Slice.{take-put_mid}
use Rattle.std.specs.Io.KnownBytes.{ReadConsumes}
use borrow.Rule.Slice.PartMut.{put_mid}
use Rattle.chunk_core.specs.Inlets.{PullsAfter}

-- the start of a buffer whose end was filled with ys, up to n of them
take-filled : (a k n : ℕ) (xs ys : List ℕ) → a ≤ length xs → n ≤ length ys → take (a + n) (put_mid a k xs ys) ≡ take a xs ++ take n ys
take-filled a k n xs ys within few =
    let long : length (take a xs) ≡ a = length-take-le a xs within in
    sym (take-take (a + n) (a + length ys) (put_mid a k xs ys) (omega arith))
    ∙ ap (take (a + n)) (take-put_mid a k xs ys (a + length ys) refl within)
    ∙ ap (λ m. take (m + n) (take a xs ++ ys)) (sym long)
    ∙ take-append-add (take a xs) ys n

pub PullsAfter-read : {E : Type 0} (old new : Option (List ℕ)) (result : Result ℕ E) (filled k : ℕ) (xs ys : List ℕ) → filled < length xs → length ys ≡ k → k ≡ length xs - filled
    → IfOk result (λ n. n ≤ length ys) → ReadConsumes old new result ys → PullsAfter old new result filled xs (put_mid filled k xs ys)
PullsAfter-read old new (Ok n) filled k xs ys room long rest few read =
    (take n ys, length-take-le n ys few, simp (length-append, length-take, length-drop) (omega arith), take-filled filled k n xs ys (omega arith) few, read.0, λ zero. read.1 zero (omega arith))
PullsAfter-read old new (Err e) filled k xs ys room long rest few read = read
