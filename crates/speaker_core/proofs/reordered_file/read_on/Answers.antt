use Rattle.std.proofs.Common.{◌≡◌, ℕ, ◌+◌, ◌-◌, ◌++◌, ◌≤◌, List, length, take, drop, Option, None, Some, sym, ap, ◌∙◌, append_assoc, arith, length-take}
use borrow.Rule.Slice.PartMut.{put_mid, same_len_mid}
use lib.Seq.{take-append-add, length-take-le, take-append-le}
use Rattle.std.specs.Io.KnownBytes.{Consumes, Keeps, prepend_known}
use Rattle.std.proofs.KnownBytes.{Keeps-trans}
use Rattle.speaker_core.proofs.reordered_file.read_on.Goals as goal

-- what was read comes after what was there
read_more : (front back bytes : List ℕ) (old new : Option (List ℕ)) → back ≡ front ++ bytes → Consumes old new bytes → Keeps (prepend_known front old) (prepend_known back new)
read_more front back bytes None new is read = tt
read_more front back bytes (Some xs) None is read = absurd read
read_more front back bytes (Some xs) (Some ys) is read = ap (λ l. l ++ ys) is ∙ append_assoc front bytes ys ∙ ap (λ l. front ++ l) (sym read)

-- the first bytes of a buffer after some were put there
first_of : (at k n : ℕ) (xs ys : List ℕ) → at ≤ length xs → n ≤ length ys → take (at + n) (put_mid at k xs ys) ≡ take at xs ++ take n ys
first_of at k n xs ys within few =
    let front : length (take at xs) ≡ at = length-take-le at xs within in
    ap (λ m. take (m + n) (put_mid at k xs ys)) (sym front) ∙ take-append-add (take at xs) (ys ++ drop k (drop at xs)) n ∙ ap (λ l. take at xs ++ l) (take-append-le n ys (drop k (drop at xs)) few)

pub loop-filled-preserved : goal.loop-filled-preserved
loop-filled-preserved g c =
    let left = g.R.Read.remaining in
    let at = c.loop-filled.filled in
    let n = c.in-Ok.count in
    let k = c.args.wanted - at in
    let buffer = c.loop-filled.buffer in
    let inv = c.loop-filled.invariant in
    let got = c.read.new.buf in
    let within : at ≤ length buffer = omega (arith, c.loop-filled-test.true, c.requires.room, inv.long) in
    let few : n ≤ length got = c.in-Ok.ensures.bound.0 in
    let size : length got ≡ length (take k (drop at buffer)) = c.read.auto.buf in
    record {
      kept = Keeps-trans _ _ _ inv.kept (read_more (take at buffer) (take (at + n) (put_mid at k buffer got)) (take n got) (left c.loop-filled.file) (left c.read.new.self) (first_of at k n buffer got within few) c.in-Ok.ensures.bytes.0);
      long = same_len_mid at k buffer got size ∙ inv.long;
      few = omega (arith, few, size, length-take k (drop at buffer), c.loop-filled-test.true);
    }
