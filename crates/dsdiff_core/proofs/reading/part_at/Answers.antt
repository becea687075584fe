use Rattle.std.proofs.Common.{◌≡◌, ◌≤◌, ◌+◌, ℕ, Option, Result, Ok, Some, sym, subst, arith, length}
use Rattle.dsdiff_core.specs.declared.fault.DsdiffFault.{DsdiffFault}
use Rattle.dsdiff_core.specs.Headers.{size_at}
use Rattle.dsdiff_core.proofs.DescribedLaws.{not_located, parted_at, unlocated}
use Rattle.dsdiff_core.proofs.reading.part_at.Goals as goal

some_place : (x y : ℕ) → (let r : Result (Option ℕ) DsdiffFault = Ok (Some x) in r) ≡ Ok (Some y) → x ≡ y
some_place x y e = cc

pub returns-then-file-at : goal.returns-then-file-at
returns-then-file-at c = unlocated c.args.file.now c.whole.result c.whole.ensures.value c.whole.ensures.is_held c.whole.ensures.prefix (not_located c.args.file.now _ c.requires.located (λ at e inside.
    let same = some_place c.args.at at e in
    omega (arith, subst (λ n. n + 12 + size_at c.args.file.now n ≤ length c.args.file.now) (sym same) inside, c.if-file-at.true, c.u64_at-size.ensures)))

pub returns : goal.returns
returns c = parted_at c.args.file.now c.args.at _ c.split_at.result.1.now c.split_at-2.result.0.now c.requires.located c.requires.inside.0 c.requires.inside.1 (omega arith) c.u64_at-size.ensures (omega (arith, c.if-file-at.false)) c.split_at.ensures.front c.split_at.ensures.back c.split_at-2.ensures.front c.split_at-2.ensures.back
