use Rattle.std.proofs.Common.{◌≡◌, ◌%◌, ◌++◌, ◌∙◌, List, ℕ, append_assoc, length, replicate, sym, ap₂, arith}
use Rattle.std.proofs.lemmas.List.{append-nil}
use Rattle.byteorder.specs.Endian.{big_bytes}
use Rattle.chunk_core.specs.Chunks.{spelled}
use Rattle.chunk_core.proofs.spelling.push_chunk.Goals as goal

-- what was appended part by part is spelled
spelled_is : (out room a b c id size content : List ℕ) (pad : ℕ) → room ≡ out → a ≡ room ++ id → b ≡ a ++ size → c ≡ b ++ content → size ≡ big_bytes 8 (length content) → length content % 2 ≡ pad → c ++ replicate pad 0 ≡ out ++ spelled id content
spelled_is out room a b c id size content pad r h k l s p =
    let all : c ++ replicate pad 0 ≡ out ++ (id ++ size ++ content ++ replicate pad 0) = rw (l, k, h, r) (simp append_assoc) in
    all ∙ ap₂ (λ (size : List ℕ) (n : ℕ). out ++ (id ++ size ++ content ++ replicate n 0)) s (sym p)

pub returns-then-pad-eq1-clause-ok : goal.returns-then-pad-eq1-clause-ok
returns-then-pad-eq1-clause-ok c =
    c.push_reserved.ensures.items
    ∙ spelled_is c.args.out.now.items c.reserve.new.self.items c.extend_from_slice.new.self.items c.extend_from_slice-2.new.self.items c.extend_from_slice-3.new.self.items c.args.id c.u64_bytes.result c.args.content.now 1
    c.in_ok-reserve.ensures.items c.in_ok-extend_from_slice.ensures.items c.in_ok-extend_from_slice-2.ensures.items c.in_ok-extend_from_slice-3.ensures.items c.u64_bytes.ensures c.if-pad-eq1.true

pub returns-else-pad-eq1-clause-ok : goal.returns-else-pad-eq1-clause-ok
returns-else-pad-eq1-clause-ok c =
    sym (append-nil c.extend_from_slice-3.new.self.items)
    ∙ spelled_is c.args.out.now.items c.reserve.new.self.items c.extend_from_slice.new.self.items c.extend_from_slice-2.new.self.items c.extend_from_slice-3.new.self.items c.args.id c.u64_bytes.result c.args.content.now 0
    c.in_ok-reserve.ensures.items c.in_ok-extend_from_slice.ensures.items c.in_ok-extend_from_slice-2.ensures.items c.in_ok-extend_from_slice-3.ensures.items c.u64_bytes.ensures (omega (arith, c.if-pad-eq1.false))
