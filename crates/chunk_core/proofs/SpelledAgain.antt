-- Chunks that are spelled are read as these chunks.
use Rattle.std.proofs.Common.{◌≡◌, ℕ, ◌%◌, List, [], ◌∷◌, ◌++◌, length, drop, replicate, refl, sym, ap, ◌∙◌, inl, append_assoc, arith}
use Rattle.std.specs.List.{flat_map, AllByRecursion}
use Rattle.std.proofs.lemmas.List.Elements.{recursion_from_All}
use Rattle.std.proofs.lemmas.List.{append-nil, take_at, drop_at, length-append, length-replicate}
use Rattle.byteorder.specs.Endian.{big_number, big_bytes}
use Rattle.byteorder.specs.Numbers.{big_number-reads_back}
use Rattle.chunk_core.specs.Chunks.{Chunk, IsHead, CanBeWritten, chunks, spell}
use Rattle.chunk_core.specs.Laws.{SpelledAgain}

-- an ID and a size make a head
head_is : (c : Chunk) → CanBeWritten c → IsHead (c.id ++ big_bytes 8 (length c.content)) c
head_is c f =
    let size : List ℕ = big_bytes 8 (length c.content) in
    let id : drop 4 (c.id ++ size) ≡ size = drop_at c.id size 4 f.id in
    let back : big_number 8 (size ++ []) ≡ length c.content = big_number-reads_back 8 (length c.content) [] (omega (arith, f.size)) in
    record {
      long = length-append c.id size ∙ rw f.id refl;
      id = take_at c.id size 4 f.id;
      size = ap (big_number 8) (id ∙ sym (append-nil size)) ∙ back;
    }

-- chunk by chunk
spelled_are : (cs : List Chunk) → AllByRecursion CanBeWritten cs → chunks (flat_map spell cs) cs
spelled_are [] h = refl
spelled_are (c ∷ cs) h =
    let pad : List ℕ = replicate (length c.content % 2) 0 in
    let rest : List ℕ = flat_map spell cs in
    let head : List ℕ = c.id ++ big_bytes 8 (length c.content) in
    let whole : spell c ++ rest ≡ head ++ (c.content ++ (pad ++ rest)) = append_assoc (head ++ c.content) pad rest ∙ append_assoc head c.content (pad ++ rest) in
    inl (head, pad, rest, head_is c h.0, length-replicate (length c.content % 2) 0, whole, spelled_are cs h.1)

-- the law
pub all_spelled_are : SpelledAgain
all_spelled_are cs h = spelled_are cs (recursion_from_All CanBeWritten cs h)
