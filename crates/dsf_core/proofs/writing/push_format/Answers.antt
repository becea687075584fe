use Rattle.std.proofs.Common.{◌≡◌, ◌++◌, ◌∙◌, List, ℕ, ap, append_assoc}
use Rattle.byteorder.specs.Endian.{little_bytes}
use Rattle.dsf_core.specs.Fields.{FMT}
use Rattle.dsf_core.proofs.writing.push_format.Goals as goal

-- bytes after those that were appended
after : (old made more rest : List ℕ) → made ≡ old ++ more → made ++ rest ≡ old ++ (more ++ rest)
after old made more rest e = ap (λ xs. xs ++ rest) e ∙ append_assoc old more rest

pub returns : goal.returns
returns c =
    let last : c.push_u32-8.new.out.items ≡ c.push_u32-7.new.out.items ++ little_bytes 4 0 = c.in_ok-push_u32-8.ensures.ok in
    last
    ∙ after c.push_u64-2.new.out.items c.push_u32-7.new.out.items (little_bytes 4 4096) _ c.in_ok-push_u32-7.ensures.ok
    ∙ after c.push_u32-6.new.out.items c.push_u64-2.new.out.items (little_bytes 8 c.args.count) _ c.in_ok-push_u64-2.ensures.ok
    ∙ after c.push_u32-5.new.out.items c.push_u32-6.new.out.items (little_bytes 4 c.args.bits_per_sample) _ c.in_ok-push_u32-6.ensures.ok
    ∙ after c.push_u32-4.new.out.items c.push_u32-5.new.out.items (little_bytes 4 c.args.rate) _ c.in_ok-push_u32-5.ensures.ok
    ∙ after c.push_u32-3.new.out.items c.push_u32-4.new.out.items (little_bytes 4 c.args.channel_number) _ c.in_ok-push_u32-4.ensures.ok
    ∙ after c.push_u32-2.new.out.items c.push_u32-3.new.out.items (little_bytes 4 c.args.channel_type) _ c.in_ok-push_u32-3.ensures.ok
    ∙ after c.push_u32.new.out.items c.push_u32-2.new.out.items (little_bytes 4 0) _ c.in_ok-push_u32-2.ensures.ok
    ∙ after c.push_u64.new.out.items c.push_u32.new.out.items (little_bytes 4 1) _ c.in_ok-push_u32.ensures.ok
    ∙ after c.extend_from_slice.new.self.items c.push_u64.new.out.items (little_bytes 8 52) _ c.in_ok-push_u64.ensures.ok
    ∙ after c.args.out.now.items c.extend_from_slice.new.self.items FMT _ c.in_ok-extend_from_slice.ensures.items
