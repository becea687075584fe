use Rattle.std.proofs.Common.{◌≡◌, ◌++◌, ◌∙◌, ◌-◌, ◌/◌, ap, ap₂, arith, drop, length}
use Rattle.wave_core.specs.Contents.{WaveSpec}
use Rattle.wave_core.specs.Texts.{header, header_of, riff_head}
use Rattle.dop_core.specs.Writing.{dop_riff_size, frames_of}
use Rattle.dop_core.proofs.WriteLaws.{header_long, header_rest}
use Rattle.dop_core.proofs.header.push_head.Goals as goal
use Rattle.dop_core.proofs.header.push_head.Goals.{After-deref}

-- the header that was made
made : (c : After-deref) → c.deref.result.now ≡ header c.args.sound.now.channels (c.args.sound.now.rate / 16) 24 (frames_of c.args.sound.now.count)
made c =
    c.deref.ensures.value ∙ c.in_ok-push_header.ensures.ok ∙ ap (λ xs. xs ++ header_of c.spec_of.result c.frames_of.result) c.new-header.ensures.items
    ∙ ap₂ (λ (s : WaveSpec) n. header_of s n) c.spec_of.ensures c.frames_of.ensures.value

pub push_sized-requires : goal.push_sized-requires
push_sized-requires c =
    let at = (goal.at.push_sized-requires c).After-deref in
    omega (arith, ap length (made at), header_long c.args.sound.now.channels (c.args.sound.now.rate / 16) (frames_of c.args.sound.now.count))

pub returns-clause-ok : goal.returns-clause-ok
returns-clause-ok c =
    let at = (goal.at.returns-clause-ok c).After-deref in
    let s = c.args.sound.now in
    let size : c.file_size-size.result - 8 ≡ dop_riff_size s.channels s.count = omega (arith, c.file_size-size.ensures) in
    let rest = ap (drop 12) (made at) ∙ header_rest s.channels (s.rate / 16) (frames_of s.count) in
    c.in_ok-push_sized.ensures ∙ ap (λ xs. c.args.out.now.items ++ xs) (ap₂ (λ n xs. riff_head n ++ xs) size rest)
