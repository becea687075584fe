use Rattle.std.proofs.Common.{◌≡◌, ◌+◌, ◌-◌, ◌++◌, drop, length, replicate, subst, ap, ◌∙◌, arith}
use Rattle.byteorder.specs.Endian.{big_number}
use Rattle.dsdiff_core.specs.Located.{stated_size}
use Rattle.dsdiff_core.specs.SoundBytes.{description_of}
use Rattle.dsdiff_core.specs.Steps.{Gives}
use Rattle.dsdiff_core.proofs.WalkLaws.{long}
use Rattle.dsdiff_core.proofs.describing.describe_around.Goals as goal

pub returns : goal.returns
returns c =
    let prefix = c.args.prefix.now in
    let place : length prefix - 8 ≡ length prefix - 12 + 4 = omega (arith, long prefix c.requires) in
    let hole : c.u64_at-size.result ≡ stated_size prefix = c.u64_at-size.ensures ∙ ap (λ n. big_number 8 (drop n prefix)) place in
    subst (λ n. Gives (λ d. d) c.describe_held.result (description_of (prefix ++ (replicate n 0 ++ c.args.back.now)))) hole c.describe_held.ensures
