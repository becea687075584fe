use Rattle.std.proofs.Common.{◌≡◌, true, false, take, drop, sym, ap, ◌∙◌, arith}
use Rattle.dsd_bits.specs.Ids.{same_id, DSD}
use Rattle.dsdiff_core.proofs.SeekLoop.{data_fit, data_past, data_wanted, here, no_head, past_end, walked_here, walked_on}
use Rattle.dsdiff_core.proofs.header.find_head.Goals as goal

pub returns-in_default-clause-exact : goal.returns-in_default-clause-exact
returns-in_default-clause-exact c =
    let sought = walked_here c.args.prefix.now c.loop-at.at c.args.size c.requires.long c.requires.size c.loop-at.invariant in
    no_head c.args.prefix.now c.loop-at.at c.args.size sought (omega arith) c.in_default.ensures

pub returns-then-size-at-clause-exact : goal.returns-then-size-at-clause-exact
returns-then-size-at-clause-exact c =
    let found = c.in-Some.ensures in
    let sought = walked_here c.args.prefix.now c.loop-at.at c.args.size c.requires.long c.requires.size c.loop-at.invariant in
    data_past c.args.prefix.now c.loop-at.at c.args.size sought (omega arith) found.whole (omega (arith, found.size))

pub returns-then-eq-clause-exact : goal.returns-then-eq-clause-exact
returns-then-eq-clause-exact c =
    let found = c.in-Some.ensures in
    let sought = walked_here c.args.prefix.now c.loop-at.at c.args.size c.requires.long c.requires.size c.loop-at.invariant in
    let id : same_id (take 4 (drop c.loop-at.at c.args.prefix.now)) DSD ≡ true = ap (λ x. same_id x DSD) (sym found.id) ∙ sym c.eq.ensures ∙ c.if-eq.true in
    here c.args.prefix.now c.loop-at.at c.args.size sought found.whole (data_fit c.args.prefix.now c.loop-at.at c.args.size c.in-Some.chunk.size c.loop-at-test.true c.if-size-at.false found.size) id

pub returns-then-eq-clause-whole : goal.returns-then-eq-clause-whole
returns-then-eq-clause-whole c =
    let sought = walked_here c.args.prefix.now c.loop-at.at c.args.size c.requires.long c.requires.size c.loop-at.invariant in
    (sought.from, c.in-Some.ensures.whole)

pub returns-then-prefix-at-clause-exact : goal.returns-then-prefix-at-clause-exact
returns-then-prefix-at-clause-exact c =
    let found = c.in-Some.ensures in
    let sought = walked_here c.args.prefix.now c.loop-at.at c.args.size c.requires.long c.requires.size c.loop-at.invariant in
    let id : same_id (take 4 (drop c.loop-at.at c.args.prefix.now)) DSD ≡ false = ap (λ x. same_id x DSD) (sym found.id) ∙ sym c.eq.ensures ∙ c.if-eq.false in
    data_wanted c.args.prefix.now c.loop-at.at c.args.size sought found.whole (data_fit c.args.prefix.now c.loop-at.at c.args.size c.in-Some.chunk.size c.loop-at-test.true c.if-size-at.false found.size) id (omega (arith, found.size))

pub loop-at-preserved : goal.loop-at-preserved
loop-at-preserved c =
    let found = c.in-Some.ensures in
    let id : same_id (take 4 (drop c.loop-at.at c.args.prefix.now)) DSD ≡ false = ap (λ x. same_id x DSD) (sym found.id) ∙ sym c.eq.ensures ∙ c.if-eq.false in
    rw found.size (walked_on c.args.prefix.now c.loop-at.at c.args.size c.requires.long c.requires.size c.loop-at.invariant (data_fit c.args.prefix.now c.loop-at.at c.args.size c.in-Some.chunk.size c.loop-at-test.true c.if-size-at.false found.size) id (omega (arith, found.size)))

pub returns-clause-exact : goal.returns-clause-exact
returns-clause-exact c =
    let sought = walked_here c.args.prefix.now c.loop-at.at c.args.size c.requires.long c.requires.size c.loop-at.invariant in
    past_end c.args.prefix.now c.loop-at.at c.args.size sought (omega arith)
