use Rattle.std.proofs.Common.{◌≡◌, ◌+◌, ◌-◌, ◌<◌, ◌≤◌, ◌∙◌, true, Result, Ok, Err, ap, subst, sym}
use Rattle.dsd_bits.specs.declared.interleaving.Interleaving.TheVariants.{Blocks}
use Rattle.dsd_bits.specs.declared.sound.Sound.{Sound}
use Rattle.dsd_bits.specs.Blocks.{blocks_size}
use Rattle.dsf_core.specs.declared.fault.DsfFault.{DsfFault}
use Rattle.dsf_core.specs.declared.header.Header.{Header}
use Rattle.dsf_core.specs.Fields.{held, needed, u64_at}
use Rattle.dsf_core.specs.Reading.{cut_at, order_of, stated_order, stated_sound}
use Rattle.dsf_core.proofs.FileLaws.{prefix_cut, prefix_done, prefix_is}
use Rattle.dsf_core.proofs.header.read_header.Goals as goal
use Rattle.dsf_core.proofs.header.read_header.Goals.{After-saturating_sub-held}

-- the numbers that the last test compares are those of the file
given : (c : After-saturating_sub-held) → c.saturating_sub-held.result ≡ held c.args.file.now
given c = c.saturating_sub-held.ensures ∙ ap (λ n. n - 12) (c.long_at.ensures ∙ ap (λ n. u64_at c.args.file.now (n + 4)) c.in_ok-data_at.ensures.place)

wanted : (c : After-saturating_sub-held) → c.blocks_size.result ≡ needed c.args.file.now
wanted c = c.blocks_size.ensures.value ∙ (λ j. blocks_size (c.short_at-channels.ensures j) (c.long_at-count.ensures j))

order : (c : After-saturating_sub-held) → order_of c.args.file.now ≡ Ok c.in_ok-order.order
order c = sym (c.in_ok-order.ensures.exact ∙ (λ j. stated_order (c.short_at.ensures j) (c.short_at-channels.ensures j) (c.short_at-rate.ensures j) (c.short_at-2.ensures j) (c.short_at-3.ensures j) (c.long_at-count.ensures j)))

-- and its sound is what the fields state
abbrev seen : After-saturating_sub-held → Sound
seen c = record { rate = c.short_at-rate.result; channels = c.short_at-channels.result; count = c.long_at-count.result; start = c.in_ok-data_at.data_at + 12; size = c.blocks_size.result; interleaving = Blocks c.in_ok-order.order }

sound : (c : After-saturating_sub-held) → seen c ≡ stated_sound c.args.file.now c.in_ok-order.order
sound c = λ j. record { rate = c.short_at-rate.ensures j; channels = c.short_at-channels.ensures j; count = c.long_at-count.ensures j; start = c.in_ok-data_at.ensures.place j + 12; size = wanted c j; interleaving = Blocks c.in_ok-order.order }

pub returns-then-held-sound : goal.returns-then-held-sound
returns-then-held-sound c =
    let d = (goal.at.returns-then-held-sound c).After-saturating_sub-held in
    let cut : held c.args.file.now < needed c.args.file.now = subst (λ n. n < needed c.args.file.now) (given d) (subst (λ n. c.saturating_sub-held.result < n) (wanted d) c.if-held-sound.true) in
    ap (λ e. let r : Result Header DsfFault = Err e in r) (c.cut_at.ensures ∙ (λ j. cut_at (sound d j) (given d j) true))
    ∙ sym (prefix_cut c.args.file.now c.in_ok-data_at.data_at c.in_ok-order.order (sym c.in_ok-data_at.ensures.exact) (order d) cut)

pub returns : goal.returns
returns c =
    let d = (goal.at.returns c).After-saturating_sub-held in
    let fits : needed c.args.file.now ≤ held c.args.file.now = subst (λ n. needed c.args.file.now ≤ n) (given d) (subst (λ n. n ≤ c.saturating_sub-held.result) (wanted d) c.if-held-sound.false) in
    ap prefix_done (λ j. record { sound = sound d j; order = c.in_ok-order.order; kind = c.short_at-4.ensures j; tag_at = c.long_at-2.ensures j })
    ∙ sym (prefix_is c.args.file.now c.in_ok-data_at.data_at c.in_ok-order.order (sym c.in_ok-data_at.ensures.exact) (order d) fits)
