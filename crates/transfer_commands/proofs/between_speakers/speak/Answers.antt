use Rattle.std.proofs.Common.{ap, subst, ◌∙◌}
use Rattle.std.specs.Io.KnownBytes.{prepend_known}
use Rattle.speaker_core.specs.Reordered.{reordered_known, reordering_groups, reordering_order, reordering_size}
use Rattle.transfer_commands.specs.BetweenPlaying.{JoinsTo}
use Rattle.transfer_commands.proofs.SpeakLaws.{after_bytes}
use Rattle.transfer_commands.proofs.between_speakers.speak.Goals as goal

pub returns : goal.returns
returns g c =
    let spoken = c.args.spoken in
    let parts = spoken.parts in
    let left = g.R.Read.remaining in
    let held = g.W.Write.contents in
    let sound = after_bytes c.new.result.inner.items c.new.result.pos parts.tail.items _ (left parts.file) c.chain.ensures.bytes (ap (λ v. v.items) c.new.ensures.inner) c.new.ensures.position in
    let order = reordered_known (reordering_order spoken.reordering) (reordering_size spoken.reordering) (reordering_groups spoken.reordering) in
    let file = after_bytes c.new-2.result.inner.items c.new-2.result.pos parts.head.items _ _ c.chain-reader.ensures.bytes (ap (λ v. v.items) c.new-2.ensures.inner) c.new-2.ensures.position
    ∙ ap (prepend_known parts.head.items) (c.reordered-sound.ensures ∙ ap order sound) in
    subst (λ o. JoinsTo spoken.head c.args.taps.now spoken.edges o (held c.args.wave) (held c.join.result.1) c.join.result.0) file c.join.ensures
