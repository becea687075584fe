use Rattle.std.proofs.Common.{◌++◌, List, ℕ, ap, ap₂, ◌∙◌}
use Rattle.std.specs.Io.KnownBytes.{prepend_known}
use Rattle.sound_core.specs.Outlines.{around_of}
use Rattle.sound_core.specs.Relays.{reinterleaved_sound}
use Rattle.sound_core.specs.declared.relaying.NewFile.{NewFile}
use Rattle.speaker_core.specs.Reordered.{reordered_known, reordering_groups, reordering_order, reordering_size}
use Rattle.transfer_commands.proofs.RenamingLaws.{relays}
use Rattle.transfer_commands.proofs.SpeakLaws.{after_bytes}
use Rattle.transfer_commands.proofs.renaming.relay_renamed.Goals as goal

pub returns : goal.returns
returns g c = λ form is.
    let left = g.R.Read.remaining in
    let held = g.W.Write.contents in
    let w = c.args.renaming in
    let parts = c.args.parts in
    let o = around_of c.args.outline.now in
    let order = reordered_known (reordering_order w.reordering) (reordering_size w.reordering) (reordering_groups w.reordering) in
    let sound = after_bytes c.new.result.inner.items c.new.result.pos parts.tail.items _ (left parts.file) c.chain.ensures.bytes (ap (λ v. v.items) c.new.ensures.inner) c.new.ensures.position in
    let file = after_bytes c.new-2.result.inner.items c.new-2.result.pos parts.head.items _ _ c.chain-reader.ensures.bytes (ap (λ v. v.items) c.new-2.ensures.inner) c.new-2.ensures.position
    ∙ ap (prepend_known parts.head.items) (c.reordered-sound.ensures ∙ ap order sound) in
    let same = λ (bytes : List ℕ). ap₂ (λ h t. h ++ t) c.deref.ensures.value (ap₂ (λ i t. reinterleaved_sound o.sound i bytes ++ t) c.interleaving_in.ensures c.deref-2.ensures.value) in
    let target : NewFile = record { interleaving = c.interleaving_in.result; head = c.deref.result; tail = c.deref-2.result } in
    relays o c.requires.stated form w is parts.head.items parts.tail.items c.requires.start target (held c.args.made) (held c.relay_to.result.1) same _ (left parts.file) c.relay_to.result.0 file c.relay_to.ensures.ok c.relay_to.ensures.prefix
