use Rattle.std.proofs.Common.{◌≡◌, ◌++◌, ◌∙◌, add-zero, ap, ap₂, refl, subst, sym}
use Rattle.std.specs.Io.KnownBytes.{Appends}
use Rattle.chunk_core.specs.Outlets.{AppendsPart}
use Rattle.interleave_core.specs.Reinterleaving.{reinterleaved}
use Rattle.sound_core.proofs.FaultLaws.{fault_is}
use Rattle.sound_core.proofs.RelayLaws.{each_err, each_ok, relaying_on, relaying_refuses, until_nil, until_part}
use Rattle.sound_core.specs.declared.fault.StreamFault.TheVariants.{Memory}
use Rattle.sound_core.proofs.relaying_sink.RelayingSinkSoundSink.take.Given.{Over}
use Rattle.sound_core.proofs.relaying_sink.RelayingSinkSoundSink.take.Goals as goal
use Rattle.sound_core.proofs.relaying_sink.RelayingSinkSoundSink.take.Goals.{After-as_slice}

-- the bytes that are put are those of the part
made : (g : Over) (c : After-as_slice g) → c.as_slice.result.now ≡ reinterleaved c.args.part.sound.interleaving c.args.self.now.target.interleaving c.args.part.sound.channels c.args.part.bits c.args.bytes.now
made g c =
    let from = c.args.part.sound.interleaving in
    let to = c.args.self.now.target.interleaving in
    c.as_slice.ensures.value ∙ c.in_ok-push_reinterleaved.ensures.ok ∙ ap (λ xs. xs ++ reinterleaved from to c.stretch.result.channels c.stretch.result.count c.args.bytes.now) c.clear.ensures.items
    ∙ ap₂ (λ n m. reinterleaved from to n m c.args.bytes.now) c.stretch.ensures.0 c.stretch.ensures.1

pub returns-clause-has : goal.returns-clause-has
returns-clause-has g c =
    let at = (goal.at.returns-clause-has g c).After-as_slice in
    each_ok _ _ c.put.result c.put.ensures.ok c.put.ensures.failures (λ out failures first before fed is.
    relaying_on g.W.Write.contents first c.args.self.now _ c.args.part before c.args.bytes.now fed is c.requires.size refl refl (subst (Appends _ _) (made g at) out) failures)

pub returns-clause-refused : goal.returns-clause-refused
returns-clause-refused g c =
    let at = (goal.at.returns-clause-refused g c).After-as_slice in
    each_err _ _ c.put.result c.put.ensures.err c.put.ensures.fault c.put.ensures.failures (λ f out fault failures first before fed is.
    relaying_refuses g.W.Write.contents first c.args.self.now _ c.args.part before c.args.bytes.now fed is c.requires.size refl f fault (until_part _ _ _ f (subst (AppendsPart _ _) (made g at) out)) failures)

pub returns-in_err-push_reinterleaved-clause-refused : goal.returns-in_err-push_reinterleaved-clause-refused
returns-in_err-push_reinterleaved-clause-refused g c =
    rw (fault_is c.from_residual.result _ c.from_residual.ensures.1) (λ first before fed is.
    relaying_refuses g.W.Write.contents first c.args.self.now _ c.args.part before c.args.bytes.now fed is c.requires.size refl Memory tt (until_nil _ _ Memory (λ same. cc)) (sym (add-zero _)))
