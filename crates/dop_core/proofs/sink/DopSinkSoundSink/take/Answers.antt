use Rattle.std.proofs.Common.{◌≡◌, ◌++◌, ◌∙◌, add-zero, ap, ap₂, refl, subst, sym}
use Rattle.std.specs.Io.KnownBytes.{Appends}
use Rattle.chunk_core.specs.Outlets.{AppendsPart}
use Rattle.native_core.specs.Native.{native_of}
use Rattle.native_core.specs.declared.layout.Layout.TheVariants.{Dop}
use Rattle.sound_core.proofs.FaultLaws.{fault_is}
use Rattle.sound_core.proofs.RelayLaws.{each_err, each_ok}
use Rattle.sound_core.specs.declared.fault.StreamFault.TheVariants.{Memory}
use Rattle.dop_core.specs.Sinks.{samples_of}
use Rattle.dop_core.proofs.PlayLaws.{part_is_prefix, playing_on, playing_refuses, prefix_nil}
use Rattle.dop_core.proofs.sink.DopSinkSoundSink.take.Given.{Over}
use Rattle.dop_core.proofs.sink.DopSinkSoundSink.take.Goals as goal
use Rattle.dop_core.proofs.sink.DopSinkSoundSink.take.Goals.{After-as_slice}

-- the bytes that are put are the samples of the part
made : (g : Over) (c : After-as_slice g) → c.as_slice.result.now ≡ samples_of c.args.part.sound c.args.part.bits c.args.bytes.now
made g c =
    let from = c.args.part.sound.interleaving in
    c.as_slice.ensures.value ∙ c.in_ok-push_native.ensures.ok ∙ ap (λ xs. xs ++ native_of Dop from c.stretch.result.channels c.stretch.result.count c.args.bytes.now) c.clear.ensures.items
    ∙ ap₂ (λ n m. native_of Dop from n m c.args.bytes.now) c.stretch.ensures.0 c.stretch.ensures.1

pub returns-clause-has : goal.returns-clause-has
returns-clause-has g c =
    let at = (goal.at.returns-clause-has g c).After-as_slice in
    each_ok _ _ c.put.result c.put.ensures.ok c.put.ensures.failures (λ out failures first before fed is.
    playing_on c.native_joins.ensures g.W.Write.contents first c.args.self.now _ c.args.part before c.args.bytes.now fed is c.requires.size refl (subst (Appends _ _) (made g at) out) failures)

pub returns-clause-refused : goal.returns-clause-refused
returns-clause-refused g c =
    let at = (goal.at.returns-clause-refused g c).After-as_slice in
    each_err _ _ c.put.result c.put.ensures.err c.put.ensures.fault c.put.ensures.failures (λ f out fault failures first before fed is.
    playing_refuses c.native_joins.ensures g.W.Write.contents first c.args.self.now _ c.args.part before c.args.bytes.now fed is c.requires.size refl f fault (part_is_prefix _ _ _ (subst (AppendsPart _ _) (made g at) out)) failures)

pub returns-in_err-push_native-clause-refused : goal.returns-in_err-push_native-clause-refused
returns-in_err-push_native-clause-refused g c =
    rw (fault_is c.from_residual.result _ c.from_residual.ensures.1) (λ first before fed is.
    playing_refuses c.native_joins.ensures g.W.Write.contents first c.args.self.now _ c.args.part before c.args.bytes.now fed is c.requires.size refl Memory tt (prefix_nil _ _) (sym (add-zero _)))
