use Rattle.std.proofs.Common.{◌∙◌, subst}
use Rattle.chunk_core.specs.Inlets.{inlet_reader}
use Rattle.clip_core.specs.Contents.{mix_content}
use Rattle.sound_core.specs.Keeping.{IsKeptOf, stretches_in}
use Rattle.sound_core.specs.Outlines.{around_of}
use Rattle.null_core.specs.Files.{HoldsExcerpts}
use Rattle.null_core.proofs.FileLaws.{given_read, kept_excerpts, left_read}
use Rattle.null_core.proofs.reading.read_take.Goals as goal

pub returns-in-Ok-read_stretches-clause-found : goal.returns-in-Ok-read_stretches-clause-found
returns-in-Ok-read_stretches-clause-found g c =
    let kept = c.in-Ok-read_stretches.kept in
    let mix = mix_content c.args.mix.now in
    let own = c.deref.ensures.value ∙ c.in-Ok.ensures in
    let ok = c.in-Ok-read_stretches.ensures.ok in
    left_read (HoldsExcerpts mix c.args.number) (record { recording = kept.outline.recording; count = kept.outline.sound.count; stretches = kept.stretches }) (IsKeptOf (around_of kept.outline) c.deref.result.now (stretches_in kept))
    (λ file is. kept_excerpts kept c.has_shape.ensures ok.0 mix c.args.number file (subst (λ ranges. IsKeptOf (around_of kept.outline) ranges (stretches_in kept) file) own is))
    (g.R.Read.remaining (inlet_reader c.args.inlet.now)) ok.1

pub returns-in-Ok-read_stretches-clause-any_reader : goal.returns-in-Ok-read_stretches-clause-any_reader
returns-in-Ok-read_stretches-clause-any_reader g c =
    let kept = c.in-Ok-read_stretches.kept in
    let mix = mix_content c.args.mix.now in
    let own = c.deref.ensures.value ∙ c.in-Ok.ensures in
    given_read (HoldsExcerpts mix c.args.number) (record { recording = kept.outline.recording; count = kept.outline.sound.count; stretches = kept.stretches }) (IsKeptOf (around_of kept.outline) c.deref.result.now (stretches_in kept))
    (λ file is. kept_excerpts kept c.has_shape.ensures c.in-Ok-read_stretches.ensures.ok.0 mix c.args.number file (subst (λ ranges. IsKeptOf (around_of kept.outline) ranges (stretches_in kept) file) own is))
    g.R.Read.remaining c.args.inlet.now c.read_stretches.new.inlet c.in-Ok-read_stretches.ensures.any_reader
