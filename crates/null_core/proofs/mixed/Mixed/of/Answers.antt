use Rattle.std.proofs.Common.{◌∙◌, List, ap, length, subst, sym}
use Rattle.std.proofs.lemmas.List.{length-map}
use Rattle.clip_core.specs.Contents.{mix_content}
use Rattle.cut_core.specs.Excerpts.{excerpts_content}
use Rattle.cut_core.specs.declared.excerpts.Excerpts.{Excerpts}
use Rattle.null_core.specs.Reading.{IsFaultOfTakes, TakesFit, mixed_of}
use Rattle.null_core.proofs.ReadingLaws.{is_read, read_long}
use Rattle.null_core.proofs.mixed.Mixed.of.Goals as goal
use Rattle.null_core.proofs.mixed.Mixed.of.Goals.{In-Ok}

pub low_passes_of-requires : goal.low_passes_of-requires
low_passes_of-requires c =
    let mix = mix_content c.args.mix in
    ap length c.deref.ensures.value ∙ sym (length-map c.args.takes.items excerpts_content) ∙ read_long (mixed_of mix c.args.takes.items) c.requires.whole (is_read mix c.requires.whole c.args.takes.items c.requires.excerpts) ∙ c.requires.as_many

fit : (c : In-Ok) → TakesFit (mix_content c.args.mix) c.args.takes.items
fit c = subst (TakesFit (mix_content c.args.mix)) c.deref.ensures.value c.in-Ok.ensures.fit

pub invariant_of-result : goal.invariant_of-result
invariant_of-result c =
    let here = (goal.at.invariant_of-result c).In-Ok in
    record {
      mixed = record {
        takes = c.requires.whole;
        read = is_read (mix_content c.args.mix) c.requires.whole c.args.takes.items c.requires.excerpts;
        as_many = c.requires.as_many;
        fit = fit here c.requires.whole c.requires.excerpts;
      };
      decoders = c.in-Ok.ensures.decoders;
      audible = c.in-Ok.ensures.audible;
    }

pub returns-in-Ok-clause-fit : goal.returns-in-Ok-clause-fit
returns-in-Ok-clause-fit c = fit (goal.at.returns-in-Ok-clause-fit c).In-Ok

pub returns-in-Err-clause-fault : goal.returns-in-Err-clause-fault
returns-in-Err-clause-fault c = subst (λ (hs : List Excerpts). IsFaultOfTakes (mix_content c.args.mix) hs c.in-Err.fault) c.deref.ensures.value c.in-Err.ensures.fault
