use Rattle.std.proofs.Common.{◌≡◌, ℕ, arith, map, refl, subst, inl, inr}
use Rattle.std.proofs.lemmas.Bool.{cases_lt}
use Rattle.std.proofs.lemmas.List.{length-map}
use Rattle.clip_core.specs.Clips.{clip_content}
use Rattle.clip_core.specs.Contents.{mix_content}
use Rattle.cut_core.specs.Excerpts.{excerpts_content}
use Rattle.null_core.specs.Fitting.{ClipFits, read_shapes}
use Rattle.null_core.specs.Holding.{clip_at}
use Rattle.null_core.proofs.fitting.first_misfit.Goals as goal

pub loop-clip-init : goal.loop-clip-init
loop-clip-init c i less = absurd (omega (arith, less))

pub loop-clip-preserved : goal.loop-clip-preserved
loop-clip-preserved c i less =
    elim (cases_lt i c.loop-clip.clip) [
      | inl before ↦ c.loop-clip.invariant i before
      | inr past ↦ (let same : c.loop-clip.clip ≡ i = omega (arith, less, past) in subst (λ (n : ℕ). ClipFits (read_shapes (map excerpts_content c.args.takes.now)) (clip_at (mix_content c.args.mix.now) n)) same (c.if-not-does_clip_fit.ensures.yes refl))
    ]

pub returns-clause-all : goal.returns-clause-all
returns-clause-all c none i less = c.loop-clip.invariant i (omega (arith, less, c.loop-clip-test.false, c.len-clip-end.ensures, length-map c.args.mix.now.clips.items clip_content))

pub does_clip_fit-requires : goal.does_clip_fit-requires
does_clip_fit-requires c = record { as_many = c.requires; there = omega (arith, c.loop-clip-test.true, c.len-clip-end.ensures, length-map c.args.mix.now.clips.items clip_content) }

pub returns-then-not-does_clip_fit : goal.returns-then-not-does_clip_fit
returns-then-not-does_clip_fit c = record {
  all = λ none. absurd (cc none);
  first = record {
    here = record { there = omega (arith, c.loop-clip-test.true, c.len-clip-end.ensures, length-map c.args.mix.now.clips.items clip_content); misfit = c.if-not-does_clip_fit.ensures.no refl };
    before = λ earlier lt is. is.misfit (c.loop-clip.invariant earlier lt);
  };
}
