use Rattle.std.proofs.Common.{None, Option, ap, refl, replicate, ℕ, ◌∙◌}
use Rattle.sound_core.specs.Stretches.{items_of}
use Rattle.judge_core.proofs.AuditLaws.{audits_none}
use Rattle.judge_core.proofs.auditor.AuditorSoundSink.begin.Goals as goal

pub returns-clause-has : goal.returns-clause-has
returns-clause-has c =
    let k = c.begin.new.self in
    let begun = c.in_ok-begin.ensures.has in
    record {
      same = refl;
      ranges = begun.same;
      audits = audits_none c.args.self.now.cut.now c.args.sound k.ranges.now (items_of k.stretches.items) c.in_ok-firsts.firsts.items begun.keeps (c.in_ok-firsts.ensures ∙ ap (λ (n : ℕ). replicate {A = Option ℕ} n None) c.channel_number.ensures.value);
    }
