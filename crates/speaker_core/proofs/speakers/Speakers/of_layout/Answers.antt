use Rattle.std.proofs.Common.{◌≡◌, ℕ, List, Option, Some, IfOk, length, map, refl, ap, subst, ◌∙◌}
use Rattle.std.proofs.lemmas.List.{length-map}
use Rattle.dsd_bits.proofs.ExitLaws.{no_value}
use Rattle.speaker_core.specs.Speakers.{layout_speakers, speaker_mask, speaker_order}
use Rattle.speaker_core.proofs.ListLaws.{map_all, map_more}
use Rattle.speaker_core.proofs.speakers.Speakers.of_layout.Goals as goal

pub returns-in_err-channels : goal.returns-in_err-channels
returns-in_err-channels c =
    let r = c.from_residual in
    record { mask = no_value _ _ r.result r.ensures.1; order = no_value _ _ r.result r.ensures.1; channels = no_value _ _ r.result r.ensures.1; number = no_value _ _ r.result r.ensures.1 }

pub returns-in_err-push : goal.returns-in_err-push
returns-in_err-push c =
    let r = c.from_residual-in_err-push in
    record { mask = no_value _ _ r.result r.ensures.1; order = no_value _ _ r.result r.ensures.1; channels = no_value _ _ r.result r.ensures.1; number = no_value _ _ r.result r.ensures.1 }

pub loop-speaker-preserved : goal.loop-speaker-preserved
loop-speaker-preserved c = map_more (λ (speaker : ℕ). Some speaker) 0 c.layout_speakers-named.result.now c.loop-speaker.speaker-index c.loop-speaker.channels.items c.push.new.self.items _ c.loop-speaker-test.true c.loop-speaker.invariant c.in_ok-push.ensures.items refl

pub returns : goal.returns
returns c =
    let all : c.deref.result.now ≡ map (λ speaker. Some speaker) (layout_speakers c.args.layout) =
    c.deref.ensures.value ∙ map_all (λ (speaker : ℕ). Some speaker) c.layout_speakers-named.result.now c.loop-speaker.speaker-index c.loop-speaker.channels.items c.loop-speaker.invariant c.loop-speaker-test.false ∙ ap (map (λ speaker. Some speaker)) c.layout_speakers-named.ensures in
    record {
      mask = subst (λ (xs : List (Option ℕ)). IfOk c.of.result (λ s. s.mask ≡ speaker_mask xs)) all c.of.ensures.mask;
      order = subst (λ (xs : List (Option ℕ)). IfOk c.of.result (λ s. s.order.items ≡ speaker_order xs)) all c.of.ensures.order;
      channels = c.of.ensures.channels;
      number = subst (λ (n : ℕ). IfOk c.of.result (λ s. length s.order.items ≡ n)) (ap length all ∙ length-map (layout_speakers c.args.layout) (λ speaker. Some speaker)) c.of.ensures.number;
    }
