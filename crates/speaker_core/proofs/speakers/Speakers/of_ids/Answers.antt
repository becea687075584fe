use Rattle.std.proofs.Common.{◌≡◌, ℕ, [], List, Option, IfOk, length, map, ap, subst, ◌∙◌}
use Rattle.std.proofs.lemmas.List.{length-map}
use Rattle.dsd_bits.proofs.ExitLaws.{no_value}
use Rattle.speaker_core.specs.Speakers.{speaker_mask, speaker_of, speaker_order}
use Rattle.speaker_core.proofs.ListLaws.{map_all, map_more}
use Rattle.speaker_core.proofs.speakers.Speakers.of_ids.Goals as goal

pub returns-in_err-channels : goal.returns-in_err-channels
returns-in_err-channels c =
    let r = c.from_residual in
    record { mask = no_value _ _ r.result r.ensures.1; order = no_value _ _ r.result r.ensures.1; channels = no_value _ _ r.result r.ensures.1; number = no_value _ _ r.result r.ensures.1 }

pub returns-in_err-push : goal.returns-in_err-push
returns-in_err-push c =
    let r = c.from_residual-in_err-push in
    record { mask = no_value _ _ r.result r.ensures.1; order = no_value _ _ r.result r.ensures.1; channels = no_value _ _ r.result r.ensures.1; number = no_value _ _ r.result r.ensures.1 }

pub loop-id-preserved : goal.loop-id-preserved
loop-id-preserved c = map_more speaker_of [] c.args.ids.now c.loop-id.id-index c.loop-id.channels.items c.push.new.self.items c.speaker_of.result c.loop-id-test.true c.loop-id.invariant c.in_ok-push.ensures.items c.speaker_of.ensures

pub returns : goal.returns
returns c =
    let all : c.deref.result.now ≡ map speaker_of c.args.ids.now = c.deref.ensures.value ∙ map_all speaker_of c.args.ids.now c.loop-id.id-index c.loop-id.channels.items c.loop-id.invariant c.loop-id-test.false in
    record {
      mask = subst (λ (xs : List (Option ℕ)). IfOk c.of.result (λ s. s.mask ≡ speaker_mask xs)) all c.of.ensures.mask;
      order = subst (λ (xs : List (Option ℕ)). IfOk c.of.result (λ s. s.order.items ≡ speaker_order xs)) all c.of.ensures.order;
      channels = c.of.ensures.channels;
      number = subst (λ (n : ℕ). IfOk c.of.result (λ s. length s.order.items ≡ n)) (ap length all ∙ length-map c.args.ids.now speaker_of) c.of.ensures.number;
    }
