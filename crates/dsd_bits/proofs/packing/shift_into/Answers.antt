use Rattle.std.proofs.Common.{◌≡◌, ℕ, ◌+◌, ◌-◌, ◌*◌, ◌/◌, ◌%◌, List, length, slice_index, inl, inr, ap, ◌∙◌, arith}
use Rattle.std.proofs.lemmas.Bool.{cases_lt}
use Rattle.std.proofs.lemmas.Grind.{get_or-set_at}
use Rattle.std.proofs.lemmas.List.{get_or-set_other, length-set}
use Rattle.dsd_bits.specs.Shifting.{byte_across, byte_from}
use Rattle.dsd_bits.proofs.packing.shift_into.Goals as goal

-- a byte of two channels side by side
across : (source : List ℕ) (at k j : ℕ) → j ≡ k → byte_across (slice_index source (at / 8 + k)) (slice_index source (at / 8 + k + 1)) (at % 8) ≡ byte_from source (at + 8 * j)
across source at k j e =
    let whole : at / 8 + k ≡ (at + 8 * j) / 8 = omega (arith, e) in
    let rest : at % 8 ≡ (at + 8 * j) % 8 = omega arith in
    ap (λ m. byte_across (slice_index source m) (slice_index source (m + 1)) (at % 8)) whole ∙ ap (byte_across (slice_index source ((at + 8 * j) / 8)) (slice_index source ((at + 8 * j) / 8 + 1))) rest

pub loop-k-preserved : goal.loop-k-preserved
loop-k-preserved c =
    let to = c.loop-k.to in
    let k = c.loop-k.k in
    let place = c.args.kept + k in
    let byte = c.byte_across.result in
    let inv = c.loop-k.invariant in
    record {
      size = length-set to place byte ∙ inv.size;
      before = λ j h. get_or-set_other to place j byte 0 (omega (arith, h)) ∙ inv.before j h;
      after = λ j h. elim (cases_lt j k) [
        | inl low ↦ get_or-set_other to place (c.args.kept + j) byte 0 (omega (arith, low)) ∙ inv.after j low
        | inr high ↦
            let e : j ≡ k = omega (arith, h, high) in
            get_or-set_at to place (c.args.kept + j) byte 0 (ap (λ m. c.args.kept + m) e) (omega (arith, inv.size, c.loop-k-test.true)) ∙ c.byte_across.ensures ∙ across c.args.source.now c.args.at k j e
      ];
    }

pub returns : goal.returns
returns c =
    let to = c.loop-k.to in
    let last = length c.args.to.now - c.args.kept - 1 in
    let place = c.args.kept + last in
    let byte = c.byte_across-2.result in
    let inv = c.loop-k.invariant in
    let all : c.loop-k.k ≡ last = omega (arith, c.loop-k.auto.k-end, c.loop-k-test.false) in
    record {
      before = λ j h. get_or-set_other to place j byte 0 (omega (arith, h)) ∙ inv.before j h;
      after = λ j h. elim (cases_lt j last) [
        | inl low ↦ get_or-set_other to place (c.args.kept + j) byte 0 (omega (arith, low)) ∙ inv.after j (omega (arith, low, all))
        | inr high ↦
            let e : j ≡ last = omega (arith, h, high) in
            get_or-set_at to place (c.args.kept + j) byte 0 (ap (λ m. c.args.kept + m) e) (omega (arith, inv.size, c.requires.some)) ∙ c.byte_across-2.ensures ∙ ap (λ b. byte_across (slice_index c.args.source.now (c.args.at / 8 + last)) b (c.args.at % 8)) c.byte_or_zero.ensures ∙ across c.args.source.now c.args.at last j e
      ];
    }
