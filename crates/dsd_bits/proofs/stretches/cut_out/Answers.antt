use Rattle.std.proofs.Common.{◌≡◌, ℕ, ◌-◌, ◌++◌, ◌∙◌, min, Bool, List, [], length, drop, refl, sym, ap, inl, inr, arith, length-drop}
use Rattle.std.specs.Prelude.{slice_range}
use Rattle.std.proofs.lemmas.Bool.{cases_lt}
use Rattle.std.proofs.lemmas.List.{drop_all, take_all}
use Rattle.dsd_bits.proofs.stretches.cut_out.Goals as goal

-- a range whose ends are brought back into the list
clipped : (xs : List Bool) (a b from to : ℕ) → from ≡ min a to → to ≡ min b (length xs) → slice_range xs from to ≡ slice_range xs a b
clipped xs a b from to f t = elim (cases_lt a (length xs)) [
  | inl inside ↦ elim (cases_lt a b) [
    | inl some ↦
        let same : from ≡ a = omega arith in
        elim (cases_lt b (length xs)) [
          | inl low ↦ let stop : to ≡ b = omega arith in rw (same, stop) refl
          | inr high ↦ rw same (take_all (to - a) (drop a xs) (omega (arith, length-drop a xs)) ∙ sym (take_all (b - a) (drop a xs) (omega (arith, length-drop a xs))))
        ]
    | inr none ↦
        let nothing : to - from ≡ 0 = omega arith in
        let empty : b - a ≡ 0 = omega arith in
        rw (nothing, empty) refl
  ]
  | inr past ↦
      let nothing : to - from ≡ 0 = omega arith in
      rw (nothing, drop_all a xs past) (sym (take_all (b - a) [] (omega arith)))
]

pub returns : goal.returns
returns c =
    let xs = c.args.channel.now in
    let stop = c.min-stop.ensures ∙ ap (min c.args.range.stop) c.len.ensures.value in
    c.in_ok-push_range.ensures.ok ∙ ap (λ ys. ys ++ slice_range xs c.min-start.result c.min-stop.result) c.new-made.ensures ∙ clipped xs c.args.range.start c.args.range.stop c.min-start.result c.min-stop.result c.min-start.ensures stop
