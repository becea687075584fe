-- What a part's player gives of what the player of the sound's rest gives.
use Rattle.std.proofs.Common.{◌≡◌, ℕ, ◌+◌, ◌-◌, ◌*◌, ◌/◌, ◌^◌, ◌≤◌, inl, inr, List, [], ◌++◌, length, slice_range, sym, subst, ap, ap₂, ◌∙◌, arith, length-append}
use Rattle.std.proofs.Math.Nat.{mul-le-mul_right}
use Rattle.fir_core.specs.Decimator.{IsWithinLimits}
use Rattle.fir_core.proofs.StreamLaws.{few_due}
use Rattle.player_core.specs.Due.{bytes_known, due_bytes, frames_due}
use Rattle.player_core.specs.PartView.{IsPartFed, part_all, part_due}
use Rattle.player_core.specs.PlayerView.{FeedsPlayer, FinishesPlayer, IsPlayerFed, IsPlayer, filter_of, sound_of}
use Rattle.player_core.specs.declared.parts.PartPlayer.{PartPlayer}
use Rattle.player_core.specs.declared.player.Player.{Player}
use Rattle.player_core.proofs.PlaceLaws.{length-due}
use Rattle.player_core.proofs.SliceLaws.{slice_more}
use Rattle.player_core.proofs.StepLaws.{filter_known}

-- ---- how many bytes are due
pub limits_of : (p : Player) → IsPlayer p → IsWithinLimits (filter_of p)
limits_of p is = filter_known p.taps.now p.sound.count (bytes_known p.sound p.fed) p.streams.items (omega (arith, is.number, is.sound.some_channel)) is.each

pub few_bytes : (p : Player) → IsPlayer p → (bytes : List ℕ) → length (due_bytes (filter_of p) (sound_of p) bytes) ≤ 2 ^ 40
few_bytes p is bytes =
    let d = filter_of p in
    let s = sound_of p in
    let limits = limits_of p is in
    let w = d.width / 8 in
    let three : w ≤ 3 = elim limits.known_width [
      | inl sixteen ↦ omega (arith, sixteen)
      | inr more ↦ omega (arith, more)
    ] in
    let frame : s.channels * w ≤ 6 * w = mul-le-mul_right w is.sound.six_channels in
    let number : frames_due d s (length bytes) ≤ 2 ^ 34 = few_due d s.count (bytes_known s (length bytes)) is.sound.in_limit limits.least_factor limits.greatest_factor in
    let all : frames_due d s (length bytes) * (s.channels * w) ≤ 2 ^ 34 * (s.channels * w) = mul-le-mul_right (s.channels * w) number in
    omega (arith, length-due d s bytes, all, frame, three)

-- ---- a piece
module _ (p : PartPlayer) (q : Player) (bytes own : List ℕ) (feeds : FeedsPlayer p.player q bytes [] own) (filter : filter_of q ≡ filter_of p.player) (sound : sound_of q ≡ sound_of p.player) where
  abbrev more : List ℕ
  more = slice_range own (p.skip - p.given) (p.stop - p.given)

  module _ (before : List ℕ) (fed : IsPartFed p before) where
    next_fed : IsPlayerFed q (before ++ bytes)
    next_fed = (feeds.2 before fed.fed).0

    next_due : due_bytes (filter_of p.player) (sound_of p.player) (before ++ bytes) ≡ due_bytes (filter_of p.player) (sound_of p.player) before ++ own
    next_due = (feeds.2 before fed.fed).1 ∙ ap (λ xs. due_bytes (filter_of p.player) (sound_of p.player) before ++ xs) (sym feeds.1)

    next_given : p.given + length own ≡ length (due_bytes (filter_of q) (sound_of q) (before ++ bytes))
    next_given =
        omega (arith, ap length next_due, length-append (due_bytes (filter_of p.player) (sound_of p.player) before) own, fed.given)
        ∙ ap₂ (λ d s. length (due_bytes d s (before ++ bytes))) (sym filter) (sym sound)

    pub part_fed_on : (r : PartPlayer) → r.player ≡ q → r.given ≡ p.given + length own → IsPartFed r (before ++ bytes)
    part_fed_on r player given = record {
      fed = subst (λ x. IsPlayerFed x (before ++ bytes)) (sym player) next_fed;
      given = given ∙ next_given ∙ ap (λ x. length (due_bytes (filter_of x) (sound_of x) (before ++ bytes))) (sym player);
    }

    pub part_due_on : part_due p (before ++ bytes) ≡ part_due p before ++ more
    part_due_on =
        ap (λ xs. slice_range xs p.skip p.stop) next_due
        ∙ slice_more (due_bytes (filter_of p.player) (sound_of p.player) before) own p.skip p.stop
        ∙ ap (λ n. part_due p before ++ slice_range own (p.skip - n) (p.stop - n)) (sym fed.given)

    pub given_few : IsPlayer q → p.given + length own ≤ 2 ^ 40
    given_few is = omega (arith, next_given, few_bytes q is (before ++ bytes))

-- ---- the rest
pub part_all_on : (p : PartPlayer) (own : List ℕ) → FinishesPlayer p.player [] own → (before : List ℕ) → IsPartFed p before
    → part_all p before ≡ part_due p before ++ slice_range own (p.skip - p.given) (p.stop - p.given)
part_all_on p own finishes before fed =
    ap (λ xs. slice_range xs p.skip p.stop) (finishes.2 before fed.fed ∙ ap (λ xs. due_bytes (filter_of p.player) (sound_of p.player) before ++ xs) (sym finishes.1))
    ∙ slice_more (due_bytes (filter_of p.player) (sound_of p.player) before) own p.skip p.stop
    ∙ ap (λ n. part_due p before ++ slice_range own (p.skip - n) (p.stop - n)) (sym fed.given)
