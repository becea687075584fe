-- What a player that pauses has played, and what it goes on to.
use Rattle.std.proofs.Common.{◌≡◌, ℕ, ◌+◌, ◌≤◌, List, ◌++◌, length, sym, ap, ◌∙◌, arith, append_assoc}
use Rattle.dsd_bits.specs.declared.sound.Sound.{Sound}
use Rattle.fir_core.specs.Decimator.{Decimator}
use Rattle.player_core.specs.Laws.{total_frames}
use Rattle.player_core.specs.PartView.{IsPartFed, IsPartPlayer, IsSamePart, part_all, part_due, part_fed, part_filter, part_rest}
use Rattle.player_core.specs.PausedView.{IsPausedPart, IsSamePlace}
use Rattle.player_core.specs.declared.parts.PartPlayer.{PartPlayer}
use Rattle.player_core.specs.declared.pausing.PausedPart.{PausedPart}
use Rattle.player_core.proofs.PieceLaws.{all_same, due_same}
use Rattle.player_core.proofs.PieceLaws.{plays_on as part_on}
use Rattle.dsdarc_c.specs.Playing.{HasPlayed}

-- ---- players of the same part
abbrev Bytes : Type 0
Bytes = List ℕ

pub then_same : (p r n : PartPlayer) → IsSamePart p r → IsSamePart r n → IsSamePart p n
then_same p r n e f = record { filter = f.filter ∙ e.filter; rest = f.rest ∙ e.rest; start = f.start ∙ e.start; skip = f.skip ∙ e.skip; stop = f.stop ∙ e.stop }

-- ---- the player that goes on is the one that paused
pub record Resumed (d : Decimator) (q : PausedPart) (r : PartPlayer) : Type 0 where
  pub filter : part_filter r ≡ d
  pub same : (p : PartPlayer) → IsPausedPart p q → IsSamePlace p r
  pub ready : (p : PartPlayer) → IsPausedPart p q → part_filter p ≡ d → IsPartPlayer p → IsPartPlayer r
  pub fed : (p : PartPlayer) (bytes : Bytes) → IsPausedPart p q → part_filter p ≡ d → IsPartFed p bytes → IsPartFed r bytes

module _ (d : Decimator) (s : Sound) (start : ℕ) (before given : Bytes) (p : PartPlayer) (q : PausedPart) (r : PartPlayer) (is : Resumed d q r) (h : HasPlayed d s start before given p q) where
  pub ready_on : IsPartPlayer r
  ready_on = is.ready p h.paused h.part.filter_is h.ready

  pub fed_on : IsPartFed r before
  fed_on = is.fed p before h.paused h.part.filter_is h.fed

  pub same_on : IsSamePart p r
  same_on = let e = is.same p h.paused in record { filter = is.filter ∙ sym h.part.filter_is; rest = e.rest; start = e.start; skip = e.skip; stop = e.stop }

  pub few_on : (n left : ℕ) → n ≤ left → length before + left ≡ (part_rest p).size → part_fed r + n ≤ (part_rest r).size
  few_on n left few all = omega (arith, few, all, fed_on.fed.fed, ap (λ (t : Sound). t.size) same_on.rest)

  module _ (new : PartPlayer) (same : IsSamePart r new) (bytes more : Bytes) (gives : (before : Bytes) → IsPartFed r before → IsPartFed new (before ++ bytes) × (part_due r (before ++ bytes) ≡ part_due r before ++ more)) where
    pub all_on : IsSamePart p new
    all_on = then_same p r new same_on same

    pub due_on : part_due new (before ++ bytes) ≡ given ++ more
    due_on = due_same r new same (before ++ bytes) ∙ (gives before fed_on).1 ∙ ap (λ xs. xs ++ more) (due_same p r same_on before ∙ h.due)

    pub plays_on : (t : PausedPart) → IsPausedPart new t → IsPartPlayer new → HasPlayed d s start (before ++ bytes) (given ++ more) new t
    plays_on t paused ready = record { paused = paused; part = part_on d s start (total_frames d s) p new all_on h.part; ready = ready; fed = (gives before fed_on).0; due = due_on }

    pub ends_on : (rest : Bytes) → ((bs : Bytes) → IsPartFed new bs → part_all new bs ≡ part_due new bs ++ rest) → given ++ (more ++ rest) ≡ part_all p (before ++ bytes)
    ends_on rest all = sym (sym (all_same p new all_on (before ++ bytes)) ∙ all (before ++ bytes) (gives before fed_on).0 ∙ ap (λ xs. xs ++ rest) due_on ∙ append_assoc given more rest)
