-- What a player whose file is pushed keeps to.
use Rattle.std.proofs.Common.{◌≡◌, ℕ, ◌+◌, ◌-◌, ◌≤◌, List, length, Option, None, Some, IfSome, ap, arith, length-append, subst, sym}
use Rattle.dsd_bits.specs.declared.sound.Sound.{Sound}
use Rattle.fir_core.specs.Decimator.{Decimator}
use Rattle.player_core.specs.PartView.{part_rest}
use Rattle.player_core.specs.declared.parts.PartPlayer.{PartPlayer}
use Rattle.player_core.specs.declared.pausing.PausedPart.{PausedPart}
use Rattle.dsdarc_c.specs.Playing.{PlaysOn}
use Rattle.dsdarc_c.specs.Pushing.{IsPausedOrDone, IsPushedHeader}

-- the sound that is kept is one that the header states
pub header_kept : (kept : Option Sound) (s : Sound) (header : List ℕ) → kept ≡ Some s → IsPushedHeader header s → IfSome kept (IsPushedHeader header)
header_kept kept s header is states = subst (λ o. IfSome o (IsPushedHeader header)) (sym is) states

-- none is kept
pub none_kept : (kept : Option Sound) (header : List ℕ) → kept ≡ None → IfSome kept (IsPushedHeader header)
none_kept kept header is = subst (λ o. IfSome o (IsPushedHeader header)) (sym is) tt

-- after these bytes n fewer are left
pub played_on : (d : Decimator) (s : Sound) (start : ℕ) (before bytes given old new : List ℕ) (p : PartPlayer) (o : Option PausedPart) (left : ℕ)
    → PlaysOn d s start before bytes given old new p o → length before + left ≡ (part_rest p).size → length bytes ≤ left → IsPausedOrDone d s o (left - length bytes)
played_on d s start before bytes given old new p None left on all few = omega (arith, on.2, all, few, length-append before bytes)
played_on d s start before bytes given old new p (Some q) left on all few = (
  record {
    start = start;
    before = _;
    given = _;
    player = on.3.0;
    played = on.3.3;
    long = omega (arith, all, few, length-append before bytes, ap (λ (t : Sound). t.size) on.3.1);
  },
  omega (arith, on.2, all, few, length-append before bytes),
)
