-- The usual layout of n channels.
use Rattle.std.proofs.Common.{◌≡◌, ℕ, zero, suc, ◌≤◌, refl, arith}
use Rattle.dsd_bits.specs.Layouts.{layout_channels, usual_layout}

-- it has n channels
pub usual_layout_fits : (n : ℕ) → n ≤ 6 → layout_channels (usual_layout n) ≡ n
usual_layout_fits zero h = refl
usual_layout_fits (suc zero) h = refl
usual_layout_fits (suc (suc zero)) h = refl
usual_layout_fits (suc (suc (suc zero))) h = refl
usual_layout_fits (suc (suc (suc (suc zero)))) h = refl
usual_layout_fits (suc (suc (suc (suc (suc zero))))) h = refl
usual_layout_fits (suc (suc (suc (suc (suc (suc zero)))))) h = refl
usual_layout_fits (suc (suc (suc (suc (suc (suc (suc n))))))) h = absurd (omega arith)
