-- What an `Audible` means.
use Rattle.std.specs.Prelude.{ℤ, List, reverse}
use Rattle.heard_core.specs.declared.residuals.Audible.TheInside.{Inside}

-- the taps of the low-pass
abbrev pub taps_of : Inside → List ℤ
taps_of a = reverse a.reversed.items
