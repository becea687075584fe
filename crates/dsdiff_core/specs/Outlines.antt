-- What the bytes around a sound say about a file, besides its bits.
use Rattle.std.specs.Prelude.{◌≡◌, ℕ, List, [], ◌++◌, length, replicate, Option, Some, None}
use Rattle.dsd_bits.specs.declared.sound.Sound.{Sound}
use Rattle.dsd_bits.specs.Contents.{Content}
use Rattle.dsd_bits.specs.Lacing.{unlaced_all}
use Rattle.dsdiff_core.specs.Files.{IsDsdiff}
use Rattle.dsdiff_core.specs.Headers.{IsAccepted}

-- what prefix and back say about a file, besides its bits: it is not accepted, whatever its sound; or the recording of
-- each such file, with empty channels in place of its own
abbrev pub StatesOutline : List ℕ → Sound → List ℕ → Option Content → Type 0
StatesOutline prefix s back None = (sound : List ℕ) → length sound ≡ s.size → IsAccepted (prefix ++ (sound ++ back)) → ⊥
StatesOutline prefix s back (Some o) =
    (o.channels ≡ replicate s.channels [])
    × ((sound : List ℕ) → length sound ≡ s.size → IsDsdiff (prefix ++ (sound ++ back)) (record o { channels = unlaced_all sound s.channels }))
