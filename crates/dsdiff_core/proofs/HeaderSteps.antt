-- The steps by which the prefix of a file leads to the head of its sound.
use Rattle.std.proofs.Common.{◌≡◌, ℕ, ◌≤◌, ◌<◌, List, length, None, Ok, refl}
use Rattle.std.proofs.lemmas.Bool.{lt-ltb, le-ltb}
use Rattle.chunk_core.specs.Steps.{◌>>=◌}
use Rattle.dsdiff_core.specs.Headers.{form_of, seek, sound_head_place}

pub short_prefix : (prefix : List ℕ) → length prefix < 16 → sound_head_place prefix ≡ Ok None
unfolding sound_head_place
short_prefix prefix h = rw (lt-ltb (length prefix) 16 h) refl

pub long_prefix : (prefix : List ℕ) → 16 ≤ length prefix → sound_head_place prefix ≡ (form_of prefix >>= λ form. seek prefix)
unfolding sound_head_place
long_prefix prefix h = rw (le-ltb (length prefix) 16 h) refl
