-- The text of a certificate, in bytes (`docs/CERTIFICATES.md`). Each number has its highest byte first.
use Rattle.std.specs.Prelude.{◌≡◌, ◌≢◌, ℕ, List, [], ◌∷◌, ◌++◌, length, flat_map, Option, MatchOption}
use Rattle.std.specs.Int.{w16, w32, w64, to_be_bytes}
use Rattle.cert_core.specs.declared.version.Version.{Version}
use Rattle.cert_core.specs.Spelling.{row_text, version_number}

-- an entry: the cue before the bridge, the channel, how many bits the bridge has, the rows of its table, that of level 0 first, and the cost of its bits
pub record Entry : Type 0 where
  pub cue : ℕ
  pub channel : ℕ
  pub levels : ℕ
  pub rows : List (List ℕ)
  pub cost : ℕ

-- the first six bytes of an entry: the cue, the channel, the bridge's length
abbrev pub entry_start : ℕ → ℕ → ℕ → List ℕ
entry_start cue channel levels = to_be_bytes w16 cue ++ (to_be_bytes w16 channel ++ to_be_bytes w16 levels)

-- an entry: its start, its rows, and the cost in eight bytes
abbrev pub cert_entry : Version → Entry → List ℕ
cert_entry v e = entry_start e.cue e.channel e.levels ++ (flat_map (row_text v) e.rows ++ to_be_bytes w64 e.cost)

-- the first twelve bytes: `DSPC`, the version, the number of weights, and that of the entries
abbrev pub cert_head : Version → ℕ → ℕ → List ℕ
cert_head v weights entries = (68 ∷ 83 ∷ 80 ∷ 67 ∷ []) ++ (to_be_bytes w16 (version_number v) ++ (to_be_bytes w16 weights ++ to_be_bytes w32 entries))

-- a certificate: the head, and then its entries
abbrev pub cert_text : Version → ℕ → List Entry → List ℕ
cert_text v weights entries = cert_head v weights (length entries) ++ flat_map (cert_entry v) entries

-- the version of the head that these bytes are, or none if they are that of no version
abbrev pub FindsVersion : ℕ → ℕ → List ℕ → Option Version → Type 0
FindsVersion weights entries bytes found = MatchOption found ((v : Version) → bytes ≢ cert_head v weights entries) (λ version. bytes ≡ cert_head version weights entries)
