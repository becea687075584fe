-- Laws: how the parts of a certificate make the whole.
use Rattle.std.specs.Prelude.{◌≡◌, ℕ, ◌^◌, ◌<◌, ◌≤◌, Bool, List, [], ◌∷◌, ◌++◌, length, flat_map, Option}
use Rattle.std.specs.Int.{w64, to_be_bytes}
use Rattle.std.specs.Io.KnownBytes.{Appends}
use Rattle.cost_core.specs.Bridges.{Bridging, IsLeastBridge}
use Rattle.cost_core.specs.Limits.{IsBridging}
use Rattle.cost_core.specs.StateCosts.{trellis_of}
use Rattle.cert_core.specs.declared.verdict.CertReason.{CertReason}
use Rattle.cert_core.specs.Certificates.{Claim, Shows, IsCert, IsEntryOf, AreEntries}
use Rattle.cert_core.specs.Entries.{IsEntry, BeginsValid}
use Rattle.cert_core.specs.Reasons.{FirstReason}
use Rattle.cert_core.specs.Spelling.{byte_width, row_text}
use Rattle.cert_core.specs.Text.{Entry, entry_start, cert_entry, cert_head, cert_text}
use Rattle.cert_core.specs.declared.version.Version.{Version}

-- the start, the rows and the cost, written one after the other, are the entry
abbrev pub PartsAreEntry : Type 0
PartsAreEntry =
    (v : Version) (a b c d : Option (List ℕ)) (e : Entry) → Appends a b (entry_start e.cue e.channel e.levels) → Appends b c (flat_map (row_text v) e.rows) → Appends c d (to_be_bytes w64 e.cost) → Appends a d (cert_entry v e)

-- entries and one more are all of them
abbrev pub EntriesJoin : Type 0
EntriesJoin = (v : Version) (a b c : Option (List ℕ)) (entries : List Entry) (e : Entry) → Appends a b (flat_map (cert_entry v) entries) → Appends b c (cert_entry v e) → Appends a c (flat_map (cert_entry v) (entries ++ e ∷ []))

-- the head and then all entries are the certificate
abbrev pub HeadAndEntries : Type 0
HeadAndEntries =
    (v : Version) (a b c : Option (List ℕ)) (weights : ℕ) (entries : List Entry) → Appends a b (cert_head v weights (length entries)) → Appends b c (flat_map (cert_entry v) entries) → Appends a c (cert_text v weights entries)

-- an entry that shows a claim is read as such, whatever follows
abbrev pub ShownIsRead : Type 0
ShownIsRead = (v : Version) (claim : Claim) (e : Entry) (rest : List ℕ) → Shows claim e → BeginsValid v (trellis_of claim.bridging) claim.cue claim.channel claim.bits (cert_entry v e ++ rest)

-- what was read entry by entry is a certificate
abbrev pub ReadIsCert : Type 0
ReadIsCert = (v : Version) (weights : ℕ) (claims : List Claim) (rest : List ℕ) → AreEntries v claims rest → IsCert weights claims (cert_head v weights (length claims) ++ rest)

-- a certificate begins with a head that names its version
abbrev pub CertHasHead : Type 0
CertHasHead = (weights : ℕ) (claims : List Claim) (bytes : List ℕ) → IsCert weights claims bytes → (v : Version) × (rest : List ℕ) × (bytes ≡ cert_head v weights (length claims) ++ rest)

-- after a head come, in its version, an entry for each claim and nothing else
abbrev pub CertIsRead : Type 0
CertIsRead = (v : Version) (weights : ℕ) (claims : List Claim) (rest : List ℕ) → IsCert weights claims (cert_head v weights (length claims) ++ rest) → AreEntries v claims rest

-- one entry more
abbrev pub ReadMore : Type 0
ReadMore = (v : Version) (claims : List Claim) (claim : Claim) (bytes entry : List ℕ) → AreEntries v claims bytes → IsEntryOf v claim entry → AreEntries v (claims ++ claim ∷ []) (bytes ++ entry)

-- after the entries of the first claims comes a valid entry of the next one
abbrev pub NextIsRead : Type 0
NextIsRead =
    (v : Version) (claims : List Claim) (claim : Claim) (more : List Claim) (prefix after : List ℕ) → AreEntries v claims prefix → AreEntries v (claims ++ claim ∷ more) (prefix ++ after)
    → BeginsValid v (trellis_of claim.bridging) claim.cue claim.channel claim.bits after

-- after the entries of all claims comes nothing
abbrev pub NothingFollows : Type 0
NothingFollows = (v : Version) (claims : List Claim) (prefix after : List ℕ) → AreEntries v claims prefix → AreEntries v claims (prefix ++ after) → after ≡ []

-- bits that an entry shows to be least are least
abbrev pub ShownIsLeast : Type 0
ShownIsLeast = (v : Version) (d : Bridging) (cue channel : ℕ) (x : List Bool) (bytes : List ℕ) → IsBridging d → length x ≡ d.levels → IsEntry v (trellis_of d) cue channel x bytes → IsLeastBridge d x

-- bytes have at most one first reason
abbrev pub OneReason : Type 0
OneReason = (v : Version) (d : Bridging) (cue channel found : ℕ) (bytes : List ℕ) (a b : CertReason) → IsBridging d → cue < 2 ^ 16 → channel < 2 ^ 16
    → FirstReason v (trellis_of d) cue channel found bytes a → FirstReason v (trellis_of d) cue channel found bytes b → a ≡ b

-- a number of eight bytes fits in as many bytes as its width says, and in no fewer
abbrev pub ByteWidthIsLeast : Type 0
ByteWidthIsLeast = (v : ℕ) → v < 256 ^ 8 → (v < 256 ^ byte_width v) × ((w : ℕ) → v < 256 ^ w → byte_width v ≤ w)
