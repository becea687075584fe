-- A certificate read entry by entry.
use Rattle.std.proofs.Common.{◌≡◌, ℕ, ◌+◌, ◌<◌, Bool, List, [], ◌∷◌, ◌++◌, IfSome, Ok, Option, None, Some, length, get_or, map, take, drop, append_assoc, refl, sym, ap, subst, ◌∙◌, arith}
use Rattle.std.specs.List.{All}
use Rattle.std.specs.Io.KnownBytes.{Consumes, IsAtEnd}
use Rattle.std.proofs.lemmas.List.{append-nil, ext_get_or, get_or-map, length-map, take-append-drop, take_more}
use Rattle.cost_core.specs.Bridges.{Bridging, IsLeastBridge}
use Rattle.cost_core.specs.StateCosts.{trellis_of}
use Rattle.cert_core.specs.declared.verdict.CertReason.{CertReason}
use Rattle.cert_core.specs.declared.verdict.CertVerdict.{CertVerdict}
use Rattle.cert_core.specs.declared.verdict.CertVerdict.TheVariants as judged
use Rattle.cert_core.specs.Certificates.{AreEntries, Claim}
use Rattle.cert_core.specs.Composing.{CertHasHead, CertIsRead, NextIsRead, NothingFollows, ReadIsCert, ReadMore}
use Rattle.cert_core.specs.Entries.{BeginsValid, ReadsEntry}
use Rattle.cert_core.specs.Readers.{IfAccepted, IfReason, IfRejected, InHead, IsWell}
use Rattle.cert_core.specs.Reasons.{FirstReason, HeadReason}
use Rattle.cert_core.specs.Stops.{InEntry}
use Rattle.cert_core.specs.Text.{cert_head}
use Rattle.cert_core.specs.declared.version.Version.{Version}
use Rattle.cut_core.specs.declared.bridges.BridgePlace.{BridgePlace}
use Rattle.cut_core.specs.Bridges.{IsPlace, bridges}
use Rattle.cut_core.specs.Cuts.{CutContent}
use Rattle.request_core.specs.declared.reason.Reason.{Reason}
use Rattle.request_core.specs.declared.reason.Reason.TheVariants.{MasterUnread, MasterShape, MasterLength, MasterMarks, CuedBit, CertHead, Cert, CertExtra}
use Rattle.judge_core.specs.declared.verdict.Verdict.{Verdict}
use Rattle.judge_core.specs.declared.verdict.Verdict.TheVariants.{Rejected}
use Rattle.judge_core.specs.Checking.{CertReasons}
use Rattle.judge_core.specs.Judging.{IsWrongFrom, JudgesCert, JudgesClaim, JudgesClaims, JudgesHead, LacksClaim, ReadsEntries, ShowsBridges, ShowsClaims}
use Rattle.cut_core.specs.Claims.{IsCertOf, claim_at, claim_cost, claim_of, claims}
use Rattle.judge_core.specs.Kept.{AreBitsOf, claim_from}

-- what was read, and then more
consumes_more : (a b d : Option (List ℕ)) (xs ys : List ℕ) → Consumes a b xs → Consumes b d ys → Consumes a d (xs ++ ys)
consumes_more None b d xs ys h k = tt
consumes_more (Some as1) None d xs ys h k = absurd h
consumes_more (Some as1) (Some bs) None xs ys h k = absurd k
consumes_more (Some as1) (Some bs) (Some ds) xs ys h k = h ∙ ap (λ (l : List ℕ). xs ++ l) k ∙ sym (append_assoc xs ys ds)

-- a fact of what is left is one of all
before : (P Q : List ℕ → Type 0) (a b : Option (List ℕ)) (bs : List ℕ) → Consumes a b bs → ((rest : List ℕ) → P rest → Q (bs ++ rest)) → IfSome b P → IfSome a Q
before P Q None b bs c f p = tt
before P Q (Some xs) None bs c f p = absurd c
before P Q (Some xs) (Some ys) bs c f p = subst Q (sym c) (f ys p)

both : (P Q : List ℕ → Type 0) (a : Option (List ℕ)) → IfSome a P → IfSome a Q → IfSome a (λ xs. P xs × Q xs)
both P Q None p q = tt
both P Q (Some xs) p q = (p, q)

if_some : (P Q : List ℕ → Type 0) (a : Option (List ℕ)) → ((bytes : List ℕ) → P bytes → Q bytes) → IfSome a P → IfSome a Q
if_some P Q None f p = tt
if_some P Q (Some xs) f p = f xs p

-- ---- entries
reads_more : ReadMore → (v : Version) (cs : List Claim) (claim : Claim) (a b d : Option (List ℕ)) → ReadsEntries v cs a b → ReadsEntry v (trellis_of claim.bridging) claim.cue claim.channel claim.bits b d → ReadsEntries v (cs ++ claim ∷ []) a d
reads_more law v cs claim a b d (entries, consumed, are) (entry, next, is) = (entries ++ entry, consumes_more a b d entries entry consumed next, law v cs claim entries entry are is)

-- the claim of a place, and those round it
parted : (cs : List Claim) (k : ℕ) (claim : Claim) → k < length cs → get_or cs k claim ≡ claim → cs ≡ take k cs ++ claim ∷ drop (k + 1) cs
parted cs k claim lt is =
    let more : take (k + 1) cs ≡ take k cs ++ claim ∷ [] = take_more cs k claim lt ∙ ap (λ (x : Claim). take k cs ++ x ∷ []) is in
    sym (take-append-drop (k + 1) cs) ∙ ap (λ (l : List Claim). l ++ drop (k + 1) cs) more ∙ append_assoc (take k cs) (claim ∷ []) (drop (k + 1) cs)

module _ (v : Version) (cs : List Claim) (k : ℕ) (claim : Claim) (lt : k < length cs) (is : get_or cs k claim ≡ claim) (a b : Option (List ℕ)) (read : ReadsEntries v (take k cs) a b) where
  pub shown_more : ReadMore → (d : Option (List ℕ)) → ReadsEntry v (trellis_of claim.bridging) claim.cue claim.channel claim.bits b d → ReadsEntries v (take (k + 1) cs) a d
  shown_more law d entry = rw (take_more cs k claim lt, is) (reads_more law v (take k cs) claim a b d read entry)

  pub lacks_one : NextIsRead → (reason : CertReason) → LacksClaim v claim b reason → IfSome a (λ bytes. IsWrongFrom v cs k reason bytes × (AreEntries v cs bytes → ⊥))
  lacks_one law reason lacks =
      let Wrong : List ℕ → Type 0 = λ rest. FirstReason v (trellis_of claim.bridging) claim.cue claim.channel (claim_cost claim) rest reason in
      let None1 : List ℕ → Type 0 = λ rest. BeginsValid v (trellis_of claim.bridging) claim.cue claim.channel claim.bits rest → ⊥ in
      before (λ rest. Wrong rest × None1 rest) (λ bytes. IsWrongFrom v cs k reason bytes × (AreEntries v cs bytes → ⊥)) a b read.0 read.1 step (both Wrong None1 b lacks.first lacks.none)
    where
      step : (rest : List ℕ) → FirstReason v (trellis_of claim.bridging) claim.cue claim.channel (claim_cost claim) rest reason × (BeginsValid v (trellis_of claim.bridging) claim.cue claim.channel claim.bits rest → ⊥)
          → IsWrongFrom v cs k reason (read.0 ++ rest) × (AreEntries v cs (read.0 ++ rest) → ⊥)
      step rest (wrong, never) = (
        record { claim = claim; there = lt; claim_is = is; entries = read.0; after = rest; text = refl; shown = read.2; wrong = wrong },
        λ all. never (law v (take k cs) claim (drop (k + 1) cs) read.0 rest read.2 (subst (λ (l : List Claim). AreEntries v l (read.0 ++ rest)) (parted cs k claim lt is) all)),
      )

-- ---- what one call answers
pub head_judged : (v : Version) (weights number : ℕ) (a b : Option (List ℕ)) (answer : Option CertReason) → (IsWell (Ok answer) → Consumes a b (cert_head v weights number)) → IfReason (Ok answer) (InHead weights number a)
    → IfReason (Ok answer) (λ _. IfSome a (λ bytes. (other : Version) → (rest : List ℕ) → bytes ≡ cert_head other weights number ++ rest → ⊥)) → JudgesHead v weights number a b answer
head_judged v weights number a b None well reason only = well refl
head_judged v weights number a b (Some r) well reason only = (reason, only)

pub claim_judged : (v : Version) (claim : Claim) (a b : Option (List ℕ)) (verdict : CertVerdict)
    → IfAccepted (Ok verdict) (λ _. ReadsEntry v (trellis_of claim.bridging) claim.cue claim.channel claim.bits a b)
    → IfAccepted (Ok verdict) (λ found. found ≡ claim_cost claim)
    → IfAccepted (Ok verdict) (λ _. IsLeastBridge claim.bridging claim.bits)
    → IfRejected (Ok verdict) (InEntry v (trellis_of claim.bridging) claim.cue claim.channel (claim_cost claim) a)
    → IfRejected (Ok verdict) (λ _. IfSome a (λ bytes. BeginsValid v (trellis_of claim.bridging) claim.cue claim.channel claim.bits bytes → ⊥))
    → JudgesClaim v claim a b verdict
claim_judged v claim a b (judged.Accepted found) entry costs least reason only = record { entry = entry; cost_is = costs; least = least }
claim_judged v claim a b (judged.Rejected r) entry costs least reason only = record { first = reason; none = only }

-- the same claim
abbrev pub record_of : ℕ → ℕ → Bridging → List Bool → Claim
record_of cue channel d x = record { cue = cue; channel = channel; bridging = d; bits = x }

pub claim_is : (cue channel : ℕ) (d e : Bridging) (x y : List Bool) → d ≡ e → x ≡ y → record_of cue channel d x ≡ record_of cue channel e y
claim_is cue channel d e x y p q = ap (λ (f : Bridging). record_of cue channel f x) p ∙ ap (λ (z : List Bool). record_of cue channel e z) q

map_alike : {X Y : Type 0} (f g : X → Y) (xs : List X) (d : X) → ((k : ℕ) → k < length xs → f (get_or xs k d) ≡ g (get_or xs k d)) → map f xs ≡ map g xs
map_alike f g xs d same = ext_get_or (f d) (map f xs) (map g xs) (length-map xs f ∙ sym (length-map xs g)) (λ k lt.
    let inside : k < length xs = omega (arith, lt, length-map xs f) in
    get_or-map f xs k d (f d) inside ∙ same k inside ∙ sym (get_or-map g xs k d (f d) inside))

-- what is to be shown of kept bits is what is to be shown of the channels that have them
pub same_claims : (cut : CutContent) (held_bits : List (List (List Bool))) (zs : List (List Bool)) (places : List BridgePlace) → places ≡ bridges cut → All (IsPlace cut) places → AreBitsOf cut held_bits zs → map (claim_from cut held_bits) places ≡ claims cut zs
same_claims cut held_bits zs places are each bits =
    let d : BridgePlace = record { cue = 0; channel = 0 } in
    map_alike (claim_from cut held_bits) (claim_at cut zs) places d (λ k lt. ap (claim_of cut (get_or places k d)) (bits (get_or places k d) (each k d lt))) ∙ ap (map (claim_at cut zs)) are

-- ---- the whole certificate
module _ (cut : CutContent) (zs : List (List Bool)) where
  abbrev head : Version → List ℕ
  head v = cert_head v (length cut.splice.weights) (length (claims cut zs))

  abbrev Stands : Reason → List ℕ → Type 0
  Stands reason cert = CertReasons cut zs cert reason × (IsCertOf cut zs cert → ⊥)

  -- the claims of these places are those of the master
  module _ (f : BridgePlace → Claim) (places : List BridgePlace) (are : map f places ≡ claims cut zs) where
    pub head_at : (v : Version) (a b : Option (List ℕ)) (answer found : Option CertReason) → answer ≡ found → JudgesHead v (length cut.splice.weights) (length places) a b answer → JudgesHead v (length cut.splice.weights) (length (claims cut zs)) a b found
    head_at v a b answer found is judged =
        let as_many : length places ≡ length (claims cut zs) = sym (length-map places f) ∙ ap length are in
        subst (λ n. JudgesHead v (length cut.splice.weights) n a b found) as_many (subst (λ x. JudgesHead v (length cut.splice.weights) (length places) a b x) is judged)

    pub claims_at : (v : Version) (b d : Option (List ℕ)) (answer found : Verdict) → answer ≡ found → JudgesClaims v (map f places) b d answer → JudgesClaims v (claims cut zs) b d found
    claims_at v b d answer found is judged = subst (λ x. JudgesClaims v (claims cut zs) b d x) is (subst (λ (cs : List Claim). JudgesClaims v cs b d answer) are judged)

  -- where there is no such head, there is no certificate
  pub head_rejected : CertHasHead → (v : Version) (a b : Option (List ℕ)) (reason : CertReason) → JudgesHead v (length cut.splice.weights) (length (claims cut zs)) a b (Some reason) → JudgesCert cut zs a (Rejected (CertHead reason))
  head_rejected law v a b reason (first, never) =
      both (λ cert. HeadReason (length cut.splice.weights) (length (claims cut zs)) cert reason) (λ cert. IsCertOf cut zs cert → ⊥) a first
      (if_some (λ bytes. (other : Version) → (rest : List ℕ) → bytes ≡ head other ++ rest → ⊥) (λ cert. IsCertOf cut zs cert → ⊥) a (λ cert none is. let made = law (length cut.splice.weights) (claims cut zs) cert is in none made.0 made.1 made.2) never)

  -- what follows the head of a certificate
  follows : CertIsRead → (v : Version) (rest : List ℕ) → IsCertOf cut zs (head v ++ rest) → AreEntries v (claims cut zs) rest
  follows law v rest is = law v (length cut.splice.weights) (claims cut zs) rest is

  module _ (v : Version) (a b : Option (List ℕ)) (read : Consumes a b (cert_head v (length cut.splice.weights) (length (claims cut zs)))) where
    entry_rejected : CertIsRead → (k : ℕ) (reason : CertReason) → IfSome b (λ rest. IsWrongFrom v (claims cut zs) k reason rest × (AreEntries v (claims cut zs) rest → ⊥)) → JudgesCert cut zs a (Rejected (Cert k reason))
    entry_rejected law k reason wrong = before (λ rest. IsWrongFrom v (claims cut zs) k reason rest × (AreEntries v (claims cut zs) rest → ⊥)) (Stands (Cert k reason)) a b (head v) read step wrong
      where
        step : (rest : List ℕ) → IsWrongFrom v (claims cut zs) k reason rest × (AreEntries v (claims cut zs) rest → ⊥) → Stands (Cert k reason) (head v ++ rest)
        step rest (w, never) = (
          record {
            claim = w.claim;
            there = w.there;
            claim_is = w.claim_is;
            after = w.after;
            goes_on = record { version = v; entries = w.entries; text = ap (λ (l : List ℕ). head v ++ l) w.text; shown = w.shown };
            wrong = w.wrong;
          },
          λ is. never (follows law v rest is),
        )

    pub entries_rejected : CertIsRead → (d : Option (List ℕ)) (reason : Reason) → JudgesClaims v (claims cut zs) b d (Rejected reason) → JudgesCert cut zs a (Rejected reason)
    entries_rejected law d (MasterUnread fault) w = absurd w
    entries_rejected law d (MasterShape found wanted) w = absurd w
    entries_rejected law d (MasterLength found wanted) w = absurd w
    entries_rejected law d MasterMarks w = absurd w
    entries_rejected law d (CuedBit c place) w = absurd w
    entries_rejected law d (CertHead reason) w = absurd w
    entries_rejected law d (Cert k reason) w = entry_rejected law k reason w
    entries_rejected law d CertExtra w = absurd w

    module _ (d : Option (List ℕ)) (cost : ℕ) (shows : ShowsClaims v (claims cut zs) b d cost) where
      pub more_rejected : CertIsRead → NothingFollows → IfSome d (λ bytes. 0 < length bytes) → JudgesCert cut zs a (Rejected CertExtra)
      more_rejected law nothing some = before Goes (Stands CertExtra) a b (head v) read whole (before (λ rest. 0 < length rest) Goes b d shows.entries.0 shows.entries.1 (λ rest more. (rest, refl, more)) some)
        where
          Goes : List ℕ → Type 0
          Goes bytes = (rest : List ℕ) × (bytes ≡ shows.entries.0 ++ rest) × (0 < length rest)

          whole : (bytes : List ℕ) → Goes bytes → Stands CertExtra (head v ++ bytes)
          whole bytes (rest, is, more) = (
            record { after = rest; some = more; goes_on = record { version = v; entries = shows.entries.0; text = ap (λ (l : List ℕ). head v ++ l) is; shown = shows.entries.2 } },
            λ cert.
                let none : rest ≡ [] = nothing v (claims cut zs) shows.entries.0 rest shows.entries.2 (subst (λ (l : List ℕ). AreEntries v (claims cut zs) l) is (follows law v bytes cert)) in
                absurd (omega (arith, more, ap length none)),
          )

      pub all_accepted : ReadIsCert → IsAtEnd d → ShowsBridges cut zs a cost
      all_accepted law end = record {
        shown = before (λ rest. AreEntries v (claims cut zs) rest) (IsCertOf cut zs) a b (head v) read (λ rest are. law v (length cut.splice.weights) (claims cut zs) rest are) (ended b d shows.entries.1 end);
        cost_is = shows.cost_is;
        least = shows.least;
      }
        where
          ended : (b d : Option (List ℕ)) → Consumes b d shows.entries.0 → IsAtEnd d → IfSome b (λ rest. AreEntries v (claims cut zs) rest)
          ended None d c e = tt
          ended (Some xs) None c e = absurd c
          ended (Some xs) (Some ys) c e = subst (λ (l : List ℕ). AreEntries v (claims cut zs) l) (sym (c ∙ ap (λ (l : List ℕ). shows.entries.0 ++ l) e ∙ append-nil shows.entries.0)) shows.entries.2
