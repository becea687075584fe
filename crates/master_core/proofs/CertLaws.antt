-- The certificate of claims: its parts in turn and prefixes of them, and that it shows what is claimed.
use Rattle.std.proofs.Common.{◌≡◌, ℕ, suc, ◌+◌, ◌<◌, Bool, true, false, List, [], ◌∷◌, ◌++◌, Option, Err, length, get_or, map, flat_map, take, drop, append_assoc, take-append-drop, refl, sym, ap, subst, ◌∙◌, arith}
use Rattle.std.specs.Prelude.{◌↔◌, IsErrOf}
use Rattle.std.specs.Int.{w64, to_be_bytes}
use Rattle.std.specs.Io.KnownBytes.{Appends}
use Rattle.std.specs.List.{All}
use Rattle.std.proofs.KnownBytes.{Appends-trans}
use Rattle.std.proofs.lemmas.Grind.{flat_map-append}
use Rattle.std.proofs.lemmas.List.{append-nil, length-map, take_more}
use Rattle.std.proofs.lemmas.List.Folds.{flat_map-map}
use Rattle.cost_core.specs.Bridges.{Bridging, IsLeastBridge, bridge_cost}
use Rattle.cost_core.specs.Limits.{IsBridging}
use Rattle.cost_core.specs.StateCosts.{trellis_of}
use Rattle.trellis_core.specs.Handing.{HandsOverAll, HandsOverUpTo, capped_at, capped_spelling}
use Rattle.trellis_core.specs.LeastSums.{BestRows, least_rows}
use Rattle.trellis_core.proofs.CapLaws.{capped_rows_are_valid}
use Rattle.trellis_core.proofs.LeastRows.{best_are_least, least_are_best}
use Rattle.cert_core.specs.Certificates.{Claim, IsCert, Shows, ShowsAll}
use Rattle.cert_core.specs.Spelling.{row_text}
use Rattle.cert_core.specs.Text.{cert_entry, cert_head, entry_start}
use Rattle.cert_core.specs.declared.version.Version.TheVariants.{Two}
use Rattle.chunk_core.specs.Outlets.{AppendsPrefix, AppendsPart}
use Rattle.chunk_core.specs.declared.fused_outlet.FusedFault.{FusedFault}
use Rattle.chunk_core.specs.declared.fused_outlet.FusedFault.TheVariants.{Device, Failed}
use Rattle.master_core.specs.Certificates.{CertificatesShow, claim_entry, claims_text, entry_text}
use Rattle.master_core.specs.Certifying.{AppendsEntries, AppendsSomeEntries}

-- ---- prefixes
pub part_is_prefix : (a b : Option (List ℕ)) (xs : List ℕ) → AppendsPart a b xs → AppendsPrefix a b xs
part_is_prefix a b xs (prefix, back, is, some, grown) = (prefix, back, is, grown)

prefix_of_more : (a b : Option (List ℕ)) (xs ys : List ℕ) → AppendsPrefix a b xs → AppendsPrefix a b (xs ++ ys)
prefix_of_more a b xs ys (prefix, back, is, grown) = (prefix, back ++ ys, ap (λ l. l ++ ys) is ∙ append_assoc prefix back ys, grown)

prefix_after : (a b c : Option (List ℕ)) (xs ys : List ℕ) → Appends a b xs → AppendsPrefix b c ys → AppendsPrefix a c (xs ++ ys)
prefix_after a b c xs ys whole (prefix, back, is, grown) = (xs ++ prefix, back, ap (λ l. xs ++ l) is ∙ sym (append_assoc xs prefix back), Appends-trans a b c xs prefix whole grown)

-- what is known of a write that failed, where none had failed before
pub failed_write : {T P : Type 0} (fault : FusedFault) (before : Bool) → before ≡ false → (IsErrOf {T = T} (Err fault) Failed ↔ (before ≡ true)) → (IsErrOf {T = T} (Err fault) Device → P) → P
failed_write Device before fine failed found = found refl
failed_write Failed before fine failed found = let both : true ≡ false = sym (failed.0 refl) ∙ fine in absurd cc

-- ---- the entry of a bridge, whose rows are best sums, capped at its cost
module _ (d : Bridging) (cue channel : ℕ) (x : List Bool) (cost : ℕ) (is_cost : cost ≡ bridge_cost d x) where
  abbrev pub claimed : Claim
  claimed = record { cue = cue; channel = channel; bridging = d; bits = x }

  abbrev pub start : List ℕ
  start = entry_start cue channel d.levels

  abbrev pub stop : List ℕ
  stop = to_be_bytes w64 cost

  abbrev pub spell : List ℕ → List ℕ
  spell = capped_spelling cost (row_text Two)

  abbrev entry : List (List ℕ) → List ℕ
  entry rows = start ++ (flat_map spell rows ++ stop)

  -- there is one such table, and so one such entry
  entry_is : (rows : List (List ℕ)) → BestRows (trellis_of d) rows → entry rows ≡ entry_text claimed
  entry_is rows best =
      let table = best_are_least (trellis_of d) rows best in
      ap (λ l. start ++ (l ++ stop)) (sym (flat_map-map (row_text Two) (capped_at cost) rows))
      ∙ (λ j. entry_start cue channel d.levels ++ (flat_map (row_text Two) (map (capped_at (is_cost j)) (table j)) ++ to_be_bytes w64 (is_cost j)))

  abbrev table : List (List ℕ)
  table = least_rows (trellis_of d)

  pub entry_whole : (a b c e : Option (List ℕ)) → Appends a b start → HandsOverAll (trellis_of d) spell b c → Appends c e stop → Appends a e (entry_text claimed)
  entry_whole a b c e first (rows, best, handed) last = subst (Appends a e) (entry_is rows best) (Appends-trans a b e start (flat_map spell rows ++ stop) first (Appends-trans b c e (flat_map spell rows) stop handed last))

  pub cut_in_start : (a b : Option (List ℕ)) → AppendsPrefix a b start → AppendsPrefix a b (entry_text claimed)
  cut_in_start a b part = subst (AppendsPrefix a b) (entry_is table (least_are_best (trellis_of d))) (prefix_of_more a b start (flat_map spell table ++ stop) part)

  pub cut_in_rows : (a b c : Option (List ℕ)) → Appends a b start → HandsOverUpTo (trellis_of d) spell b c → AppendsPrefix a c (entry_text claimed)
  cut_in_rows a b c first (rows, row, more, best, (prefix, back, is, grown)) =
      let all : List (List ℕ) = rows ++ (row ∷ more) in
      let done = flat_map spell rows in
      let counted_from = flat_map spell more in
      let text : flat_map spell all ≡ (done ++ prefix) ++ (back ++ counted_from) =
      flat_map-append spell rows (row ∷ more) ∙ ap (λ l. done ++ (l ++ counted_from)) is ∙ ap (λ l. done ++ l) (append_assoc prefix back counted_from) ∙ sym (append_assoc done prefix (back ++ counted_from)) in
      subst (AppendsPrefix a c) (entry_is all best) (prefix_after a b c start (flat_map spell all ++ stop) first (prefix_of_more b c (flat_map spell all) stop (done ++ prefix, back ++ counted_from, text, grown)))

  pub cut_in_cost : (a b c e : Option (List ℕ)) → Appends a b start → HandsOverAll (trellis_of d) spell b c → AppendsPrefix c e stop → AppendsPrefix a e (entry_text claimed)
  cut_in_cost a b c e first (rows, best, handed) part =
      subst (AppendsPrefix a e) (entry_is rows best) (prefix_after a b e start (flat_map spell rows ++ stop) first (prefix_after b c e (flat_map spell rows) stop handed part))

-- ---- one claim more
module _ (cs : List Claim) (k : ℕ) (claim : Claim) (lt : k < length cs) (is : get_or cs k claim ≡ claim) where
  next : flat_map entry_text (take (k + 1) cs) ≡ flat_map entry_text (take k cs) ++ entry_text claim
  next =
      ap (flat_map entry_text) (take_more cs k claim lt ∙ ap (λ (c : Claim). take k cs ++ c ∷ []) is) ∙ flat_map-append entry_text (take k cs) (claim ∷ [])
      ∙ ap (λ l. flat_map entry_text (take k cs) ++ l) (append-nil (entry_text claim))

  pub entry_more : (a b c : Option (List ℕ)) → AppendsEntries (take k cs) a b → Appends b c (entry_text claim) → AppendsEntries (take (k + 1) cs) a c
  entry_more a b c before more = subst (Appends a c) (sym next) (Appends-trans a b c (flat_map entry_text (take k cs)) (entry_text claim) before more)

  pub cut_short : (a b c : Option (List ℕ)) → AppendsEntries (take k cs) a b → AppendsPrefix b c (entry_text claim) → AppendsSomeEntries cs a c
  cut_short a b c before part =
      let done = flat_map entry_text (take k cs) in
      let counted_from = flat_map entry_text (drop (k + 1) cs) in
      let all : (done ++ entry_text claim) ++ counted_from ≡ flat_map entry_text cs =
      ap (λ l. l ++ counted_from) (sym next) ∙ sym (flat_map-append entry_text (take (k + 1) cs) (drop (k + 1) cs)) ∙ ap (flat_map entry_text) (take-append-drop (k + 1) cs) in
      subst (AppendsPrefix a c) all (prefix_of_more a c (done ++ entry_text claim) counted_from (prefix_after a b c done (entry_text claim) before part))

-- ---- a head and the entries that it announces
module _ (weights n : ℕ) (cs : List Claim) (long : n ≡ length cs) where
  abbrev head : List ℕ
  head = cert_head Two weights n

  whole_is : head ++ flat_map entry_text cs ≡ claims_text weights cs
  whole_is = ap (λ m. cert_head Two weights m ++ flat_map entry_text cs) long

  pub cert_whole : (a b c : Option (List ℕ)) → Appends a b head → AppendsEntries cs b c → (cert : List ℕ) × (cert ≡ claims_text weights cs) × Appends a c cert
  cert_whole a b c first grown = (head ++ flat_map entry_text cs, whole_is, Appends-trans a b c head (flat_map entry_text cs) first grown)

  pub cert_cut : (a b c : Option (List ℕ)) → Appends a b head → AppendsSomeEntries cs b c → (cert : List ℕ) × (cert ≡ claims_text weights cs) × AppendsPrefix a c cert
  cert_cut a b c first part = (head ++ flat_map entry_text cs, whole_is, prefix_after a b c head (flat_map entry_text cs) first part)

  pub head_cut : (a b : Option (List ℕ)) → AppendsPrefix a b head → (cert : List ℕ) × (cert ≡ claims_text weights cs) × AppendsPrefix a b cert
  head_cut a b part = (head ++ flat_map entry_text cs, whole_is, prefix_of_more a b head (flat_map entry_text cs) part)

-- ---- claims that can be shown
abbrev pub IsShowable : Claim → Type 0
IsShowable claim = IsBridging claim.bridging × IsLeastBridge claim.bridging claim.bits

shows : (claim : Claim) → IsShowable claim → Shows claim (claim_entry claim)
shows claim is =
    let t = trellis_of claim.bridging in
    let valid = capped_rows_are_valid claim.bridging (least_rows t) claim.bits is.0 (least_are_best t) is.1 in
    record { cue = refl; channel = refl; levels = refl; table = valid.0; valid = valid.1 }

shows_all : (cs : List Claim) → All IsShowable cs → ShowsAll cs (map claim_entry cs)
shows_all [] each = tt
shows_all (claim ∷ cs) each =
    let one : IsShowable claim = each 0 claim (omega arith) in
    (shows claim one, shows_all cs (λ k e lt. each (suc k) e (omega arith)))

pub text_is_cert : (weights : ℕ) (cs : List Claim) → All IsShowable cs → IsCert weights cs (claims_text weights cs)
text_is_cert weights cs each =
    let many = length-map cs claim_entry in
    let texts = flat_map-map (cert_entry Two) claim_entry cs in
    (Two, map claim_entry cs, shows_all cs each, sym (λ j. cert_head Two weights (many j) ++ texts j))

pub certificates_show : CertificatesShow
certificates_show = λ weights cs within least. text_is_cert weights cs (λ k e lt. (within k e lt, least k e lt))
