-- What the files of a master come to that were handed back or given up.
use Rattle.std.proofs.Common.{◌≡◌, ℕ, inl, inr, ◌⊎◌, List, [], ◌++◌, true, false, IsTrue, Option, None, Some, Result, Ok, Err, ap, subst, ◌∙◌}
use Rattle.std.specs.Prelude.{IsOk, OnErr, OnOk, is_ok}
use Rattle.std.specs.Io.KnownBytes.{Appends}
use Rattle.chunk_core.specs.Outlets.{AppendsPart}
use Rattle.folder_core.specs.Files.{HoldsPrefix, IsEnded, IsGivenUp, IsPut, IsPutInPart, KeepsOthers, View}
use Rattle.archive_core.specs.Planning.{CertifiesPlanned, IsSamePlan}
use Rattle.archive_core.specs.declared.planning.PlannedMaster.{PlannedMaster}
use Rattle.master_core.specs.Certifying.{AppendsCert, AppendsCertPrefix}
use Rattle.command_core.specs.Writing.{CertifiesPrefix, CertifiesWhole}

-- what was appended to no bytes is all of them
grown : (a b : Option (List ℕ)) (bytes : List ℕ) → a ≡ Some [] → Appends a b bytes → b ≡ Some bytes
grown None b bytes e h = absurd cc
grown (Some xs) None bytes e h = absurd h
grown (Some xs) (Some ys) bytes e h = let none : xs ≡ [] = cc in ap Some (h ∙ ap (λ l. l ++ bytes) none)

-- nothing changed, and no other file
pub unchanged : (name : List ℕ) (old new : View) → new ≡ old → KeepsOthers name old new
unchanged name old new same = record {
  others = λ other differs. ap (λ (v : View). v.file other) same;
  same_known = ap (λ (v : View). v.is_known) same;
  same_keeping = ap (λ (v : View). v.keeps_old) same;
}

-- what holds of an answer, if it was one, and of a refusal
of_ok : {T F : Type 0} {P : Type 0} (came : Result T F) → is_ok came ≡ true → OnOk came P → P
of_ok (Ok x) is h = h
of_ok (Err f) is h = absurd cc

of_err : {T F : Type 0} {P : Type 0} (came : Result T F) → is_ok came ≡ false → OnErr came P → P
of_err (Ok x) is h = absurd cc
of_err (Err f) is h = h

module _ (name : List ℕ) (old new : View) (others : KeepsOthers name old new) (a b made : Option (List ℕ)) (is : made ≡ b) (empty : IsTrue old.is_known → a ≡ Some []) where
  -- all of these bytes were put there
  put_all : (bytes : List ℕ) → Appends a b bytes → (IsTrue old.is_known → new.file name ≡ made) → IsPut new name bytes
  put_all bytes appended stands = λ reported.
      let h = subst IsTrue others.same_known reported in
      stands h ∙ is ∙ grown a b bytes (empty h) appended

  -- a prefix of them was, or nothing
  prefix_left : (bytes prefix back : List ℕ) → bytes ≡ prefix ++ back → Appends a b prefix → IsTrue old.is_known → IsGivenUp name old new made → (new.file name ≡ old.file name) ⊎ HoldsPrefix name old new bytes
  prefix_left bytes prefix back parts appended reported (inl same) = inl same
  prefix_left bytes prefix back parts appended reported (inr (stands, had_none)) = inr (record { prefix = prefix; rest = back; parts = parts; stands = stands ∙ is ∙ grown a b prefix (empty reported) appended; had_none = had_none })

  -- whether all was written
  module _ {T F : Type 0} (came : Result T F) where
    -- ---- the master
    module _ (file : List ℕ) where
      pub file_whole : {S E : Type 0} (r : Result S E) → OnOk came (Appends a b file) → OnOk r (IsOk came) → OnOk r (IsTrue old.is_known → new.file name ≡ made) → OnOk r (IsPut new name file)
      file_whole (Err e) written whole stands = tt
      file_whole (Ok x) written whole stands = put_all file (of_ok came whole written) stands

      pub file_prefix : {S E : Type 0} (r : Result S E) → OnErr came (AppendsPart a b file) → OnErr r (IsEnded name old new (is_ok came) made) → OnErr r (IsPutInPart name old new file)
      file_prefix (Ok x) written ended = tt
      file_prefix (Err e) written (inl same) = λ reported. inl same
      file_prefix (Err e) written (inr (part, up)) = λ reported.
          let w = of_err came part written in
          prefix_left file w.0 w.1 w.2 w.4 reported (up reported)

    -- ---- its certificate
    module _ (planned : PlannedMaster) where
      pub cert_whole : {S E : Type 0} (r : Result S E) → OnOk came (AppendsCert planned.cut planned.bridges a b) → OnOk r (IsOk came) → OnOk r (IsTrue old.is_known → new.file name ≡ made) → OnOk r (CertifiesWhole planned name new)
      cert_whole (Err e) written whole stands = tt
      cert_whole (Ok x) written whole stands = let w = of_ok came whole written in (w.0, w.1, put_all w.0 w.2 stands)

      pub cert_prefix : {S E : Type 0} (r : Result S E) → (cert : List ℕ) × CertifiesPlanned planned cert → OnErr came (AppendsCertPrefix planned.cut planned.bridges a b) → OnErr r (IsEnded name old new (is_ok came) made) → OnErr r (CertifiesPrefix planned name old new)
      cert_prefix (Ok x) some written ended = tt
      cert_prefix (Err e) some written (inl same) = (some.0, some.1, λ reported. inl same)
      cert_prefix (Err e) some written (inr (part, up)) =
          let w = of_err came part written in
          (w.0, w.1, λ reported. prefix_left w.0 w.2.0 w.2.1 w.2.2 w.2.3 reported (up reported))

-- it is that of the plan before the master was written
pub still_certifies : (old new : PlannedMaster) (cert : List ℕ) → IsSamePlan old new → CertifiesPlanned new cert → CertifiesPlanned old cert
still_certifies old new cert same certifies = subst (λ (p : PlannedMaster). CertifiesPlanned p cert) same certifies
