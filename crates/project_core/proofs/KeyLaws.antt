-- That a table has no keys but some, by what a look-up finds.
use Rattle.std.proofs.Common.{◌≡◌, ℕ, List, true, Option, Some, Ordering, Less, Equal, Greater, nat_cmp, is_eq, refl, sym, ap, subst, ◌∙◌}
use Rattle.std.specs.Prelude.{IsSome, IsTrue}
use Rattle.std.specs.Cmp.Lexicographic.{slice_cmp}
use Rattle.std.specs.Ordering.{match_ordering}
use Rattle.std.proofs.lemmas.Bool.{and_parts}
use Rattle.std.proofs.lemmas.Cmp.{nat_list_cmp_total, tied_itself}
use Rattle.std.proofs.lemmas.Map.Text.{is_eq-slice_cmp}
use Rattle.std.proofs.lemmas.Slice.Eq.{bytes_eq-Decides}
use Rattle.toml.specs.Data.{Data, Members, no_members, member, get_member}
use Rattle.project_core.specs.declared.key.Key.{Key}
use Rattle.project_core.specs.Tables.{is_among, has_only, FindsOnly}

same_bytes : (k l : List ℕ) → slice_cmp nat_cmp k l ≡ Equal → k ≡ l
same_bytes k l e = (bytes_eq-Decides k l).0 (sym (is_eq-slice_cmp k l) ∙ ap is_eq e)

found_later : (o : Ordering) (d : Data) (rest : Option Data) → IsSome rest → IsSome (match_ordering o rest (Some d) rest)
found_later Less d rest h = h
found_later Equal d rest h = refl
found_later Greater d rest h = h

at_one : (keys : List Key) (k l : List ℕ) (d : Data) (rest : Option Data) (o : Ordering) → slice_cmp nat_cmp k l ≡ o → IsTrue (is_among keys l) → (IsSome rest → IsTrue (is_among keys k)) → IsSome (match_ordering o rest (Some d) rest) → IsTrue (is_among keys k)
at_one keys k l d rest Less e here later h = later h
at_one keys k l d rest Equal e here later h = subst (λ (x : List ℕ). IsTrue (is_among keys x)) (sym (same_bytes k l e)) here
at_one keys k l d rest Greater e here later h = later h

pub finds_only : (keys : List Key) (t : Members) → has_only keys t ≡ true → FindsOnly keys t
finds_only keys no_members h k s = absurd cc
finds_only keys (member l d rest) h k s =
    let p = and_parts (is_among keys l) (has_only keys rest) h in
    at_one keys k l d (get_member k rest) (slice_cmp nat_cmp k l) refl p.0 (finds_only keys rest p.1 k) s

pub has_only_from : (keys : List Key) (t : Members) → FindsOnly keys t → has_only keys t ≡ true
has_only_from keys no_members h = refl
has_only_from keys (member l d rest) h =
    let here : is_among keys l ≡ true = h l (rw (tied_itself nat_list_cmp_total l)) in
    let later : has_only keys rest ≡ true = has_only_from keys rest (λ k s. h k (found_later (slice_cmp nat_cmp k l) d (get_member k rest) s)) in
    rw (here, later)
