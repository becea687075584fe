-- Statuses one by one, and what is printed between them.
use Rattle.std.proofs.Common.{◌≡◌, ◌≢◌, ◌∙◌, ◌+◌, ◌<◌, ℕ, IfOk, List, [], ◌∷◌, ◌++◌, Result, Ok, Err, ap, get_or, inl, length, map, refl, subst, sym, take}
use Rattle.std.specs.Str.Lines.{lines}
use Rattle.std.proofs.lemmas.List.{take_more}
use Rattle.std.proofs.lemmas.List.Sums.{fold_push}
use Rattle.std.proofs.KnownBytes.{Appends-nil, Appends-trans}
use Rattle.folder_core.specs.Files.{IsReadOf}
use Rattle.command_core.specs.Hosts.{PrintsSome, State}
use Rattle.command_core.specs.Spelling.{IsSpelled}
use Rattle.command_core.specs.SumEndings.{AllCome, BytesComeTo, HaveWorst, LineComesTo, ListComesTo, worse}
use Rattle.command_core.specs.declared.sum_status.SumStatus.{SumStatus}
use Rattle.command_core.specs.declared.sum_status.SumStatus.TheVariants.{Done}

-- a function over one more
map_more : {A B : Type 0} (f : A → B) (xs : List A) (x : A) → map f (xs ++ x ∷ []) ≡ map f xs ++ f x ∷ []
map_more f [] x = refl
map_more f (y ∷ ys) x = ap (λ l. f y ∷ l) (map_more f ys x)

-- one more comes to a status
come_more : {A : Type 0} (R : A → State → State → SumStatus → Type 0) (xs : List A) (statuses : List SumStatus) (x : A) (status : SumStatus) (old between new : State)
    → AllCome R xs statuses old between → R x between new status → AllCome R (xs ++ x ∷ []) (statuses ++ status ∷ []) old new
come_more R [] [] x status old between new all comes = (new, subst (λ (s : State). R x s new status) all comes, refl)
come_more R [] (s ∷ ss) x status old between new all comes = absurd all
come_more R (y ∷ xs) [] x status old between new all comes = absurd all
come_more R (y ∷ xs) (s ∷ ss) x status old between new all comes = (all.0, all.1, come_more R xs ss x status all.0 between new all.2 comes)

module _ {A B : Type 0} (R : B → State → State → SumStatus → Type 0) (f : A → B) where
  -- none has a status yet
  pub none_yet : (state : State) → HaveWorst R (map f []) state state Done
  none_yet state = record { statuses = []; each = refl; is_worst = refl }

  -- one more has
  pub one_more : (xs : List A) (x : A) (old between next : State) (worst status new : SumStatus) → HaveWorst R (map f xs) old between worst → R (f x) between next status → new ≡ worse status worst → HaveWorst R (map f (xs ++ x ∷ [])) old next new
  one_more xs x old between next worst status new so_far comes is = subst (λ l. HaveWorst R l old next new) (sym (map_more f xs x)) (record {
    statuses = so_far.statuses ++ status ∷ [];
    each = come_more R (map f xs) so_far.statuses (f x) status old between next so_far.each comes;
    is_worst = is ∙ ap (worse status) so_far.is_worst ∙ sym (fold_push (λ worst status. worse status worst) Done so_far.statuses status);
  })

  -- the next of a list has
  pub next_has : (xs : List A) (i : ℕ) (d : A) (old between next : State) (worst status new : SumStatus) → i < length xs → HaveWorst R (map f (take i xs)) old between worst → R (f (get_or xs i d)) between next status → new ≡ worse status worst → HaveWorst R (map f (take (i + 1) xs)) old next new
  next_has xs i d old between next worst status new within so_far comes is =
      subst (λ l. HaveWorst R (map f l) old next new) (sym (take_more xs i d within)) (one_more (take i xs) (get_or xs i d) old between next worst status new so_far comes is)

-- ---- what is printed
-- nothing
pub prints_none : (old new : State) → new ≡ old → PrintsSome old new
prints_none old new same = subst (λ (s : State). PrintsSome old s) (sym same) ([], (refl, Appends-nil old.printed))

-- some text, and then some more
pub prints_more : (old between new : State) → PrintsSome old between → PrintsSome between new → PrintsSome old new
prints_more old between new first second = (first.0 ++ second.0, (second.1.0 ∙ first.1.0, Appends-trans old.printed between.printed new.printed first.0 second.0 first.1.1 second.1.1))

-- ---- lists
-- the lines of a list's text were judged
pub of_text : {E : Type 0} (bytes text : List ℕ) (old new : State) (r : Result SumStatus E) → IsSpelled bytes text → text ≢ [] → IfOk r (HaveWorst LineComesTo (lines text) old new) → IfOk r (BytesComeTo bytes old new)
of_text bytes text old new (Ok status) spelled some judged = inl (text, spelled, some, judged)
of_text bytes text old new (Err e) spelled some judged = tt

-- the bytes of a list were read
pub of_list : {E : Type 0} (list bytes : List ℕ) (old between new : State) (r : Result SumStatus E) → IsReadOf old.view list bytes → between ≡ old → IfOk r (BytesComeTo bytes between new) → IfOk r (ListComesTo list old new)
of_list list bytes old between new (Ok status) read same comes = inl (bytes, read, subst (λ (s : State). BytesComeTo bytes s new status) same comes)
of_list list bytes old between new (Err e) read same comes = tt
