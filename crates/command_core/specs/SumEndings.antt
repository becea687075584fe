-- The statuses of files that are summed, and of those that are judged by lists, and what is printed of them.
use Rattle.std.specs.Prelude.{◌≡◌, ◌≢◌, ◌⊎◌, ℕ, List, [], ◌∷◌, ◌++◌, Bool, true, false, codes, fold}
use Rattle.std.specs.Str.Lines.{lines}
use Rattle.folder_core.specs.Files.{IsReadOf}
use Rattle.command_core.specs.Hosts.{Prints, PrintsSome, State}
use Rattle.command_core.specs.Spelling.{IsSpelled}
use Rattle.command_core.specs.Summing.{IsNamedIn, JudgesLine, ShowsSums, name_text}
use Rattle.command_core.specs.declared.sum_status.SumStatus.{SumStatus}
use Rattle.command_core.specs.declared.sum_status.SumStatus.TheVariants.{Done, NotAsListed, Failed}

-- the worse of two statuses: a fault is worse than a file that isn't as listed
abbrev pub worse : SumStatus → SumStatus → SumStatus
worse Done other = other
worse Failed other = Failed
worse NotAsListed Done = NotAsListed
worse NotAsListed NotAsListed = NotAsListed
worse NotAsListed Failed = Failed

-- the worst of statuses, or that all is as listed if there are none
abbrev pub worst_of : List SumStatus → SumStatus
worst_of statuses = fold (λ worst status. worse status worst) Done statuses

-- each of these, one after the other, comes to one of the statuses
abbrev pub AllCome : {A : Type 0} → (A → State → State → SumStatus → Type 0) → List A → List SumStatus → State → State → Type 0
AllCome R [] [] old new = new ≡ old
AllCome R [] (status ∷ statuses) old new = ⊥
AllCome R (x ∷ xs) [] old new = ⊥
AllCome R (x ∷ xs) (status ∷ statuses) old new = (between : State) × R x old between status × AllCome R xs statuses between new

-- each of these, one after the other, comes to a status, and this is the worst
pub record HaveWorst {A : Type 0} (R : A → State → State → SumStatus → Type 0) (xs : List A) (old new : State) (status : SumStatus) : Type 0 where
  pub statuses : List SumStatus
  pub each : AllCome R xs statuses old new
  pub is_worst : status ≡ worst_of statuses

-- a file that is summed: bytes that were read of it have sums and their line is printed, or there is a fault
abbrev pub FileComesTo : List ℕ → State → State → SumStatus → Type 0
FileComesTo name old new status = ((status ≡ Done) × ((line : List ℕ) × ShowsSums name old.view old.view line × Prints old new (line ++ 10 ∷ []))) ⊎ ((status ≡ Failed) × (new ≡ old))

-- what is printed of a file that was judged: its name, and whether it is as listed
abbrev pub verdict_text : List ℕ → List ℕ → List ℕ
verdict_text name verdict = name_text name ++ (verdict ++ 10 ∷ [])

-- a file was judged by a line of a list: the line is that of the sums of bytes that were read of the file, or it isn't,
-- and that is printed
abbrev pub NameComesTo : List ℕ → List ℕ → State → State → SumStatus → Type 0
NameComesTo name line old new status = ((status ≡ Done) × JudgesLine name line old.view old.view true × Prints old new (verdict_text name (codes ": OK")))
    ⊎ ((status ≡ NotAsListed) × JudgesLine name line old.view old.view false × Prints old new (verdict_text name (codes ": FAILED")))

-- a line of a list: the file of its name is judged by it, or there is a fault, after which the file may be printed as
-- not as listed
abbrev pub LineComesTo : List ℕ → State → State → SumStatus → Type 0
LineComesTo line old new status = ((name : List ℕ) × IsNamedIn line name × NameComesTo name line old new status)
    ⊎ ((status ≡ Failed) × ((new ≡ old) ⊎ ((name : List ℕ) × IsNamedIn line name × Prints old new (verdict_text name (codes ": FAILED")))))

-- the text of a list's bytes is not empty, and the files of all of its lines are judged in their order
abbrev pub JudgesText : List ℕ → State → State → SumStatus → Type 0
JudgesText bytes old new status = (text : List ℕ) × IsSpelled bytes text × (text ≢ []) × HaveWorst LineComesTo (lines text) old new status

-- the bytes of a list: the files of its lines are judged, or there is a fault before the first
abbrev pub BytesComeTo : List ℕ → State → State → SumStatus → Type 0
BytesComeTo bytes old new status = JudgesText bytes old new status ⊎ ((status ≡ Failed) × (new ≡ old))

-- a list: bytes were read of it by which files are judged, or there is a fault before the first
abbrev pub ListComesTo : List ℕ → State → State → SumStatus → Type 0
ListComesTo list old new status = ((bytes : List ℕ) × IsReadOf old.view list bytes × BytesComeTo bytes old new status) ⊎ ((status ≡ Failed) × (new ≡ old))

-- a word of `sum`, which names a list by which files are judged, or a file that is summed
abbrev pub WordComesTo : Bool → List ℕ → State → State → SumStatus → Type 0
WordComesTo true list old new status = ListComesTo list old new status
WordComesTo false name old new status = FileComesTo name old new status

-- the status of `sum` is the worst of those of its words in their order, or standard output didn't take a line
abbrev pub EndsSums : Bool → List (List ℕ) → State → State → SumStatus → Type 0
EndsSums is_check names old new status = HaveWorst (WordComesTo is_check) names old new status ⊎ ((status ≡ Failed) × PrintsSome old new)
