-- What is known of a file whose prefix was read.
use Rattle.std.proofs.Common.{◌≡◌, ℕ, Bool, List, [], ◌++◌, Option, None, Some, false, true, refl, subst, sym, ap}
use Rattle.std.specs.Io.KnownBytes.{Consumes, prepend_known}
use Rattle.folder_core.specs.Files.{IsGiven, IsReadOf, OpensAs, View}
use Rattle.sound_core.specs.Outlines.{AreAround, around_of}
use Rattle.sound_core.specs.declared.outline.Outline.{Outline}
use Rattle.transfer_commands.specs.Outlining.{OutlinesLeft, OutlinesRead}
use Rattle.transfer_commands.proofs.ReadLaws.{known_or_some, unknown_view}

-- what was read of a reader that was opened, and what it has left, are what the opening gives
pub given_left : (view : View) (name prefix : List ℕ) (old new : Option (List ℕ)) → IsGiven view name old → Consumes old new prefix → IsGiven view name (prepend_known prefix new)
given_left view name prefix old new given read = λ reported.
    let g = given reported in (g.0, g.1, by g.0 new (subst (λ o. Consumes o new prefix) g.2 read))
  where
    by : (all : List ℕ) (o : Option (List ℕ)) → Consumes (Some all) o prefix → prepend_known prefix o ≡ Some all
    by all None h = absurd h
    by all (Some xs) h = ap (λ l. Some l) (sym h)

-- bytes that were read of the name begin with the prefix
pub prefix_read : (view : View) (name prefix : List ℕ) (left : Option (List ℕ)) → IsGiven view name (prepend_known prefix left) → (rest : List ℕ) × IsReadOf view name (prefix ++ rest)
prefix_read view name prefix left given = by view.is_known refl
  where
    parted : (all : List ℕ) (o : Option (List ℕ)) → OpensAs view name all → prepend_known prefix o ≡ Some all → (rest : List ℕ) × IsReadOf view name (prefix ++ rest)
    parted all None opens h = absurd cc
    parted all (Some xs) opens h = (xs, λ reported. subst (OpensAs view name) (let same : all ≡ prefix ++ xs = cc in same) opens)

    by : (reported : Bool) → view.is_known ≡ reported → (rest : List ℕ) × IsReadOf view name (prefix ++ rest)
    by true is = let g = given is in parted g.0 left g.1 g.2
    by false is = ([], unknown_view view.is_known is)

-- an outline of a file that was opened is one of bytes that were read of its name
pub outlined : (view : View) (name : List ℕ) (left : Option (List ℕ)) → IsGiven view name left → (outline : Outline) → OutlinesLeft left outline → OutlinesRead name view outline
outlined view name left given outline h =
    let read = known_or_some view name left (AreAround (around_of outline)) given h.known h.some in
    record { file = read.0; file_read = read.1; is_outline = record { reported = h.reported; around = read.2 } }
