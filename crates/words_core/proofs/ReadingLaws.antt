-- What one more word of a command line leaves read.
use Rattle.std.proofs.Common.{◌≡◌, ◌↔◌, ◌∙◌, ◌+◌, ◌++◌, ◌<◌, ◌≤◌, ◌∷◌, ◌⊎◌, ◌||◌, [], All, Bool, Contains, Err, IfErr, IfOk, IsTrue, List, None, Ok, OnOk, Option, Result, Some, add-one, ap, append_assoc, arith, codes, drop, false, get_or, inl, inr, length, map, nat_eq, refl, subst, sym, take, true, true≢false, unwrap_or, ℕ, if◌then◌else◌}
use Rattle.std.specs.Borrow.{Bor}
use Rattle.std.specs.List.{IsAnyAnswer, flat_map}
use Rattle.std.specs.Cmp.Lexicographic.{other_text, pointwise, same_text}
use Rattle.std.proofs.lemmas.List.{append-nil, get_or-map, length-map, map-append, take_all, take_more}
use Rattle.std.proofs.lemmas.List.Elements.{All-cons, All-nil}
use Rattle.place_core.specs.declared.place.Place.{Place}
use Rattle.words_core.specs.Asked.{AreGiven, AreNamesOf, HasPlaces, IsGiven, IsUnasked, IsNamed, IsUnread, LineAsks, NamesPlace, TakesForm, commands}
use Rattle.words_core.specs.Lines.{IsItemOf, IsName, IsOptionOf, IsTaken, IsValueWord, Item, Line, Takes, TakesValue, end_words, has_flag, is_flag, item_words, line_words, name_in, names_of, text_of, value_in, values_of}
use Rattle.words_core.specs.Lines.{Name, Flag, Valued}
use Rattle.words_core.specs.Reading.{AddsName, AddsValue, AreNone, IsAwaited, IsFree, IsMisused, IsNext, IsReadAs, IsReadFrom, IsReadUpTo, ReadAsks, ReadRefused, ReadsWord, SetsFile, SetsFlag, SetsPlace, SetsValue, texts, waiting_words}
use Rattle.words_core.specs.declared.options.OptionName.{OptionName}
use Rattle.words_core.specs.declared.options.OptionName.TheVariants as option_names
use Rattle.words_core.specs.declared.options.Options.{Options}
use Rattle.words_core.specs.declared.options.Taken.{Taken}
use Rattle.words_core.specs.declared.options.Taken.TheVariants as taken
use Rattle.words_core.specs.declared.options.Taken.TheVariants.{Nothing}
use Rattle.words_core.specs.declared.fault.Misfit.TheVariants.{DopNames, Names}
use Rattle.words_core.specs.declared.fault.WordsFault.{WordsFault}
use Rattle.words_core.specs.declared.fault.WordsFault.TheVariants.{Memory, NoText, UnknownForm, WrongUsage}
use Rattle.words_core.specs.declared.task.Task.{Task}
use Rattle.words_core.specs.declared.reading.Words.{Words}
use Rattle.words_core.specs.declared.reading.Next.{Next}
use Rattle.words_core.specs.declared.reading.Next.TheVariants.{Any, ValueOf, NameOnly}
use Rattle.words_core.proofs.LineLaws.{flag_more, may_come_more, names_more, or_false, or_true, values_more, with_item, words_more}

-- ---- what follows an option is one thing
abbrev number_of : Taken → ℕ
number_of Nothing = 0
number_of taken.Place = 1
number_of taken.File = 2

place_not_nothing : taken.Place ≡ Nothing → ⊥
place_not_nothing is = let e : 1 ≡ 0 = ap number_of is in omega (arith, e)

file_not_nothing : taken.File ≡ Nothing → ⊥
file_not_nothing is = let e : 2 ≡ 0 = ap number_of is in omega (arith, e)

place_not_file : taken.Place ≡ taken.File → ⊥
place_not_file is = let e : 1 ≡ 2 = ap number_of is in omega (arith, e)

-- ---- what options say of a command line with one more item
module _ (line : Line) (item : Item) where
  values_still : (option : OptionName) → value_in option item ≡ [] → values_of option (with_item line item) ≡ values_of option line
  values_still option none = values_more line item option ∙ ap (λ more. values_of option line ++ more) none ∙ append-nil (values_of option line)

  place_still : (option : OptionName) (place : Option Place) → value_in option item ≡ [] → IsGiven (values_of option line) place → IsGiven (values_of option (with_item line item)) place
  place_still option place none = subst (λ (values : List (List ℕ)). IsGiven values place) (sym (values_still option none))

  file_still : (option : OptionName) (file : Option (Bor (List ℕ))) → value_in option item ≡ [] → IsNamed (values_of option line) file → IsNamed (values_of option (with_item line item)) file
  file_still option file none = subst (λ (values : List (List ℕ)). IsNamed values file) (sym (values_still option none))

  flag_still : (option : OptionName) (flag : Bool) → is_flag option item ≡ false → flag ≡ has_flag option line → flag ≡ has_flag option (with_item line item)
  flag_still option flag none was = was ∙ sym (flag_more line item option ∙ ap (λ (b : Bool). (has_flag option line || (b || false))) none ∙ or_false (has_flag option line))

  flag_there : (option : OptionName) → is_flag option item ≡ true → true ≡ has_flag option (with_item line item)
  flag_there option there = sym (flag_more line item option ∙ ap (λ (b : Bool). (has_flag option line || (b || false))) there ∙ or_true (has_flag option line))

  place_there : (option : OptionName) (word : List ℕ) (place : Place) → values_of option line ≡ [] → value_in option item ≡ word ∷ [] → NamesPlace word (Some place)
      → IsGiven (values_of option (with_item line item)) (Some place)
  place_there option word place none there named = (word, values_more line item option ∙ ap (λ values. values ++ value_in option item) none ∙ there, named)

  file_there : (option : OptionName) (word : List ℕ) (file : Bor (List ℕ)) → values_of option line ≡ [] → value_in option item ≡ word ∷ [] → file.now ≡ word
      → IsNamed (values_of option (with_item line item)) (Some file)
  file_there option word file none there is = values_more line item option ∙ ap (λ values. values ++ value_in option item) none ∙ there ∙ ap (λ w. w ∷ []) (sym is)

module _ (line : Line) (given : Options) (was : AreGiven line given) where
  name_given : (word : List ℕ) → AreGiven (with_item line (Name word)) given
  name_given word = record {
    from = place_still line (Name word) option_names.From given.from refl was.from;
    to = place_still line (Name word) option_names.To given.to refl was.to;
    previous = file_still line (Name word) option_names.Previous given.previous refl was.previous;
    next = file_still line (Name word) option_names.Next given.next refl was.next;
    speakers = flag_still line (Name word) option_names.Speakers given.speakers refl was.speakers;
    rf64 = flag_still line (Name word) option_names.Rf64 given.rf64 refl was.rf64;
    dop = flag_still line (Name word) option_names.Dop given.dop refl was.dop;
    check = flag_still line (Name word) option_names.Check given.check refl was.check;
  }

  speakers_given : AreGiven (with_item line (Flag option_names.Speakers)) (record given { speakers = true })
  speakers_given = record {
    from = place_still line (Flag option_names.Speakers) option_names.From given.from refl was.from;
    to = place_still line (Flag option_names.Speakers) option_names.To given.to refl was.to;
    previous = file_still line (Flag option_names.Speakers) option_names.Previous given.previous refl was.previous;
    next = file_still line (Flag option_names.Speakers) option_names.Next given.next refl was.next;
    speakers = flag_there line (Flag option_names.Speakers) option_names.Speakers refl;
    rf64 = flag_still line (Flag option_names.Speakers) option_names.Rf64 given.rf64 refl was.rf64;
    dop = flag_still line (Flag option_names.Speakers) option_names.Dop given.dop refl was.dop;
    check = flag_still line (Flag option_names.Speakers) option_names.Check given.check refl was.check;
  }

  rf64_given : AreGiven (with_item line (Flag option_names.Rf64)) (record given { rf64 = true })
  rf64_given = record {
    from = place_still line (Flag option_names.Rf64) option_names.From given.from refl was.from;
    to = place_still line (Flag option_names.Rf64) option_names.To given.to refl was.to;
    previous = file_still line (Flag option_names.Rf64) option_names.Previous given.previous refl was.previous;
    next = file_still line (Flag option_names.Rf64) option_names.Next given.next refl was.next;
    speakers = flag_still line (Flag option_names.Rf64) option_names.Speakers given.speakers refl was.speakers;
    rf64 = flag_there line (Flag option_names.Rf64) option_names.Rf64 refl;
    dop = flag_still line (Flag option_names.Rf64) option_names.Dop given.dop refl was.dop;
    check = flag_still line (Flag option_names.Rf64) option_names.Check given.check refl was.check;
  }

  dop_given : AreGiven (with_item line (Flag option_names.Dop)) (record given { dop = true })
  dop_given = record {
    from = place_still line (Flag option_names.Dop) option_names.From given.from refl was.from;
    to = place_still line (Flag option_names.Dop) option_names.To given.to refl was.to;
    previous = file_still line (Flag option_names.Dop) option_names.Previous given.previous refl was.previous;
    next = file_still line (Flag option_names.Dop) option_names.Next given.next refl was.next;
    speakers = flag_still line (Flag option_names.Dop) option_names.Speakers given.speakers refl was.speakers;
    rf64 = flag_still line (Flag option_names.Dop) option_names.Rf64 given.rf64 refl was.rf64;
    dop = flag_there line (Flag option_names.Dop) option_names.Dop refl;
    check = flag_still line (Flag option_names.Dop) option_names.Check given.check refl was.check;
  }

  check_given : AreGiven (with_item line (Flag option_names.Check)) (record given { check = true })
  check_given = record {
    from = place_still line (Flag option_names.Check) option_names.From given.from refl was.from;
    to = place_still line (Flag option_names.Check) option_names.To given.to refl was.to;
    previous = file_still line (Flag option_names.Check) option_names.Previous given.previous refl was.previous;
    next = file_still line (Flag option_names.Check) option_names.Next given.next refl was.next;
    speakers = flag_still line (Flag option_names.Check) option_names.Speakers given.speakers refl was.speakers;
    rf64 = flag_still line (Flag option_names.Check) option_names.Rf64 given.rf64 refl was.rf64;
    dop = flag_still line (Flag option_names.Check) option_names.Dop given.dop refl was.dop;
    check = flag_there line (Flag option_names.Check) option_names.Check refl;
  }

  from_given : (is_joined : Bool) (word : List ℕ) (place : Place) → values_of option_names.From line ≡ [] → NamesPlace word (Some place)
      → AreGiven (with_item line (Valued option_names.From is_joined word)) (record given { from = Some place })
  from_given is_joined word place none named = record {
    from = place_there line (Valued option_names.From is_joined word) option_names.From word place none refl named;
    to = place_still line (Valued option_names.From is_joined word) option_names.To given.to refl was.to;
    previous = file_still line (Valued option_names.From is_joined word) option_names.Previous given.previous refl was.previous;
    next = file_still line (Valued option_names.From is_joined word) option_names.Next given.next refl was.next;
    speakers = flag_still line (Valued option_names.From is_joined word) option_names.Speakers given.speakers refl was.speakers;
    rf64 = flag_still line (Valued option_names.From is_joined word) option_names.Rf64 given.rf64 refl was.rf64;
    dop = flag_still line (Valued option_names.From is_joined word) option_names.Dop given.dop refl was.dop;
    check = flag_still line (Valued option_names.From is_joined word) option_names.Check given.check refl was.check;
  }

  to_given : (is_joined : Bool) (word : List ℕ) (place : Place) → values_of option_names.To line ≡ [] → NamesPlace word (Some place)
      → AreGiven (with_item line (Valued option_names.To is_joined word)) (record given { to = Some place })
  to_given is_joined word place none named = record {
    from = place_still line (Valued option_names.To is_joined word) option_names.From given.from refl was.from;
    to = place_there line (Valued option_names.To is_joined word) option_names.To word place none refl named;
    previous = file_still line (Valued option_names.To is_joined word) option_names.Previous given.previous refl was.previous;
    next = file_still line (Valued option_names.To is_joined word) option_names.Next given.next refl was.next;
    speakers = flag_still line (Valued option_names.To is_joined word) option_names.Speakers given.speakers refl was.speakers;
    rf64 = flag_still line (Valued option_names.To is_joined word) option_names.Rf64 given.rf64 refl was.rf64;
    dop = flag_still line (Valued option_names.To is_joined word) option_names.Dop given.dop refl was.dop;
    check = flag_still line (Valued option_names.To is_joined word) option_names.Check given.check refl was.check;
  }

  previous_given : (is_joined : Bool) (word : List ℕ) (file : Bor (List ℕ)) → values_of option_names.Previous line ≡ [] → file.now ≡ word
      → AreGiven (with_item line (Valued option_names.Previous is_joined word)) (record given { previous = Some file })
  previous_given is_joined word file none is = record {
    from = place_still line (Valued option_names.Previous is_joined word) option_names.From given.from refl was.from;
    to = place_still line (Valued option_names.Previous is_joined word) option_names.To given.to refl was.to;
    previous = file_there line (Valued option_names.Previous is_joined word) option_names.Previous word file none refl is;
    next = file_still line (Valued option_names.Previous is_joined word) option_names.Next given.next refl was.next;
    speakers = flag_still line (Valued option_names.Previous is_joined word) option_names.Speakers given.speakers refl was.speakers;
    rf64 = flag_still line (Valued option_names.Previous is_joined word) option_names.Rf64 given.rf64 refl was.rf64;
    dop = flag_still line (Valued option_names.Previous is_joined word) option_names.Dop given.dop refl was.dop;
    check = flag_still line (Valued option_names.Previous is_joined word) option_names.Check given.check refl was.check;
  }

  next_given : (is_joined : Bool) (word : List ℕ) (file : Bor (List ℕ)) → values_of option_names.Next line ≡ [] → file.now ≡ word
      → AreGiven (with_item line (Valued option_names.Next is_joined word)) (record given { next = Some file })
  next_given is_joined word file none is = record {
    from = place_still line (Valued option_names.Next is_joined word) option_names.From given.from refl was.from;
    to = place_still line (Valued option_names.Next is_joined word) option_names.To given.to refl was.to;
    previous = file_still line (Valued option_names.Next is_joined word) option_names.Previous given.previous refl was.previous;
    next = file_there line (Valued option_names.Next is_joined word) option_names.Next word file none refl is;
    speakers = flag_still line (Valued option_names.Next is_joined word) option_names.Speakers given.speakers refl was.speakers;
    rf64 = flag_still line (Valued option_names.Next is_joined word) option_names.Rf64 given.rf64 refl was.rf64;
    dop = flag_still line (Valued option_names.Next is_joined word) option_names.Dop given.dop refl was.dop;
    check = flag_still line (Valued option_names.Next is_joined word) option_names.Check given.check refl was.check;
  }

  -- an option that takes nothing
  flag_given : (option : OptionName) (new : Options) → IsTaken option Nothing → SetsFlag option given new → AreGiven (with_item line (Flag option)) new
  flag_given option_names.Speakers new nothing sets = subst (AreGiven (with_item line (Flag option_names.Speakers))) (sym sets) speakers_given
  flag_given option_names.Rf64 new nothing sets = subst (AreGiven (with_item line (Flag option_names.Rf64))) (sym sets) rf64_given
  flag_given option_names.Dop new nothing sets = subst (AreGiven (with_item line (Flag option_names.Dop))) (sym sets) dop_given
  flag_given option_names.Check new nothing sets = subst (AreGiven (with_item line (Flag option_names.Check))) (sym sets) check_given
  flag_given option_names.From new nothing sets = absurd (place_not_nothing (sym nothing))
  flag_given option_names.To new nothing sets = absurd (place_not_nothing (sym nothing))
  flag_given option_names.Previous new nothing sets = absurd (file_not_nothing (sym nothing))
  flag_given option_names.Next new nothing sets = absurd (file_not_nothing (sym nothing))

  -- an option that takes a place
  place_given : (option : OptionName) (is_joined : Bool) (word : List ℕ) (place : Place) (new : Options) → IsTaken option taken.Place → values_of option line ≡ []
      → NamesPlace word (Some place) → SetsPlace option place given new → AreGiven (with_item line (Valued option is_joined word)) new
  place_given option_names.From is_joined word place new takes none named sets = subst (AreGiven (with_item line (Valued option_names.From is_joined word))) (sym sets) (from_given is_joined word place none named)
  place_given option_names.To is_joined word place new takes none named sets = subst (AreGiven (with_item line (Valued option_names.To is_joined word))) (sym sets) (to_given is_joined word place none named)
  place_given option_names.Previous is_joined word place new takes none named sets = absurd (place_not_file takes)
  place_given option_names.Next is_joined word place new takes none named sets = absurd (place_not_file takes)
  place_given option_names.Speakers is_joined word place new takes none named sets = absurd (place_not_nothing takes)
  place_given option_names.Rf64 is_joined word place new takes none named sets = absurd (place_not_nothing takes)
  place_given option_names.Dop is_joined word place new takes none named sets = absurd (place_not_nothing takes)
  place_given option_names.Check is_joined word place new takes none named sets = absurd (place_not_nothing takes)

  -- an option that takes a file
  file_given : (option : OptionName) (is_joined : Bool) (word : List ℕ) (file : Bor (List ℕ)) (new : Options) → IsTaken option taken.File → values_of option line ≡ []
      → file.now ≡ word → SetsFile option file given new → AreGiven (with_item line (Valued option is_joined word)) new
  file_given option_names.Previous is_joined word file new takes none is sets = subst (AreGiven (with_item line (Valued option_names.Previous is_joined word))) (sym sets) (previous_given is_joined word file none is)
  file_given option_names.Next is_joined word file new takes none is sets = subst (AreGiven (with_item line (Valued option_names.Next is_joined word))) (sym sets) (next_given is_joined word file none is)
  file_given option_names.From is_joined word file new takes none is sets = absurd (place_not_file (sym takes))
  file_given option_names.To is_joined word file new takes none is sets = absurd (place_not_file (sym takes))
  file_given option_names.Speakers is_joined word file new takes none is sets = absurd (file_not_nothing takes)
  file_given option_names.Rf64 is_joined word file new takes none is sets = absurd (file_not_nothing takes)
  file_given option_names.Dop is_joined word file new takes none is sets = absurd (file_not_nothing takes)
  file_given option_names.Check is_joined word file new takes none is sets = absurd (file_not_nothing takes)

  -- an option that takes a value
  value_given : (option : OptionName) (is_joined : Bool) (word : List ℕ) (new : Options) → values_of option line ≡ [] → SetsValue option word given new
      → AreGiven (with_item line (Valued option is_joined word)) new
  value_given option is_joined word new none (inl sets) = place_given option is_joined word sets.1.0 new sets.0 none sets.1.1 sets.1.2
  value_given option is_joined word new none (inr sets) = file_given option is_joined word sets.1.0 new sets.0 none sets.1.1 sets.1.2

-- ---- what is read of a command line with one more item
module _ (line : Line) (old : Words) (was : IsReadAs line old) (open_end : line.after_end ≡ None) where
  -- an item that is no name leaves the names as they are
  names_still : (item : Item) → name_in item ≡ [] → texts old.names.items ≡ names_of (with_item line item)
  names_still item none = was.names ∙ sym (names_more line item open_end ∙ ap (λ more. names_of line ++ more) none ∙ append-nil (names_of line))

  pub name_read : (word : List ℕ) (new : Words) → AddsName old word new → IsReadAs (with_item line (Name word)) new
  name_read word new adds = record {
    command = subst (λ (c : Bor (List ℕ)). c.now ≡ line.command) (sym adds.command) was.command;
    names = adds.names ∙ ap (λ names. names ++ word ∷ []) was.names ∙ sym (names_more line (Name word) open_end);
    options = subst (AreGiven (with_item line (Name word))) (sym adds.options) (name_given line old.options was.options word);
  }

  pub flag_read : (option : OptionName) (given : Options) → IsTaken option Nothing → SetsFlag option old.options given
      → IsReadAs (with_item line (Flag option)) (record old { options = given })
  flag_read option given nothing sets = record {
    command = was.command;
    names = names_still (Flag option) refl;
    options = flag_given line old.options was.options option given nothing sets;
  }

  pub value_read : (option : OptionName) (is_joined : Bool) (word : List ℕ) (given : Options) → values_of option line ≡ [] → SetsValue option word old.options given
      → IsReadAs (with_item line (Valued option is_joined word)) (record old { options = given })
  value_read option is_joined word given none sets = record {
    command = was.command;
    names = names_still (Valued option is_joined word) refl;
    options = value_given line old.options was.options option is_joined word given none sets;
  }

-- the names after `--` are no options
ended_given : (line : Line) (after_end : Option (List (List ℕ))) (given : Options) → AreGiven line given
    → AreGiven (record { command = line.command; items = line.items; after_end = after_end }) given
ended_given line after_end given was = record {
  from = was.from;
  to = was.to;
  previous = was.previous;
  next = was.next;
  speakers = was.speakers;
  rf64 = was.rf64;
  dop = was.dop;
  check = was.check;
}

-- what the next word may be says nothing of what was read
pub same_read : (line : Line) (old : Words) (next : Next) → IsReadAs line old → IsReadAs line (record old { next = next })
same_read line old next was = record { command = was.command; names = was.names; options = was.options }

-- ---- what is read up to one more word
-- the words of one more item, of which some were read before
pub item_ends : (words added : List (List ℕ)) (old new : Words) (was : IsReadUpTo words old) (item : Item)
    → was.line.after_end ≡ None → IsItemOf was.line.command item → new.next ≡ Any
    → waiting_words old.next ++ added ≡ item_words item → IsReadAs (with_item was.line item) new → IsReadUpTo (words ++ added) new
item_ends words added old new was item open_end may next is read = record {
  line = with_item was.line item;
  words_are = ap (λ ws. ws ++ added) was.words_are ∙ append_assoc (line_words was.line) (waiting_words old.next) added ∙ ap (λ ws. line_words was.line ++ ws) is
      ∙ sym (words_more was.line item open_end) ∙ sym (append-nil (line_words (with_item was.line item))) ∙ ap (λ n. line_words (with_item was.line item) ++ waiting_words n) (sym next);
  may_come = may_come_more was.line item was.may_come may;
  next = subst (λ (n : Next). IsNext n (with_item was.line item)) (sym next) open_end;
  is_read = read;
}

-- where anything may come
module _ (words : List (List ℕ)) (word : List ℕ) (old : Words) (was : IsReadUpTo words old) (any : old.next ≡ Any) where
  open_end : was.line.after_end ≡ None
  open_end = subst (λ (n : Next). IsNext n was.line) any was.next

  nothing_waits : (added : List (List ℕ)) → waiting_words old.next ++ added ≡ added
  nothing_waits added = ap (λ n. waiting_words n ++ added) any

  pub name_ends : (new : Words) → IsName word → AddsName old word new → IsReadUpTo (words ++ word ∷ []) new
  name_ends new may adds = item_ends words (word ∷ []) old new was (Name word) open_end may (adds.next ∙ any) (nothing_waits (word ∷ []))
      (name_read was.line old was.is_read open_end word new adds)

  pub flag_ends : (option : OptionName) (given : Options) → Takes was.line.command option → IsTaken option Nothing → word ≡ codes "--" ++ text_of option
      → SetsFlag option old.options given → IsReadUpTo (words ++ word ∷ []) (record old { options = given })
  flag_ends option given takes nothing is sets = item_ends words (word ∷ []) old (record old { options = given }) was (Flag option) open_end (takes, nothing) any
      (nothing_waits (word ∷ []) ∙ ap (λ w. w ∷ []) is) (flag_read was.line old was.is_read open_end option given nothing sets)

  -- an option and its value in one word
  pub joined_ends : (option : OptionName) (value_word : List ℕ) (new : Words) → IsAwaited option was.line
      → word ≡ (codes "--" ++ text_of option) ++ codes "=" ++ value_word → AddsValue old option value_word new → IsReadUpTo (words ++ word ∷ []) new
  joined_ends option value_word new awaited is (given, sets, changed) = subst (IsReadUpTo (words ++ word ∷ [])) (sym changed)
      (item_ends words (word ∷ []) old (record old { options = given }) was (Valued option true value_word) open_end (awaited.taken, awaited.value, tt) any
      (nothing_waits (word ∷ []) ∙ ap (λ w. w ∷ []) is)
      (value_read was.line old was.is_read open_end option true value_word given awaited.absent sets))

  -- an option whose value is to come
  pub option_waits : (option : OptionName) → IsAwaited option was.line → word ≡ codes "--" ++ text_of option
      → IsReadUpTo (words ++ word ∷ []) (record old { next = ValueOf option })
  option_waits option awaited is = record {
    line = was.line;
    words_are = ap (λ ws. ws ++ word ∷ []) (was.words_are ∙ ap (λ n. line_words was.line ++ waiting_words n) any ∙ append-nil (line_words was.line)) ∙ ap (λ w. line_words was.line ++ w ∷ []) is;
    may_come = was.may_come;
    next = (open_end, awaited);
    is_read = same_read was.line old (ValueOf option) was.is_read;
  }

  -- `--`
  pub items_end : word ≡ codes "--" → IsReadUpTo (words ++ word ∷ []) (record old { next = NameOnly })
  items_end is = record {
    line = record { command = was.line.command; items = was.line.items; after_end = Some [] };
    words_are = ap (λ ws. ws ++ word ∷ []) (was.words_are ∙ ap (λ n. line_words was.line ++ waiting_words n) any ∙ append-nil (line_words was.line)) ∙ ap (λ w. line_words was.line ++ w ∷ []) is
        ∙ ap (λ rest. was.line.command ∷ rest) (ap (λ front. front ++ codes "--" ∷ []) (ap (λ end. flat_map item_words was.line.items ++ end_words end) open_end ∙ append-nil (flat_map item_words was.line.items)))
        ∙ sym (append-nil (was.line.command ∷ (flat_map item_words was.line.items ++ codes "--" ∷ [])));
    may_come = was.may_come;
    next = ([], refl);
    is_read = record {
      command = was.is_read.command;
      names = was.is_read.names ∙ ap (λ (end : Option (List (List ℕ))). flat_map name_in was.line.items ++ unwrap_or end []) open_end;
      options = ended_given was.line (Some []) old.options was.is_read.options;
    };
  }

-- where a value is to come
module _ (words : List (List ℕ)) (word : List ℕ) (option : OptionName) (old : Words) (was : IsReadUpTo words old) (waits : old.next ≡ ValueOf option) where
  then_value : (was.line.after_end ≡ None) × IsAwaited option was.line
  then_value = subst (λ (n : Next). IsNext n was.line) waits was.next

  pub value_ends : (new : Words) → IsValueWord false word → (TakesValue option → AddsValue (record old { next = Any }) option word new) → IsReadUpTo (words ++ word ∷ []) new
  value_ends new may adds = let (given, sets, changed) = adds then_value.1.value in subst (IsReadUpTo (words ++ word ∷ [])) (sym changed)
      (item_ends words (word ∷ []) old (record old { next = Any; options = given }) was (Valued option false word) then_value.0
      (then_value.1.taken, then_value.1.value, may) refl
      (ap (λ n. waiting_words n ++ word ∷ []) waits)
      (value_read was.line (record old { next = Any }) (same_read was.line old Any was.is_read) then_value.0 option false word given then_value.1.absent sets))

-- after `--`
module _ (words : List (List ℕ)) (word : List ℕ) (old : Words) (was : IsReadUpTo words old) (ended : old.next ≡ NameOnly) where
  after : (names : List (List ℕ)) × (was.line.after_end ≡ Some names)
  after = subst (λ (n : Next). IsNext n was.line) ended was.next

  pub name_after : (new : Words) → AddsName old word new → IsReadUpTo (words ++ word ∷ []) new
  name_after new adds = record {
    line = record { command = was.line.command; items = was.line.items; after_end = Some (after.0 ++ word ∷ []) };
    words_are = ap (λ ws. ws ++ word ∷ []) (was.words_are ∙ ap (λ n. line_words was.line ++ waiting_words n) ended ∙ append-nil (line_words was.line)
        ∙ ap (λ end. was.line.command ∷ (flat_map item_words was.line.items ++ end_words end)) after.1)
        ∙ ap (λ rest. was.line.command ∷ rest) (append_assoc (flat_map item_words was.line.items) (codes "--" ∷ after.0) (word ∷ []))
        ∙ sym (append-nil (was.line.command ∷ (flat_map item_words was.line.items ++ codes "--" ∷ (after.0 ++ word ∷ []))))
        ∙ ap (λ n. (was.line.command ∷ (flat_map item_words was.line.items ++ codes "--" ∷ (after.0 ++ word ∷ []))) ++ waiting_words n) (sym (adds.next ∙ ended));
    may_come = was.may_come;
    next = subst (λ (n : Next). IsNext n (record { command = was.line.command; items = was.line.items; after_end = Some (after.0 ++ word ∷ []) })) (sym (adds.next ∙ ended)) (after.0 ++ word ∷ [], refl);
    is_read = record {
      command = subst (λ (c : Bor (List ℕ)). c.now ≡ was.line.command) (sym adds.command) was.is_read.command;
      names = adds.names ∙ ap (λ names. names ++ word ∷ []) (was.is_read.names ∙ ap (λ (end : Option (List (List ℕ))). flat_map name_in was.line.items ++ unwrap_or end []) after.1)
          ∙ append_assoc (flat_map name_in was.line.items) after.0 (word ∷ []);
      options = subst (AreGiven (record { command = was.line.command; items = was.line.items; after_end = Some (after.0 ++ word ∷ []) })) (sym adds.options)
          (ended_given was.line (Some (after.0 ++ word ∷ [])) old.options was.is_read.options);
    };
  }

-- ---- from the first word to the last
-- a command alone was read
pub begins : (command : List ℕ) (read : Words) → read.command.now ≡ command → read.names.items ≡ [] → AreNone read.options → read.next ≡ Any → IsReadUpTo (command ∷ []) read
begins command read is names none next = record {
  line = record { command = command; items = []; after_end = None };
  words_are = ap (λ n. (command ∷ []) ++ waiting_words n) (sym next);
  may_come = All-nil (IsItemOf command);
  next = subst (λ (n : Next). IsNext n (record { command = command; items = []; after_end = None })) (sym next) refl;
  is_read = record {
    command = is;
    names = ap texts names;
    options = record {
      from = subst (IsGiven []) (sym none.from) refl;
      to = subst (IsGiven []) (sym none.to) refl;
      previous = subst (IsNamed []) (sym none.previous) refl;
      next = subst (IsNamed []) (sym none.next) refl;
      speakers = none.speakers;
      rf64 = none.rf64;
      dop = none.dop;
      check = none.check;
    };
  };
}

-- the first of all words was read
pub begun : {S : Type 0} (f : S → List ℕ) (words rest : List S) (first : S) (command : List ℕ) (read : Words) → words ≡ first ∷ rest → command ≡ f first
    → IsReadUpTo (command ∷ []) read → IsReadUpTo (map f (take 1 words)) read
begun {S} f words rest first command read is same was = subst (λ (ws : List S). IsReadUpTo (map f (take 1 ws)) read) (sym is)
    (subst (λ (w : List ℕ). IsReadUpTo (w ∷ []) read) same was)

-- the command that was read is the first word
pub command_kept : {S : Type 0} (f : S → List ℕ) (words rest : List S) (first : S) (i : ℕ) (read : Words) → words ≡ first ∷ rest
    → IsReadUpTo (map f (take (i + 1) words)) read → read.command.now ≡ f first
command_kept {S} f words rest first i read is was = was.is_read.command ∙ sym (ap (λ (ws : List (List ℕ)). get_or ws 0 []) was.words_are)
    ∙ ap (λ (ws : List S). get_or (map f (take (i + 1) ws)) 0 []) is ∙ ap (λ n. get_or (map f (take n (first ∷ rest))) 0 []) (add-one i)

-- the words that were read are a command line, if no option waits for its place
all_read : (words : List (List ℕ)) (read : Words) → IsReadUpTo words read → waiting_words read.next ≡ [] → IsReadFrom words read
all_read words read was nothing = (
  was.line,
  record {
    words_are = was.words_are ∙ ap (λ more. line_words was.line ++ more) nothing ∙ append-nil (line_words was.line);
    may_come = was.may_come;
  },
  was.is_read,
)

-- one more of the words
pub one_more : {S : Type 0} (f : S → List ℕ) (words rest : List S) (first : S) (i : ℕ) (word : S) (old new : Words) → words ≡ first ∷ rest → length rest + 1 ≡ length words
    → i < length rest → word ≡ get_or rest i word → IsReadUpTo (map f (take (i + 1) words)) old → ReadsWord old (f word) new → IsReadUpTo (map f (take (i + 1 + 1) words)) new
one_more {S} f words rest first i word old new is count within same was reads = subst (λ (ws : List (List ℕ)). IsReadUpTo ws new)
    (sym (ap (map f) (take_more words (i + 1) word (omega (arith, within, count))) ∙ map-append f (take (i + 1) words) (get_or words (i + 1) word ∷ [])
    ∙ ap (λ w. map f (take (i + 1) words) ++ f w ∷ []) element))
    (reads (map f (take (i + 1) words)) was)
  where
    element : get_or words (i + 1) word ≡ word
    element = ap (λ (ws : List S). get_or ws (i + 1) word) is ∙ ap (λ n. get_or (first ∷ rest) n word) (add-one i) ∙ sym same

-- all words were read
pub all_words : {S : Type 0} (f : S → List ℕ) (words rest : List S) (i : ℕ) (read : Words) → length rest + 1 ≡ length words → length rest ≤ i
    → IsReadUpTo (map f (take (i + 1) words)) read → waiting_words read.next ≡ [] → IsReadFrom (map f words) read
all_words {S} f words rest i read count end was nothing = all_read (map f words) read
    (subst (λ (ws : List S). IsReadUpTo (map f ws) read) (take_all (i + 1) words (omega (arith, count, end))) was) nothing

-- ---- options
-- an option that isn't there yet
pub awaits : (line : Line) (old : Words) (option : OptionName) → IsReadAs line old → Takes old.command.now option → TakesValue option → IsFree option old.options → IsAwaited option line
awaits line old option was takes value free = record {
  taken = subst (λ command. Takes command option) was.command takes;
  value = value;
  absent = none_there line old.options was.options option value free;
}
  where
    none_there : (line : Line) (given : Options) (is : AreGiven line given) (option : OptionName) → TakesValue option → IsFree option given → values_of option line ≡ []
    none_there line given is option_names.From value free = subst (IsGiven (values_of option_names.From line)) free is.from
    none_there line given is option_names.To value free = subst (IsGiven (values_of option_names.To line)) free is.to
    none_there line given is option_names.Previous value free = subst (IsNamed (values_of option_names.Previous line)) free is.previous
    none_there line given is option_names.Next value free = subst (IsNamed (values_of option_names.Next line)) free is.next
    none_there line given is option_names.Speakers (inl place) free = absurd (place_not_nothing place)
    none_there line given is option_names.Speakers (inr file) free = absurd (file_not_nothing file)
    none_there line given is option_names.Rf64 (inl place) free = absurd (place_not_nothing place)
    none_there line given is option_names.Rf64 (inr file) free = absurd (file_not_nothing file)
    none_there line given is option_names.Dop (inl place) free = absurd (place_not_nothing place)
    none_there line given is option_names.Dop (inr file) free = absurd (file_not_nothing file)
    none_there line given is option_names.Check (inl place) free = absurd (place_not_nothing place)
    none_there line given is option_names.Check (inr file) free = absurd (file_not_nothing file)

-- an option without hyphens is not empty
some_text : (option : OptionName) → 0 < length (text_of option)
some_text option_names.From = omega arith
some_text option_names.To = omega arith
some_text option_names.Previous = omega arith
some_text option_names.Next = omega arith
some_text option_names.Speakers = omega arith
some_text option_names.Rf64 = omega arith
some_text option_names.Dop = omega arith
some_text option_names.Check = omega arith

pub option_is : (option : OptionName) (name word : List ℕ) → name ≡ text_of option → (name ≡ []) ⊎ (word ≡ codes "--" ++ name) → word ≡ codes "--" ++ text_of option
option_is option name word is (inl none) = absurd (let e : length (text_of option) ≡ 0 = ap length (sym is ∙ none) in let some = some_text option in omega (arith, e, some))
option_is option name word is (inr written) = written ∙ ap (λ n. codes "--" ++ n) is

-- the options in the table
pub play_options : (command : List ℕ) → command ≡ codes "play" → All (IsOptionOf command) (codes "from" ∷ codes "to" ∷ codes "previous" ∷ codes "next" ∷ codes "speakers" ∷ codes "rf64" ∷ codes "dop" ∷ [])
play_options command is =
    All-cons (IsOptionOf command) (codes "from") (codes "to" ∷ codes "previous" ∷ codes "next" ∷ codes "speakers" ∷ codes "rf64" ∷ codes "dop" ∷ []) (option_names.From, refl, inl (is, tt))
    (All-cons (IsOptionOf command) (codes "to") (codes "previous" ∷ codes "next" ∷ codes "speakers" ∷ codes "rf64" ∷ codes "dop" ∷ []) (option_names.To, refl, inl (is, tt))
    (All-cons (IsOptionOf command) (codes "previous") (codes "next" ∷ codes "speakers" ∷ codes "rf64" ∷ codes "dop" ∷ []) (option_names.Previous, refl, inl (is, tt))
    (All-cons (IsOptionOf command) (codes "next") (codes "speakers" ∷ codes "rf64" ∷ codes "dop" ∷ []) (option_names.Next, refl, inl (is, tt))
    (All-cons (IsOptionOf command) (codes "speakers") (codes "rf64" ∷ codes "dop" ∷ []) (option_names.Speakers, refl, inl (is, tt))
    (All-cons (IsOptionOf command) (codes "rf64") (codes "dop" ∷ []) (option_names.Rf64, refl, inl (is, tt))
    (All-cons (IsOptionOf command) (codes "dop") [] (option_names.Dop, refl, inl (is, tt)) (All-nil (IsOptionOf command))))))))

pub convert_options : (command : List ℕ) → command ≡ codes "convert" → All (IsOptionOf command) (codes "speakers" ∷ codes "dop" ∷ [])
convert_options command is =
    All-cons (IsOptionOf command) (codes "speakers") (codes "dop" ∷ []) (option_names.Speakers, refl, inr (inl (is, tt)))
    (All-cons (IsOptionOf command) (codes "dop") [] (option_names.Dop, refl, inr (inl (is, tt))) (All-nil (IsOptionOf command)))

pub sum_options : (command : List ℕ) → command ≡ codes "sum" → All (IsOptionOf command) (codes "check" ∷ [])
sum_options command is = All-cons (IsOptionOf command) (codes "check") [] (option_names.Check, refl, inr (inr (is, refl))) (All-nil (IsOptionOf command))

-- one of a command's options
pub option_found : (command : List ℕ) (known : List (Bor (List ℕ))) (option : Bor (List ℕ)) (k : ℕ) → All (IsOptionOf command) (texts known) → k < length known
    → pointwise nat_eq (get_or known k option).now option.now ≡ true → IsOptionOf command option.now
option_found command known option k all within same = subst (IsOptionOf command)
    (get_or-map (λ (w : Bor (List ℕ)). w.now) known k option option.now within ∙ same_text (get_or known k option).now option.now (sym same))
    (all k option.now (subst (λ n. k < n) (sym (length-map known (λ (w : Bor (List ℕ)). w.now))) within))

-- whether a text is one of some, as comparing it with each says
pub among : (known : List (Bor (List ℕ))) (word : Bor (List ℕ)) (found : Bool) → IsAnyAnswer (λ (w : Bor (List ℕ)) same. pointwise nat_eq w.now word.now ≡ same) known found → IsTrue found ↔ Contains (texts known) word.now
among known word true (k, within, same) = (
  λ _. (k, subst (λ n. k < n) (sym (length-map known (λ (w : Bor (List ℕ)). w.now))) within, get_or-map (λ (w : Bor (List ℕ)). w.now) known k word word.now within ∙ same_text (get_or known k word).now word.now (sym (same word))),
  λ _. refl,
)
among known word false none = (
  λ no. absurd (true≢false (sym no)),
  λ has.
      let k = has.0 in
      let within : k < length known = subst (λ n. k < n) (length-map known (λ (w : Bor (List ℕ)). w.now)) has.1 in
      absurd (other_text (get_or known k word).now word.now (sym (none k word (omega arith) within)) (sym (get_or-map (λ (w : Bor (List ℕ)). w.now) known k word word.now within) ∙ has.2)),
)

-- what holds at an answer holds of what follows from it
pub on_ok : {T E : Type 0} (P Q : Type 0) (r : Result T E) → (P → Q) → OnOk r P → OnOk r Q
on_ok P Q (Ok x) f p = f p
on_ok P Q (Err e) f p = tt

-- ---- faults
-- a fault of a word after a command
pub misused : (words rest : List (List ℕ)) (command : List ℕ) (fault : WordsFault) → words ≡ command ∷ rest → Contains commands command → IsMisused command fault → IsUnread words fault
misused words rest command (WrongUsage named misfit) is known same = (rest, is ∙ ap (λ c. c ∷ rest) (sym same), subst (Contains commands) (sym same) known)
misused words rest command Memory is known same = tt
misused words rest command _ is known same = absurd same

-- ---- the task
line_asks : (line : Line) (read : Words) (task : Task) → IsReadAs line read → ReadAsks read.command.now read task → LineAsks line task
line_asks line read task was asks = record {
  command = sym was.command ∙ asks.command_is;
  names = subst (AreNamesOf task) was.names asks.names;
  given = read.options;
  are_given = was.options;
  options = asks.options;
}

line_refused : (line : Line) (read : Words) (fault : WordsFault) → IsReadAs line read → ReadRefused read.command.now read fault → IsUnasked line fault
line_refused line read (WrongUsage named (Names count)) was is = (is.0 ∙ was.command, is.1 ∙ ap length was.names)
line_refused line read (WrongUsage named (DopNames count)) was is = (is.0 ∙ was.command, is.1 ∙ ap length was.names, sym was.options.dop ∙ is.2)
line_refused line read (UnknownForm named form) was is = (is.0 ∙ was.command, (is.2.0, sym was.names ∙ is.2.1, is.2.2))
line_refused line read _ was is = tt

-- what was read asks for what its line asks for
pub task_asked : (read : Words) (r : Result Task WordsFault) → IfOk r (ReadAsks read.command.now read) → (line : Line) → IsReadAs line read → IfOk r (LineAsks line)
task_asked read (Ok task) asks line was = line_asks line read task was asks
task_asked read (Err fault) asks line was = tt

pub task_refused : (read : Words) (r : Result Task WordsFault) → IfErr r (ReadRefused read.command.now read) → (line : Line) → IsReadAs line read → IfErr r (IsUnasked line)
task_refused read (Ok task) refused line was = tt
task_refused read (Err fault) refused line was = line_refused line read fault was refused

pub places_kept : (command : List ℕ) (read : Words) (r : Result Task WordsFault) → IfOk r (ReadAsks command read) → IfOk r HasPlaces
places_kept command read (Ok task) asks = asks.places
places_kept command read (Err fault) asks = tt

form_kept : (command : List ℕ) (read : Words) (fault : WordsFault) → ReadRefused command read fault → TakesForm fault
form_kept command read (UnknownForm named form) is = is.1
form_kept command read _ is = tt

pub forms_kept : (command : List ℕ) (read : Words) (r : Result Task WordsFault) → IfErr r (ReadRefused command read) → IfErr r TakesForm
forms_kept command read (Ok task) refused = tt
forms_kept command read (Err fault) refused = form_kept command read fault refused

-- what holds of what was asked for, and of a word that is no text
pub kept_or : (P : Result Task WordsFault → Type 0) (asked r : Result Task WordsFault) → (r ≡ asked) ⊎ ((word : Bor (List ℕ)) × (r ≡ Err (NoText word))) → P asked → ((word : Bor (List ℕ)) → P (Err (NoText word))) → P r
kept_or P asked r (inl is) holds other = subst P (sym is) holds
kept_or P asked r (inr no_text) holds other = subst P (sym no_text.1) (other no_text.0)

-- the first name is there
pub first_name : (items : List (Bor (List ℕ))) (d : Bor (List ℕ)) → 0 < length items → texts items ≡ (get_or items 0 d).now ∷ drop 1 (texts items)
first_name [] d some = absurd (omega (arith, some))
first_name (item ∷ items) d some = refl
