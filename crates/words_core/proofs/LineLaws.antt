-- What one more item does to a command line.
use Rattle.std.proofs.Common.{◌≡◌, ◌∙◌, ◌++◌, ◌∷◌, ◌||◌, [], All, Bool, List, None, Option, ap, false, refl, subst, sym, true, unwrap_or, ℕ}
use Rattle.std.specs.List.{flat_map}
use Rattle.std.proofs.lemmas.Grind.{flat_map-append}
use Rattle.std.proofs.lemmas.List.{append-nil}
use Rattle.std.proofs.lemmas.List.Elements.{All-append, All-cons, All-nil}
use Rattle.std.proofs.lemmas.List.Folds.{list_any-append}
use Rattle.words_core.specs.Lines.{IsItemOf, Item, Line, end_words, has_flag, is_flag, item_words, line_words, name_in, names_of, value_in, values_of}
use Rattle.words_core.specs.declared.options.OptionName.{OptionName}

-- a command line with one more item
abbrev pub with_item : Line → Item → Line
with_item line item = record { command = line.command; items = line.items ++ item ∷ []; after_end = line.after_end }

-- what is said of each item of one more
pub items_more : {A : Type 0} (f : Item → List A) (items : List Item) (item : Item) → flat_map f (items ++ item ∷ []) ≡ flat_map f items ++ f item
items_more f items item = flat_map-append f items (item ∷ []) ∙ ap (λ rest. flat_map f items ++ rest) (append-nil (f item))

-- the same where nothing comes after the items
pub items_more_end : {A : Type 0} (f : Item → List A) (items : List Item) (item : Item) (rest : List A) → rest ≡ []
    → flat_map f (items ++ item ∷ []) ++ rest ≡ (flat_map f items ++ rest) ++ f item
items_more_end {A} f items item rest none = subst (λ (r : List A). flat_map f (items ++ item ∷ []) ++ r ≡ (flat_map f items ++ r) ++ f item) (sym none)
    (append-nil (flat_map f (items ++ item ∷ [])) ∙ items_more f items item ∙ ap (λ front. front ++ f item) (sym (append-nil (flat_map f items))))

module _ (line : Line) (item : Item) where
  pub words_more : line.after_end ≡ None → line_words (with_item line item) ≡ line_words line ++ item_words item
  words_more none = ap (λ rest. line.command ∷ rest) (items_more_end item_words line.items item (end_words line.after_end) (ap end_words none))

  pub names_more : line.after_end ≡ None → names_of (with_item line item) ≡ names_of line ++ name_in item
  names_more none = items_more_end name_in line.items item (unwrap_or line.after_end []) (ap (λ (o : Option (List (List ℕ))). unwrap_or o []) none)

  pub values_more : (option : OptionName) → values_of option (with_item line item) ≡ values_of option line ++ value_in option item
  values_more option = items_more (value_in option) line.items item

  pub flag_more : (option : OptionName) → has_flag option (with_item line item) ≡ (has_flag option line || (is_flag option item || false))
  flag_more option = list_any-append (is_flag option) line.items (item ∷ [])

  pub may_come_more : All (IsItemOf line.command) line.items → IsItemOf line.command item → All (IsItemOf line.command) (line.items ++ item ∷ [])
  may_come_more each one = All-append (IsItemOf line.command) line.items (item ∷ []) each (All-cons (IsItemOf line.command) item [] one (All-nil (IsItemOf line.command)))

-- what is the same with an item that says nothing of it
pub or_false : (b : Bool) → (b || false) ≡ b
or_false true = refl
or_false false = refl

pub or_true : (b : Bool) → (b || true) ≡ true
or_true true = refl
or_true false = refl
