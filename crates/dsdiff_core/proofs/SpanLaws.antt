-- The first chunk that passes a test.
use Rattle.std.proofs.Common.{◌≡◌, Bool, List, [], ◌∷◌, Option, Some, subst, inl, inr}
use Rattle.std.specs.Prelude.{All, find}
use Rattle.std.proofs.lemmas.List.Elements.{All-head, All-tail}
use Rattle.chunk_core.specs.declared.layout.Span.{Span}
use Rattle.chunk_core.proofs.Steps.{chosen}

abbrev there : Span → Option Span
there s = Some s

some_same : (x s : Span) → there x ≡ there s → x ≡ s
some_same x s e = cc

-- what holds of each holds of the first that passes
pub found_holds : (P : Span → Type 0) (test : Span → Bool) (ss : List Span) (s : Span) → All P ss → find test ss ≡ Some s → P s
found_holds P test [] s h e = absurd cc
found_holds P test (x ∷ ss) s h e =
    elim (chosen (test x) (Some x) (find test ss) (Some s) e) [
      | inl a ↦ subst P (some_same x s a.1) (All-head P x ss h)
      | inr a ↦ found_holds P test ss s (All-tail P x ss h) a.1
    ]
