-- Takes are read exactly where a table says them.
use Rattle.std.proofs.Common.{◌≡◌, ℕ, ◌≤◌, ◌<◌, ℤ, cond, List, length, Some, Ok, Err, ap, subst, ◌∙◌}
use Rattle.std.proofs.lemmas.Bool.{lt-ltb}
use Rattle.toml.specs.Data.{integer, Members}
use Rattle.project_core.specs.declared.key.Key.TheVariants as keys
use Rattle.project_core.specs.declared.key.Table.{Table}
use Rattle.project_core.specs.declared.fault.ProjectFault.TheVariants.{OutOfLimit}
use Rattle.project_core.specs.Reading.{is_number, texts_at}
use Rattle.project_core.specs.ReadingTakes.{take_number_at, takes_at}
use Rattle.project_core.specs.Tables.{Has, number, texts}
use Rattle.project_core.proofs.TableLaws.{below_ok, bind_ok, integer_at_ok, number_parts, passed, texts_ok}
use Rattle.project_core.proofs.TableAgain.{number_again, texts_again, value_again}

pub takes_ok : (place : Table) (t : Members) (ts : List (List ℕ)) → takes_at place t ≡ Ok ts → Has t keys.Takes (texts ts) × ((1 ≤ length ts) × (length ts ≤ 16))
unfolding takes_at
takes_ok place t ts e =
    let a = bind_ok (texts_at keys.Takes place t) (λ ts. cond (is_number 16 (length ts)) (Ok ts) (Err (OutOfLimit keys.Takes place))) ts e in
    let b = passed (is_number 16 (length a.0)) (OutOfLimit keys.Takes place) a.0 ts a.2 in
    subst (λ (xs : List (List ℕ)). Has t keys.Takes (texts xs) × ((1 ≤ length xs) × (length xs ≤ 16))) b.1 (texts_ok keys.Takes place t a.0 a.1, number_parts 16 (length a.0) b.0)

pub takes_again : (place : Table) (t : Members) (ts : List (List ℕ)) → Has t keys.Takes (texts ts) → (1 ≤ length ts) × (length ts ≤ 16) → takes_at place t ≡ Ok ts
unfolding takes_at
takes_again place t ts h fit = rw (texts_again keys.Takes place t ts h, number_again 16 (length ts) fit)

pub take_ok : (place : Table) (i takes : ℕ) (t : Members) (n : ℕ) → take_number_at place i takes t ≡ Ok n → Has t keys.Take (number n) × (n < takes)
unfolding take_number_at
take_ok place i takes t n e =
    let a = integer_at_ok keys.Take place t _ n e in
    let b = below_ok takes a.0 _ n a.2 in
    (a.1 ∙ ap (λ (z : ℤ). Some (integer z)) b.0, b.1)

pub take_again : (place : Table) (i takes : ℕ) (t : Members) (n : ℕ) → Has t keys.Take (number n) → n < takes → take_number_at place i takes t ≡ Ok n
unfolding take_number_at
take_again place i takes t n h lt = rw (value_again keys.Take place t (number n) h, lt-ltb n takes lt)
