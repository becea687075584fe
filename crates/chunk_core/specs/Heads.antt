-- What a chunk's header says.
use Rattle.std.specs.Prelude.{◌≡◌, ◌≤◌, ℕ, ◌+◌, List, length}
use Rattle.chunk_core.specs.declared.layout.Head.{Head}
use Rattle.chunk_core.specs.declared.numbers.Order.{Order}
use Rattle.chunk_core.specs.Numbers.{id_at, number_at}

-- a header of 12 bytes is at a place: four of ID, and eight that are the size in an order
pub record IsHeadAt (order : Order) (bytes : List ℕ) (at : ℕ) (found : Head) : Type 0 where
  pub whole : at + 12 ≤ length bytes
  pub id : found.id ≡ id_at bytes at
  pub size : found.size ≡ number_at order 8 bytes (at + 4)
