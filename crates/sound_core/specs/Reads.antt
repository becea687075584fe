-- What was read from a reader whose reads are counted.
use Rattle.std.specs.Prelude.{◌≡◌, ℕ, ◌+◌, ◌-◌, ◌*◌, ◌<◌, ◌≤◌, ◌^◌, ◌⊎◌, List, ◌++◌, length, Option, IfSome}
use Rattle.std.specs.Io.KnownBytes.{Consumes, IsAtEnd}
use Rattle.chunk_core.specs.Inlets.{inlet_given, inlet_reader, inlet_reads}
use Rattle.chunk_core.specs.declared.inlet.Inlet.{Inlet}

-- with at most `limit` reads of a block each, no counter overflows
pub record HasBudget {R : Type 0} (limit : ℕ) (inlet : Inlet R) : Type 0 where
  pub reads : inlet_reads inlet ≤ limit
  pub given : inlet_given inlet + 65536 * (limit - inlet_reads inlet) < 2 ^ 64
  pub low : limit < 2 ^ 64

-- these bytes were read, and counted
pub record Reads {R : Type 0} (left : R → Option (List ℕ)) (old new : Inlet R) (bytes : List ℕ) : Type 0 where
  pub consumed : Consumes (left (inlet_reader old)) (left (inlet_reader new)) bytes
  pub given : inlet_given new ≡ inlet_given old + length bytes

-- these bytes were read from those that are left, and counted
pub record GivesBytes (left_old : Option (List ℕ)) (given_old given_new : ℕ) (read : List ℕ) : Type 0 where
  pub begins : IfSome left_old (λ left. (rest : List ℕ) × (left ≡ read ++ rest))
  pub given : given_new ≡ given_old + length read

-- what was read was appended, until there were `wanted` bytes or the reader was at its end
pub record ReadsUntil {R : Type 0} (left : R → Option (List ℕ)) (old new : Inlet R) (bytes_old bytes_new : List ℕ) (wanted : ℕ) : Type 0 where
  pub bytes : List ℕ
  pub reads : Reads left old new bytes
  pub appended : bytes_new ≡ bytes_old ++ bytes
  pub enough : (wanted ≤ length bytes_new) ⊎ IsAtEnd (left (inlet_reader new))

-- all was read
pub record ReadsToEnd {R : Type 0} (left : R → Option (List ℕ)) (old new : Inlet R) : Type 0 where
  pub bytes : List ℕ
  pub reads : Reads left old new bytes
  pub at_end : IsAtEnd (left (inlet_reader new))

-- all was read, and appended
pub record ReadsAll {R : Type 0} (left : R → Option (List ℕ)) (old new : Inlet R) (bytes_old bytes_new : List ℕ) : Type 0 where
  pub bytes : List ℕ
  pub reads : Reads left old new bytes
  pub appended : bytes_new ≡ bytes_old ++ bytes
  pub at_end : IsAtEnd (left (inlet_reader new))
