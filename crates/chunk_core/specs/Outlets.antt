-- What contracts see of an outlet, and of bytes that were written in part.
use Rattle.std.specs.Prelude.{◌≡◌, ℕ, ◌<◌, List, ◌++◌, length, Option}
use Rattle.std.specs.Io.KnownBytes.{Appends}
use Rattle.chunk_core.specs.declared.outlet.Outlet.{Outlet}

-- the writer itself
abbrev pub outlet_writer : {W : Type 0} → Outlet W → W
outlet_writer outlet = outlet.writer

-- the number of writes that failed, or accepted none of some bytes
abbrev pub outlet_failures : {W : Type 0} → Outlet W → ℕ
outlet_failures outlet = outlet.failures

-- a writer's bytes, if they are known, grew by a prefix of these
abbrev pub AppendsPrefix : Option (List ℕ) → Option (List ℕ) → List ℕ → Type 0
AppendsPrefix old new all = (prefix : List ℕ) × (back : List ℕ) × (all ≡ prefix ++ back) × Appends old new prefix

-- a writer's bytes, if they are known, grew by a prefix of these, and not by all of them
abbrev pub AppendsPart : Option (List ℕ) → Option (List ℕ) → List ℕ → Type 0
AppendsPart old new all = (prefix : List ℕ) × (back : List ℕ) × (all ≡ prefix ++ back) × (0 < length back) × Appends old new prefix

-- these bytes were written
abbrev pub Puts : {W : Type 0} → (W → Option (List ℕ)) → Outlet W → Outlet W → List ℕ → Type 0
Puts contents old new bytes = Appends (contents (outlet_writer old)) (contents (outlet_writer new)) bytes

-- a prefix of these bytes was written
abbrev pub PutsPrefix : {W : Type 0} → (W → Option (List ℕ)) → Outlet W → Outlet W → List ℕ → Type 0
PutsPrefix contents old new all = AppendsPrefix (contents (outlet_writer old)) (contents (outlet_writer new)) all

-- a prefix of these bytes was written, and not all of them
abbrev pub PutsPart : {W : Type 0} → (W → Option (List ℕ)) → Outlet W → Outlet W → List ℕ → Type 0
PutsPart contents old new all = AppendsPart (contents (outlet_writer old)) (contents (outlet_writer new)) all
