-- The bytes of a file before its first sample.
use Rattle.std.specs.Prelude.{◌≡◌, ◌≤◌, ◌<◌, ℕ, ◌+◌, ◌-◌, ◌*◌, ◌/◌, ◌%◌, ◌&&◌, ◌^◌, List, ◌++◌, length, Option, Result, Ok, Err, nat_eq, nat_lt, not, if◌then◌else◌}
use Rattle.chunk_core.specs.Inlets.{PullsBytes}
use Rattle.chunk_core.specs.declared.inlet.Inlet.{Inlet}
use Rattle.dop_core.specs.Fields.{size_at}
use Rattle.dop_core.specs.Reading.{data_of, head_of}
use Rattle.dop_core.specs.declared.fault.DopFault.{DopFault}
use Rattle.dop_core.specs.declared.fault.DopFault.TheVariants.{NoSize, DataCut, PartFrame}
use Rattle.dop_core.specs.declared.head.DopHead.{DopHead}
use Rattle.dop_core.specs.declared.shape.Announced.{Announced}

-- each file that begins so has its first sample after these bytes
pub record IsFront (front : List ℕ) : Type 0 where
  pub place : ℕ
  pub long : length front ≡ place + 8
  pub found : (rest : List ℕ) → data_of (front ++ rest) ≡ Ok place

-- the bytes before the first sample were read
pub record ReadsFront {R : Type 0} (left : R → Option (List ℕ)) (old new : Inlet R) (front : List ℕ) : Type 0 where
  pub pulled : PullsBytes left old new front
  pub is_front : IsFront front

-- what a file says whose header announces this, and that has n bytes from the first sample on
abbrev pub head_by : Announced → ℕ → Result DopHead DopFault
head_by a n =
    if nat_eq a.size 0 && nat_lt 0 n then Err (NoSize 0)
    else if nat_lt n a.size then Err (DataCut a.size n)
    else if not (nat_eq (a.size % (3 * a.head.channels)) 0) then Err PartFrame
    else Ok a.head

-- the bytes before the first sample announce this, whatever follows
pub record Announces (front : List ℕ) (a : Announced) : Type 0 where
  pub start : a.head.start ≡ length front
  pub long : 8 ≤ length front
  pub size_is : (rest : List ℕ) → size_at (front ++ rest) (length front - 8) ≡ a.size
  pub some : 1 ≤ a.head.channels
  pub six : a.head.channels ≤ 6
  pub rate_low : 1000000 ≤ a.head.rate
  pub rate_high : a.head.rate ≤ 50000000
  pub frames : a.head.frames ≡ a.size / (3 * a.head.channels)
  pub few : a.size < 2 ^ 32
  pub heads : (rest : List ℕ) → head_of (front ++ rest) ≡ head_by a (length rest)
