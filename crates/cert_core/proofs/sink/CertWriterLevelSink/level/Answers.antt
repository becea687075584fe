use Rattle.std.specs.Prelude.{◌≡◌, ℕ, ◌+◌, ◌-◌, ◌<◌, ◌^◌, Bool, false, if◌then◌else◌}
use Rattle.std.specs.Option.{IsSome}
use Rattle.std.specs.Io.KnownBytes.{Appends}
use Rattle.std.proofs.Common.{List, [], Option, None, Some, Err, IsErrOf, ap, refl, rules, subst, sym, true≢false}
use Rattle.std.proofs.KnownBytes.{Appends-nil}
use Rattle.chunk_core.specs.Outlets.{outlet_writer, AppendsPart}
use Rattle.chunk_core.specs.declared.fused_outlet.FusedFault.{FusedFault}
use Rattle.chunk_core.specs.declared.fused_outlet.FusedFault.TheVariants.{Device, Failed}
use Rattle.cost_core.specs.Sinks.{GrowsByPrefix}
use Rattle.cert_core.specs.Spelling.{row_text, version_number, version_of}
use Rattle.cert_core.specs.Writers.{cert_outlet, cert_version, has_failed, rows_left}
use Rattle.cert_core.specs.declared.version.Version.{Version}
use Rattle.cert_core.specs.declared.version.Version.TheVariants.{One, Two}
use Rattle.cert_core.proofs.sink.CertWriterLevelSink.level.Goals as goal

pub level-requires-clause-rows : goal.level-requires-clause-rows
level-requires-clause-rows g c = λ fine. subst (λ failed. 0 < (if failed then 2 ^ 16 else rows_left c.args.self.now)) fine c.requires.rows

-- where no write failed, what is taken is what is left
taken : (before after : Bool) (old new : ℕ) → before ≡ false → after ≡ false → new + 1 ≡ old → (if after then 2 ^ 16 else new) + 1 ≡ (if before then 2 ^ 16 else old)
taken before after old new fine still left = rw (fine, still) left

-- the version that a kind is of
same_version : (v : Version) → v ≡ version_of (version_number v)
same_version One = refl
same_version Two = refl

-- what was stated stays stated
stated : (old new : Option (List ℕ)) (bytes : List ℕ) → Appends old new bytes → IsSome old → IsSome new
stated None new bytes wrote is = absurd (true≢false (sym is))
stated (Some x) None bytes wrote is = absurd wrote
stated (Some x) (Some y) bytes wrote is = refl

-- what a refusal leaves of the bytes
prefix : (old new : Option (List ℕ)) (bytes : List ℕ) (f : FusedFault) → (IsErrOf {T = Unit {0}} (Err f) Device → AppendsPart old new bytes) → (IsErrOf {T = Unit {0}} (Err f) Failed → new ≡ old) → GrowsByPrefix old new bytes
prefix old new bytes Device part same = let (prefix, back, is, some, wrote) = part refl in (prefix, back, is, wrote)
prefix old new bytes Failed part same = ([], bytes, refl, subst (λ a. Appends old a []) (sym (same refl)) (Appends-nil old))

pub returns-in-Ok : goal.returns-in-Ok
returns-in-Ok g c =
    let old = g.W.Write.contents (outlet_writer (cert_outlet c.args.self.now)) in
    let new = g.W.Write.contents (outlet_writer (cert_outlet c.level.new.self)) in
    record {
      rows = taken (has_failed c.args.self.now) (has_failed c.level.new.self) (rows_left c.args.self.now) (rows_left c.level.new.self) (search rules) c.in-Ok.ensures.refused c.in-Ok.ensures.rows;
      row_length = ap (λ s. 2 ^ (s.weights - 1)) c.level.ensures.kept;
      kind = ap (λ s. version_number s.version) c.level.ensures.kept;
      kept = c.level.ensures.kept;
      telling = stated old new _ c.in-Ok.ensures.ok;
      ok = subst (λ v. Appends old new (row_text v c.args.row.now)) (same_version (cert_version c.args.self.now)) c.in-Ok.ensures.ok;
      err = tt;
      refused = λ _. c.in-Ok.ensures.refused;
    }

pub returns-in-Err : goal.returns-in-Err
returns-in-Err g c =
    let old = g.W.Write.contents (outlet_writer (cert_outlet c.args.self.now)) in
    let new = g.W.Write.contents (outlet_writer (cert_outlet c.level.new.self)) in
    let part = prefix old new (row_text (cert_version c.args.self.now) c.args.row.now) c.in-Err.field-0 c.in-Err.ensures.device (λ h. ap (λ w. g.W.Write.contents (outlet_writer (cert_outlet w))) (c.in-Err.ensures.unchanged h)) in
    record {
      rows = tt;
      row_length = ap (λ s. 2 ^ (s.weights - 1)) c.level.ensures.kept;
      kind = ap (λ s. version_number s.version) c.level.ensures.kept;
      kept = c.level.ensures.kept;
      telling = stated old new _ part.3;
      ok = tt;
      err = subst (λ v. GrowsByPrefix old new (row_text v c.args.row.now)) (same_version (cert_version c.args.self.now)) part;
      refused = λ _. c.in-Err.ensures.refused;
    }
