use Rattle.std.proofs.Common.{false, true, ◌≡◌, ◌∙◌, IsTrue, Ok, Err, Some, [], ap, refl, subst, sym, inl, inr}
use Rattle.std.specs.Prelude.{is_ok}
use Rattle.dop_core.specs.declared.stop.DopStop.{DopStop}
use Rattle.folder_core.specs.Files.{IsGiven, IsGivenUp, KeepsOthers, View}
use Rattle.folder_core.proofs.FileLaws.{given_up, not_kept}
use Rattle.form_core.specs.Parts.{FitsIn}
use Rattle.transfer_commands.specs.DopConverting.{ConvertsDopTo, LeavesDopPart, ScansRead}
use Rattle.transfer_commands.proofs.DopFileLaws.{dop_all, dop_none, dop_part_byte, dop_prefix}
use Rattle.transfer_commands.proofs.convert_dop.convert_scanned.Given.{Over}
use Rattle.transfer_commands.proofs.convert_dop.convert_scanned.Goals as goal
use Rattle.transfer_commands.proofs.convert_dop.convert_scanned.Goals.{After-hand_back-handed, In-Ok-create}

pub returns-then-not-fits_in : goal.returns-then-not-fits_in
returns-then-not-fits_in g c = λ found. (refl, dop_part_byte c.args.form c.args.input.now (g.F.Folder.view c.args.folder.now) c.args.outline.now found (λ fits. let e : false ≡ true = c.if-not-fits_in.ensures.1 (subst (FitsIn c.args.form) (sym c.count.ensures) fits) in absurd cc))

pub returns-in_default : goal.returns-in_default
returns-in_default g c = λ found. inl c.open.ensures.same

pub returns-in_default-create : goal.returns-in_default-create
returns-in_default-create g c = λ found.
    let same = c.in_default-create.ensures.same ∙ c.open.ensures.same in
    dop_none c.args.form c.args.input.now c.args.output.now (g.F.Folder.view c.args.folder.now) (g.F.Folder.view c.create.new.self)
    (rw same (record { others = λ other differs. refl; same_known = refl; same_keeping = refl }))
    c.args.outline.now found c.written_in_parts.ensures (subst (FitsIn c.args.form) c.count.ensures (c.if-not-fits_in.ensures.0 refl)) (rw same refl)

-- what was known before the output was handed back
module _ (g : Over) (c : In-Ok-create g) where
  abbrev old : View
  old = g.F.Folder.view c.args.folder.now

  same : g.F.Folder.view c.create.new.self ≡ old
  same = c.in-Ok-create.ensures.same ∙ c.open.ensures.same

  given : IsGiven old c.args.input.now (g.F.In.Read.remaining c.in-Ok.file)
  given = c.in-Ok.ensures.bytes

  empty : IsTrue old.is_known → g.F.Out.Write.contents c.in-Ok-create.made ≡ Some []
  empty = subst (λ (v : View). IsTrue v.is_known → g.F.Out.Write.contents c.in-Ok-create.made ≡ Some []) c.open.ensures.same c.in-Ok-create.ensures.empty

-- it was handed back, or given up
module _ (g : Over) (c : After-hand_back-handed g) where
  abbrev k : In-Ok-create g
  k = (goal.at-After-hand_back-handed g c).In-Ok-create

  abbrev new : View
  new = g.F.Folder.view c.hand_back-handed.new.folder

  others : KeepsOthers c.args.output.now (old g k) new
  others = subst (λ (v : View). KeepsOthers c.args.output.now v new) (same g k) c.hand_back-handed.ensures.others

  -- after a fault a prefix was written, or nothing changed
  prefix : (stop : DopStop) → c.convert_dop_between-came.result.0 ≡ Err stop → ScansRead c.args.input.now (old g k) c.args.outline.now → LeavesDopPart c.args.form c.args.input.now c.args.output.now (old g k) new
  prefix stop is found =
      let written = g.F.Out.Write.contents c.convert_dop_between-came.result.1 in
      let part : is_ok c.convert_dop_between-came.result.0 ≡ false = ap is_ok is in
      let stays = given_up c.args.output.now (g.F.Folder.view c.create.new.self) new (is_ok c.convert_dop_between-came.result.0) written c.hand_back-handed.result part c.hand_back-handed.ensures.whole c.hand_back-handed.ensures.refused in
      let ends : ConvertsDopTo c.args.outline.now c.args.form (g.F.In.Read.remaining c.in-Ok.file) (g.F.Out.Write.contents c.in-Ok-create.made) written (Err stop) = rw is at c.convert_dop_between-came.ensures in
      dop_prefix c.args.form c.args.input.now c.args.output.now (old g k) new others
      c.args.outline.now found c.written_in_parts.ensures (subst (FitsIn c.args.form) c.count.ensures (c.if-not-fits_in.ensures.0 refl))
      (g.F.In.Read.remaining c.in-Ok.file) (g.F.Out.Write.contents c.in-Ok-create.made) written
      (given g k) (empty g k) (subst (λ (v : View). IsTrue v.is_known → IsGivenUp c.args.output.now v new written) (same g k) stays) ends

pub returns-in-Ok-handed : goal.returns-in-Ok-handed
returns-in-Ok-handed g c = λ found.
    let h = (goal.at.returns-in-Ok-handed g c).After-hand_back-handed in
    let made = k g h in
    let written = g.F.Out.Write.contents c.convert_dop_between-came.result.1 in
    let ends : ConvertsDopTo c.args.outline.now c.args.form (g.F.In.Read.remaining c.in-Ok.file) (g.F.Out.Write.contents c.in-Ok-create.made) written (Ok tt) = rw c.in-Ok-came.is at c.convert_dop_between-came.ensures in
    dop_all c.args.form c.args.input.now c.args.output.now (old g made) (new g h) (others g h)
    (g.F.In.Read.remaining c.in-Ok.file) (g.F.Out.Write.contents c.in-Ok-create.made) written
    (given g made) (empty g made) (subst (λ (v : View). IsTrue v.is_known → (new g h).file c.args.output.now ≡ written) (same g made) c.in-Ok-handed.ensures.bytes) ends.0 ends.1

pub returns-in-Err-handed : goal.returns-in-Err-handed
returns-in-Err-handed g c = λ found.
    let h = (goal.at.returns-in-Err-handed g c).After-hand_back-handed in
    let made = k g h in
    let whole : is_ok c.convert_dop_between-came.result.0 ≡ true = ap is_ok c.in-Ok-came.is in
    let same_file = not_kept c.args.output.now (g.F.Folder.view c.create.new.self) (new g h) (is_ok c.convert_dop_between-came.result.0) (g.F.Out.Write.contents c.convert_dop_between-came.result.1) whole c.in-Err-handed.ensures.refused in
    dop_none c.args.form c.args.input.now c.args.output.now (old g made) (new g h) (others g h)
    c.args.outline.now found c.written_in_parts.ensures (subst (FitsIn c.args.form) c.count.ensures (c.if-not-fits_in.ensures.0 refl)) (subst (λ (v : View). (new g h).file c.args.output.now ≡ v.file c.args.output.now) (same g made) same_file)

pub returns-in-Err-WriteFailed : goal.returns-in-Err-WriteFailed
returns-in-Err-WriteFailed g c = λ found. prefix g (goal.at.returns-in-Err-WriteFailed g c).After-hand_back-handed _ c.in-Err-WriteFailed.is found

pub returns-in-Err-Memory : goal.returns-in-Err-Memory
returns-in-Err-Memory g c = λ found. inr (prefix g (goal.at.returns-in-Err-Memory g c).After-hand_back-handed _ c.in-Err-Memory.is found)

pub returns-in-Err : goal.returns-in-Err
returns-in-Err g c = λ found. inr (prefix g (goal.at.returns-in-Err g c).After-hand_back-handed _ c.in-Err.is found)

pub convert_dop_between-came-requires : goal.convert_dop_between-came-requires
convert_dop_between-came-requires g c = record { outline = c.requires.outline; fits = subst (FitsIn c.args.form) c.count.ensures (c.if-not-fits_in.ensures.0 refl) }
