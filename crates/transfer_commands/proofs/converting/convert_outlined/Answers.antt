use Rattle.std.proofs.Common.{false, true, ◌≡◌, ◌∙◌, IsTrue, Ok, Some, [], ap, refl, subst, inl, inr}
use Rattle.std.specs.Prelude.{is_ok}
use Rattle.folder_core.specs.Files.{IsGiven, IsGivenUp, KeepsOthers, View}
use Rattle.folder_core.proofs.FileLaws.{given_up, not_kept}
use Rattle.request_core.specs.declared.fault.Fault.{Fault}
use Rattle.std.proofs.Common.{Err}
use Rattle.transfer_commands.specs.Converting.{ConvertsTo, LeavesConvertedPrefix}
use Rattle.transfer_commands.specs.Outlining.{OutlinesRead}
use Rattle.transfer_commands.proofs.ConvertLaws.{converts_all, converts_none, converts_prefix, outlined_unconverted}
use Rattle.transfer_commands.proofs.converting.convert_outlined.Given.{Over}
use Rattle.transfer_commands.proofs.converting.convert_outlined.Goals as goal
use Rattle.transfer_commands.proofs.converting.convert_outlined.Goals.{After-hand_back-handed, In-Ok-create}

pub returns-then-not-fits_in : goal.returns-then-not-fits_in
returns-then-not-fits_in g c = λ found. (
  refl,
  record {
    file = found.file;
    file_read = found.file_read;
    first = outlined_unconverted c.args.outline.now found.file c.args.form found.is_outline c.held_is_opened.ensures (λ fits. let e : false ≡ true = c.if-not-fits_in.ensures.1 fits in absurd cc);
  },
)

pub returns-in_default : goal.returns-in_default
returns-in_default g c = λ found. inl c.open.ensures.same

pub returns-in_default-create : goal.returns-in_default-create
returns-in_default-create g c = λ found.
    let same = c.in_default-create.ensures.same ∙ c.open.ensures.same in
    converts_none c.args.form c.args.input.now c.args.output.now (g.F.Folder.view c.args.folder.now) (g.F.Folder.view c.create.new.self)
    (rw same (record { others = λ other differs. refl; same_known = refl; same_keeping = refl }))
    c.args.outline.now found c.written_in_parts.ensures (c.if-not-fits_in.ensures.0 refl) (rw same refl)

-- what was known before the output was handed back
module _ (g : Over) (c : In-Ok-create g) where
  abbrev old : View
  old = g.F.Folder.view c.args.folder.now

  same : g.F.Folder.view c.create.new.self ≡ old
  same = c.in-Ok-create.ensures.same ∙ c.open.ensures.same

  given : IsGiven old c.args.input.now (g.F.In.Read.remaining c.in-Ok.file)
  given = c.in-Ok.ensures.bytes

  empty : IsTrue old.is_known → g.F.Out.Write.contents c.in-Ok-create.made ≡ Some []
  empty = subst (λ (v : View). IsTrue v.is_known → g.F.Out.Write.contents c.in-Ok-create.made ≡ Some []) c.open.ensures.same c.in-Ok-create.ensures.empty

-- it was handed back, or given up
module _ (g : Over) (c : After-hand_back-handed g) where
  abbrev k : In-Ok-create g
  k = (goal.at-After-hand_back-handed g c).In-Ok-create

  abbrev new : View
  new = g.F.Folder.view c.hand_back-handed.new.folder

  others : KeepsOthers c.args.output.now (old g k) new
  others = subst (λ (v : View). KeepsOthers c.args.output.now v new) (same g k) c.hand_back-handed.ensures.others

  -- after a fault a prefix was written, or nothing changed
  prefix : (fault : Fault) → c.convert_between-came.result.0 ≡ Err fault → OutlinesRead c.args.input.now (old g k) c.args.outline.now → LeavesConvertedPrefix c.args.form c.args.input.now c.args.output.now (old g k) new
  prefix fault is found =
      let written = g.F.Out.Write.contents c.convert_between-came.result.1 in
      let part : is_ok c.convert_between-came.result.0 ≡ false = ap is_ok is in
      let stays = given_up c.args.output.now (g.F.Folder.view c.create.new.self) new (is_ok c.convert_between-came.result.0) written c.hand_back-handed.result part c.hand_back-handed.ensures.whole c.hand_back-handed.ensures.refused in
      let ends : ConvertsTo c.args.outline.now c.args.form (g.F.In.Read.remaining c.in-Ok.file) (g.F.Out.Write.contents c.in-Ok-create.made) written (Err fault) = rw is at c.convert_between-came.ensures in
      converts_prefix c.args.form c.args.input.now c.args.output.now (old g k) new others
      c.args.outline.now found c.written_in_parts.ensures (c.if-not-fits_in.ensures.0 refl)
      (g.F.In.Read.remaining c.in-Ok.file) (g.F.Out.Write.contents c.in-Ok-create.made) written
      (given g k) (empty g k) (subst (λ (v : View). IsTrue v.is_known → IsGivenUp c.args.output.now v new written) (same g k) stays) ends.0

pub returns-in-Ok-handed : goal.returns-in-Ok-handed
returns-in-Ok-handed g c = λ found.
    let h = (goal.at.returns-in-Ok-handed g c).After-hand_back-handed in
    let made = k g h in
    let written = g.F.Out.Write.contents c.convert_between-came.result.1 in
    let ends : ConvertsTo c.args.outline.now c.args.form (g.F.In.Read.remaining c.in-Ok.file) (g.F.Out.Write.contents c.in-Ok-create.made) written (Ok c.in-Ok-came.dropped) = rw c.in-Ok-came.is at c.convert_between-came.ensures in
    converts_all c.args.form c.args.input.now c.args.output.now (old g made) (new g h) (others g h)
    (g.F.In.Read.remaining c.in-Ok.file) (g.F.Out.Write.contents c.in-Ok-create.made) written c.in-Ok-came.dropped
    (given g made) (empty g made) (subst (λ (v : View). IsTrue v.is_known → (new g h).file c.args.output.now ≡ written) (same g made) c.in-Ok-handed.ensures.bytes) ends.0 ends.1

pub returns-in-Err-handed : goal.returns-in-Err-handed
returns-in-Err-handed g c = λ found.
    let h = (goal.at.returns-in-Err-handed g c).After-hand_back-handed in
    let made = k g h in
    let whole : is_ok c.convert_between-came.result.0 ≡ true = ap is_ok c.in-Ok-came.is in
    let same_file = not_kept c.args.output.now (g.F.Folder.view c.create.new.self) (new g h) (is_ok c.convert_between-came.result.0) (g.F.Out.Write.contents c.convert_between-came.result.1) whole c.in-Err-handed.ensures.refused in
    converts_none c.args.form c.args.input.now c.args.output.now (old g made) (new g h) (others g h)
    c.args.outline.now found c.written_in_parts.ensures (c.if-not-fits_in.ensures.0 refl) (subst (λ (v : View). (new g h).file c.args.output.now ≡ v.file c.args.output.now) (same g made) same_file)

pub returns-in-Err-Stream-WriteFailed : goal.returns-in-Err-Stream-WriteFailed
returns-in-Err-Stream-WriteFailed g c = λ found. prefix g (goal.at.returns-in-Err-Stream-WriteFailed g c).After-hand_back-handed _ c.in-Err-Stream-WriteFailed.is found

pub returns-in-Err-Memory : goal.returns-in-Err-Memory
returns-in-Err-Memory g c = λ found. inr (prefix g (goal.at.returns-in-Err-Memory g c).After-hand_back-handed _ c.in-Err-Memory.is found)

pub returns-in-Err : goal.returns-in-Err
returns-in-Err g c = λ found. inr (prefix g (goal.at.returns-in-Err g c).After-hand_back-handed _ c.in-Err.is found)

pub convert_between-came-requires : goal.convert_between-came-requires
convert_between-came-requires g c = record { reported = c.requires.reported }
