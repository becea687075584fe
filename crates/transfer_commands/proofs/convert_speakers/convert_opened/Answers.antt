use Rattle.std.proofs.Common.{◌≡◌, ◌∙◌, Err, IsTrue, Ok, Some, [], ap, inl, inr, refl, ap₂, subst, sym, true, false}
use Rattle.std.specs.Prelude.{is_ok}
use Rattle.std.proofs.lemmas.Result.{err_from_is_err_and}
use Rattle.folder_core.specs.Files.{IsGiven, IsGivenUp, KeepsOthers, View}
use Rattle.folder_core.proofs.FileLaws.{given_up, not_kept}
use Rattle.form_core.specs.Forms.{dropped_in}
use Rattle.form_core.specs.declared.form.Form.{Form}
use Rattle.sound_core.specs.Outlines.{around_of}
use Rattle.sound_core.specs.declared.fault.StreamFault.{StreamFault}
use Rattle.transfer_commands.specs.Opening.{left_of}
use Rattle.transfer_commands.specs.Outlining.{OutlinesRead}
use Rattle.transfer_commands.specs.Renaming.{IsRenaming, RelaysRenamed, left_parts}
use Rattle.transfer_commands.specs.SpeakersConverting.{ConvertSpeakersComesTo, ConvertsSpeakers, LeavesSpokenPrefix}
use Rattle.transfer_commands.specs.declared.convert_speakers.SpeakersFault.TheVariants as faults
use Rattle.transfer_commands.specs.declared.fault.CommandFault.TheVariants as commands
use Rattle.transfer_commands.proofs.RenamingLaws.{speaks_all, speaks_none, speaks_prefix}
use Rattle.transfer_commands.proofs.convert_speakers.convert_opened.Given.{Over}
use Rattle.transfer_commands.proofs.convert_speakers.convert_opened.Goals as goal
use Rattle.transfer_commands.proofs.convert_speakers.convert_opened.Goals.{After-hand_back-handed, In-Ok}

-- what was known before the output was handed back
module _ (g : Over) (c : In-Ok g) where
  abbrev old : View
  old = g.F.Folder.view c.args.folder.now

  same : g.F.Folder.view c.create.new.self ≡ old
  same = c.in-Ok.ensures.same

  empty : IsTrue old.is_known → g.F.Out.Write.contents c.in-Ok.made ≡ Some []
  empty = c.in-Ok.ensures.empty

-- it was handed back, or given up
module _ (g : Over) (c : After-hand_back-handed g) where
  abbrev k : In-Ok g
  k = (goal.at-After-hand_back-handed g c).In-Ok

  abbrev new : View
  new = g.F.Folder.view c.hand_back-handed.new.folder

  others : KeepsOthers c.args.output.now (old g k) new
  others = subst (λ (v : View). KeepsOthers c.args.output.now v new) (same g k) c.hand_back-handed.ensures.others

  -- after a fault a prefix was written, or nothing changed
  prefix : (fault : StreamFault) → c.relay_renamed-came.result.0 ≡ Err fault → (form : Form) (input : _) → OutlinesRead input (old g k) c.args.outline.now → IsRenaming form (around_of c.args.outline.now) c.args.renaming
      → IsGiven (old g k) input (left_of g.R.Read.remaining c.args.opened) → LeavesSpokenPrefix form input c.args.output.now (old g k) new
  prefix fault is form input found renaming given =
      let written = g.F.Out.Write.contents c.relay_renamed-came.result.1 in
      let part : is_ok c.relay_renamed-came.result.0 ≡ false = ap is_ok is in
      let stays = given_up c.args.output.now (g.F.Folder.view c.create.new.self) new (is_ok c.relay_renamed-came.result.0) written c.hand_back-handed.result part c.hand_back-handed.ensures.whole c.hand_back-handed.ensures.refused in
      let ends : RelaysRenamed (left_parts g.R.Read.remaining c.in_ok-parts.parts) (around_of c.args.outline.now) c.args.renaming (g.F.Out.Write.contents c.in-Ok.made) written (Err fault) = rw is at c.relay_renamed-came.ensures form renaming in
      speaks_prefix form input c.args.output.now (old g k) new others c.args.outline.now found c.written_in_parts.ensures c.args.renaming renaming
      (left_parts g.R.Read.remaining c.in_ok-parts.parts) (g.F.Out.Write.contents c.in-Ok.made) written fault
      (subst (IsGiven (old g k) input) (sym (c.in_ok-parts.ensures.left g.R.Read.remaining)) given) (empty g k) (subst (λ (v : View). IsTrue v.is_known → IsGivenUp c.args.output.now v new written) (same g k) stays) ends

pub returns-then-ne : goal.returns-then-ne
returns-then-ne g c = λ form input found renaming given. inl refl

pub returns-in_err-parts : goal.returns-in_err-parts
returns-in_err-parts g c = λ form input found renaming given.
    let view = g.F.Folder.view in
    let e = err_from_is_err_and c.from_residual.result c.from_residual.ensures.1 in
    subst (ConvertSpeakersComesTo form input c.args.output.now (view c.args.folder.now) (view c.args.folder.now)) (sym (e.1 ∙ ap Err (e.2 ∙ ap (λ f. faults.Command (commands.Call f)) c.in_err-parts.ensures.fault))) (inl refl)

pub returns-in_default : goal.returns-in_default
returns-in_default g c = λ form input found renaming given.
    let same = c.in_default.ensures.same in
    speaks_none form input c.args.output.now (g.F.Folder.view c.args.folder.now) (g.F.Folder.view c.create.new.self)
    (rw same (record { others = λ other differs. refl; same_known = refl; same_keeping = refl }))
    c.args.outline.now found c.written_in_parts.ensures c.args.renaming renaming (rw same refl)

pub returns-in-Ok-handed : goal.returns-in-Ok-handed
returns-in-Ok-handed g c = λ form input found renaming given.
    let h = (goal.at.returns-in-Ok-handed g c).After-hand_back-handed in
    let made = k g h in
    let written = g.F.Out.Write.contents c.relay_renamed-came.result.1 in
    let ends : RelaysRenamed (left_parts g.R.Read.remaining c.in_ok-parts.parts) (around_of c.args.outline.now) c.args.renaming (g.F.Out.Write.contents c.in-Ok.made) written (Ok tt) = rw c.in-Ok-came.is at c.relay_renamed-came.ensures form renaming in
    let counts = c.dropped_in-dropped.ensures ∙ ap₂ (λ f d. dropped_in f d) renaming.form_is (c.description.ensures) in
    subst (ConvertsSpeakers form input c.args.output.now (old g made) (new g h)) (sym counts)
    (speaks_all form input c.args.output.now (old g made) (new g h) (others g h) c.args.outline.now found c.written_in_parts.ensures c.args.renaming renaming
    (left_parts g.R.Read.remaining c.in_ok-parts.parts) (g.F.Out.Write.contents c.in-Ok.made) written
    (subst (IsGiven (old g made) input) (sym (c.in_ok-parts.ensures.left g.R.Read.remaining)) given) (empty g made) (subst (λ (v : View). IsTrue v.is_known → (new g h).file c.args.output.now ≡ written) (same g made) c.in-Ok-handed.ensures.bytes) ends)

pub returns-in-Err-handed : goal.returns-in-Err-handed
returns-in-Err-handed g c = λ form input found renaming given.
    let h = (goal.at.returns-in-Err-handed g c).After-hand_back-handed in
    let made = k g h in
    let whole : is_ok c.relay_renamed-came.result.0 ≡ true = ap is_ok c.in-Ok-came.is in
    let same_file = not_kept c.args.output.now (g.F.Folder.view c.create.new.self) (new g h) (is_ok c.relay_renamed-came.result.0) (g.F.Out.Write.contents c.relay_renamed-came.result.1) whole c.in-Err-handed.ensures.refused in
    speaks_none form input c.args.output.now (old g made) (new g h) (others g h) c.args.outline.now found c.written_in_parts.ensures c.args.renaming renaming (subst (λ (v : View). (new g h).file c.args.output.now ≡ v.file c.args.output.now) (same g made) same_file)

pub returns-in-Err-WriteFailed : goal.returns-in-Err-WriteFailed
returns-in-Err-WriteFailed g c = λ form input found renaming given. prefix g (goal.at.returns-in-Err-WriteFailed g c).After-hand_back-handed _ c.in-Err-WriteFailed.is form input found renaming given

pub returns-in-Err-Memory : goal.returns-in-Err-Memory
returns-in-Err-Memory g c = λ form input found renaming given. inr (prefix g (goal.at.returns-in-Err-Memory g c).After-hand_back-handed _ c.in-Err-Memory.is form input found renaming given)

pub returns-in-Err : goal.returns-in-Err
returns-in-Err g c = λ form input found renaming given. inr (prefix g (goal.at.returns-in-Err g c).After-hand_back-handed _ c.in-Err.is form input found renaming given)

pub parts_of-requires : goal.parts_of-requires
parts_of-requires g c = record { within = c.requires.within }

pub relay_renamed-came-requires-clause-stated : goal.relay_renamed-came-requires-clause-stated
relay_renamed-came-requires-clause-stated g c = c.requires.stated

pub relay_renamed-came-requires-clause-fits : goal.relay_renamed-came-requires-clause-fits
relay_renamed-came-requires-clause-fits g c = c.requires.fits
