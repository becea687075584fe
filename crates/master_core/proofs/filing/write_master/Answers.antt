use Rattle.std.proofs.Common.{◌≡◌, ◌+◌, ◌∙◌, ap, subst, sym}
use Rattle.std.proofs.lemmas.Result.{err_from_is_err_and, on_err_weaker, on_ok_weaker}
use Rattle.std.specs.Prelude.{MatchResult}
use Rattle.std.specs.Io.KnownBytes.{Appends}
use Rattle.dsd_bits.proofs.ExitLaws.{any_err}
use Rattle.chunk_core.specs.Outlets.{AppendsPart, outlet_failures, outlet_writer}
use Rattle.form_core.specs.Parts.{interleaving_in}
use Rattle.cut_core.proofs.CutLaws.{first_shape}
use Rattle.master_core.specs.Parting.{HasChosen}
use Rattle.master_core.specs.Writing.{WritesBest, WritesBestPrefix}
use Rattle.master_core.proofs.FilingLaws.{file_whole, head_prefix, sound_prefix, tail_prefix}
use Rattle.master_core.proofs.filing.write_master.Given.{Over}
use Rattle.master_core.proofs.filing.write_master.Goals as goal
use Rattle.master_core.proofs.filing.write_master.Goals.{After-deref-2, In_ok-put_all, In_ok-write_sound}

pub returns-in_err-put_all : goal.returns-in_err-put_all
returns-in_err-put_all g c =
    let e = err_from_is_err_and c.from_residual.result c.from_residual.ensures.1 in
    record {
      room = c.requires.room;
      ok = rw e.1 tt;
      prefix = let cut = c.args.cut.now in
          let a0 = g.W.Write.contents (outlet_writer c.args.outlet.now) in
          let a1 = g.W.Write.contents (outlet_writer c.put_all.new.self) in
          any_err c.from_residual.result (head_prefix cut c.args.form c.written_in_parts.ensures c.args.ends.now c.requires.ends c.has_one_best.ensures (first_shape cut c.can_cut.ensures).some_channel a0 a1
          (subst (AppendsPart a0 a1) c.deref-3.ensures.value c.in_err-put_all.ensures.err));
      failures = rw e.1 c.in_err-put_all.ensures.failures;
    }

-- what is before the sound was written
head_out : (g : Over) (c : In_ok-put_all g) → Appends (g.W.Write.contents (outlet_writer c.args.outlet.now)) (g.W.Write.contents (outlet_writer c.put_all.new.self)) c.args.ends.now.head.items
head_out g c =
    let a0 = g.W.Write.contents (outlet_writer c.args.outlet.now) in
    let a1 = g.W.Write.contents (outlet_writer c.put_all.new.self) in
    subst (Appends a0 a1) c.deref-3.ensures.value c.in_ok-put_all.ensures.ok

pub returns-in_err-write_sound : goal.returns-in_err-write_sound
returns-in_err-write_sound g c =
    let e = err_from_is_err_and c.from_residual-in_err-write_sound.result c.from_residual-in_err-write_sound.ensures.1 in
    record {
      room = c.in_err-write_sound.ensures.room;
      ok = rw e.1 tt;
      prefix = let cut = c.args.cut.now in
          let a0 = g.W.Write.contents (outlet_writer c.args.outlet.now) in
          let a1 = g.W.Write.contents (outlet_writer c.put_all.new.self) in
          let a2 = g.W.Write.contents (outlet_writer c.write_sound.new.outlet) in
          any_err c.from_residual-in_err-write_sound.result (sound_prefix cut c.args.form c.written_in_parts.ensures c.args.ends.now c.requires.ends c.has_one_best.ensures (first_shape cut c.can_cut.ensures).some_channel a0 a1
          (head_out g (goal.at.returns-in_err-write_sound g c).In_ok-put_all) a2 (subst (λ to. WritesBestPrefix cut to a1 a2) c.interleaving_in.ensures c.in_err-write_sound.ensures.prefix));
      failures = rw e.1 (c.in_err-write_sound.ensures.failures ∙ ap (λ n. n + 1) c.in_ok-put_all.ensures.failures);
    }

-- and the sound after it
sound_out : (g : Over) (c : In_ok-write_sound g) → WritesBest c.args.cut.now (interleaving_in c.args.form) (g.W.Write.contents (outlet_writer c.put_all.new.self)) (g.W.Write.contents (outlet_writer c.write_sound.new.outlet))
sound_out g c =
    let a1 = g.W.Write.contents (outlet_writer c.put_all.new.self) in
    let a2 = g.W.Write.contents (outlet_writer c.write_sound.new.outlet) in
    subst (λ to. WritesBest c.args.cut.now to a1 a2) c.interleaving_in.ensures c.in_ok-write_sound.ensures.ok

pub returns : goal.returns
returns g c =
    let a2 = g.W.Write.contents (outlet_writer c.write_sound.new.outlet) in
    let a3 = g.W.Write.contents (outlet_writer c.put_all-2.new.self) in
    let at = goal.at.returns g c in
    record {
      room = c.in_ok-write_sound.ensures.room;
      ok = on_ok_weaker c.put_all-2.result (λ out. file_whole c.args.cut.now c.args.form c.written_in_parts.ensures c.args.ends.now c.requires.ends c.has_one_best.ensures (first_shape c.args.cut.now c.can_cut.ensures).some_channel _ _
          (head_out g at.In_ok-put_all) a2 (sound_out g at.In_ok-write_sound) a3 (subst (Appends a2 a3) c.deref-4.ensures.value out)) c.put_all-2.ensures.ok;
      prefix = on_err_weaker c.put_all-2.result (λ out. tail_prefix c.args.cut.now c.args.form c.written_in_parts.ensures c.args.ends.now c.requires.ends c.has_one_best.ensures (first_shape c.args.cut.now c.can_cut.ensures).some_channel _ _
          (head_out g at.In_ok-put_all) a2 (sound_out g at.In_ok-write_sound) a3 (subst (AppendsPart a2 a3) c.deref-4.ensures.value out)) c.put_all-2.ensures.err;
      failures = let now = outlet_failures c.put_all-2.new.self in
          subst (λ n. MatchResult c.put_all-2.result (λ _. now ≡ n) (λ _. now ≡ n + 1)) (c.in_ok-write_sound.ensures.failures ∙ c.in_ok-put_all.ensures.failures) c.put_all-2.ensures.failures;
    }

-- ---- the other clauses
pub put_all-requires : goal.put_all-requires
put_all-requires g c = c.requires.outlet_ready

pub put_all-requires-2 : goal.put_all-requires-2
put_all-requires-2 g c = rw (c.in_ok-write_sound.ensures.failures, c.in_ok-put_all.ensures.failures) c.requires.outlet_ready

-- the bridges' bits are those that were chosen
chosen : (g : Over) (c : After-deref-2 g) → HasChosen (record { cut = c.args.cut; places = c.deref.result; chosen = c.deref-2.result })
chosen g c = record { places = c.deref.ensures.value ∙ c.requires.bridges.places_are; chosen = rw c.deref-2.ensures.value c.requires.bridges.chosen }

pub write_sound-requires : goal.write_sound-requires
write_sound-requires g c = record {
  ready = chosen g (goal.at.write_sound-requires g c).After-deref-2;
  whole = λ bytes. c.requires.ends.fits (sym c.interleaving_in.ensures ∙ bytes);
  room = c.requires.room;
  outlet_ready = rw c.in_ok-put_all.ensures.failures c.requires.outlet_ready;
}

pub has_one_best-requires : goal.has_one_best-requires
has_one_best-requires g c = chosen g (goal.at.has_one_best-requires g c).After-deref-2
