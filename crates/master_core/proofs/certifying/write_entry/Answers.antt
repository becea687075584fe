use Rattle.std.proofs.Common.{false, ◌≡◌, ℕ, List, Option, ◌-◌, ◌^◌, ◌∙◌, ap, arith, length, subst, sym}
use Rattle.std.specs.Io.KnownBytes.{Appends}
use Rattle.cost_core.specs.Bridges.{Bridging}
use Rattle.cost_core.specs.Limits.{IsBridging}
use Rattle.cost_core.specs.StateCosts.{trellis_of}
use Rattle.cost_core.specs.Trellis.{Trellis}
use Rattle.cert_core.specs.Spelling.{row_text, version_number, version_of}
use Rattle.cert_core.specs.Text.{entry_start}
use Rattle.cert_core.specs.Writers.{Stage, cert_outlet, has_failed, stage}
use Rattle.cert_core.specs.declared.version.Version.{Version}
use Rattle.cert_core.specs.declared.version.Version.TheVariants.{Two}
use Rattle.chunk_core.specs.Outlets.{AppendsPart, outlet_writer}
use Rattle.trellis_core.specs.Handing.{HandsOverAll, HandsOverUpTo, capped_spelling}
use Rattle.trellis_core.specs.Passes.{HasBuffers}
use Rattle.master_core.proofs.CertLaws.{cut_in_cost, cut_in_rows, cut_in_start, entry_whole, failed_write, part_is_prefix}
use Rattle.master_core.proofs.certifying.write_entry.Given.{Over}
use Rattle.master_core.proofs.certifying.write_entry.Goals as goal
use Rattle.master_core.proofs.certifying.write_entry.Goals.{In-Ok}

width_is : (d : Bridging) → IsBridging d → length d.weights - 1 ≡ length d.preceding
width_is d limits = omega (arith, limits.before)

-- the start of the entry was written
started : (g : Over) (c : In-Ok g) → Appends (g.W.Write.contents (outlet_writer (cert_outlet c.args.writer.now))) (g.W.Write.contents (outlet_writer (cert_outlet c.begin_bridge.new.self))) (entry_start c.args.place.cue c.args.place.channel c.args.window.now.levels)
started g c =
    let a = g.W.Write.contents (outlet_writer (cert_outlet c.args.writer.now)) in
    let b = g.W.Write.contents (outlet_writer (cert_outlet c.begin_bridge.new.self)) in
    subst (λ n. Appends a b (entry_start c.args.place.cue c.args.place.channel n)) c.length-length.ensures.value c.in-Ok.ensures.ok

-- its rows are of version 2
version_is : (g : Over) (c : In-Ok g) → (stage c.begin_bridge.new.self).version ≡ Two
version_is g c = ap (λ (s : Stage). s.version) c.in-Ok.ensures.begun ∙ c.requires.ready.version_is

-- and those that were handed over are written in it
rows_written : (t : Trellis) (cost : ℕ) (b e : Option (List ℕ)) (v : Version) → v ≡ Two → HandsOverAll t (capped_spelling cost (row_text (version_of (version_number v)))) b e → HandsOverAll t (capped_spelling cost (row_text Two)) b e
rows_written t cost b e v version handed = subst (λ (v : Version). HandsOverAll t (capped_spelling cost (row_text (version_of (version_number v)))) b e) version handed

pub returns-in_default : goal.returns-in_default
returns-in_default g c = record {
  ok = tt;
  err = let x = c.args.chosen.now in
      let a = g.W.Write.contents (outlet_writer (cert_outlet c.args.writer.now)) in
      let b = g.W.Write.contents (outlet_writer (cert_outlet c.begin_bridge.new.self)) in
      failed_write c.in_default.field-0 (has_failed c.args.writer.now) c.requires.ready.fine c.in_default.ensures.failed (λ e.
      let part = subst (λ n. AppendsPart a b (entry_start c.args.place.cue c.args.place.channel n)) c.length-length.ensures.value (c.in_default.ensures.device e) in
      cut_in_start c.args.window.now c.args.place.cue c.args.place.channel x.bits x.cost c.requires.chosen.cost_is a b (part_is_prefix a b _ part));
  ready = tt;
  left = tt;
  room = tt;
  failed = c.in_default.ensures.refused;
  before = ap (λ (s : Stage). s.failures) c.in_default.ensures.kept;
}

pub returns-in_default-hand_capped : goal.returns-in_default-hand_capped
returns-in_default-hand_capped g c = record {
  ok = tt;
  err = let x = c.args.chosen.now in
      let b = g.W.Write.contents (outlet_writer (cert_outlet c.begin_bridge.new.self)) in
      let e = g.W.Write.contents (outlet_writer (cert_outlet c.hand_capped.new.sink)) in
      let begun = (goal.at.returns-in_default-hand_capped g c).In-Ok in
      let rows = subst (λ (v : Version). HandsOverUpTo (trellis_of c.args.window.now) (capped_spelling x.cost (row_text (version_of (version_number v)))) b e) (version_is g begun) c.in_default-hand_capped.ensures.err in
      cut_in_rows c.args.window.now c.args.place.cue c.args.place.channel x.bits x.cost c.requires.chosen.cost_is _ b e (started g begun) rows;
  ready = tt;
  left = tt;
  room = tt;
  failed = c.in_default-hand_capped.ensures.refused;
  before = ap (λ (s : Stage). s.failures) (c.hand_capped.ensures.kept ∙ c.in-Ok.ensures.begun);
}

pub returns-in_default-end_bridge : goal.returns-in_default-end_bridge
returns-in_default-end_bridge g c = record {
  ok = tt;
  err = let x = c.args.chosen.now in
      let e = g.W.Write.contents (outlet_writer (cert_outlet c.hand_capped.new.sink)) in
      let f = g.W.Write.contents (outlet_writer (cert_outlet c.end_bridge.new.self)) in
      let at = goal.at.returns-in_default-end_bridge g c in
      failed_write c.in_default-end_bridge.field-0 (has_failed c.hand_capped.new.sink) c.in-Ok-hand_capped.ensures.refused c.in_default-end_bridge.ensures.failed (λ w.
      cut_in_cost c.args.window.now c.args.place.cue c.args.place.channel x.bits x.cost c.requires.chosen.cost_is _ _ e f
      (started g at.In-Ok) (rows_written (trellis_of c.args.window.now) x.cost _ _ (stage c.begin_bridge.new.self).version (version_is g at.In-Ok) c.in-Ok-hand_capped.ensures.ok) (part_is_prefix e f _ (c.in_default-end_bridge.ensures.device w)));
  ready = tt;
  left = tt;
  room = tt;
  failed = c.in_default-end_bridge.ensures.refused;
  before = ap (λ (s : Stage). s.failures) (c.in_default-end_bridge.ensures.kept ∙ c.hand_capped.ensures.kept ∙ c.in-Ok.ensures.begun);
}

pub returns : goal.returns
returns g c =
    let s = c.in-Ok-end_bridge.ensures.ended ∙ ap (λ (s : Stage). record s { is_open = false }) (c.hand_capped.ensures.kept ∙ c.in-Ok.ensures.begun) in
    record {
      ok = let x = c.args.chosen.now in
          let at = goal.at.returns g c in
          entry_whole c.args.window.now c.args.place.cue c.args.place.channel x.bits x.cost c.requires.chosen.cost_is _ _ _ _
          (started g at.In-Ok) (rows_written (trellis_of c.args.window.now) x.cost _ _ (stage c.begin_bridge.new.self).version (version_is g at.In-Ok) c.in-Ok-hand_capped.ensures.ok) c.in-Ok-end_bridge.ensures.ok;
      err = tt;
      ready = record {
        version_is = ap (λ (s : Stage). s.version) s ∙ c.requires.ready.version_is;
        weights_are = ap (λ (s : Stage). s.weights) s ∙ c.requires.ready.weights_are;
        begun = ap (λ (s : Stage). s.has_head) s ∙ c.requires.ready.begun;
        closed = ap (λ (s : Stage). s.is_open) s;
        fine = c.in-Ok-end_bridge.ensures.refused;
      };
      left = omega (arith, ap (λ (s : Stage). s.entries_left) s, c.requires.entries);
      room = subst (λ n. HasBuffers (2 ^ n) c.hand_capped.new.room) (sym (width_is c.args.window.now c.length-length.ensures.limits)) c.in-Ok-hand_capped.ensures.buffers;
      failed = c.in-Ok-end_bridge.ensures.refused;
      before = ap (λ (s : Stage). s.failures) (c.in-Ok-end_bridge.ensures.ended ∙ ap (λ (s : Stage). record s { is_open = false }) (c.hand_capped.ensures.kept ∙ c.in-Ok.ensures.begun));
    }

pub hand_capped-requires-clause-buffers : goal.hand_capped-requires-clause-buffers
hand_capped-requires-clause-buffers g c = subst (λ n. HasBuffers (2 ^ n) c.args.pass.now) (width_is c.args.window.now c.length-length.ensures.limits) c.requires.room

pub hand_capped-requires-clause-rows : goal.hand_capped-requires-clause-rows
hand_capped-requires-clause-rows g c = rw c.in-Ok.ensures.refused (omega (arith, c.in-Ok.ensures.rows, c.length-length.ensures.value))

pub hand_capped-requires-clause-row_length : goal.hand_capped-requires-clause-row_length
hand_capped-requires-clause-row_length g c =
    let weights = ap (λ (s : Stage). s.weights) c.in-Ok.ensures.begun ∙ c.requires.ready.weights_are in
    ap (λ n. 2 ^ n) (ap (λ n. n - 1) weights ∙ width_is c.args.window.now c.length-length.ensures.limits)

pub hand_capped-requires-clause-ready : goal.hand_capped-requires-clause-ready
hand_capped-requires-clause-ready g c = c.in-Ok.ensures.refused

pub end_bridge-requires-clause-open : goal.end_bridge-requires-clause-open
end_bridge-requires-clause-open g c = λ fine. ap (λ (s : Stage). s.is_open) (c.hand_capped.ensures.kept ∙ c.in-Ok.ensures.begun)

pub end_bridge-requires-clause-rows : goal.end_bridge-requires-clause-rows
end_bridge-requires-clause-rows g c = λ fine. omega (arith, rw (c.in-Ok-hand_capped.ensures.refused, c.in-Ok.ensures.refused) at c.in-Ok-hand_capped.ensures.rows_left, c.in-Ok.ensures.rows, c.length-length.ensures.value)
