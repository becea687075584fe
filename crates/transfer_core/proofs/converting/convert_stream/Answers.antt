use Rattle.std.proofs.Common.{◌≡◌, ◌+◌, ◌^◌, ◌≤◌, ◌∙◌, length, Err, add-zero, ap, arith, refl, sym}
use Rattle.chunk_core.specs.Inlets.{inlet_reader}
use Rattle.chunk_core.specs.Outlets.{outlet_writer}
use Rattle.dsdiff_core.specs.declared.write_fault.WriteFault.TheVariants as writes
use Rattle.sound_core.specs.Outlines.{around_of}
use Rattle.sound_core.proofs.HeldLaws.{held_shape}
use Rattle.form_core.specs.Parts.{head_in, tail_in}
use Rattle.transfer_core.proofs.ConversionLaws.{converts_file, converts_given, converts_prefix, ends_stand, nothing_converted, relay_holds, stream_whole, turns_as, writing_not_whole, writing_stream, writing_turns}
use Rattle.transfer_core.proofs.StreamLaws.{answered, fault_is, same_stream, stream_turns}
use Rattle.transfer_core.proofs.converting.convert_stream.Given.{Over}
use Rattle.transfer_core.proofs.converting.convert_stream.Goals as goal
use Rattle.transfer_core.proofs.converting.convert_stream.Goals.{After-relay}

-- the ends that are written
head_is : (g : Over) (c : After-relay g) → c.deref.result.now ≡ head_in c.args.form c.args.outline.now.recording c.args.outline.now.sound.count
head_is g c = c.deref.ensures.value ∙ c.in_ok-ends.ensures.head

tail_is : (g : Over) (c : After-relay g) → c.deref-2.result.now ≡ tail_in c.args.form c.args.outline.now.recording c.args.outline.now.sound.count
tail_is g c = c.deref-2.ensures.value ∙ c.in_ok-ends.ensures.tail

few : (g : Over) (c : After-relay g) → length c.deref.result.now + length c.deref-2.result.now ≤ 2 ^ 62
few g c = omega (arith, ap length c.deref.ensures.value, ap length c.deref-2.ensures.value)

-- there is much around the sound
pub returns-then-len-clause-prefix : goal.returns-then-len-clause-prefix
returns-then-len-clause-prefix g c = nothing_converted (g.R.Read.remaining (inlet_reader c.args.inlet.now)) (around_of c.args.outline.now) c.args.form (g.W.Write.contents (outlet_writer c.args.outlet.now))

pub returns-then-len-clause-refused : goal.returns-then-len-clause-refused
returns-then-len-clause-refused g c = ends_stand (g.R.Read.remaining (inlet_reader c.args.inlet.now)) (around_of c.args.outline.now) c.args.form writes.Memory (λ is. absurd cc)

pub returns-in_err-ends : goal.returns-in_err-ends
returns-in_err-ends g c =
    let left = g.R.Read.remaining (inlet_reader c.args.inlet.now) in
    let around = around_of c.args.outline.now in
    let before = g.W.Write.contents (outlet_writer c.args.outlet.now) in
    let f = c.in_err-ends.field-0.0 in
    rw (fault_is c.from_residual.result _ c.from_residual.ensures.1) (record {
      ok = tt;
      any_reader = tt;
      prefix = nothing_converted left around c.args.form before;
      refused = ends_stand left around c.args.form f (λ is. c.in_err-ends.ensures.not_whole_bytes.0 (ap Err is));
      not_whole_bytes = λ is. writing_not_whole f (c.in_err-ends.ensures.not_whole_bytes.1 is);
      read_failed = rw (writing_stream f) (sym (add-zero _));
      write_failed = rw (writing_stream f) (sym (add-zero _));
      reads = omega arith;
      turn_limit = λ is. absurd (writing_turns f is);
      unread = λ is. refl;
      unwritten = λ is. refl;
    })

pub returns-in_err-relay : goal.returns-in_err-relay
returns-in_err-relay g c =
    let at = goal.at.returns-in_err-relay g c in
    let left = g.R.Read.remaining (inlet_reader c.args.inlet.now) in
    let around = around_of c.args.outline.now in
    let before = g.W.Write.contents (outlet_writer c.args.outlet.now) in
    let f = c.in_err-relay.field-0.0 in
    rw (fault_is c.from_residual-in_err-relay.result _ c.from_residual-in_err-relay.ensures.1) (record {
      ok = tt;
      any_reader = tt;
      prefix = converts_prefix c.written_in_parts.ensures around c.requires.reported c.args.form c.in_ok-ends.ensures.fits (record { interleaving = c.interleaving_in.result; head = c.deref.result; tail = c.deref-2.result }) c.interleaving_in.ensures (head_is g at.After-relay) (tail_is g at.After-relay) left before (g.W.Write.contents (outlet_writer c.relay.new.outlet)) f c.in_err-relay.ensures.prefix;
      refused = relay_holds left around c.args.form f c.in_err-relay.ensures.fault;
      not_whole_bytes = λ is. absurd (is c.in_ok-ends.ensures.fits);
      read_failed = rw (same_stream f) c.in_err-relay.ensures.read_failed;
      write_failed = rw (same_stream f) c.in_err-relay.ensures.write_failed;
      reads = c.relay.ensures.reads;
      turn_limit = λ is. c.in_err-relay.ensures.turn_limit (turns_as f (stream_turns f is));
      unread = λ is. absurd (stream_whole f is);
      unwritten = λ is. absurd (stream_whole f is);
    })

pub returns : goal.returns
returns g c =
    let at = goal.at.returns g c in
    let left = g.R.Read.remaining (inlet_reader c.args.inlet.now) in
    let around = around_of c.args.outline.now in
    let before = g.W.Write.contents (outlet_writer c.args.outlet.now) in
    let after = g.W.Write.contents (outlet_writer c.relay.new.outlet) in
    record {
      ok = rw (c.dropped_in.ensures, c.description.ensures) (converts_file c.written_in_parts.ensures around c.requires.reported c.args.form c.in_ok-ends.ensures.fits (record { interleaving = c.interleaving_in.result; head = c.deref.result; tail = c.deref-2.result }) c.interleaving_in.ensures (head_is g at.After-relay) (tail_is g at.After-relay) c.converted_is_kept.ensures (λ file sound stands. held_shape c.args.outline.now c.has_shape.ensures c.requires.reported file sound stands) c.fields_fit.ensures (few g at.After-relay) left before after c.in_ok-relay.ensures.ok);
      any_reader = rw (c.dropped_in.ensures, c.description.ensures) (converts_given c.written_in_parts.ensures around c.requires.reported c.args.form c.in_ok-ends.ensures.fits (record { interleaving = c.interleaving_in.result; head = c.deref.result; tail = c.deref-2.result }) c.interleaving_in.ensures (head_is g at.After-relay) (tail_is g at.After-relay) c.converted_is_kept.ensures (λ file sound stands. held_shape c.args.outline.now c.has_shape.ensures c.requires.reported file sound stands) c.fields_fit.ensures (few g at.After-relay) g.R.Read.remaining c.args.inlet.now c.relay.new.inlet before after c.in_ok-relay.ensures.any_reader);
      prefix = tt;
      refused = tt;
      not_whole_bytes = λ is. absurd (is c.in_ok-ends.ensures.fits);
      read_failed = c.in_ok-relay.ensures.read_failed;
      write_failed = c.in_ok-relay.ensures.write_failed;
      reads = c.relay.ensures.reads;
      turn_limit = λ is. absurd (answered c.dropped_in.result _ is);
      unread = λ is. absurd (answered c.dropped_in.result _ is);
      unwritten = λ is. absurd (answered c.dropped_in.result _ is);
    }

pub relay-requires : goal.relay-requires
relay-requires g c = record {
  stated = c.requires.reported;
  whole = λ bytes. c.in_ok-ends.ensures.fits (sym c.interleaving_in.ensures ∙ bytes);
}
