use Rattle.std.specs.Prelude.{nat_lt}
use Rattle.std.proofs.Common.{◌≡◌, ◌++◌, ◌∙◌, ℕ, List, Some, sym, ap, arith, length, min, refl, subst, take}
use Rattle.chunk_core.specs.Inlets.{inlet_reader}
use Rattle.dsdiff_core.specs.Outlines.{StatesOutline}
use Rattle.sound_core.specs.Naming.{is_memory}
use Rattle.sound_core.specs.Outlines.{IsRestFault}
use Rattle.sound_core.proofs.AfterLaws.{IsAfterSound, fails_is, frames_around, frames_named, frames_refused, is_after, not_memory}
use Rattle.sound_core.proofs.ClosingLaws.{form_ends_at}
use Rattle.sound_core.proofs.FaultLaws.{by_reading, fault_is, reading_unnamed}
use Rattle.sound_core.proofs.ReaderLaws.{counts_kept, same_counts}
use Rattle.dsdiff_core.specs.Located.{stated_size}
use Rattle.dsdiff_core.specs.Reading.{recording_of}
use Rattle.dsdiff_core.specs.Steps.{Fails}
use Rattle.sound_core.proofs.NamingLaws.{no_recording}
use Rattle.dsdiff_core.proofs.HeadLaws.{ends_at_head}
use Rattle.sound_core.proofs.outline.after_frames.Given.{Over}
use Rattle.sound_core.proofs.outline.after_frames.Goals as goal
use Rattle.sound_core.proofs.outline.after_frames.Goals.{After-truncate}

pub bytes_after_sound-wanted-requires : goal.bytes_after_sound-wanted-requires
bytes_after_sound-wanted-requires g c = (ends_at_head c.args.head.now c.args.sound.now (form_ends_at c.args.head.now c.args.sound.now c.requires.at_sound c.requires.interleaving)).0

pub outline-requires : goal.outline-requires
outline-requires g c = (c.args.sound.now, form_ends_at c.args.head.now c.args.sound.now c.requires.at_sound c.requires.interleaving)

-- what was kept of the bytes after the sound
kept_is : (g : Over) (c : After-truncate g) → IsAfterSound c.args.head.now c.args.sound.now.size c.read_until.new.self.ahead.now.items c.truncate.new.self.items (nat_lt c.len.result c.bytes_after_sound-wanted.result) (g.R.Read.remaining (inlet_reader c.read_until.new.self.inlet.now))
kept_is g c =
    let read = c.in_ok-read_until.ensures.read in
    let at = form_ends_at c.args.head.now c.args.sound.now c.requires.at_sound c.requires.interleaving in
    let size : c.len.result ≡ length c.read_until.new.self.ahead.now.items = omega (arith, c.len.ensures) in
    let again : c.len-2.result ≡ length c.read_until.new.self.ahead.now.items = omega (arith, c.len-2.ensures) in
    is_after c.args.head.now c.args.sound.now.size c.read_until.new.self.ahead.now.items c.truncate.new.self.items _ _ c.bytes_after_sound-wanted.result (c.bytes_after_sound-wanted.ensures.stated c.args.sound.now at) read.enough (ap (λ n. nat_lt n c.bytes_after_sound-wanted.result) size)
    (c.truncate.ensures.items ∙ ap (λ n. take n c.read_until.new.self.ahead.now.items) (c.min-kept.ensures ∙ ap (λ n. min n c.bytes_after_sound-wanted.result) again))

pub returns-in-Err-2-clause-named : goal.returns-in-Err-2-clause-named
returns-in-Err-2-clause-named g c = λ is.
    let read = c.in_ok-read_until.ensures.read in
    let kept = kept_is g (goal.at.returns-in-Err-2-clause-named g c).After-truncate in
    let fails = subst (λ xs. (sound : List ℕ) → length sound ≡ stated_size c.args.head.now → Fails c.in-Err.fault (recording_of (c.args.head.now ++ (sound ++ xs)))) c.as_slice.ensures.value c.in-Err.ensures.fault in
    let known = not_memory c.in-Err.fault (sym c.is_memory.ensures ∙ c.if-is_memory.false) in
    (_, refl, (read.bytes, read.reads, rw c.from.ensures (frames_named c.args.head.now c.args.sound.now c.requires.at_sound c.requires.interleaving c.requires.sound c.requires.whole _ c.args.reader.now.ahead.now.items _ _ read.bytes _ c.in-Err.fault read.appended kept known fails)))

pub returns-in-Err-2-clause-fault : goal.returns-in-Err-2-clause-fault
returns-in-Err-2-clause-fault g c =
    let read = c.in_ok-read_until.ensures.read in
    let at = form_ends_at c.args.head.now c.args.sound.now c.requires.at_sound c.requires.interleaving in
    let kept = kept_is g (goal.at.returns-in-Err-2-clause-fault g c).After-truncate in
    let fails = subst (λ xs. (sound : List ℕ) → length sound ≡ stated_size c.args.head.now → Fails c.in-Err-2.fault (recording_of (c.args.head.now ++ (sound ++ xs)))) c.as_slice.ensures.value c.in-Err-2.ensures.fault in
    let both = sym c.in-Err.is ∙ c.in-Err-2.is in
    let same : c.in-Err.fault ≡ c.in-Err-2.fault = cc (both) in
    let known = not_memory c.in-Err-2.fault (ap is_memory (sym same) ∙ sym c.is_memory.ensures ∙ c.if-is_memory.false) in
    frames_refused c.args.head.now c.args.sound.now c.requires.at_sound c.requires.interleaving c.requires.sound c.requires.whole g.R.Read.remaining c.args.reader.now.inlet.now c.read_until.new.self.inlet.now c.args.reader.now.ahead.now.items _ _ read.bytes _ read.reads read.appended kept
    (λ sound long accepted. no_recording _ c.in-Err-2.fault (fails_is c.in-Err-2.fault _ known (fails sound (long ∙ (ends_at_head c.args.head.now c.args.sound.now at).1))) accepted)

pub returns : goal.returns
returns g c =
    let same = c.read_until.ensures.same in
    let read = c.in_ok-read_until.ensures.read in
    let at = form_ends_at c.args.head.now c.args.sound.now c.requires.at_sound c.requires.interleaving in
    record {
      same = record { reference = same.reference; given = same.given; limit = same.limit };
      ok = frames_around c.args.head.now c.args.sound.now c.requires.at_sound c.requires.interleaving c.requires.sound c.requires.whole g.R.Read.remaining c.args.reader.now.inlet.now c.read_until.new.self.inlet.now c.args.reader.now.ahead.now.items _ _ read.bytes _ c.in-Ok.recording read.reads read.appended (kept_is g (goal.at.returns g c).After-truncate)
          (subst (λ xs. StatesOutline c.args.head.now c.args.sound.now xs (Some c.in-Ok.recording)) c.as_slice.ensures.value (c.in-Ok.ensures.stated c.args.sound.now at));
      named = tt;
      counts = counts_kept c.args.reader.now c.read_until.new.self _ _ _ refl c.in_ok-read_until.ensures.counts;
      fault = tt;
    }

pub returns-in_err-read_until : goal.returns-in_err-read_until
returns-in_err-read_until g c =
    rw (fault_is c.from_residual.result _ c.from_residual.ensures.1) (record {
      same = c.read_until.ensures.same;
      ok = tt;
      named = reading_unnamed c.in_err-read_until.field-0.0 c.in_err-read_until.ensures.fault;
      counts = same_counts c.args.reader.now c.read_until.new.self c.in_err-read_until.field-0.0 c.in_err-read_until.ensures.counts;
      fault = by_reading (IsRestFault (g.R.Read.remaining (inlet_reader c.args.reader.now.inlet.now)) c.args.sound.now c.args.head.now c.args.reader.now.ahead.now.items) tt tt tt c.in_err-read_until.field-0.0 c.in_err-read_until.ensures.fault;
    })

pub read_until-requires : goal.read_until-requires
read_until-requires g c = record { reading = c.requires.reading }
