use Rattle.std.proofs.Common.{◌≡◌, ◌+◌, ◌<◌, List, ℕ, ◌++◌, Err, length, length-append, append-nil, append_assoc, ap, subst, sym, ◌∙◌, arith}
use Rattle.std.proofs.lemmas.List.{nil_from_length}
use Rattle.chunk_core.specs.Inlets.{PullsBytes}
use Rattle.dop_core.specs.declared.fault.DopFault.TheVariants.{BadMarker, DataCut}
use Rattle.dop_core.specs.Reading.{recording_of}
use Rattle.dop_core.specs.Sounds.{sound_long}
use Rattle.dsd_bits.proofs.ExitLaws.{no_value}
use Rattle.dop_core.proofs.ReadingLaws.{names_any, names_end, outside_named, pulls_on}
use Rattle.dop_core.proofs.RefusalLaws.{cut_refused, marker_refused, marks_break, part_refused, within}
use Rattle.dop_core.proofs.sound.read_sound.Goals as goal

pub returns-then-scanned-whole-clause-named : goal.returns-then-scanned-whole-clause-named
returns-then-scanned-whole-clause-named g c =
    let front = c.args.front.now in
    let said = c.args.said.now in
    let s = c.in_ok-scanned.ensures.ok in
    let less : length s.sound < said.size = omega (arith, s.long, within front said c.requires, c.if-scanned-whole.true) in
    rw c.cut.ensures (names_end g.R.Read.remaining c.args.inlet.now c.scan_frames.new.inlet front s.sound _ s.pulled (s.at_end c.if-scanned-whole.true)
    (subst (λ (k : ℕ). recording_of (front ++ s.sound) ≡ Err (DataCut said.size k)) s.long (cut_refused front said c.requires s.sound less)))

pub returns-then-not-branch-clause-named : goal.returns-then-not-branch-clause-named
returns-then-not-branch-clause-named g c =
    let front = c.args.front.now in
    let said = c.args.said.now in
    let s = c.in_ok-scanned.ensures.ok in
    let read = c.in_ok-read_piece.ensures.read in
    let piece = c.read_piece.new.piece.items in
    let all : length (s.sound ++ piece) ≡ sound_long said.head + c.len.result = omega (arith, length-append s.sound piece, s.long, s.few, c.if-scanned-whole.false, c.len.ensures) in
    let less : length (s.sound ++ piece) < said.size = omega (arith, all, within front said c.requires, read.short c.if-not-branch.true, c.len.ensures) in
    rw c.cut-then-not-branch.ensures (names_end g.R.Read.remaining c.args.inlet.now c.read_piece.new.inlet front (s.sound ++ piece) _ (pulls_on g.R.Read.remaining c.args.inlet.now c.scan_frames.new.inlet c.read_piece.new.inlet s.sound piece s.pulled read.pulled) (read.at_end c.if-not-branch.true)
    (subst (λ (k : ℕ). recording_of (front ++ (s.sound ++ piece)) ≡ Err (DataCut said.size k)) all (cut_refused front said c.requires (s.sound ++ piece) less)))

pub returns-then-extra-gt0-clause-named : goal.returns-then-extra-gt0-clause-named
returns-then-extra-gt0-clause-named g c =
    let front = c.args.front.now in
    let said = c.args.said.now in
    let s = c.in_ok-scanned.ensures.ok in
    let read = c.in_ok-read_piece.ensures.read in
    let piece = c.read_piece.new.piece.items in
    let more : sound_long said.head < said.size = omega (arith, c.if-extra-gt0.true) in
    let all : length (s.sound ++ piece) ≡ said.size = omega (arith, length-append s.sound piece, s.long, s.few, c.if-scanned-whole.false, read.whole c.if-not-branch.false, more) in
    names_any g.R.Read.remaining c.args.inlet.now c.read_piece.new.inlet front (s.sound ++ piece) _ (pulls_on g.R.Read.remaining c.args.inlet.now c.scan_frames.new.inlet c.read_piece.new.inlet s.sound piece s.pulled read.pulled)
    (λ rest. part_refused front said c.requires ((s.sound ++ piece) ++ rest) (omega (arith, all, length-append (s.sound ++ piece) rest)) more)

pub returns-in-Some-clause-named : goal.returns-in-Some-clause-named
returns-in-Some-clause-named g c =
    let front = c.args.front.now in
    let said = c.args.said.now in
    let s = c.in_ok-scanned.ensures.ok in
    let read = c.in_ok-read_piece.ensures.read in
    let piece = c.read_piece.new.piece.items in
    let there : c.in_ok-scanned.scanned.there ≡ sound_long said.head = omega (arith, s.few, c.if-scanned-whole.false) in
    let whole : said.size ≡ sound_long said.head = omega (arith, within front said c.requires, c.if-extra-gt0.false) in
    names_any g.R.Read.remaining c.args.inlet.now c.read_piece.new.inlet front (s.sound ++ piece) _ (pulls_on g.R.Read.remaining c.args.inlet.now c.scan_frames.new.inlet c.read_piece.new.inlet s.sound piece s.pulled read.pulled)
    (λ rest. subst (λ (xs : List ℕ). recording_of (front ++ xs) ≡ Err (BadMarker c.in-Some.frame)) (sym (append_assoc s.sound piece rest))
    (marker_refused front said c.requires whole s.sound (piece ++ rest) c.in-Some.frame (omega (arith, s.long, there, whole)) (marks_break said.head.channels c.in_ok-scanned.scanned.marks said.head.frames s.sound c.in-Some.frame (s.marks there) c.in-Some.is)))

pub returns-in-None-clause-ok : goal.returns-in-None-clause-ok
returns-in-None-clause-ok g c =
    let front = c.args.front.now in
    let said = c.args.said.now in
    let s = c.in_ok-scanned.ensures.ok in
    let read = c.in_ok-read_piece.ensures.read in
    let piece = c.read_piece.new.piece.items in
    let there : c.in_ok-scanned.scanned.there ≡ sound_long said.head = omega (arith, s.few, c.if-scanned-whole.false) in
    let whole : said.size ≡ sound_long said.head = omega (arith, within front said c.requires, c.if-extra-gt0.false) in
    let empty : length piece ≡ 0 = omega (arith, read.few, whole) in
    let same : s.sound ++ piece ≡ s.sound = ap (λ xs. s.sound ++ xs) (nil_from_length piece empty) ∙ append-nil s.sound in
    let marks = s.marks there in
    record {
      sound = s.sound;
      pulled = subst (PullsBytes g.R.Read.remaining c.args.inlet.now c.read_piece.new.inlet) same (pulls_on g.R.Read.remaining c.args.inlet.now c.scan_frames.new.inlet c.read_piece.new.inlet s.sound piece s.pulled read.pulled);
      long = omega (arith, s.long, there);
      whole = whole;
      either = s.either;
      begins = marks.first;
      marked = sym marks.broken ∙ c.in-None.is;
    }

pub returns-in_err-scanned-clause-ok : goal.returns-in_err-scanned-clause-ok
returns-in_err-scanned-clause-ok g c = no_value _ _ c.from_residual.result c.from_residual.ensures.1

pub returns-in_err-scanned-clause-named : goal.returns-in_err-scanned-clause-named
returns-in_err-scanned-clause-named g c = outside_named c.from_residual.result _ _ c.from_residual.ensures.1 c.in_err-scanned.ensures.fault

pub returns-in_err-read_piece-clause-ok : goal.returns-in_err-read_piece-clause-ok
returns-in_err-read_piece-clause-ok g c = no_value _ _ c.from_residual-in_err-read_piece.result c.from_residual-in_err-read_piece.ensures.1

pub returns-in_err-read_piece-clause-named : goal.returns-in_err-read_piece-clause-named
returns-in_err-read_piece-clause-named g c = outside_named c.from_residual-in_err-read_piece.result _ _ c.from_residual-in_err-read_piece.ensures.1 c.in_err-read_piece.ensures.fault

pub overflow_mul-whole : goal.overflow_mul-whole
overflow_mul-whole g c = omega (arith, within c.args.front.now c.args.said.now c.requires, c.requires.few)

pub overflow_mul-whole-2 : goal.overflow_mul-whole-2
overflow_mul-whole-2 g c = omega (arith, within c.args.front.now c.args.said.now c.requires, c.requires.few)

pub overflow_add-whole : goal.overflow_add-whole
overflow_add-whole g c = omega (arith, within c.args.front.now c.args.said.now c.requires, c.requires.few, c.read_piece.new.piece.small, c.len.ensures)
