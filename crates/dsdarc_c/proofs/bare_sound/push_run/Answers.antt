use Rattle.std.proofs.Common.{◌≡◌, ◌≤◌, ◌+◌, ◌-◌, ◌∙◌, ◌++◌, ap, append-nil, arith, length, subst, sym}
use Rattle.native_core.specs.Runs.{run_fed}
use Rattle.dsdarc_c.specs.BareWhole.{IsPrefixOfBits, PlaysBareStage, PlaysRunOrAll}
use Rattle.dsdarc_c.specs.Whole.{HasAt}
use Rattle.dsdarc_c.proofs.BareLaws.{done_on, run_first, run_on}
use Rattle.dsdarc_c.proofs.KeepLaws.{header_kept}
use Rattle.dsdarc_c.proofs.WholeLaws.{fewer_at}
use Rattle.dsdarc_c.proofs.bare_sound.push_run.Goals as goal

pub returns-in-Ok-clause-keeps : goal.returns-in-Ok-clause-keeps
returns-in-Ok-clause-keeps c =
    let p = c.args.p.now in
    let s = c.args.sound in
    let bytes = c.split_at.result.0.now in
    let e = c.in-Ok.ensures in
    record {
      pulled = omega arith;
      stated = header_kept p.stated s p.header.items c.requires.known c.requires.header;
      known = c.next_stage.ensures.known p.stated c.requires.known;
      stage = c.next_stage.ensures.keeps p.layout p.header.items (p.place + length bytes) c.requires.header (done_on p.layout p.place s c.args.run bytes e.more c.in-Ok.next c.requires.run e.gives);
      none = c.next_stage.ensures.none c.feed.new.out.items;
    }

pub returns-in-Ok-clause-plays : goal.returns-in-Ok-clause-plays
returns-in-Ok-clause-plays c file start pulled of at =
    let p = c.args.p.now in
    let s = c.args.sound in
    let bytes = c.split_at.result.0.now in
    let e = c.in-Ok.ensures in
    let few : length bytes ≤ s.size - run_fed c.args.run = omega (arith, c.min.ensures, c.split_at.ensures.front_len, c.fed.ensures) in
    let some : c.min.result ≤ length c.args.piece.now = omega (arith, c.min.ensures) in
    let here : HasAt file p.place bytes = subst (HasAt file p.place) (sym c.split_at.ensures.front) (fewer_at file p.place c.args.piece.now c.min.result some at) in
    let made : e.more ≡ c.feed.new.out.items = sym (e.appends ∙ ap (λ xs. xs ++ e.more) c.clear.ensures.items) in
    let plays = run_on p.layout file start pulled p.header.items p.place s c.args.run c.requires.run of bytes e.more few here c.in-Ok.next e.gives in
    record { stage = c.next_stage.ensures.plays p.layout file start (pulled ++ c.feed.new.out.items) p.header.items (p.place + length bytes) (subst (λ xs. PlaysRunOrAll p.layout file start (pulled ++ xs) p.header.items (p.place + length bytes) s c.in-Ok.next) made plays) }

pub returns-in-Err-clause-plays : goal.returns-in-Err-clause-plays
returns-in-Err-clause-plays c file start pulled of at =
    let p = c.args.p.now in
    let out = pulled ++ c.clear-in-Err.new.self.items in
    let same : pulled ≡ out = sym (ap (λ xs. pulled ++ xs) c.clear-in-Err.ensures.items ∙ append-nil pulled) in
    let first = subst (IsPrefixOfBits p.layout file start) same (run_first p.layout file start pulled p.header.items p.place c.args.sound c.args.run c.requires.run of c.requires.header) in
    record { stage = subst (λ s. PlaysBareStage p.layout file start out p.header.items p.place s) (sym c.requires.failed) first }
