use Rattle.std.proofs.Common.{◌≡◌, ℕ, List, Result, Ok, Err, OnErr, OnOk, cond, is_ok, ap, ◌∙◌, arith, rules}
use Rattle.dsd_bits.specs.Sounds.{sound_size}
use Rattle.interleave_core.specs.Reinterleaving.{reinterleaved}
use Rattle.interleave_core.proofs.FrameLaws.{same_frames}
use Rattle.interleave_core.proofs.reinterleaving.push_reinterleaved.Goals as goal

-- what is unchanged unless all succeeded is unchanged on Err
kept_on_err : {X E : Type 0} (new more old : List ℕ) (r : Result X E) → new ≡ cond (is_ok r) more old → OnErr r (new ≡ old)
kept_on_err new more old (Ok x) e = tt
kept_on_err new more old (Err f) e = e

-- and on Ok it is what was made
made_on_ok : {X E : Type 0} (new more old : List ℕ) (r : Result X E) → new ≡ cond (is_ok r) more old → OnOk r (new ≡ more)
made_on_ok new more old (Ok x) e = e
made_on_ok new more old (Err f) e = tt

pub returns-in-Bytes-Bytes-clause-ok : goal.returns-in-Bytes-Bytes-clause-ok
returns-in-Bytes-Bytes-clause-ok c =
    let bytes = c.args.bytes.now in
    let n = c.args.stretch.channels in
    let count = c.args.stretch.count in
    let from_bytes = c.in-Bytes-Bytes.is-0 in
    let size = c.requires.size ∙ ap (λ o. sound_size o n count) from_bytes in
    let same : reinterleaved c.args.from c.args.to n count bytes ≡ bytes =
    same_frames bytes n count c.args.stretch.channel_number.0 (c.requires.from_whole from_bytes) size c.args.stretch.in_limit (λ k. omega (arith, c.type_inv.bytes k)) c.args.from c.args.to from_bytes c.in-Bytes-Bytes.is-1 in
    rw same (search rules)

pub returns-in_ok-channels-in-Blocks-Blocks-clause-ok : goal.returns-in_ok-channels-in-Blocks-Blocks-clause-ok
returns-in_ok-channels-in-Blocks-Blocks-clause-ok c =
    let bits = c.deref.ensures.value ∙ c.in_ok-channels-in-Blocks-Blocks.ensures.bits in
    rw (c.in-Blocks-Blocks.is-1, ← bits) (made_on_ok _ _ _ c.push_blocks.result c.push_blocks.ensures.text)

pub returns-in_ok-channels-in-Blocks-Blocks-clause-err : goal.returns-in_ok-channels-in-Blocks-Blocks-clause-err
returns-in_ok-channels-in-Blocks-Blocks-clause-err c = kept_on_err _ _ _ c.push_blocks.result c.push_blocks.ensures.text

pub push_as_blocks-requires-clause-size : goal.push_as_blocks-requires-clause-size
push_as_blocks-requires-clause-size c = c.requires.size ∙ ap (λ o. sound_size o c.args.stretch.channels c.args.stretch.count) c.in-Bytes-Blocks.is-0

pub push_as_frames-requires-clause-size : goal.push_as_frames-requires-clause-size
push_as_frames-requires-clause-size c = c.requires.size ∙ ap (λ o. sound_size o c.args.stretch.channels c.args.stretch.count) c.in-Blocks-Bytes.is-0

pub push_blocks-requires-clause-level : goal.push_blocks-requires-clause-level
push_blocks-requires-clause-level c = rw c.deref.ensures.value c.in_ok-channels-in-Blocks-Blocks.ensures.level
