use Rattle.std.proofs.Common.{◌≡◌, ◌∙◌, ◌++◌, ◌%◌, List, arith, refl, ap, ap₂, length, subst, sym, ℕ}
use Rattle.std.proofs.lemmas.Result.{IfErr-weaker}
use Rattle.dsd_bits.specs.declared.interleaving.Interleaving.TheVariants.{Blocks, Bytes}
use Rattle.dsd_bits.specs.Blocks.{blocks_size}
use Rattle.dsd_bits.specs.Sounds.{sound_size}
use Rattle.dsd_bits.specs.declared.blocks.BitOrder.{BitOrder}
use Rattle.sound_core.specs.declared.fault.StreamFault.TheVariants.{Memory}
use Rattle.sound_core.specs.declared.part.SoundPart.{SoundPart}
use Rattle.interleave_core.specs.Reinterleaving.{reinterleaved}
use Rattle.player_core.specs.Between.{framed}
use Rattle.player_core.specs.Joining.{MayTake, PushesOn}
use Rattle.player_core.proofs.FaultLaws.{fault_is, writing_own}
use Rattle.player_core.proofs.JoinLaws.{on_ok, part_whole, room, takes_on}
use Rattle.player_core.proofs.JoinStops.{both_err, kept_part, refused_part}
use Rattle.player_core.proofs.joining.JoiningSinkSoundSink.take.Given.{Over}
use Rattle.player_core.proofs.joining.JoiningSinkSoundSink.take.Goals as goal
use Rattle.player_core.proofs.joining.JoiningSinkSoundSink.take.Goals.{After-as_slice, After-stretch-stretch}

-- the bytes in frames are as they come
same_bytes : (p : SoundPart) (bytes : List ℕ) → p.sound.interleaving ≡ Bytes → framed p.sound.interleaving p.sound.channels p.bits bytes ≡ bytes
same_bytes p bytes is = ap (λ i. framed i p.sound.channels p.bits bytes) is

pub push-requires : goal.push-requires
push-requires g c =
    let (first, before, fed, is) = c.requires.fed in
    let now = c.args.self.now in
    record {
      few = subst (λ xs. MayTake g.W.Write.contents now.playing.now (length xs)) (same_bytes c.args.part c.args.bytes.now c.in-Bytes.is) (room g.W.Write.contents first now now c.args.part before c.args.bytes.now fed is c.requires.size);
      takes = λ p is. tt;
    }

pub returns-in-Bytes-clause-has : goal.returns-in-Bytes-clause-has
returns-in-Bytes-clause-has g c =
    let p = c.args.part in
    let now = c.args.self.now in
    let same = same_bytes p c.args.bytes.now c.in-Bytes.is in
    on_ok c.push.result _ _ (λ (pushes : PushesOn g.W.Write.contents now.playing.now c.push.new.self c.args.bytes.now) first before fed is.
    takes_on g.W.Write.contents first now _ p before c.args.bytes.now fed is c.requires.size refl refl (subst (PushesOn g.W.Write.contents now.playing.now c.push.new.self) (sym same) pushes)) c.push.ensures.has

pub returns-in-Bytes-clause-own : goal.returns-in-Bytes-clause-own
returns-in-Bytes-clause-own g c = IfErr-weaker c.push.result _ _ (λ f fault. writing_own f fault) c.push.ensures.fault

pub returns-in-Bytes-clause-refused : goal.returns-in-Bytes-clause-refused
returns-in-Bytes-clause-refused g c =
    let p = c.args.part in
    let now = c.args.self.now in
    let same = same_bytes p c.args.bytes.now c.in-Bytes.is in
    both_err c.push.result _ _ _ (λ f fault refuses first before fed is.
    refused_part g.W.Write.contents first now _ p before c.args.bytes.now fed is c.requires.size c.args.bytes.now f fault (sym same) refl (refuses _ is.joined _ is.playing)) c.push.ensures.fault c.push.ensures.refused

-- ---- blocks that are pushed as they are
blocks_are : (p : SoundPart) (order : BitOrder) (n count : ℕ) (bytes : List ℕ) → p.sound.interleaving ≡ Blocks order → n ≡ p.sound.channels → count ≡ p.bits
    → reinterleaved (Blocks order) Bytes n count bytes ≡ framed p.sound.interleaving p.sound.channels p.bits bytes
blocks_are p order n count bytes is channels bits =
    ap₂ (λ m k. reinterleaved (Blocks order) Bytes m k bytes) channels bits ∙ sym (ap (λ i. framed i p.sound.channels p.bits bytes) is)

whole_bytes : (g : Over) (c : After-stretch-stretch g) → c.stretch-stretch.result.count % 8 ≡ 0
whole_bytes g c =
    let (first, before, fed, is) = c.requires.fed in
    let now = c.args.self.now in
    ap (λ k. k % 8) c.stretch-stretch.ensures.1 ∙ part_whole g.W.Write.contents first now now c.args.part before c.args.bytes.now fed is c.requires.size

pub push-requires-then-takes_blocks-clause-few : goal.push-requires-then-takes_blocks-clause-few
push-requires-then-takes_blocks-clause-few g c =
    let (first, before, fed, is) = c.requires.fed in
    let now = c.args.self.now in
    let same = blocks_are c.args.part c.in-Blocks.order c.stretch-stretch.result.channels c.stretch-stretch.result.count c.args.bytes.now c.in-Blocks.is c.stretch-stretch.ensures.0 c.stretch-stretch.ensures.1 in
    subst (λ xs. MayTake g.W.Write.contents now.playing.now (length xs)) (sym same) (room g.W.Write.contents first now now c.args.part before c.args.bytes.now fed is c.requires.size)

pub push-requires-then-takes_blocks-clause-takes : goal.push-requires-then-takes_blocks-clause-takes
push-requires-then-takes_blocks-clause-takes g c = λ p is.
    let (start, between) = c.takes_blocks.ensures c.if-takes_blocks.true p is in (
      start,
      (
        between,
        record {
          whole = whole_bytes g (goal.at.push-requires-then-takes_blocks-clause-takes g c).After-stretch-stretch;
          size = c.requires.size ∙ ap (λ i. sound_size i c.args.part.sound.channels c.args.part.bits) c.in-Blocks.is ∙ sym (ap₂ blocks_size c.stretch-stretch.ensures.0 c.stretch-stretch.ensures.1);
          small = λ k. omega (arith, c.type_inv.bytes k);
        },
      ),
    )

pub returns-then-takes_blocks-clause-has : goal.returns-then-takes_blocks-clause-has
returns-then-takes_blocks-clause-has g c =
    let now = c.args.self.now in
    let same = blocks_are c.args.part c.in-Blocks.order c.stretch-stretch.result.channels c.stretch-stretch.result.count c.args.bytes.now c.in-Blocks.is c.stretch-stretch.ensures.0 c.stretch-stretch.ensures.1 in
    on_ok c.push-then-takes_blocks.result _ _ (λ (pushes : PushesOn g.W.Write.contents now.playing.now c.push-then-takes_blocks.new.self _) first before fed is.
    takes_on g.W.Write.contents first now _ c.args.part before c.args.bytes.now fed is c.requires.size refl refl (subst (PushesOn g.W.Write.contents now.playing.now c.push-then-takes_blocks.new.self) same pushes)) c.push-then-takes_blocks.ensures.has

pub returns-then-takes_blocks-clause-own : goal.returns-then-takes_blocks-clause-own
returns-then-takes_blocks-clause-own g c = IfErr-weaker c.push-then-takes_blocks.result _ _ (λ f fault. writing_own f fault) c.push-then-takes_blocks.ensures.fault

pub returns-then-takes_blocks-clause-refused : goal.returns-then-takes_blocks-clause-refused
returns-then-takes_blocks-clause-refused g c =
    let now = c.args.self.now in
    let same = blocks_are c.args.part c.in-Blocks.order c.stretch-stretch.result.channels c.stretch-stretch.result.count c.args.bytes.now c.in-Blocks.is c.stretch-stretch.ensures.0 c.stretch-stretch.ensures.1 in
    both_err c.push-then-takes_blocks.result _ _ _ (λ f fault refuses first before fed is.
    refused_part g.W.Write.contents first now _ c.args.part before c.args.bytes.now fed is c.requires.size _ f fault same refl (refuses _ is.joined _ is.playing)) c.push-then-takes_blocks.ensures.fault c.push-then-takes_blocks.ensures.refused

-- ---- blocks that are laced first
pub push_reinterleaved-requires-clause-to_whole : goal.push_reinterleaved-requires-clause-to_whole
push_reinterleaved-requires-clause-to_whole g c = λ bytes. whole_bytes g (goal.at.push_reinterleaved-requires-clause-to_whole g c).After-stretch-stretch

piece_is : (g : Over) (c : After-as_slice g) → c.as_slice.result.now ≡ framed c.args.part.sound.interleaving c.args.part.sound.channels c.args.part.bits c.args.bytes.now
piece_is g c =
    let from = c.args.part.sound.interleaving in
    let bytes = c.args.bytes.now in
    c.as_slice.ensures.value ∙ c.in_ok-push_reinterleaved.ensures.ok
    ∙ ap (λ (xs : List ℕ). xs ++ reinterleaved from Bytes c.stretch-stretch.result.channels c.stretch-stretch.result.count bytes) c.clear.ensures.items
    ∙ ap (λ i. reinterleaved i Bytes c.stretch-stretch.result.channels c.stretch-stretch.result.count bytes) c.in-Blocks.is
    ∙ blocks_are c.args.part c.in-Blocks.order c.stretch-stretch.result.channels c.stretch-stretch.result.count bytes c.in-Blocks.is c.stretch-stretch.ensures.0 c.stretch-stretch.ensures.1

pub push-requires-2 : goal.push-requires-2
push-requires-2 g c =
    let (first, before, fed, is) = c.requires.fed in
    let now = c.args.self.now in
    let same = piece_is g (goal.at.push-requires-2 g c).After-as_slice in
    record { few = subst (λ xs. MayTake g.W.Write.contents now.playing.now (length xs)) (sym same) (room g.W.Write.contents first now now c.args.part before c.args.bytes.now fed is c.requires.size); takes = λ p is. tt }

pub returns-clause-has : goal.returns-clause-has
returns-clause-has g c =
    let now = c.args.self.now in
    let same = piece_is g (goal.at.returns-clause-has g c).After-as_slice in
    on_ok c.push-2.result _ _ (λ (pushes : PushesOn g.W.Write.contents now.playing.now c.push-2.new.self c.as_slice.result.now) first before fed is.
    takes_on g.W.Write.contents first now _ c.args.part before c.args.bytes.now fed is c.requires.size refl refl (subst (PushesOn g.W.Write.contents now.playing.now c.push-2.new.self) same pushes)) c.push-2.ensures.has

pub returns-in_err-push_reinterleaved-clause-refused : goal.returns-in_err-push_reinterleaved-clause-refused
returns-in_err-push_reinterleaved-clause-refused g c =
    rw (fault_is c.from_residual.result Memory c.from_residual.ensures.1) (λ first before fed is.
    kept_part g.W.Write.contents first c.args.self.now _ c.args.part before c.args.bytes.now fed is c.requires.size refl refl)

pub returns-clause-refused : goal.returns-clause-refused
returns-clause-refused g c =
    let now = c.args.self.now in
    let same = piece_is g (goal.at.returns-clause-refused g c).After-as_slice in
    both_err c.push-2.result _ _ _ (λ f fault refuses first before fed is.
    refused_part g.W.Write.contents first now _ c.args.part before c.args.bytes.now fed is c.requires.size c.as_slice.result.now f fault same refl (refuses _ is.joined _ is.playing)) c.push-2.ensures.fault c.push-2.ensures.refused
