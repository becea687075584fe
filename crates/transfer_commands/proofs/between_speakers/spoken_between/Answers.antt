use Rattle.std.proofs.Common.{◌≡◌, ◌∙◌, Err, ap, arith, length, refl, sym}
use Rattle.std.proofs.lemmas.Result.{err_from_is_err_and}
use Rattle.dsd_bits.proofs.ExitLaws.{no_value}
use Rattle.transfer_commands.specs.BetweenSpeaking.{frames_in}
use Rattle.transfer_commands.specs.declared.fault.CommandFault.TheVariants.{Call}
use Rattle.transfer_commands.proofs.ExcerptLaws.{err_says}
use Rattle.transfer_commands.proofs.between_speakers.spoken_between.Goals as goal

pub returns-then-len-opened : goal.returns-then-len-opened
returns-then-len-opened g c = record { spoken = tt; left = tt; fault = λ is. c.if-len-opened.true (c.len.ensures ∙ c.args.speakers.order.ok.0 ∙ is) }

pub frames_of-requires : goal.frames_of-requires
frames_of-requires g c =
    let number : length c.args.speakers.order.items ≡ c.args.opened.sound.channels = sym c.args.speakers.order.ok.0 ∙ sym c.len.ensures ∙ c.if-len-opened.false in
    record { channels = c.requires.channels; some = omega (arith, number, c.requires.sound.some_channel); few = omega (arith, number, c.requires.sound.six_channels) }

pub frames_of-requires-2 : goal.frames_of-requires-2
frames_of-requires-2 g c =
    let number : length c.args.speakers.order.items ≡ c.args.opened.sound.channels = sym c.args.speakers.order.ok.0 ∙ sym c.len.ensures ∙ c.if-len-opened.false in
    record { channels = c.requires.channels; some = omega (arith, number, c.requires.sound.some_channel); few = omega (arith, number, c.requires.sound.six_channels) }

pub reordering_of-requires : goal.reordering_of-requires
reordering_of-requires g c = record { sound = c.requires.sound; channels = c.requires.channels; number = sym c.args.speakers.order.ok.0 ∙ sym c.len.ensures ∙ c.if-len-opened.false }

pub parts_of-requires : goal.parts_of-requires
parts_of-requires g c = record { within = c.requires.within }

pub returns-in_err-frames_of : goal.returns-in_err-frames_of
returns-in_err-frames_of g c =
    let r = c.from_residual.result in
    let is = c.from_residual.ensures.1 in
    let e = err_from_is_err_and r is in
    record { spoken = no_value _ _ r is; left = no_value _ _ r is; fault = err_says r _ _ (e.1 ∙ ap Err (e.2 ∙ ap Call c.in_err-frames_of.ensures.fault)) refl }

pub returns-in_err-frames_of-2 : goal.returns-in_err-frames_of-2
returns-in_err-frames_of-2 g c =
    let r = c.from_residual-in_err-frames_of-2.result in
    let is = c.from_residual-in_err-frames_of-2.ensures.1 in
    let e = err_from_is_err_and r is in
    record { spoken = no_value _ _ r is; left = no_value _ _ r is; fault = err_says r _ _ (e.1 ∙ ap Err (e.2 ∙ ap Call c.in_err-frames_of-2.ensures.fault)) refl }

pub returns-in_err-reordering : goal.returns-in_err-reordering
returns-in_err-reordering g c =
    let r = c.from_residual-in_err-reordering.result in
    let is = c.from_residual-in_err-reordering.ensures.1 in
    let e = err_from_is_err_and r is in
    record { spoken = no_value _ _ r is; left = no_value _ _ r is; fault = err_says r _ _ (e.1 ∙ ap Err (e.2 ∙ ap Call c.in_err-reordering.ensures.fault)) refl }

pub returns-in_err-parts : goal.returns-in_err-parts
returns-in_err-parts g c =
    let r = c.from_residual-in_err-parts.result in
    let is = c.from_residual-in_err-parts.ensures.1 in
    let e = err_from_is_err_and r is in
    record { spoken = no_value _ _ r is; left = no_value _ _ r is; fault = err_says r _ _ (e.1 ∙ ap Err (e.2 ∙ ap Call c.in_err-parts.ensures.fault)) refl }

pub returns : goal.returns
returns g c =
    let order = c.args.speakers.order.items in
    let made = c.in_ok-reordering.ensures in
    record {
      spoken = record {
        head_is = refl;
        number = sym c.args.speakers.order.ok.0 ∙ sym c.len.ensures ∙ c.if-len-opened.false;
        names = c.requires.channels;
        are_ordered = record {
          rate_is = refl;
          channels_are = refl;
          before_is = c.in_ok-frames_of.ensures.ordered ∙ ap (frames_in order) c.deref.ensures.value;
          after_is = c.in_ok-frames_of-2.ensures.ordered ∙ ap (frames_in order) c.deref-2.ensures.value;
        };
        order_is = made.order;
        size_is = made.size;
        groups_are = made.groups;
        start_is = c.in_ok-parts.ensures.start;
      };
      left = c.in_ok-parts.ensures.left;
      fault = tt;
    }
