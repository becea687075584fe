use Rattle.std.proofs.Common.{◌≡◌, ◌∙◌, ◌%◌, [], Bool, Global, List, Vec, ap, arith, length, subst, sym}
use Rattle.std.specs.Prelude.{slice_index_or}
use Rattle.std.proofs.lemmas.List.{get_or-map, length-map}
use Rattle.dsd_bits.specs.Channels.{IsLevel, count_of}
use Rattle.dsd_bits.specs.Lacing.{laced}
use Rattle.sound_core.specs.Keeping.{stretches_in}
use Rattle.transfer_commands.proofs.EdgeLaws.{kept_long, part_level, part_number, part_whole}
use Rattle.transfer_commands.proofs.neighbour.laced_of.Goals as goal
use Rattle.transfer_commands.proofs.neighbour.laced_of.Goals.{After-deref}

pub returns-then-not-is_same : goal.returns-then-not-is_same
returns-then-not-is_same c = record { laced = tt; fault = tt }

pub index-requires : goal.index-requires
index-requires c =
    let k = c.args.kept.now in
    let all = k.stretches.items in
    let number : length all ≡ 1 = sym (length-map all (λ (v : Vec (List Bool) Global). v.items)) ∙ kept_long k c.args.range c.requires.kept.stated c.requires.kept.some.0 c.requires.kept.some.1 in
    omega (arith, number)

-- what was kept of each channel
part_is : (c : After-deref) → c.deref.result.now ≡ slice_index_or (stretches_in c.args.kept.now) 0 []
part_is c =
    let k = c.args.kept.now in
    let all = k.stretches.items in
    let number : length all ≡ 1 = sym (length-map all (λ (v : Vec (List Bool) Global). v.items)) ∙ kept_long k c.args.range c.requires.kept.stated c.requires.kept.some.0 c.requires.kept.some.1 in
    c.deref.ensures.value
    ∙ ap (λ (v : Vec (List Bool) Global). v.items) c.index.ensures
    ∙ sym (get_or-map (λ (v : Vec (List Bool) Global). v.items) all 0 c.index.result.now [] (omega (arith, number)))

pub lace_bytes-requires-clause-channel_number : goal.lace_bytes-requires-clause-channel_number
lace_bytes-requires-clause-channel_number c =
    let at = (goal.at.lace_bytes-requires-clause-channel_number c).After-deref in
    let kept = c.requires.kept in
    let number = part_number c.args.kept.now c.args.range kept.stated kept.some.0 kept.some.1 c.args.sound.now.count (c.is_same.ensures.0 c.if-not-is_same.false).1 c.requires.range in
    let long = ap length (part_is at) ∙ number in
    (omega (arith, long, kept.stated.is_sound.some_channel), omega (arith, long, kept.stated.is_sound.six_channels))

pub lace_bytes-requires-clause-level : goal.lace_bytes-requires-clause-level
lace_bytes-requires-clause-level c =
    let at = (goal.at.lace_bytes-requires-clause-level c).After-deref in
    let kept = c.requires.kept in
    subst IsLevel (sym (part_is at)) (part_level c.args.kept.now c.args.range kept.stated kept.some.0 kept.some.1 c.args.sound.now.count (c.is_same.ensures.0 c.if-not-is_same.false).1 c.requires.range)

pub lace_bytes-requires-clause-whole_bytes : goal.lace_bytes-requires-clause-whole_bytes
lace_bytes-requires-clause-whole_bytes c =
    let at = (goal.at.lace_bytes-requires-clause-whole_bytes c).After-deref in
    let kept = c.requires.kept in
    ap (λ (channels : List (List Bool)). count_of channels % 8) (part_is at) ∙ part_whole c.args.kept.now c.args.range kept.stated kept.some.0 kept.some.1 c.args.sound.now.count (c.is_same.ensures.0 c.if-not-is_same.false).1 c.requires.range

pub returns-in-Ok : goal.returns-in-Ok
returns-in-Ok c =
    let at = (goal.at.returns-in-Ok c).After-deref in
    let same = c.is_same.ensures.0 c.if-not-is_same.false in
    record {
      laced = record { rate = same.0.0; channels = same.0.1; count = same.1; bytes_are = c.in-Ok.ensures.text ∙ ap laced (part_is at) };
      fault = tt;
    }

pub returns-in-Err : goal.returns-in-Err
returns-in-Err c = record { laced = tt; fault = tt }
