use Rattle.std.proofs.Common.{◌≡◌, ◌-◌, ◌++◌, ◌%◌, ℕ, List, length, map, refl, sym, ap, ap₂, subst, ◌∙◌, arith}
use Rattle.std.specs.Io.KnownBytes.{Appends}
use Rattle.std.proofs.lemmas.Result.{on_err_weaker, on_ok_weaker}
use Rattle.chunk_core.specs.Outlets.{AppendsPart, outlet_writer}
use Rattle.dsd_bits.specs.Channels.{IsLevel, count_of}
use Rattle.dsd_bits.specs.Rooms.{RoomContent, rooms_bits}
use Rattle.dsd_bits.specs.Sounds.{sound_size}
use Rattle.dsd_bits.proofs.RoomLemmas.{length-rooms_bits}
use Rattle.interleave_core.specs.Reinterleaving.{laced_in}
use Rattle.interleave_core.proofs.GroupLaws.{size_fits}
use Rattle.cut_core.specs.Cuts.{take_channels}
use Rattle.cut_core.proofs.CutLaws.{first_shape}
use Rattle.master_core.specs.Parting.{within}
use Rattle.master_core.proofs.WritingLaws.{parts_count, parts_level, parts_number, rooms_kept}
use Rattle.master_core.proofs.writing.write_stretch.Given.{Over}
use Rattle.master_core.proofs.writing.write_stretch.Goals as goal
use Rattle.master_core.proofs.writing.write_stretch.Goals.{After-deref, After-deref-2}

-- how many bits each channel has
count : (g : Over) (c : After-deref g) → count_of (rooms_bits c.deref.result.now) ≡ c.args.range.stop - c.args.range.start
count g c =
    let cut = c.args.source.now.cut.now in
    ap (λ (rs : List RoomContent). count_of (rooms_bits rs)) c.deref.ensures.value ∙ parts_count cut (first_shape cut c.can_cut.ensures).some_channel c.args.range (rooms_bits c.fill_rooms.new.rooms.items) c.fill_rooms.ensures.parts c.requires.inside

-- how many channels there are
number : (g : Over) (c : After-deref g) → length c.deref.result.now ≡ take_channels c.args.source.now.cut.now
number g c =
    let cut = c.args.source.now.cut.now in
    let rooms = c.fill_rooms.new.rooms.items in
    ap length c.deref.ensures.value ∙ sym (length-rooms_bits rooms) ∙ parts_number cut (first_shape cut c.can_cut.ensures).some_channel c.args.range (rooms_bits rooms) c.fill_rooms.ensures.parts

pub push_rooms-requires-clause-level : goal.push_rooms-requires-clause-level
push_rooms-requires-clause-level g c =
    let cut = c.args.source.now.cut.now in
    subst (λ (rs : List RoomContent). IsLevel (rooms_bits rs)) (sym c.deref.ensures.value) (parts_level cut (first_shape cut c.can_cut.ensures).some_channel c.args.range (rooms_bits c.fill_rooms.new.rooms.items) c.fill_rooms.ensures.parts c.requires.inside)

pub push_rooms-requires-clause-whole : goal.push_rooms-requires-clause-whole
push_rooms-requires-clause-whole g c = λ e. ap (λ (n : ℕ). n % 8) (count g (goal.at.push_rooms-requires-clause-whole g c).After-deref) ∙ c.requires.whole e

pub push_rooms-requires-clause-held : goal.push_rooms-requires-clause-held
push_rooms-requires-clause-held g c =
    let cut = c.args.source.now.cut.now in
    let n = take_channels cut in
    let here = (goal.at.push_rooms-requires-clause-held g c).After-deref in
    let bits = c.args.range.stop - c.args.range.start in
    let size : sound_size c.args.to (length c.deref.result.now) (count_of (rooms_bits c.deref.result.now)) ≡ sound_size c.args.to n bits = ap₂ (λ (m k : ℕ). sound_size c.args.to m k) (number g here) (count g here) in
    let room = c.requires.room in
    omega (arith, size, size_fits c.args.to n bits c.args.room.now.stretch c.requires.fits room.groups room.fits, room.held, c.clear.ensures.len, c.clear.ensures.capacity)

pub fill_rooms-requires : goal.fill_rooms-requires
fill_rooms-requires g c = record {
  ready = c.requires.ready;
  number = c.requires.room.rooms.as_many;
  fits = λ k d lt. omega (arith, c.requires.fits, c.requires.room.rooms.large k d lt);
}

pub push_rooms-requires-clause-channel_number : goal.push_rooms-requires-clause-channel_number
push_rooms-requires-clause-channel_number g c =
    let shape = first_shape c.args.source.now.cut.now c.can_cut.ensures in
    (omega (arith, number g c, shape.some_channel), omega (arith, number g c, shape.six_channels))

-- the bytes that go out
bytes : (g : Over) (c : After-deref-2 g) → c.deref-2.result.now ≡ laced_in c.args.to (map (within c.args.range) c.fill_rooms.ensures.parts.wholes)
bytes g c =
    c.deref-2.ensures.value ∙ c.push_rooms.ensures.text ∙ ap (λ l. l ++ laced_in c.args.to (rooms_bits c.deref.result.now)) c.clear.ensures.items
    ∙ ap (λ (rs : List RoomContent). laced_in c.args.to (rooms_bits rs)) c.deref.ensures.value ∙ ap (laced_in c.args.to) c.fill_rooms.ensures.parts.parts_are

pub returns : goal.returns
returns g c =
    let parts = c.fill_rooms.ensures.parts in
    record {
      room = let room = c.requires.room in
          record {
            rooms = rooms_kept (take_channels c.args.source.now.cut.now) c.args.room.now.stretch c.args.room.now.rooms.items c.fill_rooms.new.rooms.items c.fill_rooms.ensures.most room.rooms;
            some = room.some;
            groups = room.groups;
            fits = room.fits;
            held = omega (arith, room.held, c.clear.ensures.capacity, c.push_rooms.ensures.capacity);
          };
      stretch = refl;
      ok = on_ok_weaker c.put_all.result (λ out. record { channels = parts.wholes; best = parts.best; written = subst (Appends (g.W.Write.contents (outlet_writer c.args.outlet.now)) (g.W.Write.contents (outlet_writer c.put_all.new.self))) (bytes g (goal.at.returns g c).After-deref-2) out }) c.put_all.ensures.ok;
      prefix = on_err_weaker c.put_all.result (λ out. record { channels = parts.wholes; best = parts.best; written = subst (AppendsPart (g.W.Write.contents (outlet_writer c.args.outlet.now)) (g.W.Write.contents (outlet_writer c.put_all.new.self))) (bytes g (goal.at.returns g c).After-deref-2) out }) c.put_all.ensures.err;
      failures = c.put_all.ensures.failures;
    }

pub put_all-requires : goal.put_all-requires
put_all-requires g c = c.requires.outlet_ready
