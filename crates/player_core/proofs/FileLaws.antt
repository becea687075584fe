-- A file that is read into a sink which plays it: what was played at its end.
use Rattle.std.proofs.Common.{◌≡◌, ℕ, ◌-◌, ◌≤◌, inr, List, length, Option, None, Some, IfErr, IfOk, IfSome, OnOk, Result, Ok, Err, refl, sym, subst, ◌∙◌, arith}
use Rattle.std.specs.Io.KnownBytes.{Appends, Consumes}
use Rattle.chunk_core.specs.Inlets.{inlet_reader}
use Rattle.chunk_core.specs.Outlets.{outlet_failures, outlet_writer}
use Rattle.chunk_core.specs.declared.inlet.Inlet.{Inlet}
use Rattle.dsd_bits.specs.declared.sound.Sound.{Sound}
use Rattle.sound_core.specs.Faults.{IsWritingFault, failed_reads}
use Rattle.sound_core.specs.Outlines.{AreStated, IsPlacedIn, Surroundings}
use Rattle.sound_core.specs.Sinks.{BeginsSound, TakesFile, TakesGiven}
use Rattle.sound_core.specs.declared.fault.StreamFault.{StreamFault}
use Rattle.sound_core.proofs.FaultLaws.{by_writing}
use Rattle.player_core.specs.Laws.{total_frames}
use Rattle.player_core.specs.Pace.{PlayFails}
use Rattle.player_core.specs.Playing.{PartIsPlayed, PlaysBy, PlaysFile, PlaysGiven}
use Rattle.player_core.specs.Ranges.{stop_of}
use Rattle.player_core.specs.Sinks.{FinishesAll, HasAll, IsPlaying, RefusesAll, range_file}
use Rattle.player_core.specs.declared.sink.PlayingSink.{PlayingSink}
use Rattle.player_core.proofs.FaultLaws.{writing_own}
use Rattle.player_core.proofs.PaceLaws.{Stops, play_fails}
use Rattle.player_core.proofs.PlayLaws.{begins_held, part_size, plays_held}

module _ {W : Type 0} (held : W → Option (List ℕ)) (old mid new : PlayingSink W) (o : Surroundings) (stated : AreStated o) where
  abbrev has : Sound → ℕ → List ℕ → Type 0
  has s done bytes = IsPlaying held old mid s bytes

  abbrev Plays : List ℕ → List ℕ → Type 0
  Plays file bytes = PlaysBy old.taps.now old.range file bytes

  abbrev all_played : List ℕ → ℕ → Type 0
  all_played file n = (bytes : List ℕ) × Plays file bytes × (n ≡ length bytes) × Appends (held (outlet_writer old.outlet.now)) (held (outlet_writer new.outlet.now)) bytes

  module _ (law : PartIsPlayed) (least : 8 ≤ old.taps.now.factor) (n : ℕ) (ends : FinishesAll held mid new o.sound n) where
    held_played : (file sound : List ℕ) → IsPlacedIn o file sound → IsPlaying held old mid o.sound sound → all_played file n
    held_played file sound stands is =
        let end = ends old sound is stands.sound_long in
        let on = is.feeding in
        let d = old.taps.now in (
          range_file d o.sound old.range sound,
          plays_held o stated file sound stands law d least old.range on.divided on.inside on.fits,
          end.size ∙ sym (part_size d old.range.start (stop_of old.range (total_frames d o.sound)) on.inside.0 o.sound stated.is_sound stated.whole on.inside.1 sound stands.sound_long old.range.head (omega (arith, least))),
          end.written,
        )

    pub file_played : (left : Option (List ℕ)) → TakesFile has left o → PlaysFile left Plays (held (outlet_writer old.outlet.now)) (held (outlet_writer new.outlet.now)) n
    file_played None (taken, h) = tt
    file_played (Some file) (taken, h) = held_played file h.0 h.1 h.2

    pub given_played : {R : Type 0} (left : R → Option (List ℕ)) (i j : Inlet R) → TakesGiven has left i j o → PlaysGiven left i j Plays (held (outlet_writer old.outlet.now)) (held (outlet_writer new.outlet.now)) n
    given_played left i j (read, reads, h) = (let all = held_played read h.0 h.1 h.2 in (read, all.0, reads, all.1, all.2, all.3))

  -- there is a sound to be ended
  pub end_requires : {R : Type 0} (left : R → Option (List ℕ)) (i j : Inlet R) → TakesGiven has left i j o → HasAll held mid o.sound
  end_requires left i j (read, reads, taken) = (old, taken.0, taken.2, taken.1.sound_long)

  -- how it is ended
  pub ended : {R : Type 0} (left : R → Option (List ℕ)) (i j : Inlet R) → TakesGiven has left i j o → (r : Result ℕ StreamFault) → IfOk r (FinishesAll held mid new o.sound) → IfErr r (RefusesAll held mid new o.sound)
      → (new.outlet.ghost_name ≡ old.outlet.ghost_name) × OnOk r (outlet_failures new.outlet.now ≡ outlet_failures old.outlet.now)
  ended left i j (read, reads, taken) (Ok n) ends refuses = (let end = ends old taken.0 taken.2 taken.1.sound_long in (end.same, end.failures))
  ended left i j (read, reads, taken) (Err f) ends refuses = ((refuses old taken.0 taken.2 taken.1.sound_long).same, tt)

  -- what is written at the end was refused
  end_stops : {R : Type 0} (left : R → Option (List ℕ)) (i j : Inlet R) (g h : ℕ) (f : StreamFault) → IsWritingFault f → (taken : TakesGiven has left i j o)
      → RefusesAll held mid new o.sound f → Stops held (left (inlet_reader i)) g h old new f
  end_stops left i j g h f fault (read, reads, taken) refuses = inr (record {
    sound = o.sound;
    came = taken.0;
    few = omega (arith, taken.1.sound_long);
    begins = by (left (inlet_reader i)) (left (inlet_reader j)) reads.consumed;
    how = inr (record { own = writing_own f fault; refuses = refuses old taken.0 taken.2 taken.1.sound_long });
  })
    where
      by : (p q : Option (List ℕ)) → Consumes p q read → IfSome p (BeginsSound o.sound taken.0)
      by None q consumed = tt
      by (Some xs) None consumed = absurd consumed
      by (Some xs) (Some ys) consumed = subst (BeginsSound o.sound taken.0) (sym consumed) (begins_held o stated read taken.0 taken.1 ys)

  pub end_fails : {R : Type 0} (left : R → Option (List ℕ)) (i j : Inlet R) (g h : ℕ) → PartIsPlayed → 8 ≤ old.taps.now.factor → TakesGiven has left i j o → (r : Result ℕ StreamFault) → IfErr r IsWritingFault → IfErr r (RefusesAll held mid new o.sound)
      → IfErr r (PlayFails held (left (inlet_reader i)) old.taps.now old.range (h - g) old.outlet.now new.outlet.now)
  end_fails left i j g h law least given (Ok n) fault refuses = tt
  end_fails left i j g h law least given (Err f) fault refuses = play_fails held (left (inlet_reader i)) g h old new f law least (end_stops left i j g h f fault given refuses)

-- what is written at the end counts no failed read
pub no_reads : (r : Result ℕ StreamFault) → IfErr r IsWritingFault → failed_reads r ≡ 0
no_reads (Ok n) fault = refl
no_reads (Err f) fault = by_writing (λ e. failed_reads {X = ℕ} (Err e) ≡ 0) refl refl f fault
