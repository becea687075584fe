-- What is refused before a recording is played between its neighbours, and that nothing is changed then.
use Rattle.std.proofs.Common.{◌≡◌, ◌≢◌, ◌⊎◌, ℕ, inl, inr, Bool, List, Option, None, Some, Err, refl, sym, subst, ◌∙◌}
use Rattle.std.specs.Borrow.{Bor}
use Rattle.dsd_bits.specs.declared.sound.Sound.{Sound}
use Rattle.fir_core.specs.Decimator.{Decimator, IsWithinLimits}
use Rattle.folder_core.specs.Files.{IsReadOf, View}
use Rattle.request_core.specs.declared.fault.Fault.TheVariants.{Memory}
use Rattle.request_core.specs.declared.fault.Fault.TheVariants as faults
use Rattle.transfer_commands.specs.BetweenPlaying.{IsBetweenRefused, IsNextRefused, IsNotOpened, PlayBetweenComesTo}
use Rattle.transfer_commands.specs.BetweenSpeaking.{SpeakBetweenComesTo}
use Rattle.transfer_commands.specs.Neighbours.{AreChannelsOf, AreUnheard, EndsAfter, EndsBefore, IsRefusedNeighbour, IsUnheardAfter, IsUnheardBefore, fault_on}
use Rattle.transfer_commands.specs.PartPlaying.{DescribesRead}
use Rattle.transfer_commands.specs.declared.between.BetweenFault.{BetweenFault}
use Rattle.transfer_commands.specs.declared.between.BetweenFault.TheVariants.{Command, Next, Previous}
use Rattle.transfer_commands.specs.declared.between.NeighbourNames.{NeighbourNames}
use Rattle.transfer_commands.specs.declared.fault.CommandFault.{CommandFault}
use Rattle.transfer_commands.specs.declared.fault.CommandFault.TheVariants.{Call, ReadFailed, WriteFailed}
use Rattle.transfer_commands.specs.declared.neighbour.NeighbourFault.{NeighbourFault}
use Rattle.transfer_commands.specs.declared.neighbour.NeighbourFault.TheVariants as neighbours
use Rattle.wave_core.specs.declared.head.WaveHead.{WaveHead}
use Rattle.transfer_commands.proofs.EdgeLaws.{whole_before}

-- ---- why it is not played
-- memory ran out, the project, the recording or a neighbour is refused, or one of them is not read; nothing changed
abbrev pub IsRefusedBefore : List ℕ → List ℕ → NeighbourNames → View → View → BetweenFault → Type 0
IsRefusedBefore project input around old new (Command (Call fault)) = ((new ≡ old) × (fault ≡ Memory)) ⊎ IsBetweenRefused project input old new fault
IsRefusedBefore project input around old new (Command ReadFailed) = new ≡ old
IsRefusedBefore project input around old new (Command WriteFailed) = ⊥
IsRefusedBefore project input around old new (Previous fault) = IsRefusedNeighbour EndsBefore around.previous input old fault × (new ≡ old)
IsRefusedBefore project input around old new (Next fault) = IsNextRefused input around old new fault

module _ (project input output : List ℕ) (around : NeighbourNames) (old new : View) where
  -- of a recording that is played in the order of its channels
  pub not_played : (head : WaveHead) (fault : BetweenFault) → IsRefusedBefore project input around old new fault → PlayBetweenComesTo head project input output around old new (Err fault)
  not_played head (Command (Call fault)) (inl none) = inl none
  not_played head (Command (Call fault)) (inr why) = inr (inl why)
  not_played head (Command ReadFailed) is = is
  not_played head (Command WriteFailed) is = absurd is
  not_played head (Previous fault) is = is
  not_played head (Next fault) is = is

  -- of one that is played in the order of its loudspeakers
  pub not_spoken : (is_wide : Bool) (fault : BetweenFault) → IsRefusedBefore project input around old new fault → SpeakBetweenComesTo is_wide project input output around old new (Err fault)
  not_spoken is_wide (Command (Call fault)) (inl none) = inl none
  not_spoken is_wide (Command (Call fault)) (inr why) = inr (inl why)
  not_spoken is_wide (Command ReadFailed) is = is
  not_spoken is_wide (Command WriteFailed) is = absurd is
  not_spoken is_wide (Previous fault) is = is
  not_spoken is_wide (Next fault) is = is

-- ---- the recording
pub unopened_before : (project_name file_name project : List ℕ) (around : NeighbourNames) (old new : View) → IsReadOf old project_name project → new ≡ old → (fault : CommandFault) → IsNotOpened file_name old fault → IsRefusedBefore project_name file_name around old new (Command fault)
unopened_before project_name file_name project around old new read same (Call fault) (inl memory) = inl (same, memory)
unopened_before project_name file_name project around old new read same (Call fault) (inr why) = inr (record { project = project; project_read = read; why = inr why; same = same })
unopened_before project_name file_name project around old new read same ReadFailed is = same
unopened_before project_name file_name project around old new read same WriteFailed is = absurd is

-- ---- a neighbour that can't be one
-- on either side, it is out of memory, or that side's fault
split_on : (side : NeighbourFault → BetweenFault) (f : NeighbourFault) → (fault_on side f ≡ Command (Call Memory)) ⊎ ((fault_on side f ≡ side f) × (f ≢ neighbours.Command (Call Memory)))
split_on side (neighbours.Command (Call Memory)) = inl refl
split_on side (neighbours.Command (Call (faults.Project e))) = inr (refl, λ is. absurd cc)
split_on side (neighbours.Command (Call faults.NoDecimation)) = inr (refl, λ is. absurd cc)
split_on side (neighbours.Command (Call faults.NoSplice)) = inr (refl, λ is. absurd cc)
split_on side (neighbours.Command (Call (faults.FileUnread e))) = inr (refl, λ is. absurd cc)
split_on side (neighbours.Command (Call (faults.FileRefused e))) = inr (refl, λ is. absurd cc)
split_on side (neighbours.Command (Call (faults.Cut e))) = inr (refl, λ is. absurd cc)
split_on side (neighbours.Command (Call (faults.Mix e))) = inr (refl, λ is. absurd cc)
split_on side (neighbours.Command (Call (faults.ClipOutside e))) = inr (refl, λ is. absurd cc)
split_on side (neighbours.Command (Call (faults.Stream e))) = inr (refl, λ is. absurd cc)
split_on side (neighbours.Command (Call faults.NotWholeBytes)) = inr (refl, λ is. absurd cc)
split_on side (neighbours.Command ReadFailed) = inr (refl, λ is. absurd cc)
split_on side (neighbours.Command WriteFailed) = inr (refl, λ is. absurd cc)
split_on side neighbours.OtherRate = inr (refl, λ is. absurd cc)
split_on side neighbours.OtherChannels = inr (refl, λ is. absurd cc)
split_on side neighbours.NotWholeBytes = inr (refl, λ is. absurd cc)

module _ (project_name file_name : List ℕ) (around : NeighbourNames) (old new : View) (same : new ≡ old) (t : Sound) (described : DescribesRead file_name old t) where
  abbrev comes : BetweenFault → Type 0
  comes fault = IsRefusedBefore project_name file_name around old new fault

  memory : comes (Command (Call Memory))
  memory = inl (same, refl)

  of_previous : (name : Option (Bor (List ℕ))) → around.previous ≡ name → (fault : BetweenFault) → IsUnheardBefore name old t fault → comes fault
  of_previous None is fault h = absurd h
  of_previous (Some name) is fault (f, fault_is, none) = elim (split_on Previous f) [
    | inl out ↦ subst comes (sym (fault_is ∙ out)) memory
    | inr (named, other) ↦ subst comes (sym (fault_is ∙ named)) (subst (λ o. IsRefusedNeighbour EndsBefore o file_name old f) (sym is) (none file_name described, other), same)
  ]

  of_next : (rate : ℕ) (before : List (List Bool)) → AreChannelsOf around.previous old rate before → (name : Option (Bor (List ℕ))) → around.next ≡ name → (fault : BetweenFault) → IsUnheardAfter name old t fault → comes fault
  of_next rate before are None is fault h = absurd h
  of_next rate before are (Some name) is fault (f, fault_is, none) = elim (split_on Next f) [
    | inl out ↦ subst comes (sym (fault_is ∙ out)) memory
    | inr (named, other) ↦ subst comes (sym (fault_is ∙ named)) (record {
      rate = rate;
      before = before;
      before_are = are;
      refused = subst (λ o. IsRefusedNeighbour EndsAfter o file_name old f) (sym is) (none file_name described, other);
      same = same;
    })
  ]

  pub unheard_before : (d : Decimator) → IsWithinLimits d → (fault : BetweenFault) → AreUnheard around old t d fault → comes fault
  unheard_before d limits fault (inl h) = of_previous around.previous refl fault h
  unheard_before d limits fault (inr (bytes, heard, h)) = (let whole = whole_before around.previous old t d limits bytes heard in of_next t.rate whole.before whole.are around.next refl fault h)
