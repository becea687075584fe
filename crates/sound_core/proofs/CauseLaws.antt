-- What is known of a refused file's fault, stage by stage.
use Rattle.std.proofs.Common.{◌≡◌, ℕ, ◌+◌, inl, inr, List, ◌++◌, length, Option, None, Some, IfSome, sym, ap, subst, ◌∙◌}
use Rattle.chunk_core.specs.Inlets.{inlet_given, inlet_reader}
use Rattle.chunk_core.specs.declared.inlet.Inlet.{Inlet}
use Rattle.dsd_bits.specs.declared.sound.Sound.{Sound}
use Rattle.sound_core.specs.Causes.{HasPrefix, IsCause, IsCauseIn, IsNamed, IsRefusedBy, IsUnreadBy, IsUnsure}
use Rattle.sound_core.specs.Faults.{IsReadingFault}
use Rattle.sound_core.specs.Files.{GivesNone, IsHeaderFault, IsRefused}
use Rattle.sound_core.specs.Naming.{IsExact, plain}
use Rattle.sound_core.specs.Outlines.{IsOutlineFault}
use Rattle.sound_core.specs.Readers.{IsReading}
use Rattle.sound_core.specs.Reads.{Reads}
use Rattle.sound_core.specs.Sinks.{StopsTaking}
use Rattle.sound_core.specs.declared.cause.Cause.{Cause}
use Rattle.sound_core.specs.declared.cause.Cause.TheVariants as causes
use Rattle.sound_core.specs.declared.fault.StreamFault.{StreamFault}
use Rattle.sound_core.specs.declared.fault.StreamFault.TheVariants.{FileRefused, Memory}
use Rattle.sound_core.specs.declared.fault.Unread.{Unread}
use Rattle.sound_core.specs.declared.fault.Unread.TheVariants as answers
use Rattle.sound_core.specs.declared.reader.SoundReader.{SoundReader}
use Rattle.sound_core.proofs.FaultLaws.{by_reading}
use Rattle.sound_core.proofs.NamingLaws.{prefix_sure}
use Rattle.sound_core.proofs.ReadLaws.{after}

-- ---- the front that was read tells it
module _ {R : Type 0} (P : Type 0) (left : R → Option (List ℕ)) (first : Inlet R) (r : SoundReader R) (reading : IsReading r) (reads : Reads left first r.inlet.now r.ahead.now.items) (given : inlet_given r.inlet.now ≡ r.given + length r.ahead.now.items)
    (refused : (rest : List ℕ) → IsRefused (r.ahead.now.items ++ rest)) where
  unsure : (cause : Cause) → IsCauseIn r.ahead.now.items cause → IsUnsure left first r cause
  unsure cause states = record { reading = reading; reads = reads; given = given; states = states; refused = refused }

  pub prefix_stated : (cause : Cause) → IsCauseIn r.ahead.now.items cause → IsCause P left first r cause
  prefix_stated causes.Unknown states = absurd states
  prefix_stated (causes.Fault e) states = prefix_sure left first r.inlet.now r.ahead.now.items e reads states
  prefix_stated (causes.Unstated at) states = unsure (causes.Unstated at) states
  prefix_stated (causes.PastForm at) states = unsure (causes.PastForm at) states
  prefix_stated (causes.Faulty s) states = unsure (causes.Faulty s) states
  prefix_stated causes.NoSound states = unsure causes.NoSound states

-- whatever an unknown fault says
pub cause_on : {R : Type 0} (P Q : Type 0) (left : R → Option (List ℕ)) (first : Inlet R) (r : SoundReader R) (cause : Cause) → (P → Q) → IsCause P left first r cause → IsCause Q left first r cause
cause_on P Q left first r causes.Unknown on h = on h
cause_on P Q left first r (causes.Fault e) on h = h
cause_on P Q left first r (causes.Unstated at) on h = h
cause_on P Q left first r (causes.PastForm at) on h = h
cause_on P Q left first r (causes.Faulty s) on h = h
cause_on P Q left first r causes.NoSound on h = h

-- ---- no byte of a file that is refused for its front is of a sound
prefix_refused : {R : Type 0} (P : Type 0) (left : R → Option (List ℕ)) (first : Inlet R) (r : SoundReader R) (cause : Cause) → HasPrefix cause → IsCause P left first r cause → IfSome (left (inlet_reader first)) IsRefused
prefix_refused P left first r causes.Unknown prefix h = absurd prefix
prefix_refused P left first r (causes.Fault e) prefix h = absurd prefix
prefix_refused P left first r (causes.Unstated at) prefix h = after IsRefused _ _ _ h.reads.consumed h.refused
prefix_refused P left first r (causes.PastForm at) prefix h = after IsRefused _ _ _ h.reads.consumed h.refused
prefix_refused P left first r (causes.Faulty s) prefix h = after IsRefused _ _ _ h.reads.consumed h.refused
prefix_refused P left first r causes.NoSound prefix h = after IsRefused _ _ _ h.reads.consumed h.refused

gives_none : (left : Option (List ℕ)) (g n : ℕ) → IfSome left IsRefused → GivesNone left g n
gives_none None g n refused = tt
gives_none (Some file) g n refused = λ s accepted states. absurd (refused accepted.0 accepted.1)

-- ---- why a file isn't taken to its end, once its fault was named
module _ {R S : Type 0} (has : S → S → Sound → ℕ → List ℕ → Type 0) (refused : S → S → Sound → List ℕ → StreamFault → Type 0) (P : Type 0) (left : R → Option (List ℕ)) (first : Inlet R) (old new : S) where
  -- a file that is refused is so whatever more of it was read
  refused_later : (given more : ℕ) → StopsTaking has refused (left (inlet_reader first)) (inlet_given first) given old new FileRefused → StopsTaking has refused (left (inlet_reader first)) (inlet_given first) more old new FileRefused
  refused_later given more (inl none) = inl (record { same = none.same; fault = none.fault; none = λ stop. absurd stop })
  refused_later given more (inr some) = inr (record {
    sound = some.sound;
    came = some.came;
    few = some.few;
    begins = some.begins;
    how = elim some.how [
      | inl ends ↦ inl (record { done = ends.done; fed = ends.fed; taken = ends.taken; fault = ends.fault; pace = λ stop. absurd stop })
      | inr refuses ↦ inr refuses
    ];
  })

  module _ (f : StreamFault) (a b : SoundReader R) (stops : StopsTaking has refused (left (inlet_reader first)) (inlet_given first) (inlet_given a.inlet.now) old new f) (known : IsNamed P left first a f) (prefix : f ≡ FileRefused → HasPrefix a.cause → new ≡ old) where
    stated : f ≡ FileRefused → (u : Unread) → IsRefusedBy a.cause u → StopsTaking has refused (left (inlet_reader first)) (inlet_given first) (inlet_given b.inlet.now) old new (plain u)
    stated is (answers.Refused e) how = refused_later (inlet_given a.inlet.now) (inlet_given b.inlet.now) (subst (StopsTaking has refused (left (inlet_reader first)) (inlet_given first) (inlet_given a.inlet.now) old new) is stops)
    stated is (answers.Stream g) (inr unknown) = subst (StopsTaking has refused (left (inlet_reader first)) (inlet_given first) (inlet_given b.inlet.now) old new) (sym unknown.0) (refused_later (inlet_given a.inlet.now) (inlet_given b.inlet.now) (subst (StopsTaking has refused (left (inlet_reader first)) (inlet_given first) (inlet_given a.inlet.now) old new) is stops))
    stated is (answers.Stream g) (inl reading) = inl (record {
      same = prefix is reading.1;
      fault = by_reading (IsOutlineFault (left (inlet_reader first))) tt tt tt g reading.0;
      none = λ stop. gives_none (left (inlet_reader first)) (inlet_given first) (inlet_given b.inlet.now) (prefix_refused P left first a a.cause reading.1 (known is));
    })

    pub stops_unread : (u : Unread) → IsUnreadBy f a b u → StopsTaking has refused (left (inlet_reader first)) (inlet_given first) (inlet_given b.inlet.now) old new (plain u)
    stops_unread u (inl same) = subst (λ v. StopsTaking has refused (left (inlet_reader first)) (inlet_given first) (inlet_given b.inlet.now) old new (plain v)) (sym same.1) (subst (λ (r : SoundReader R). StopsTaking has refused (left (inlet_reader first)) (inlet_given first) (inlet_given r.inlet.now) old new f) (sym same.2) stops)
    stops_unread u (inr refusal) = stated refusal.0 u refusal.1

    -- the first fault is missing only where it isn't known
    pub exact_unread : (u : Unread) → IsUnreadBy f a b u → u ≡ answers.Stream FileRefused → P
    exact_unread u (inl same) is = (let both : answers.Stream f ≡ answers.Stream FileRefused = sym same.1 ∙ is in absurd (same.0 (let e : f ≡ FileRefused = cc (both) in e)))
    exact_unread u (inr refusal) is = by u refusal.1 is
      where
        by : (v : Unread) → IsRefusedBy a.cause v → v ≡ answers.Stream FileRefused → P
        by (answers.Refused e) how e1 = absurd cc
        by (answers.Stream g) (inl reading) e1 = (let g_is : g ≡ FileRefused = cc (e1) in absurd (subst IsReadingFault g_is reading.0))
        by (answers.Stream g) (inr unknown) e1 = subst (IsCause P left first a) unknown.1 (known refusal.0)

-- a sink that refuses for memory alone refuses no file
pub exact_alone : (u : Unread) → (u ≡ answers.Stream FileRefused → (s : Sound) × (came : List ℕ) × (FileRefused ≡ Memory)) → IsExact u
exact_alone (answers.Refused e) h = tt
exact_alone (answers.Stream f) h = λ is. (let refuses = h (ap (λ (g : StreamFault). answers.Stream g) is) in let both : FileRefused ≡ Memory = refuses.2 in absurd cc)

-- ---- why no sound is found before one, once the fault was named
module _ {R : Type 0} (left : R → Option (List ℕ)) (first : Inlet R) (f : StreamFault) (a b : SoundReader R) (stops : IsHeaderFault (left (inlet_reader first)) f) (known : IsNamed ⊥ left first a f) where
  header_stated : f ≡ FileRefused → (u : Unread) → IsRefusedBy a.cause u → IsHeaderFault (left (inlet_reader first)) (plain u)
  header_stated is (answers.Refused e) how = subst (IsHeaderFault (left (inlet_reader first))) is stops
  header_stated is (answers.Stream g) (inl reading) = by_reading (IsHeaderFault (left (inlet_reader first))) tt tt tt g reading.0
  header_stated is (answers.Stream g) (inr unknown) = absurd (subst (IsCause ⊥ left first a) unknown.1 (known is))

  pub header_unread : (u : Unread) → IsUnreadBy f a b u → IsHeaderFault (left (inlet_reader first)) (plain u)
  header_unread u (inl same) = subst (λ v. IsHeaderFault (left (inlet_reader first)) (plain v)) (sym same.1) stops
  header_unread u (inr refusal) = header_stated refusal.0 u refusal.1

  -- none is missing
  pub header_exact : (u : Unread) → IsUnreadBy f a b u → IsExact u
  header_exact (answers.Refused e) how = tt
  header_exact (answers.Stream g) (inl same) = λ is. (let e : g ≡ f = cc (same.1) in same.0 (sym e ∙ is))
  header_exact (answers.Stream g) (inr (is, inl reading)) = λ e. absurd (subst IsReadingFault e reading.0)
  header_exact (answers.Stream g) (inr (is, inr unknown)) = absurd (subst (IsCause ⊥ left first a) unknown.1 (known is))
