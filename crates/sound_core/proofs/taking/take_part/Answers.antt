use Rattle.std.proofs.Common.{◌≡◌, ◌++◌, ◌∙◌, ℕ, ap, arith, inl, inr, length, refl, sym, take}
use Rattle.dsd_bits.specs.Sounds.{sound_size}
use Rattle.sound_core.specs.Readers.{Fills, Passes}
use Rattle.sound_core.proofs.FaultLaws.{fault_is, reading_in_pass, reading_unnamed}
use Rattle.sound_core.proofs.taking.take_part.Given.{Over}
use Rattle.sound_core.proofs.taking.take_part.Goals as goal
use Rattle.sound_core.proofs.taking.take_part.Goals.{After-split_at}

module _ (g : Over) (c : After-split_at g) where
  abbrev size : ℕ
  size = sound_size c.args.part.sound.interleaving c.args.part.sound.channels c.args.part.bits

  -- there were n bytes
  fills : Fills g.R.Read.remaining c.args.reader.now.inlet.now c.fill.new.self.inlet.now c.segment_size-size.result c.args.reader.now.ahead.now.items c.fill.new.self.ahead.now.items c.fill.new.self.block.now.items
  fills = c.in_ok-fill.ensures.ok c.if-not-branch.false

  -- the bytes were passed
  is : c.split_at.result.0.now ≡ fills.passes.passed
  is = c.split_at.ensures.front ∙ ap (take c.segment_size-size.result) c.deref.ensures.value ∙ fills.first

  abbrev passes : Passes g.R.Read.remaining c.args.reader.now.inlet.now c.fill.new.self.inlet.now size c.args.reader.now.ahead.now.items c.fill.new.self.ahead.now.items
  passes = let p = fills.passes in record { passed = c.split_at.result.0.now; read = p.read; reads = p.reads; parts = p.parts ∙ ap (λ xs. xs ++ c.fill.new.self.ahead.now.items) (sym is); long = ap length is ∙ p.long ∙ c.segment_size-size.ensures }

pub returns-in_err-fill-clause-fault : goal.returns-in_err-fill-clause-fault
returns-in_err-fill-clause-fault g c =
    rw (fault_is c.from_residual.result _ c.from_residual.ensures.1) (inl (record {
      same = refl;
      fault = reading_in_pass _ _ _ c.in_err-fill.field-0.0 c.in_err-fill.ensures.fault;
      pace = λ stop. omega (arith, c.in_err-fill.ensures.pace stop, c.segment_size-size.ensures);
    }))

pub returns-in_err-fill-clause-own : goal.returns-in_err-fill-clause-own
returns-in_err-fill-clause-own g c = rw (fault_is c.from_residual.result _ c.from_residual.ensures.1) (reading_unnamed c.in_err-fill.field-0.0 c.in_err-fill.ensures.fault)

pub returns-in_err-take-clause-own : goal.returns-in_err-take-clause-own
returns-in_err-take-clause-own g c =
    let at = (goal.at.returns-in_err-take-clause-own g c).After-split_at in
    rw (fault_is c.from_residual-in_err-take.result _ c.from_residual-in_err-take.ensures.1) (λ is. record { passes = passes g at; own = c.in_err-take.ensures.own; refuses = c.in_err-take.ensures.refused })

pub returns-clause-ok : goal.returns-clause-ok
returns-clause-ok g c = λ yes.
    let at = (goal.at.returns-clause-ok g c).After-split_at in
    record { passes = passes g at; taken = c.in_ok-take.ensures.has }

pub returns-in_err-take-clause-fault : goal.returns-in_err-take-clause-fault
returns-in_err-take-clause-fault g c =
    let at = (goal.at.returns-in_err-take-clause-fault g c).After-split_at in
    rw (fault_is c.from_residual-in_err-take.result _ c.from_residual-in_err-take.ensures.1) (inr (record { passes = passes g at; own = c.in_err-take.ensures.own; refuses = c.in_err-take.ensures.refused }))
