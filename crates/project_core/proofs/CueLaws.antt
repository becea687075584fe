-- A cue is read exactly where its table says it.
use Rattle.std.proofs.Common.{◌≡◌, ℕ, ◌+◌, ◌≤◌, ◌<◌, ◌^◌, ℤ, cond, ltb, List, length, Option, Some, None, option_map, Result, Ok, Err, refl, sym, ap, ◌∙◌, arith, inl, inr, ◌⊎◌}
use Rattle.std.specs.Option.{ok_or}
use Rattle.std.proofs.lemmas.Bool.{ltb-false, lt-ltb, le-ltb}
use Rattle.toml.specs.Data.{Data, string, integer, table, Members, get_member}
use Rattle.project_core.specs.declared.key.Key.TheVariants as keys
use Rattle.project_core.specs.declared.key.Table.{Table}
use Rattle.project_core.specs.declared.key.Table.TheVariants as tables
use Rattle.splice_core.specs.declared.cue.Target.{Target}
use Rattle.project_core.specs.declared.fault.ProjectFault.{ProjectFault}
use Rattle.project_core.specs.declared.fault.ProjectFault.TheVariants.{OutOfLimit, ShortCue}
use Rattle.project_core.specs.Keys.{key_name, cue_keys}
use Rattle.project_core.specs.Steps.{◌>>=◌, optional}
use Rattle.project_core.specs.Reading.{integer_of, text_of, below, limited_at}
use Rattle.splice_core.specs.Cues.{CueContent, IsCueWithin}
use Rattle.project_core.specs.ReadingCue.{bridge_of, bridge_at, target_at, title_of, title_at, cue_of}
use Rattle.project_core.specs.ReadingTakes.{take_number_at}
use Rattle.project_core.specs.Tables.{number}
use Rattle.project_core.specs.Meaning.{IsCue}
use Rattle.project_core.proofs.TableAgain.{table_again, limited_again}
use Rattle.project_core.proofs.TakeLaws.{take_ok, take_again}
use Rattle.project_core.proofs.TargetLaws.{target_again, target_ok}
use Rattle.project_core.proofs.TableLaws.{bind_ok, not_refused, integer_ok, text_ok, table_ok, below_ok, limited_ok}

bridge_found : (cue : Table) (o : Option Data) (n : ℕ) → bridge_of cue o ≡ Ok n → ((o ≡ Some (number n)) ⊎ ((o ≡ None) × (n ≡ 0))) × (n ≤ 4096)
bridge_found cue None n e =
    let same : 0 ≡ n = cc in
    (inr (refl, sym same), omega (arith, same))
bridge_found cue (Some d) n e =
    let a = bind_ok (integer_of keys.Bridge cue d) (λ z. ok_or (below 4097 z) (OutOfLimit keys.Bridge cue)) n e in
    let b = below_ok 4097 a.0 (OutOfLimit keys.Bridge cue) n a.2 in
    (inl (ap (λ (x : Data). Some x) (integer_ok keys.Bridge cue d a.0 a.1 ∙ ap integer b.0)), omega (arith, b.1))

title_found : (cue : Table) (o : Option Data) (x : Option (List ℕ)) → optional (title_of cue) o ≡ Ok x → (o ≡ option_map string x) × ((s : List ℕ) → x ≡ Some s → length s ≤ 255)
title_found cue None x e =
    let same : None ≡ x = cc in
    (ap (option_map string) same, λ s h. absurd (cc))
title_found cue (Some d) x e =
    let c = bind_ok (title_of cue d) (λ s. Ok (Some s)) x e in
    let a = bind_ok (text_of keys.Title cue d) (λ s. cond (ltb 255 (length s)) (Err (OutOfLimit keys.Title cue)) (Ok s)) c.0 c.1 in
    let b = not_refused (ltb 255 (length a.0)) (OutOfLimit keys.Title cue) a.0 c.0 a.2 in
    let short : length c.0 ≤ 255 = rw (← b.1) (ltb-false 255 (length a.0) b.0) in
    let there : Some c.0 ≡ x = cc in
    (ap (λ (y : Data). Some y) (text_ok keys.Title cue d a.0 a.1) ∙ ap (λ (y : List ℕ). Some (string y)) b.1 ∙ ap (option_map string) there, λ s h. let same : c.0 ≡ s = cc in rw (← same) short)

-- the parts of a cue that was read from a table
parts : (weights i : ℕ) (take start stop bridge : Result ℕ ProjectFault) (target : Result Target ProjectFault) (title : Result (Option (List ℕ)) ProjectFault) (p : CueContent)
    → (take >>= λ a. start >>= λ b. stop >>= λ c. bridge >>= λ d. target >>= λ g. title >>= λ s. cond (ltb (c + 1) (b + weights)) (Err (ShortCue i b c weights)) (Ok (record { take = a; start = b; stop = c; bridge = d; target = g; title = s }))) ≡ Ok p
    → (take ≡ Ok p.take) × (start ≡ Ok p.start) × (stop ≡ Ok p.stop) × (bridge ≡ Ok p.bridge) × (target ≡ Ok p.target) × (title ≡ Ok p.title) × (p.start + weights ≤ p.stop + 1)
parts weights i (Err x) start stop bridge target title p e = absurd cc
parts weights i (Ok a) (Err x) stop bridge target title p e = absurd cc
parts weights i (Ok a) (Ok b) (Err x) bridge target title p e = absurd cc
parts weights i (Ok a) (Ok b) (Ok c) (Err x) target title p e = absurd cc
parts weights i (Ok a) (Ok b) (Ok c) (Ok d) (Err x) title p e = absurd cc
parts weights i (Ok a) (Ok b) (Ok c) (Ok d) (Ok g) (Err x) p e = absurd cc
parts weights i (Ok a) (Ok b) (Ok c) (Ok d) (Ok g) (Ok s) p e =
    let q = not_refused (ltb (c + 1) (b + weights)) _ (record { take = a; start = b; stop = c; bridge = d; target = g; title = s }) p e in
    let same = q.1 in
    let long = ltb-false (c + 1) (b + weights) q.0 in
    rw (← same) (refl, refl, refl, refl, refl, refl, long)

pub cue_ok : (weights takes i : ℕ) (d : Data) (p : CueContent) → cue_of weights takes i d ≡ Ok p → (t : Members) × (d ≡ table t) × IsCue weights takes t p
unfolding cue_of bridge_at title_at
cue_ok weights takes i d p e =
    let a = bind_ok _ _ p e in
    let t = a.0 in
    let known = table_ok keys.Cue (tables.Cue i) cue_keys d t a.1 in
    let q = parts weights i (take_number_at (tables.Cue i) i takes t) (limited_at keys.Start (tables.Cue i) (2 ^ 36) t) (limited_at keys.Stop (tables.Cue i) (2 ^ 36) t) (bridge_at (tables.Cue i) t) (target_at (tables.Cue i) t) (title_at (tables.Cue i) t) p a.2 in
    let take = take_ok (tables.Cue i) i takes t p.take q.0 in
    let start = limited_ok keys.Start (tables.Cue i) (2 ^ 36) t p.start q.1 in
    let stop = limited_ok keys.Stop (tables.Cue i) (2 ^ 36) t p.stop q.2 in
    let bridge = bridge_found (tables.Cue i) (get_member (key_name keys.Bridge) t) p.bridge q.3 in
    let target = target_ok (tables.Cue i) t p.target q.4 in
    let title = title_found (tables.Cue i) (get_member (key_name keys.Title) t) p.title q.5 in
    let limits : IsCueWithin weights takes p = record { take_is_there = take.1; start_fits = start.1; stop_fits = stop.1; bridge_fits = bridge.1; target_fits = target.limits; title_fits = title.1; long_enough = q.6 } in
    (t, known.0, record { no_others = known.1; take = take.0; start = start.0; stop = stop.0; bridge = bridge.0; target = target.name; line = target.line; title = title.0; limits = limits })

bridge_read : (cue : Table) (o : Option Data) (n : ℕ) → (o ≡ Some (number n)) ⊎ ((o ≡ None) × (n ≡ 0)) → n ≤ 4096 → bridge_of cue o ≡ Ok n
bridge_read cue o n (inl h) le =
    let lt : n < 4097 = omega arith in
    rw (h, lt-ltb n 4097 lt)
bridge_read cue o n (inr h) le = rw (h.0, h.1)

title_read : (cue : Table) (o : Option Data) (x : Option (List ℕ)) → o ≡ option_map string x → ((s : List ℕ) → x ≡ Some s → length s ≤ 255) → optional (title_of cue) o ≡ Ok x
title_read cue o None h few = rw h
title_read cue o (Some s) h few = rw (h, le-ltb 255 (length s) (few s refl))

pub cue_again : (weights takes i : ℕ) (t : Members) (p : CueContent) → IsCue weights takes t p → cue_of weights takes i (table t) ≡ Ok p
unfolding cue_of bridge_at title_at
cue_again weights takes i t p h =
    rw (
      table_again keys.Cue (tables.Cue i) cue_keys t h.no_others,
      take_again (tables.Cue i) i takes t p.take h.take h.limits.take_is_there,
      limited_again keys.Start (tables.Cue i) (2 ^ 36) t p.start h.start h.limits.start_fits,
      limited_again keys.Stop (tables.Cue i) (2 ^ 36) t p.stop h.stop h.limits.stop_fits,
      bridge_read (tables.Cue i) (get_member (key_name keys.Bridge) t) p.bridge h.bridge h.limits.bridge_fits,
      target_again (tables.Cue i) t p.target (record { name = h.target; line = h.line; limits = h.limits.target_fits }),
      title_read (tables.Cue i) (get_member (key_name keys.Title) t) p.title h.title h.limits.title_fits,
      le-ltb (p.stop + 1) (p.start + weights) h.limits.long_enough,
    )
