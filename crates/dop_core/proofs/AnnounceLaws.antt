-- What the bytes before the first sample announce of each file that begins so.
use Rattle.std.proofs.Common.{◌≡◌, ◌≢◌, ℕ, ◌+◌, ◌-◌, ◌*◌, ◌/◌, ◌≤◌, inl, inr, Bool, ◌&&◌, cond, eqb, ltb, List, ◌++◌, length, Result, Ok, Err, refl, sym, ◌∙◌, length-append, ne_eqb, arith}
use Rattle.std.proofs.lemmas.Bool.{cases_eq, cases_lt, le-ltb, lt-ltb}
use Rattle.dop_core.specs.declared.fault.DopFault.{DopFault}
use Rattle.dop_core.specs.declared.fault.DopFault.TheVariants.{NoSize}
use Rattle.dop_core.specs.declared.head.DopHead.{DopHead}
use Rattle.dop_core.specs.declared.shape.Announced.{Announced}
use Rattle.dop_core.specs.Fields.{channel_number, frame_rate, size_at}
use Rattle.dop_core.specs.Fronts.{head_by}
use Rattle.dop_core.specs.Reading.{checked, data_of, format_of, head_of, recording_of, sized}
use Rattle.dop_core.proofs.FrontLaws.{checked_in, format_in, number_in, size_in}

-- what the format chunk at a place announces, and the data chunk at another
abbrev pub announced_by : List ℕ → ℕ → ℕ → Announced
announced_by front d f = record {
  head = record {
    rate = 16 * frame_rate front f;
    channels = channel_number front f;
    start = length front;
    frames = size_at front d / (3 * channel_number front f);
  };
  size = size_at front d;
}

module _ (front rest : List ℕ) (d : ℕ) (found : data_of (front ++ rest) ≡ Ok d) (long : length front ≡ d + 8) where
  pub format_refused : (e : DopFault) → format_of front d ≡ Err e → recording_of (front ++ rest) ≡ Err e
  unfolding recording_of head_of
  format_refused e is = rw (found, format_in front rest d long, is) refl

  module _ (f : ℕ) (format : format_of front d ≡ Ok f) (fields : 16 ≤ size_at front f) (inside : f + 8 + size_at front f ≤ length front) where
    pub checked_refused : (e : DopFault) → checked front f ≡ Err e → recording_of (front ++ rest) ≡ Err e
    unfolding recording_of head_of
    checked_refused e is = rw (found, format_in front rest d long, format, checked_in front rest f fields inside, is) refl

    pub stream_refused : checked front f ≡ Ok f → size_at front d ≡ 4294967295 → recording_of (front ++ rest) ≡ Err (NoSize 4294967295)
    unfolding recording_of head_of sized
    stream_refused is stream = rw (found, format_in front rest d long, format, checked_in front rest f fields inside, is, size_in d front rest (omega (arith, long)), stream) refl

    pub announced_head : checked front f ≡ Ok f → size_at front d ≢ 4294967295 → head_of (front ++ rest) ≡ head_by (announced_by front d f) (length rest)
    unfolding head_of sized
    announced_head is known =
        let n = length rest in
        let s = size_at front d in
        let all = length-append front rest in
        let left : length (front ++ rest) - (d + 8) ≡ n = omega (arith, all, long) in
        let more : ltb (d + 8) (length (front ++ rest)) ≡ ltb 0 n = same_test (d + 8) (length (front ++ rest)) 0 n (length front) (omega (arith, long)) all in
        let at : d + 8 ≡ length front = sym long in
        rw (found, format_in front rest d long, format, checked_in front rest f fields inside, is, size_in d front rest (omega (arith, long)), number_in 2 (f + 10) front rest (omega (arith, fields, inside)), number_in 4 (f + 12) front rest (omega (arith, fields, inside)), ne_eqb s 4294967295 known, more, left, at) (both s (ltb 0 n) _)
      where
        same_test : (x y u v n : ℕ) → x ≡ n + u → y ≡ n + v → ltb x y ≡ ltb u v
        same_test x y u v n e f = elim (cases_lt u v) [
          | inl less ↦ lt-ltb x y (omega (arith, less, e, f)) ∙ sym (lt-ltb u v less)
          | inr more ↦ le-ltb x y (omega (arith, more, e, f)) ∙ sym (le-ltb u v more)
        ]

        both : (s : ℕ) (more : Bool) (then : Result DopHead DopFault) → cond (eqb s 0 && more) (Err (NoSize s)) then ≡ cond (eqb s 0 && more) (Err (NoSize 0)) then
        both s more then = elim (cases_eq s 0) [
          | inl none ↦ rw none refl
          | inr some ↦ rw (ne_eqb s 0 some) refl
        ]
