use Rattle.std.proofs.Common.{◌≡◌, arith, drop, length, length-drop}
use Rattle.std.proofs.lemmas.List.{take_rest}
use Rattle.dsd_bits.proofs.ExitLaws.{any_err, no_ok}
use Rattle.fir_core.proofs.tiles.push_samples.Goals as goal

pub returns-in_err-resize : goal.returns-in_err-resize
returns-in_err-resize c = record {
  ok = no_ok _ _ c.from_residual.result c.from_residual.ensures.1;
  err = any_err c.from_residual.result c.in_err-resize.ensures.items;
}

pub fill_samples-requires : goal.fill_samples-requires
fill_samples-requires c = record {
  reach = let all = c.as_mut_slice-samples.result.now in
      let long : length (drop c.len-before.result all) ≡ c.args.number = omega (arith, length-drop c.len-before.result all, c.as_mut_slice-samples.ensures.len, c.in_ok-resize.ensures.len) in
      rw (take_rest all c.len-before.result, long) c.requires.reach;
  phase = c.requires.phase;
}
