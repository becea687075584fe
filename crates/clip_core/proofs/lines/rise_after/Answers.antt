use Rattle.std.proofs.Common.{◌≡◌, ◌^◌, ◌≤◌, pos, ◌*ℤ◌, unsigned_abs, ◌∙◌, arith, w32}
use Rattle.std.proofs.lemmas.Int.{fits_signed_from_abs}
use Rattle.std.specs.Int.{int_div_euclid}
use Rattle.clip_core.proofs.LineLaws.{product_fits, risen_in, rise_kept, kept, kept_wide}
use Rattle.clip_core.proofs.lines.rise_after.Goals as goal
use Rattle.clip_core.proofs.lines.rise_after.Goals.{After-div_euclid}

rise_is : (c : After-div_euclid) → c.div_euclid.result ≡ int_div_euclid (c.args.rise *ℤ pos c.args.places) (pos c.args.run)
rise_is c = c.div_euclid.ensures ∙ rise_kept c.args.rise c.from.result c.args.places c.args.run c.requires.rise c.requires.places c.requires.run c.from.ensures

small : (c : After-div_euclid) → unsigned_abs c.div_euclid.result ≤ 2 ^ 27
small c = rw (rise_is c) (omega (arith, risen_in c.args.rise c.args.places c.args.run c.requires.places, c.requires.rise))

pub overflow_mul-risen : goal.overflow_mul-risen
overflow_mul-risen c = product_fits c.args.rise c.from.result c.args.places c.args.run c.requires.rise c.requires.places c.requires.run c.from.ensures

pub overflow_cast-result : goal.overflow_cast-result
overflow_cast-result c = rw (kept_wide c.div_euclid.result (omega (arith, small c))) (fits_signed_from_abs w32 c.div_euclid.result (omega (arith, small c)))

pub returns : goal.returns
returns c = rw (kept_wide c.div_euclid.result (omega (arith, small c))) (kept c.div_euclid.result (omega (arith, small c)) ∙ rise_is c)
