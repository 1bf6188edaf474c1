-- `text`: what `complete` wrote is printed as lines (`prints_lines`), what it refused as a refusal (`prints_refused`). Assumes nothing.
-- Read first: completion/specs/Settle (settle), specs/Text, proofs/Printing.
use Rattle.settle_text.proofs.Printing.{got, prints_lines, prints_refused}
use mathlib.Core.Path.{◌∙◌}
use native.Mathlib.Omega.{arith}
use Rattle.std.proofs.Common.{rules}
use Rattle.settle_text.proofs.text.Goals as goal

pub slice_bounds-put_lines-end : goal.slice_bounds-put_lines-end
slice_bounds-put_lines-end c =
    let f =
    (got _ _ _ _ _ _ c.in-Ok.is c.complete.ensures.answer c.complete.ensures.bytes).few in
    omega arith

pub put_lines-requires : goal.put_lines-requires
put_lines-requires c =
    let f =
    (got _ _ _ _ _ _ c.in-Ok.is c.complete.ensures.answer c.complete.ensures.bytes).few in
    let p = c.requires in
    search rules

pub returns-in-Ok : goal.returns-in-Ok
returns-in-Ok c =
    let g = got _ _ _ _ _ _ c.in-Ok.is c.complete.ensures.answer
    c.complete.ensures.bytes in
    record {
      writes = prints_lines _ _ _ _ _ _ _ g (search rules) c.put_lines.ensures.1;
      upper_bound = c.put_lines.ensures.0;
    }

pub returns-in-Err : goal.returns-in-Err
returns-in-Err c =
    record {
      writes =
          prints_refused _ _ _ _ _ _ _ _ c.in-Err.is c.complete.ensures.answer (c.from-number.ensures ∙ c.from.ensures) (search rules)
          c.put_refused.ensures.1;
      upper_bound = (let p = c.put_refused.ensures.0 in let q = c.requires in omega arith);
    }
