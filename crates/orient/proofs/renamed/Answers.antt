-- `renamed`: the pair's own sides and mark are placed, by `pair_renamed`. Assumes nothing.
-- Read first: specs/Orients (Renames), proofs/Orienting.
use mathlib.Core.Path.{sym, ap₂, subst}
use mathlib.Core.List.{◌++◌}
use Rattle.orient.specs.Orients.{LowBytes}
use Rattle.orient.proofs.Orienting.{pair_renamed}
use Rattle.std.proofs.Common.{rules}
use Rattle.orient.proofs.renamed.Goals as goal

pub placed-requires : goal.placed-requires
placed-requires c =
    record {
      left_len_bound = (
        c.left.ensures.result_len_bound,
        c.right.ensures.result_len_bound,
        subst LowBytes
            (sym (ap₂ ◌++◌ c.left.ensures.result_value c.right.ensures.result_value)) c.requires.1,
      );
      mark_len = search rules;
    }

pub returns : goal.returns
returns c = pair_renamed _ _ _ _ _ c.left.ensures.result_value c.right.ensures.result_value c.mark-mark.ensures c.placed.ensures
