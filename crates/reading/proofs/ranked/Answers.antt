-- `ranked`: the invariant is that the first k symbols are right, so that the whole is what is read from the rest. Assumes nothing.
-- Read first: specs/Answers (check_symbols, IsRanked), proofs/Tables.
use Rattle.reading.proofs.Tables.{table_arity, table_rank, table_turn, table_end}
use Rattle.reading.specs.Forms.{refused}
use Prim.Native.Nat.{◌+◌, ◌<◌}
use lib.ListN.{length}
use native.Mathlib.Omega.{arith}
use mathlib.Core.Path.{◌≡◌, refl, ◌∙◌, sym, ap}
use Rattle.reading.proofs.ranked.Goals as goal

pub loop-k-init : goal.loop-k-init
loop-k-init c = λ at. let z : at + (0 + 0) ≡ at = omega arith in rw z refl

pub returns-then-table-k-gt-ARITY : goal.returns-then-table-k-gt-ARITY
returns-then-table-k-gt-ARITY c =
    let h : c.loop-k.k + c.loop-k.k + 1 < length c.args.table.now = omega (arith, c.loop-k-test.true) in
    (omega arith, λ at. sym (c.loop-k.invariant at) ∙ table_arity _ _ _ h c.if-table-k-gt-ARITY.true)

pub returns-then-table-k-gt-RANK : goal.returns-then-table-k-gt-RANK
returns-then-table-k-gt-RANK c =
    let h : c.loop-k.k + c.loop-k.k + 1 < length c.args.table.now = omega (arith, c.loop-k-test.true) in (
      h,
      λ at. sym (c.loop-k.invariant at) ∙ table_rank _ _ _ h c.if-table-k-gt-ARITY.false c.if-table-k-gt-RANK.true ∙ ap (refused 6) (omega arith),
    )

pub loop-k-preserved : goal.loop-k-preserved
loop-k-preserved c =
    let h : c.loop-k.k + c.loop-k.k + 1 < length c.args.table.now = omega (arith, c.loop-k-test.true) in
    λ at. table_turn _ _ h c.if-table-k-gt-ARITY.false c.if-table-k-gt-RANK.false at ∙ c.loop-k.invariant at

pub returns : goal.returns
returns c = λ at. sym (c.loop-k.invariant at) ∙ table_end c.args.table.now _ (c.loop-k.k + c.loop-k.k) (omega (arith, c.loop-k-test.false))
