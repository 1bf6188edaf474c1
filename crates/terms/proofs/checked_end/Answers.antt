-- `terms::checked_end` meets its contract. Assumes nothing.
-- Read first: specs/Owed, proofs/Scans, proofs/Owing.
use Rattle.terms.proofs.Scans.{scan_turn, scan_bad, scan_done, scan_ended, scan_cut}
use Rattle.terms.proofs.Owing.{from_start, from_turn, tested_start, tested_turn}
use native.Mathlib.Omega.{arith}
use lib.ListN.{length}
use mathlib.Core.Path.{◌≡◌, sym, ◌∙◌}
use Rattle.std.proofs.Common.{rules}
use Rattle.terms.proofs.checked_end.Goals as goal

pub loop-i-init : goal.loop-i-init
loop-i-init c = (from_start _ _ _, tested_start _ _ _, search rules, search rules, search rules, search rules)

pub returns-then-owed-eq0 : goal.returns-then-owed-eq0
returns-then-owed-eq0 c = scan_done _ _ _ _ c.if-owed-eq0.true ∙ c.loop-i.invariant.5

pub returns-then-not-is_node : goal.returns-then-not-is_node
returns-then-not-is_node c =
    let y = sym c.is_node.ensures ∙ c.if-not-is_node.true in
    scan_bad _ _ _ _ c.loop-i-test.true c.if-owed-eq0.false y ∙ c.loop-i.invariant.5

pub loop-i-preserved : goal.loop-i-preserved
loop-i-preserved c =
    let y = sym c.is_node.ensures ∙ c.if-not-is_node.false in
    let inv = c.loop-i.invariant in
    let more = c.loop-i-test.true in
    let owed = c.if-owed-eq0.false in
    let byte = c.owed_by.ensures.0 in (
      from_turn _ _ _ _ inv.2 more _ _ owed byte inv.0,
      tested_turn _ _ _ _ inv.2 more y inv.1,
      search rules,
      search rules,
      search rules,
      scan_turn _ _ _ _ _ more owed y byte ∙ inv.5,
    )

pub returns-then-owed-eq0-2 : goal.returns-then-owed-eq0-2
returns-then-owed-eq0-2 c =
    let end : c.loop-i.i ≡ length c.args.t.now = omega arith in
    scan_ended _ _ _ _ end c.if-owed-eq0-2.true ∙ c.loop-i.invariant.5

pub returns-else-owed-eq0-2 : goal.returns-else-owed-eq0-2
returns-else-owed-eq0-2 c =
    let end : c.loop-i.i ≡ length c.args.t.now = omega arith in
    scan_cut _ _ _ _ end c.if-owed-eq0-2.false ∙ c.loop-i.invariant.5
