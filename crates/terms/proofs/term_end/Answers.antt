-- `terms::term_end` meets its contract. Assumes nothing.
-- Read first: specs/Owed, proofs/Scans, proofs/Owing.
use Rattle.terms.proofs.Scans.{skip_turn, skip_done, skip_ended}
use Rattle.terms.proofs.Owing.{from_start, from_turn, ends_zero, ends_over}
use native.Mathlib.Omega.{arith}
use lib.ListN.{length}
use mathlib.Core.Path.{◌≡◌, sym, ◌∙◌}
use Rattle.std.proofs.Common.{rules}
use Rattle.terms.proofs.term_end.Goals as goal

pub loop-i-init : goal.loop-i-init
loop-i-init c = (from_start _ _ _, search rules, search rules, search rules, search rules)

pub returns-then-owed-eq0 : goal.returns-then-owed-eq0
returns-then-owed-eq0 c =
    let inv = c.loop-i.invariant in
    let zero = c.if-owed-eq0.true in
    record {
      bytes = sym (skip_done _ _ _ _ zero) ∙ inv.4;
      term = λ x b. ends_zero _ _ _ _ _ inv.1 inv.0 x b zero;
      within = search rules;
    }

pub loop-i-preserved : goal.loop-i-preserved
loop-i-preserved c =
    let inv = c.loop-i.invariant in
    let more = c.loop-i-test.true in
    let owed = c.if-owed-eq0.false in
    let byte = c.owed_by.ensures.0 in (
      from_turn _ _ _ _ inv.1 more _ _ owed byte inv.0,
      search rules,
      search rules,
      search rules,
      skip_turn _ _ _ _ _ more owed byte ∙ inv.4,
    )

pub returns : goal.returns
returns c =
    let inv = c.loop-i.invariant in
    let over : c.loop-i.i ≡ length c.args.t.now = omega arith in
    record {
      bytes = sym (skip_ended _ _ _ _ over) ∙ inv.4;
      term = λ x b. sym over ∙ ends_over _ _ _ _ _ inv.1 inv.0 x b (omega (arith, over));
      within = search rules;
    }
