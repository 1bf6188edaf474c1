-- `rule_field`: the field that is due, the pair that its contents hold behind the number, and whether the number is above the one before. Assumes
-- nothing.
-- Read first: specs/Readers (IsRule), proofs/OneField, proofs/Holding.
use mathlib.Core.Path.{◌≡◌}
use native.Mathlib.Omega.{arith}
use Rattle.std.proofs.Common.{None}
use Rattle.items.specs.Fields.{read_rule}
use Rattle.items.proofs.OneField.{one_undue, one_read, one_unread}
use Rattle.items.proofs.Holding.{rule_short, rule_unheld, rule_low, rule_high, rule_fine}
use Rattle.items.proofs.rule_field.Goals.{then-number-before-via-then-number-before, then-number-before-via-else-number-before+then-number-most}
use Rattle.items.proofs.rule_field.Goals as goal

pub overflow_add-start : goal.overflow_add-start
overflow_add-start c =
    let d = c.in-Ok.ensures in
    omega (arith, d.1, d.2, c.requires.kept_len_bound)

pub returns-then-end-start : goal.returns-then-end-start
returns-then-end-start c =
    let d = c.in-Ok.ensures in
    one_unread _ (read_rule _ _ _ _) _ _ _ d (rule_short _ _ _ _ _ _ _ d.2 c.if-end-start.true)

pub number-number-requires : goal.number-number-requires
number-number-requires c =
    let d = c.in-Ok.ensures in
    (omega (arith, c.if-end-start.false, d.2), omega arith)

pub returns-then-number-before : goal.returns-then-number-before
returns-then-number-before c =
    let d = c.in-Ok.ensures in
    let n = c.number-number.ensures.value in
    let long = c.if-end-start.false in
    one_unread _ (read_rule _ _ _ _) _ _ _ d (elim c.then-number-before.branch [
      | then-number-before-via-then-number-before w ↦ rule_low _ _ _ _ _ _ _ d.2 long _ n (omega (arith, w.if-number-before.true))
      | then-number-before-via-else-number-before+then-number-most w ↦
          rule_high _ _ _ _ _ _ _ d.2 long _ n (omega (arith, w.if-number-most.true))
    ])

pub rule_sides-requires : goal.rule_sides-requires
rule_sides-requires c =
    let found = c.in-Ok.ensures in
    record {
      table = c.requires.table;
      at_le_end = (c.if-end-start.false, found.2, c.requires.kept_len_bound);
    }

pub returns-in_err-middle : goal.returns-in_err-middle
returns-in_err-middle c =
    let d = c.in-Ok.ensures in
    let gone : c.from_residual.result ≡ None = grind arith in
    rw gone
    (one_unread _ (read_rule _ _ _ _) _ _ _ d
    (rule_unheld _ _ _ _ _ _ _ d.2 c.if-end-start.false _ c.number-number.ensures.value c.in_err-middle.ensures))

pub returns : goal.returns
returns c =
    let d = c.in-Ok.ensures in
    let h = c.in_ok-middle.ensures in
    let r = rule_fine _ _ _ _ _ _ _ d.2 c.if-end-start.false _ c.number-number.ensures.value c.if-number-before.false c.if-number-most.false _ h.1 in
    (h.0, record { one = one_read _ (read_rule _ _ _ _) _ _ _ d _ r; held = h.2; fits = c.number-number.ensures.fits })

pub returns-in_default : goal.returns-in_default
returns-in_default c = one_undue _ (read_rule _ _ _ _) _ _ c.due.result c.due.ensures c.in_default.not-Ok
