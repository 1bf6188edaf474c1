-- `rule_of`: a lemma for each answer of `upper`; the sides of the slot's pair are the ones that were compared and placed. Assumes nothing.
-- Read first: specs/Orients (RuleOf), proofs/Orienting.
use mathlib.Core.Path.{◌≡◌, subst}
use Rattle.std.specs.Prelude.{List, ℕ, Ok, length}
use Rattle.limits.specs.Limits.{origin_width}
use Rattle.orient.specs.declared.Above.{Above}
use Rattle.orient.specs.Orients.{IsUpper}
use Rattle.orient.proofs.Orienting.{turned_low, rule_left, rule_right, rule_none}
use Rattle.std.proofs.Common.{rules}
use Rattle.std.proofs.lemmas.Result.{err_from_is_err_and}
use Rattle.orient.proofs.rule_of.Goals as goal

on : {tab left right : List ℕ} {side which : Above} → IsUpper tab left right (Ok side) → side ≡ which → IsUpper tab left right (Ok which)
on {tab} {left} {right} u e = subst (λ z. IsUpper tab left right (Ok z)) e u

pub placed-requires : goal.placed-requires
placed-requires c =
    let mark-whole : length c.numbered-mark.result ≡ origin_width = search rules in
    let u = on c.in_ok-upper.ensures c.in-Left.is in
    record {
      left_len_bound = (c.left-left.ensures.result_len_bound, c.right-right.ensures.result_len_bound, u.low);
      mark_len = mark-whole;
    }

pub placed-requires-in-Right : goal.placed-requires-in-Right
placed-requires-in-Right c =
    let mark-whole : length c.numbered-mark.result ≡ origin_width = search rules in
    let u = on c.in_ok-upper.ensures c.in-Right.is in
    record {
      left_len_bound = (c.right-right.ensures.result_len_bound, c.left-left.ensures.result_len_bound, turned_low u);
      mark_len = mark-whole;
    }

pub returns-in-Left : goal.returns-in-Left
returns-in-Left c =
    rule_left _ _ _ _ _ c.left-left.ensures.result_value c.right-right.ensures.result_value _ _ c.numbered-mark.ensures
    (on c.in_ok-upper.ensures c.in-Left.is) c.placed.ensures

pub returns-in-Right : goal.returns-in-Right
returns-in-Right c =
    rule_right _ _ _ _ _ c.left-left.ensures.result_value c.right-right.ensures.result_value _ _ c.numbered-mark.ensures
    (on c.in_ok-upper.ensures c.in-Right.is) c.placed-in-Right.ensures

pub returns-in_err-upper : goal.returns-in_err-upper
returns-in_err-upper c =
    let p = err_from_is_err_and c.from_residual.result c.from_residual.ensures.1 in
    rw (p.1, p.2)
    (rule_none _ _ _ _ _ c.left-left.ensures.result_value c.right-right.ensures.result_value _ c.in_err-upper.ensures)
