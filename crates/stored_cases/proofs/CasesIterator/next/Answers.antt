-- `next`: the parts of a case stand in their order, and behind it less of the text is left. Assumes nothing.
-- Read first: proofs/Reading.
use Rattle.std.proofs.Common.{arith, sym, ◌∙◌}
use Rattle.stored_cases.proofs.Reading.{in_order}
use Rattle.stored_cases.proofs.CasesIterator.next.Goals as goal

pub parts-requires : goal.parts-requires
parts-requires c =
    let o = in_order _ _ _ (sym c.case_at.ensures ∙ c.in_ok-case.was) in
    (o.problem_after, o.end_after, o.within)

pub returns-clause-goes : goal.returns-clause-goes
returns-clause-goes c =
    let o = in_order _ _ _ (sym c.case_at.ensures ∙ c.in_ok-case.was) in
    record {
      on = λ _. (tt, tt, omega (arith, o.name_after, o.problem_after, o.end_after, o.within));
      keeps = tt;
      rests = λ _. tt;
    }
