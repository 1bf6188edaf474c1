-- `outermost`: what `ask_problem` answers from the outside in, with the laws of the definition's answer. Assumes nothing.
-- Read first: specs/Answers, proofs/Agreeing (laws).
use Rattle.rewriting.proofs.Lasting.{outer_rewrites}
use Rattle.joining.specs.Joins.{step_by}
use Rattle.decide.proofs.Agreeing.{laws}
use Rattle.std.proofs.Common.{rules}
use Rattle.decide.proofs.outermost.Goals as goal

pub returns : goal.returns
unfolding step_by
returns c =
    let all = laws _ outer_rewrites _ _ _ c.ask_problem.ensures in
    record {
      answer = all.0;
      rules = all.1.0;
      equations = all.1.1.0;
      accepted = all.1.1.1.0;
      agrees = all.1.1.1.1;
    }
