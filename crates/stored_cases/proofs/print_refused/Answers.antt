-- `print_refused`: the text that is printed is the refusal's. Assumes nothing.
-- Read first: `print_refused` in src/lib.rt, proofs/Texts.
use Rattle.std.proofs.Common.{◌∙◌}
use Rattle.stored_cases.proofs.Texts.{refused_written}
use Rattle.stored_cases.proofs.print_refused.Goals as goal

pub returns-clause-ok : goal.returns-clause-ok
returns-clause-ok g c =
    let new = c.new-text.ensures in
    let e = c.as_bytes.ensures.value ∙ c.as_str.ensures.value ∙ refused_written _ _ _ _ new.text new.intact c.in_ok-write.ensures.writes in
    rw e at c.print.ensures.ok

pub returns-clause-err : goal.returns-clause-err
returns-clause-err g c =
    let new = c.new-text.ensures in
    let e = c.as_bytes.ensures.value ∙ c.as_str.ensures.value ∙ refused_written _ _ _ _ new.text new.intact c.in_ok-write.ensures.writes in
    rw e at c.print.ensures.err
