-- `ask`: a lemma for each return: the record is bad, its end is not 0, a rule does not go down, the forms are compared. Assumes nothing.
-- Read first: specs/Asking (Asks), record/specs/Reader (IsRecord), proofs/Questions.
use Rattle.decide.proofs.Questions.{record_refused, end_refused, rule_refused, forms_asked}
use native.Mathlib.Omega.{arith}
use Rattle.decide.proofs.ask.Goals as goal

pub returns-in-Err : goal.returns-in-Err
returns-in-Err c = record_refused _ _ _ _ _ _ _ c.in-Err.ensures

pub invariant_of-system : goal.invariant_of-system
invariant_of-system c = record { laid_out = c.in-Ok.ensures.3.layout }

-- the tests' facts go through `omega`: a looser test leaves what stays true proved
pub returns-then-record-ne0 : goal.returns-then-record-ne0
returns-then-record-ne0 c =
    let R = c.in-Ok.ensures in
    let t = c.if-record-ne0.true in
    end_refused _ _ _ _ _ _ _ R.2 _ _ (λ z. omega arith)

pub not_above-requires : goal.not_above-requires
not_above-requires c = record { table = c.requires.table; count_le_most_rules = c.in-Ok.ensures.3.few }

pub returns-in-Some : goal.returns-in-Some
returns-in-Some c =
    let R = c.in-Ok.ensures in
    let t = c.if-record-ne0.false in
    rule_refused _ _ _ _ _ _ _ R.2 (omega arith) R.3 _ _ _ c.in-Some.ensures

pub returns : goal.returns
returns c =
    let R = c.in-Ok.ensures in
    let t = c.if-record-ne0.false in
    forms_asked _ _ _ _ _ _ _ R.2 (omega arith) R.3 c.in_default.ensures c.compare_forms.ensures
