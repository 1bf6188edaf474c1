-- `add_name`: a symbol, a name that is there, a new name: a lemma for each. Assumes nothing.
-- Read first: specs/Names (added), proofs/Finding (Added).
use Rattle.naming.proofs.Finding.{add_symbol, add_old, add_new}
use Rattle.naming.proofs.add_name.Goals.{then-b-lt-VARIABLE-via-then-b-lt-VARIABLE, then-b-lt-VARIABLE-via-else-b-lt-VARIABLE+then-is_some}
use Rattle.naming.proofs.add_name.Goals as goal

pub returns-then-b-lt-VARIABLE : goal.returns-then-b-lt-VARIABLE
returns-then-b-lt-VARIABLE c =
    elim c.then-b-lt-VARIABLE.branch [
      | then-b-lt-VARIABLE-via-then-b-lt-VARIABLE w ↦ let a = add_symbol c.args.names.now _ _ w.if-b-lt-VARIABLE.true in (a.long, a.names, a.few)
      | then-b-lt-VARIABLE-via-else-b-lt-VARIABLE+then-is_some w ↦
          let a = add_old c.args.names.now _ _ _ c.requires w.if-b-lt-VARIABLE.false w.place_of.ensures _ w.is_some.ensures w.if-is_some.true in
          (a.long, a.names, a.few)
    ]

pub returns : goal.returns
returns c =
    let a = add_new c.args.names.now _ _ _ c.requires c.if-b-lt-VARIABLE.false c.place_of.ensures _ c.is_some.ensures c.if-is_some.false in
    (a.long, a.names, a.few)
