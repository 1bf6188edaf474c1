-- `turn`: no unit left, or by what is due; a lemma for each return. Behind `compose_few` the state has other bytes in its slots. Assumes nothing.
-- Read first: proofs/Whole, proofs/Parts.
use mathlib.Core.Path.{◌≡◌, refl, ap, ◌∙◌}
use Rattle.rewriting.specs.declared.End.{End}
use Rattle.std.specs.Prelude.{Result, Ok}
use Rattle.forms.specs.declared.Due.{Due}
use Rattle.forms.proofs.Entries.{settle_room, make_room}
use Rattle.turn.proofs.Parts.{settle_needs, settles, orient_room, makes_large, put_back_needs, makes_neither, collapse_room}
use Rattle.turn.proofs.Parts.{enter_needs, compose_room, makes_ends, makes_goes}
use Rattle.turn.proofs.Whole.{turn_spent, look_room, began_fine, turn_ends, turn_settled, turn_made}
use Rattle.turn.proofs.turn.Goals as goal

-- what is due
which : {d : Result Due End} {x y : Due} → d ≡ Ok x → x ≡ y → d ≡ Ok y
which e q = e ∙ ap Ok q

pub returns-then-st-eq0 : goal.returns-then-st-eq0
returns-then-st-eq0 c = turn_spent c.requires.0 c.if-st-eq0.true c.ended.ensures

pub look-t-requires : goal.look-t-requires
look-t-requires c =
    record {
      layout = look_room c.requires.0 c.begin-st.ensures refl;
      layout_2 = (c.requires.1, c.requires.2);
    }

pub returns-in-Err : goal.returns-in-Err
returns-in-Err c =
    turn_ends c.requires.0 c.if-st-eq0.false c.begin-st.ensures refl c.look-t.ensures c.due_after.ensures c.in-Err.is
    c.ended-in-Err.ensures

-- step 3
pub take-requires : goal.take-requires
take-requires c = began_fine c.requires.0 c.begin-st.ensures

pub settle-requires : goal.settle-requires
settle-requires c =
    settle_needs c.take.ensures (settle_room _ _ _ c.due_after.ensures (which c.in-Ok-Settle.is c.in-Ok-Settle.field-0-is))
    c.look-t.ensures.layout

pub returns-in-Ok-Settle : goal.returns-in-Ok-Settle
returns-in-Ok-Settle c =
    turn_settled c.requires.0 c.if-st-eq0.false c.begin-st.ensures refl c.look-t.ensures
    c.due_after.ensures (which c.in-Ok-Settle.is c.in-Ok-Settle.field-0-is) (settles c.take.ensures c.settle.ensures c.goes_on.ensures)

-- steps 4 to 7: a rule is due
pub take-rest-requires : goal.take-rest-requires
take-rest-requires c = began_fine c.requires.0 c.begin-st.ensures

pub orient-requires : goal.orient-requires
orient-requires c =
    (c.take-rest.ensures.fine, orient_room (began_fine c.requires.0 c.begin-st.ensures) c.take-rest.ensures, c.look-t.ensures.layout)

pub returns-in-Err-TooLarge : goal.returns-in-Err-TooLarge
returns-in-Err-TooLarge c =
    let fine = began_fine c.requires.0 c.begin-st.ensures in
    let large = rw c.in-Err-TooLarge.field-0-is at c.in-Err-TooLarge.ensures in
    turn_made c.requires.0 c.if-st-eq0.false c.begin-st.ensures refl c.look-t.ensures c.due_after.ensures (which c.in-Ok-Make.is c.in-Ok-Make.field-0-is)
    (makes_large fine c.take-rest.ensures large c.ended-in-Err-TooLarge.ensures)

pub put_back-requires : goal.put_back-requires
put_back-requires c =
    let fine = began_fine c.requires.0 c.begin-st.ensures in
    let neither = rw c.in-Err-Neither.field-0-is at c.in-Err-Neither.ensures in
    let room = make_room _ _ _ c.due_after.ensures (which c.in-Ok-Make.is c.in-Ok-Make.field-0-is) in
    let needs = put_back_needs fine c.take-rest.ensures neither room c.look-t.ensures.layout in
    record {
      fine = needs.0;
      layout = needs.1;
    }

pub returns-in-Err-Neither : goal.returns-in-Err-Neither
returns-in-Err-Neither c =
    let fine = began_fine c.requires.0 c.begin-st.ensures in
    let neither = rw c.in-Err-Neither.field-0-is at c.in-Err-Neither.ensures in
    turn_made c.requires.0 c.if-st-eq0.false c.begin-st.ensures refl c.look-t.ensures c.due_after.ensures (which c.in-Ok-Make.is c.in-Ok-Make.field-0-is)
    (makes_neither fine c.take-rest.ensures neither c.put_back.ensures c.goes_on-in-Err-Neither.ensures)

pub collapse-collapsed-requires : goal.collapse-collapsed-requires
collapse-collapsed-requires c =
    collapse_room (began_fine c.requires.0 c.begin-st.ensures) c.take-rest.ensures c.in-Ok.ensures

pub enter_rule-entered-requires : goal.enter_rule-entered-requires
enter_rule-entered-requires c =
    let fine = began_fine c.requires.0 c.begin-st.ensures in
    let room = make_room _ _ _ c.due_after.ensures (which c.in-Ok-Make.is c.in-Ok-Make.field-0-is) in
    enter_needs fine c.take-rest.ensures c.in-Ok.ensures c.collapse-collapsed.ensures room c.look-t.ensures.layout

pub compose_few-c-requires : goal.compose_few-c-requires
compose_few-c-requires c = compose_room c.collapse-collapsed.ensures c.enter_rule-entered.ensures

pub returns-in-Some : goal.returns-in-Some
returns-in-Some c =
    let fine = began_fine c.requires.0 c.begin-st.ensures in
    turn_made c.requires.0 c.if-st-eq0.false c.begin-st.ensures refl c.look-t.ensures c.due_after.ensures (which c.in-Ok-Make.is c.in-Ok-Make.field-0-is)
    (makes_ends fine c.take-rest.ensures c.in-Ok.ensures c.collapse-collapsed.ensures c.enter_rule-entered.ensures
    c.compose_few-c.ensures c.in-Some.is c.ended-in-Some.ensures)

pub returns : goal.returns
returns c =
    let fine = began_fine c.requires.0 c.begin-st.ensures in
    turn_made c.requires.0 c.if-st-eq0.false c.begin-st.ensures refl c.look-t.ensures c.due_after.ensures (which c.in-Ok-Make.is c.in-Ok-Make.field-0-is)
    (makes_goes fine c.take-rest.ensures c.in-Ok.ensures c.collapse-collapsed.ensures c.enter_rule-entered.ensures
    c.compose_few-c.ensures c.in_default.is c.goes_on-2.ensures)
