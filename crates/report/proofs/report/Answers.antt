-- `report`: the five parts fit the 13,726 bytes and stand one behind the other (`wrote_all`); they are the run's result (`reported`). Assumes
-- nothing.
-- Read first: specs/Report (Reports), proofs/Whole, proofs/Meaning.
use Rattle.std.proofs.Common.{rules, arith, refl}
use Rattle.slots.proofs.Layouts.{layout_less}
use Rattle.report.proofs.Whole.{units_room, rules_room, log_room, forms_room, wrote_few, wrote_all}
use Rattle.report.proofs.Meaning.{reports}
use Rattle.report.proofs.report.Goals as goal

pub number_field-requires-2 : goal.number_field-requires-2
number_field-requires-2 c = (omega (arith, units_room refl c.requires.most_result_in_bounds c.number_field.ensures (omega arith)), omega arith)

pub put_rules-requires-clause-count_in_bounds : goal.put_rules-requires-clause-count_in_bounds
put_rules-requires-clause-count_in_bounds c =
    omega (arith, c.requires.fine.live_few, rules_room refl c.requires.most_result_in_bounds c.number_field.ensures c.number_field-2.ensures (omega arith))

pub put_log-requires-clause-count_in_bounds : goal.put_log-requires-clause-count_in_bounds
put_log-requires-clause-count_in_bounds c =
    let fine = c.requires.fine in
    let room = log_room refl c.requires.most_result_in_bounds c.number_field.ensures c.number_field-2.ensures (omega arith) c.put_rules.ensures fine.live_few in
    omega (arith, fine.log_few, room)

pub put_oldest-requires : goal.put_oldest-requires
put_oldest-requires c =
    let fine = c.requires.fine in
    let b = c.requires.most_result_in_bounds in
    let room = forms_room refl b c.number_field.ensures c.number_field-2.ensures (omega arith) c.put_rules.ensures fine.live_few c.put_log.ensures in
    (room (omega (arith, fine.log_few)), fine.layout)

pub returns : goal.returns
returns c =
    let fine = c.requires.fine in
    let b = c.requires.most_result_in_bounds in
    let p = c.number_field.ensures in
    let q = c.number_field-2.ensures in
    let s = c.put_rules.ensures in
    let t = c.put_log.ensures in
    let u = c.put_oldest.ensures in
    let first = p.same in
    let second = q.same in
    let third = s.same in
    let fourth = t.same in
    let fifth = u.same in
    reports _ _ _ _ _ c.put_oldest.new.w (search rules) c.from.ensures
    (wrote_few refl b _ _ _ _ _ _ _ fine.live_few fine.log_few p q s t u)
    (wrote_all refl b _ _ _ _ _ _ _ fine.live_few fine.log_few p q s t u)
