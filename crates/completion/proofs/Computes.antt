-- One name for all of the definitions: a proof that computes with them writes `unfolding computes`. Assumes nothing.
-- Read first: any file that uses it, e.g. proofs/Instances.
use Rattle.terms.specs.Base
use Rattle.terms.specs.Term
use Rattle.problem.specs.Problem
use Rattle.order.specs.Order
use Rattle.unify.specs.Unify
use Rattle.rewriting.specs.Overlap
use Rattle.rewriting.specs.Rewrite
use Rattle.completion.specs.Turn
use Rattle.completion.specs.Calls
use Rattle.completion.specs.Settle
use mathlib.Core.List.{flat_map}

unfoldable pub computes : Unit {0}
unfolding flat_map Base.mapped Base.or_else Base.is_some Base.number_bytes Base.number_from Base.field_bytes Base.count_from
    Base.member Base.without Base.distinct Base.place_in Term.term_bytes Term.terms_bytes Term.size Term.sizes Term.variables Term.variables_of
    Term.same Term.sames Term.subst_term Term.subst_terms Term.subterm_at Term.subterm_in Term.replace_at Term.replace_in Term.pair_variables
    Term.renamed Problem.◌>>=◌ Problem.refuse_if Problem.read_field Problem.due Problem.has Problem.arity_of Problem.rank_of Problem.read_symbols
    Problem.symbol_field Problem.budget_field Problem.byte_of Problem.read_terms Problem.read_term Problem.read_side Problem.read_pair
    Problem.equation_field Problem.equation_fields Problem.parse Problem.only_equation Order.by_clauses Order.by_clauses_all Order.above
    Order.some_reaches Order.first_above
    Order.same_length Order.comparison Unify.disagreement Unify.disagreement_in Unify.single Unify.under Unify.mgu_in Unify.mgu Overlap.apart
    Overlap.overlap_by Overlap.overlap_at Overlap.overlap Overlap.places Overlap.positions Overlap.places_with Overlap.places_self Overlap.all_places
    Rewrite.bound Rewrite.bind_to Rewrite.matching Rewrite.matching_all Rewrite.bound_or_variable Rewrite.instantiate Rewrite.root_step Rewrite.step
    Rewrite.step_in Rewrite.return Rewrite.end_with Rewrite.and_then Rewrite.◌>>=◌ Rewrite.end_if Rewrite.pay Rewrite.hold Rewrite.normalise_by
    Rewrite.both_by Turn.candidates Turn.initial Turn.scan_overlap Turn.if_different Turn.if_different_overlap Turn.scan_inputs Turn.scan
    Turn.take_pair Turn.orient Turn.rewrites Turn.kept Turn.removed Turn.normalise_rights Turn.waits_again Turn.if_oriented Turn.make_rule Turn.settled
    Turn.end_if_all_put_back Turn.turn Turn.turns Turn.run_from Turn.run Rewrite.end_number Calls.pair_bytes Calls.rule_field Calls.origin_bytes
    Calls.entry_field Calls.oldest_field Calls.forms_field Calls.result_fields Calls.result_bytes
    Calls.enough Calls.complete_call Calls.parse_single Calls.compare_call Calls.unified Calls.unify_call Calls.part_of Calls.subterm_part
    Calls.subterm_call Calls.written Calls.after_complete Calls.after_unify Settle.ascii Settle.hex_digit Settle.hex_byte Settle.decimal_in
    Settle.decimal Settle.line Settle.settle
computes = tt
