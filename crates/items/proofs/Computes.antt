-- One name for the definitions of reading items, and all that they call: a proof that computes with them writes `unfolding items_compute`. Assumes
-- nothing.
-- Read first: completion/proofs/Computes.
use Rattle.completion.proofs.Computes.{computes}
use Rattle.items.specs.Fields

unfoldable pub items_compute : Unit {0}
unfolding computes Fields.or_refuse Fields.demand Fields.one_field Fields.read_number Fields.fields_there Fields.is_renamed Fields.renamed_pair
    Fields.rule_sides
    Fields.read_rule Fields.number_before Fields.read_rule_at Fields.read_kind Fields.read_forms
items_compute = tt
