-- `leave`: what `report::report` writes, and what `save_if` does (`leaves_both`). Assumes nothing.
-- Read first: specs/Leaving (LeavesBoth), report/specs/Report (Reports), proofs/Writing.
use Rattle.saving_calls.proofs.Writing.{table_few, leaves_both}
use Rattle.saving_calls.proofs.leave.Goals as goal

pub save_if-m-requires : goal.save_if-m-requires
save_if-m-requires c =
    record {
      longest_saved_in_bounds = c.requires.most_result_in_bounds.1;
      table_len_bound = (
        table_few c.args.source.now _ c.requires.field_head_le_table_end.2,
        c.requires.field_head_le_table_end.3,
        c.requires.most_result_in_bounds.2,
      );
    }

pub returns : goal.returns
returns c = leaves_both c.report-n.ensures c.save_if-m.ensures
