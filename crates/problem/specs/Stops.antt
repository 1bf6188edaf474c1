-- Document 01, "Stops and what they leave": the refusals' numbers, passed on. Assumes nothing.
-- Read first: reading/specs/Stops.
pub use Rattle.reading.specs.Stops.{short_buffer, long_problem, cut_field, wrong_tag, wrong_symbol_field, wrong_arity_or_rank, wrong_budget}
pub use Rattle.reading.specs.Stops.{many_equations, wrong_term, large_side, not_one_equation}
