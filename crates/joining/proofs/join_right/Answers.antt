-- `join_right`: a lemma for each return: no last term, the last terms are equal bytes, they differ. Assumes nothing.
-- Read first: specs/Joins (RightJoined), proofs/Joining.
use Prim.Native.Nat.{◌≤◌}
use mathlib.Core.Path.{refl, sym, ◌∙◌}
use lib.Pointwise.{bytes_decides}
use lib.ListN.{length}
use Rattle.joining.proofs.Joining.{right_ends, right_same, right_differs}
use Rattle.normaliser.proofs.Outcomes.{few_bytes, few_taken}
use Rattle.std.proofs.Common.{rules}
use Rattle.joining.proofs.join_right.Goals as goal

pub slice_bounds-eq-end : goal.slice_bounds-eq-end
slice_bounds-eq-end c =
    let inside : c.in-Ok.n ≤ length c.last_term-r.new.out =
    let a = few_bytes c.last_term-r.ensures c.in-Ok.is in let b = c.last_term-r.ensures.same in search rules in
    let h = inside in
    search rules

pub returns-then-eq : goal.returns-then-eq
returns-then-eq c =
    right_same c.last_term-r.ensures c.in-Ok.is
    ((bytes_decides _ _).0 (sym c.if-eq.ensures)) refl

pub slice_bounds-put_sides-end : goal.slice_bounds-put_sides-end
slice_bounds-put_sides-end c =
    let inside : c.in-Ok.n ≤ length c.last_term-r.new.out =
    let a = few_bytes c.last_term-r.ensures c.in-Ok.is in let b = c.last_term-r.ensures.same in search rules in
    let h = inside in
    search rules

pub put_sides-requires : goal.put_sides-requires
put_sides-requires c =
    record {
      k_in_bounds = c.requires.layout.room;
      left_len_bound = (c.requires.first_len_bound.0, few_taken c.last_term-r.ensures c.in-Ok.is);
    }

pub returns-else-eq : goal.returns-else-eq
returns-else-eq c =
    right_differs c.last_term-r.ensures c.in-Ok.is _ c.if-eq.false (λ e. c.eq.ensures ∙ (bytes_decides _ _).1 e)
    c.put_sides.ensures refl

pub returns-in-Err : goal.returns-in-Err
returns-in-Err c = right_ends c.last_term-r.ensures _ c.in-Err.is c.stopped.ensures
