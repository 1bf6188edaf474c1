-- `write`: the nodes from `first` on spell what is still owed; the invariant is that with it written, the bytes are what is to be left. Assumes nothing.
-- Read first: specs/Written (RoomFor, WritesTerm), proofs/Writing.
use Rattle.mgu.proofs.Writing.{Writing}
use Prim.Native.Nat.{◌-◌}
use lib.ListN.{length}
use Rattle.mgu.proofs.write.Given as goal

abbrev pub invariant-loop-first : goal.invariant-loop-first
invariant-loop-first l = Writing l.arena.nodes.now l.arena.table.now l.arena.ends.now l.arena.class.now l.p l.to l.initial.out l.owed l.first l.out l.i

abbrev pub decreases-loop-first : goal.decreases-loop-first
decreases-loop-first l = length l.initial.out - l.i
