-- What the arena that functions read stands for: its nodes, and the root of each node's class. Assumes nothing.
use Rattle.std.specs.Prelude.{ℕ}
use Rattle.classes.specs.Arena.{Arena}
use Rattle.classes.specs.Steps.{at, arena}
use Rattle.classes.specs.declared.arena.Arena.{Arena as Lent}

abbrev pub arena_of : Lent → Arena
arena_of a = arena a.nodes.now a.table.now a.ends.now

abbrev pub root_of : Lent → ℕ → ℕ
root_of a = at a.class.now
