-- Bytes that a writer puts behind what it has written: its buffer is the one that it was lent. Assumes nothing.
use Rattle.std.specs.Prelude.{◌≡◌, List, ℕ}
use Rattle.fields.specs.Puts.{Puts, PutsSome}
use Rattle.fields.specs.declared.writer.Writer.{Writer}

-- n bytes, which are ys
pub record Adds (w w' : Writer) (n : ℕ) (ys : List ℕ) : Type 0 where
  pub same : w'.out.ghost_name ≡ w.out.ghost_name
  pub puts : Puts w.out.now w.at n ys w'.out.now w'.at

-- k fields, each of at most `most` bytes: together ys
pub record AddsSome (most : ℕ) (w w' : Writer) (k : ℕ) (ys : List ℕ) : Type 0 where
  pub same : w'.out.ghost_name ≡ w.out.ghost_name
  pub puts : PutsSome most w.out.now w.at k ys w'.out.now w'.at
