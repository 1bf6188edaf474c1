-- What a writer puts behind what it has put is put at once; the room that is left. Assumes nothing.
-- Read first: specs/Adds, proofs/Putting.
use mathlib.Core.Path.{◌≡◌, ◌∙◌}
use mathlib.Core.List.{List, ◌∷◌, ◌++◌}
use Prim.Native.Nat.{ℕ, ◌+◌, ◌≤◌}
use native.Mathlib.Omega.{arith}
use lib.ListN.{length}
use Rattle.terms.specs.Base.{number_bytes, field_bytes}
use Rattle.fields.specs.Puts.{tagged}
use Rattle.fields.specs.Adds.{Adds}
use Rattle.fields.specs.declared.writer.Writer.{Writer}
use Rattle.fields.proofs.Putting.{puts_then, puts_length}

module _ {w w' : Writer} {n : ℕ} {xs : List ℕ} (room : w.at + n ≤ length w.out.now) (p : Adds w w' n xs) where
  pub writes_length : length w'.out.now ≡ length w.out.now
  writes_length = puts_length _ _ _ _ _ _ room p.puts

  -- room for m more behind
  pub writes_room : (m : ℕ) → w.at + (n + m) ≤ length w.out.now → w'.at + m ≤ length w'.out.now
  writes_room m h = omega (arith, writes_length, p.puts.next)

  -- one behind the other
  pub writes_then : {w″ : Writer} {m : ℕ} {ys : List ℕ} → Adds w' w″ m ys → Adds w w″ (n + m) (xs ++ ys)
  writes_then q = record { same = q.same ∙ p.same; puts = puts_then _ _ _ _ _ _ _ _ _ _ room p.puts q.puts }

-- a field, from its head and its contents
pub writes_field : {w w' w″ : Writer} {tag len : ℕ} {cs : List ℕ} → w.at + 3 ≤ length w.out.now → Adds w w' 3 (tag ∷ number_bytes 2 len) →
    Adds w' w″ len cs → Adds w w″ (3 + len) (field_bytes (tagged tag cs))
unfolding field_bytes
writes_field room p q = rw q.puts.counted (writes_then room p q)
