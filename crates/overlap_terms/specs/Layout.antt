-- Four terms of an overlap, one after the other, as bytes. Assumes nothing.
use Rattle.std.specs.Prelude.{◌≡◌, List, ◌++◌, map, ℕ, ◌+◌, ◌-◌, ◌≤◌, ltb, length, take, drop}
use Rattle.limits.specs.Limits.{most_variables, first_variable, byte_values, arena_width}
use Rattle.std.specs.Prelude.{if◌then◌else◌}
use Rattle.terms.specs.Scan.{skip}

-- from here on a byte moved up would be none: 240
abbrev pub movable_end : ℕ
movable_end = byte_values - most_variables

-- a variable's byte so many variables up; a symbol's, and one that would be no byte, as it is
unfoldable pub moved : ℕ → ℕ → ℕ
moved up b = if ltb b first_variable then b else (if ltb b movable_end then (b + up) else b)

-- t, its variables moved up, is put into the nodes at w, and r is where it ends
pub record Lays (nodes : List ℕ) (w : ℕ) (t : List ℕ) (up : ℕ) (nodes' : List ℕ) (r : ℕ) : Type 0 where
  pub same : length nodes' ≡ length nodes
  pub ends : r ≡ w + length t
  pub bytes : take r nodes' ≡ take w nodes ++ map (moved up) t

-- the outer left side; the inner left side, apart; the outer left side with the inner right side in place of the subterm at p; the outer right side
unfoldable pub four_bytes : List ℕ → List ℕ → List ℕ → List ℕ → List ℕ → ℕ → List ℕ
four_bytes tab l₁ r₁ l₂ r₂ p =
    l₂ ++ (map (moved most_variables) l₁ ++ ((take p l₂ ++ (map (moved most_variables) r₁ ++ drop (p + skip tab (drop p l₂) 1) l₂)) ++ r₂))

pub record LaysFour (tab l₁ r₁ l₂ r₂ : List ℕ) (p : ℕ) (nodes nodes' : List ℕ) (r : ℕ) : Type 0 where
  pub same : length nodes' ≡ length nodes
  pub bytes : take r nodes' ≡ four_bytes tab l₁ r₁ l₂ r₂ p
  pub ends : r ≡ length (four_bytes tab l₁ r₁ l₂ r₂ p)
  pub most : r ≤ arena_width
