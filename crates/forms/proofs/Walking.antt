-- A walk over a part that comes to the same as another part. Assumes nothing.
-- Read first: specs/Forms (Walked).
use mathlib.Core.Path.{◌≡◌, ◌∙◌}
use mathlib.Core.List.{List}
use Prim.Native.Nat.{ℕ}
use Rattle.rewriting.specs.Rewrite.{Paying}
use Rattle.completion.specs.Turn.{Candidate}
use Rattle.joining.specs.declared.Walk.{Walk}
use Rattle.forms.specs.Forms.{ScanPart, Walked, found, short, large, on}

pub walked_from : {tab one : List ℕ} {d e : ScanPart} {u v : ℕ} {w : Walk} → ((next : Paying Candidate) → d next u ≡ e next v) →
    Walked tab one e v w → Walked tab one d u w
walked_from q (found c z f s) = found c z (λ next. q next ∙ f next) s
walked_from q (short z f) = short z (λ next. q next ∙ f next)
walked_from q (large z f) = large z (λ next. q next ∙ f next)
walked_from q (on z f) = on z (λ next. q next ∙ f next)
