-- Rules that go down and whose overlaps join are confluent: terms that they convert have a common reduct, and one last term. Assumes nothing.
-- Read first: rewriting/proofs/PathOrder. The equations of `path_solves` are here the rules themselves.
use mathlib.Core.Path.{◌≡◌, refl, sym, ◌∙◌}
use mathlib.Core.List.Memᴰ
use mathlib.Core.List.{List, [], ◌∷◌}
use Prim.Native.Nat.{ℕ, zero, suc, ◌<◌}
use native.Mathlib.Omega.{arith}
use lib.ListN.{length}
use Rattle.terms.specs.Term.{Term, var, Pair}
use Rattle.terms.proofs.Subst.{VarsIn, subst_var}
use Rattle.rewriting.proofs.Relations.{Star, stop, Conv, Normal, Step, root, Of, Solves}
use Rattle.rewriting.proofs.Abstract.{one}
use Rattle.rewriting.proofs.Sound.{sound_itself}
use Rattle.rewriting.proofs.Finite.{lhs, rhs}
use Rattle.rewriting.proofs.Overlaps.{OverlapsJoin}
use Rattle.rewriting.proofs.PathOrder.{path_solves}
use Rattle.completion.proofs.Soundness.{Falls}

pub of_number : (rs : List Pair) (i : ℕ) → i < length rs → Of rs (lhs rs i) (rhs rs i)
of_number [] i h = absurd (omega arith)
of_number (e ∷ rs) zero h = Memᴰ.head refl
of_number (e ∷ rs) (suc i) h = Memᴰ.tail (of_number rs i (omega arith))

module _ (rank : ℕ → ℕ) (rs : List Pair) (down : Falls rank rs) (low : (l r : Term) → Of rs l r → VarsIn (λ (x : ℕ). x < 16) l)
    (overlaps : OverlapsJoin rs) where
  rules_solve : Solves (Of rs) (Of rs)
  rules_solve =
      path_solves rank rs rs
      (λ i h. down _ _ (of_number rs i h))
      (λ i h. low _ _ (of_number rs i h))
      (λ i h. sound_itself (Of rs) _ _ (of_number rs i h))
      (λ i h. record { at = rhs rs i; left = one (root (of_number rs i h) var (sym (subst_var _)) (sym (subst_var _))); right = stop })
      overlaps

  pub conv_same_last : (s t u v : Term) → Conv (Step (Of rs)) s t → Star (Step (Of rs)) s u → Normal (Step (Of rs)) u → Star (Step (Of rs)) t v →
      Normal (Step (Of rs)) v → u ≡ v
  conv_same_last s t u v c m n p q =
      let h = rules_solve in
      h.only s u m n ∙ (h.same_final s t).1 c ∙ sym (h.only t v p q)
