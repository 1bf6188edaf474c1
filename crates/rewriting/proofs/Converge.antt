-- A convergent system decides equality. Assumes nothing.
-- Read first: proofs/Abstract, proofs/Steps.
use mathlib.Core.Path.{◌≡◌, refl, sym, subst}
use mathlib.Core.Logic.{◌↔◌}
use mathlib.Core.WellFounded.{Acc}
use Prim.Native.Nat.{ℕ, zero, suc}
use Rattle.terms.specs.Term.{Term, Terms, subst_term}
use Rattle.rewriting.proofs.Relations.{Solves, Star, Conv, same, ahead, back, Join, Normal, Below, Ends, Confluent, LocallyConfluent, Rules}
use Rattle.rewriting.proofs.Relations.{Step, Steps, root, inside, here, there}
use Rattle.rewriting.proofs.Abstract.{chain, turn, join_conv, church_rosser, normal_unique, normal_stays, append, newman, last, Reducible?}
use Rattle.rewriting.proofs.Steps.{conv_node, conv_head, conv_tail, conv_subst}

-- Each step by the equations `E` can be made by those of `F`, forwards and backwards, and any number of them.
module _ {E F : Rules} (each : (l r : Term) → E l r → Conv (Step F) l r) where
  mutual
    step_conv : {t u : Term} → Step E t u → Conv (Step F) t u
    step_conv (root {l = l} {r = r} {u = u} ρ σ e d) =
        subst (λ z. Conv (Step F) z u) (sym e) (subst (λ z. Conv (Step F) (subst_term σ l) z) (sym d) (conv_subst σ (each l r ρ)))
    step_conv (inside {f = f} s) = conv_node f (steps_conv s)

    steps_conv : {t u : Terms} → Steps E t u → Conv (Steps F) t u
    steps_conv (here {ts = ts} s) = conv_head ts (step_conv s)
    steps_conv (there {t = t} s) = conv_tail t (steps_conv s)

  pub conv_conv : {t u : Term} → Conv (Step E) t u → Conv (Step F) t u
  conv_conv same = same
  conv_conv (ahead x s) = chain (step_conv x) (conv_conv s)
  conv_conv (back x s) = chain (turn (step_conv x)) (conv_conv s)

module _ {E R : Rules} (cf : Confluent (Step R)) (sound : (l r : Term) → R l r → Conv (Step E) l r) (complete : (l r : Term) → E l r → Join (Step R) l r) where
  -- (c) Equal by `E`, that is, finitely many replacements of equals by equals lead from one to the other, exactly when `R` leads both to one term.
  pub equal_joins : (s t : Term) → Conv (Step E) s t ↔ Join (Step R) s t
  equal_joins s t = (λ c. church_rosser cf (conv_conv (λ l r e. join_conv (complete l r e)) c), λ j. conv_conv sound (join_conv j))

  -- The same over last terms, however they are reached.
  pub equal_lasts : (s t n m : Term) → Star (Step R) s n → Normal (Step R) n → Star (Step R) t m → Normal (Step R) m → Conv (Step E) s t ↔ (n ≡ m)
  equal_lasts s t n m sn nn tm nm = (
    λ c.
        let j = (equal_joins s t).0 c in
        let k = cf s n j.at sn j.left in
        let h = cf t m j.at tm j.right in
        let p : n ≡ k.at = normal_stays nn k.left in
        let q : m ≡ h.at = normal_stays nm h.left in
        normal_unique cf (append j.left (subst (λ z. Star (Step R) j.at z) (sym p) k.right)) nn
        (append j.left (subst (λ z. Star (Step R) j.at z) (sym q) h.right)) nm,
    λ e. (equal_joins s t).1 (record { at = m; left = subst (λ z. Star (Step R) s z) e sn; right = tm }),
  )

-- No steps go on for ever from an accessible term.
no_forever_at : {R : Rules} {t : Term} → Acc (Below (Step R)) t → (s : ℕ → Term) → s zero ≡ t → ((n : ℕ) → Step R (s n) (s (suc n))) → ⊥
no_forever_at {R} (Acc.intro t h) s e go =
    no_forever_at (h (s (suc zero)) (subst (λ z. Step R z (s (suc zero))) e (go zero))) (λ n. s (suc n)) refl (λ n. go (suc n))

pub no_forever : {R : Rules} → Ends (Step R) → (s : ℕ → Term) → ((n : ℕ) → Step R (s n) (s (suc n))) → ⊥
no_forever ends s go = no_forever_at (ends (s zero)) s refl go

module _ {E R : Rules} (ends : Ends (Step R)) (red : Reducible? (Step R)) (lc : LocallyConfluent (Step R))
    (sound : (l r : Term) → R l r → Conv (Step E) l r) (complete : (l r : Term) → E l r → Join (Step R) l r) where
  cf : Confluent (Step R)
  cf = newman ends lc

  pub solves : Solves E R
  solves =
      record {
        ends = ends;
        never_forever = no_forever ends;
        final = λ t. (last ends red t).term;
        reached = λ t. (last ends red t).reached;
        stuck = λ t. (last ends red t).normal;
        always =
            λ t u s.
            let j = cf _ _ _ s (last ends red t).reached in
            subst (λ z. Star (Step R) u z) (sym (normal_stays (last ends red t).normal j.right)) j.left;
        only = λ t u s n. normal_unique cf s n (last ends red t).reached (last ends red t).normal;
        same_final =
            λ s t.
            let h = equal_lasts {E = E} cf sound complete s t _ _ (last ends red s).reached (last ends red s).normal (last ends red t).reached
            (last ends red t).normal in
            (h.1, h.0);
      }
