-- The answers "same" and "different" are right about the record's rules, whoever wrote the record, and another end is 21 or 22: by whichever strategy
-- the terms are normalised, if only its steps are steps by the rules, and it rests where there is none. Assumes nothing.
-- Read first: specs/Answers, proofs/Asked, rewriting/proofs/Lasting (Rewrites, last_by), completion/proofs/OverRules.
use mathlib.Core.Path.{◌≡◌, refl, sym, subst, ◌∙◌}
use mathlib.Core.Bool.{Bool, true, false}
use mathlib.Core.List.{List}
use mathlib.Core.Logic.{◌⊎◌, inl, inr}
use mathlib.Core.Option.{Option}
use Prim.Native.Nat.{ℕ}
use Rattle.std.specs.Prelude.{if◌then◌else◌}
use Rattle.terms.specs.Term.{Term, Pair, same}
use Rattle.terms.proofs.Shape.{Says, same_says}
use Rattle.problem.specs.Problem.{Reading, ok, refused, ◌>>=◌, Symbol}
use Rattle.problem.specs.Over.{Over}
use Rattle.problem.proofs.Reading.{from_bind, ok_injective}
use Rattle.rewriting.specs.Overlap.{Rule}
use Rattle.rewriting.specs.Rewrite.{End, complete, neither_above, spent, too_large, rules_full, log_full, end_number, Paid, done, stop, normalise_by, both_by}
use Rattle.rewriting.proofs.Holds.{Holds, Pays, NormalEnd, bind_holds, return_holds}
use Rattle.rewriting.proofs.Lasting.{Rewrites, last_by, ends_by}
use Rattle.completion.specs.Delivery.{Last}
use Rattle.completion.proofs.Words.{word_normal}
use Rattle.completion.proofs.OverRules.{OverRules, star_word}
use Rattle.decide.specs.Decide.{Question, read_question, Answer, are_same, are_different, numbered, answer, counted, ask, question_call}
use Rattle.decide.specs.Answers.{without_units, OneLast, TwoLasts, AboutRules}
use Rattle.decide.proofs.Asked.{Asked, asked}

-- what an answer says of the record's rules
unfoldable pub Told : Question → Answer → Type 0
Told q are_same = OneLast q
Told q are_different = TwoLasts q
Told q (numbered n) = (n ≡ 21) ⊎ (n ≡ 22)

-- what is answered, without the units
abbrev pub reply : (List Rule → Term → Option Term) → List ℕ → List ℕ → Reading Answer
reply next problem kept = without_units (question_call next problem kept)

-- What normalising comes to is a last term in the words of document 01, or one of two ends.
module _ (Σ : List Symbol) (rules : List Rule) (good : OverRules Σ rules) (next : Term → Option Term) (R : Rewrites rules next) (t : Term) (o : Over Σ t) where
  pub word_last : (u : Term) (left rest : ℕ) → normalise_by next t left ≡ done u rest → Last Σ rules t u
  unfolding Last
  word_last u left rest e = let h = last_by R t u left rest e in (star_word Σ rules good h.0 o, word_normal Σ rules u h.1)

  comes_to : Pays (Last Σ rules t) (λ e rest. NormalEnd e) (normalise_by next t)
  comes_to = record { out = λ left. go left (normalise_by next t left) refl }
    where
      go : (left : ℕ) (p : Paid Term) → normalise_by next t left ≡ p → Holds (Last Σ rules t) (λ e rest. NormalEnd e) p
      go left (done u rest) e = word_last u left rest e
      go left (stop x rest) e = subst (Holds (λ u. Unit {0}) (λ e rest. NormalEnd e)) e ((ends_by next t).out left)

module _ (q : Question) where
  -- the two terms are last terms of the sides
  record Lasts (f : Pair) : Type 0 where
    left : Last q.symbols q.rules q.sides.left f.left
    right : Last q.symbols q.rules q.sides.right f.right

  end_told : (e : End) → NormalEnd e → Told q (numbered (end_number e))
  unfolding Told end_number
  end_told complete h = absurd h
  end_told neither_above h = absurd h
  end_told spent h = inl refl
  end_told too_large h = inr refl
  end_told rules_full h = absurd h
  end_told log_full h = absurd h

  lasts_told : (f : Pair) → Lasts f → (b : Bool) → Says (f.left ≡ f.right) b → Told q (if b then are_same else are_different)
  unfolding Told
  lasts_told f h true e =
      record { term = f.left; left_last = h.left; right_last = subst (Last q.symbols q.rules q.sides.right) (sym e) h.right }
  lasts_told f h false n = record { left_term = f.left; right_term = f.right; left_last = h.left; right_last = h.right; differ = n }

  paid_told : (p : Paid Pair) → Holds Lasts (λ e rest. NormalEnd e) p → Told q (answer p)
  unfolding answer
  paid_told (done f rest) h = lasts_told f h (same f.left f.right) (same_says f.left f.right)
  paid_told (stop e rest) h = end_told e h

-- An answer is that to a question that was read.
pub record Answered (problem kept : List ℕ) (a : Answer) : Type 0 where
  pub question : Question
  pub is_question : read_question problem kept ≡ ok question
  pub is_told : Told question a

-- by the steps of a strategy
module _ (next : List Rule → Term → Option Term) (R : (rules : List Rule) → Rewrites rules (next rules)) where
  ask_told : (problem kept : List ℕ) (q : Question) → Asked problem kept q → Told q (ask next q).answer
  unfolding ask counted both_by
  ask_told problem kept q k =
      let side = comes_to q.symbols q.rules k.rules_over (next q.rules) (R q.rules) in
      let sides : Pays (Lasts q) (λ e rest. NormalEnd e) (both_by (normalise_by (next q.rules)) q.sides) =
      bind_holds _ _ (side q.sides.left k.sides_over.0) λ l a.
      bind_holds _ _ (side q.sides.right k.sides_over.1) λ r b.
      return_holds _ (record { left = a; right = b }) in
      paid_told q _ (sides.out q.budget)

  -- the answer, and the units beside it
  without : (m : Reading Question) → without_units (m >>= λ q. ok (ask next q)) ≡ (m >>= λ q. ok (ask next q).answer)
  unfolding ◌>>=◌ without_units
  without (ok q) = refl
  without (refused n p) = refl

  module _ (problem kept : List ℕ) where
    pub answered : (a : Answer) → reply next problem kept ≡ ok a → Answered problem kept a
    unfolding question_call
    answered a e =
        from_bind _ _ a (sym (without (read_question problem kept)) ∙ e) λ q d e.
        subst (Answered problem kept) (ok_injective e)
        (record { question = q; is_question = d; is_told = ask_told problem kept q (asked problem kept q d) })

    question_told : (q : Question) (a : Answer) → read_question problem kept ≡ ok q → reply next problem kept ≡ ok a → Told q a
    question_told q a e h =
        let w : Answered problem kept a = answered a h in
        let same_question : w.question ≡ q = ok_injective (sym w.is_question ∙ e) in
        subst (λ (q : Question). Told q a) same_question w.is_told

    pub about_rules : AboutRules problem kept (reply next problem kept)
    unfolding Told
    about_rules =
        record {
          same = λ q e h. question_told q are_same e h;
          different = λ q e h. question_told q are_different e h;
          numbers = λ n h. (answered (numbered n) h).is_told;
        }
