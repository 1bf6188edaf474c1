-- Document 02, Three and Eight: what the answers "same" and "different" are right about, and that the two strategies come to the same last terms on
-- delivered rule sets, said of the bytes that are lent. Assumes nothing.
-- Read first: Decide, completion/specs/Delivery (Step, Replacement, Many, Last), checkpoint/specs/Wrote (EngineWrote).
use Rattle.std.specs.Prelude.{Result, Ok, Err, ◌≡◌, List, ◌↔◌, ◌⊎◌, ℕ}
use Rattle.terms.specs.Term.{Term}
use Rattle.reading.specs.Stops.{wrong_record, not_complete, not_above}
use Rattle.problem.specs.Problem.{Reading, ok, refused, Theory}
use Rattle.problem.specs.Over.{Over}
use Rattle.rewriting.specs.Rewrite.{complete, done, normalise}
use Rattle.rewriting.specs.Outermost.{normalise_outer}
use Rattle.completion.specs.Turn.{Finished}
use Rattle.completion.specs.Delivery.{Replacement, Many, Last}
use Rattle.completion.specs.Calls.{Single, parse_single}
use Rattle.checkpoint.specs.Wrote.{EngineWrote}
use Rattle.decide.specs.Decide.{Question, read_question, Answer, are_same, are_different, numbered, Counted, decide_call, outermost_call}
use Rattle.decide.specs.declared.Decided.{Decided}
use Rattle.decide.specs.declared.Decided.TheVariants.{Same, Different, Spent, TooLarge}
use Rattle.problem.specs.Reasons.{number_of_reason}
use Rattle.problem.specs.declared.Refusal.{Refusal}

-- "answers same, different, 21 or 22 .., and adds the units it paid", or the refusal's number and place [18.12, 18.13, 22.5]
unfoldable pub decided_told : Result Decided Refusal → Reading Counted
decided_told (Ok (Same n)) = ok (record { answer = are_same; units = n })
decided_told (Ok (Different n)) = ok (record { answer = are_different; units = n })
decided_told (Ok (Spent n)) = ok (record { answer = numbered 21; units = n })
decided_told (Ok (TooLarge n)) = ok (record { answer = numbered 22; units = n })
decided_told (Err r) = refused (number_of_reason r.reason) r.place

-- the answer without the units
unfoldable pub without_units : Reading Counted → Reading Answer
without_units (ok c) = ok c.answer
without_units (refused number place) = refused number place

-- both terms have one last term by the record's rules
pub record OneLast (q : Question) : Type 0 where
  pub term : Term
  pub left_last : Last q.symbols q.rules q.sides.left term
  pub right_last : Last q.symbols q.rules q.sides.right term

-- the terms have different last terms by the record's rules
pub record TwoLasts (q : Question) : Type 0 where
  pub left_term : Term
  pub right_term : Term
  pub left_last : Last q.symbols q.rules q.sides.left left_term
  pub right_last : Last q.symbols q.rules q.sides.right right_term
  pub differ : left_term ≡ right_term → ⊥

-- "Elsewhere the answer speaks only of the record's rules": of every record that passes. [18.14]
pub record AboutRules (problem kept : List ℕ) (r : Reading Answer) : Type 0 where
  pub same : (q : Question) → read_question problem kept ≡ ok q → r ≡ ok are_same → OneLast q
  pub different : (q : Question) → read_question problem kept ≡ ok q → r ≡ ok are_different → TwoLasts q
  pub numbers : (n : ℕ) → r ≡ ok (numbered n) → (n ≡ 21) ⊎ (n ≡ 22)

-- "a record that the engine wrote .. for the same symbol field": for a theory that has the symbols of the asked problem; `left` is what its turns left,
-- resumed from its own saved records or not [18.15, 21.18]
pub record WroteFor (problem kept : List ℕ) : Type 0 where
  pub theory : Theory
  pub left : Finished
  pub wrote : EngineWrote theory left kept
  pub asked : Single
  pub is_asked : parse_single problem ≡ ok asked
  pub same_symbols : theory.symbols ≡ asked.symbols

-- "the buyer's equations" lead from one side of the asked equation to the other
abbrev pub Leads : Theory → Single → Type 0
Leads T S = Many (Replacement T.symbols T.equations) S.equation.sides.left S.equation.sides.right

-- "For a record that the engine wrote with end 0 for the same symbol field, "same" and "different" are right about the buyer's equations." That the
-- end is 0 need not be said: with another one the answer is 14. [18.15]
pub record AboutEquations (problem kept : List ℕ) (r : Reading Answer) : Type 0 where
  pub exactly : (w : WroteFor problem kept) → (r ≡ ok are_same) ⊎ (r ≡ ok are_different) →
      ((r ≡ ok are_same) ↔ Leads w.theory w.asked) × ((r ≡ ok are_different) ↔ (Leads w.theory w.asked → ⊥))

-- Such a record is not refused with 13 or 15, and with 14 exactly if the run did not end with 0. [18.16]
pub record NotRefused (problem kept : List ℕ) (r : Reading Answer) : Type 0 where
  pub never : WroteFor problem kept → (place : ℕ) → (r ≡ refused wrong_record place → ⊥) × (r ≡ refused not_above place → ⊥)
  pub unfinished : (w : WroteFor problem kept) → (r ≡ refused not_complete 0) ↔ (w.left.end ≡ complete → ⊥)

-- an answer that compares: "same" or "different"
abbrev pub Compares : Answer → Type 0
Compares are_same = Unit {0}
Compares are_different = Unit {0}
Compares (numbered n) = ⊥

-- "For every rule set delivered as complete, the two engines give the same last term whenever both stay inside 120 nodes and their budgets." [22.7] So
-- the two calls never contradict each other on one question. [22.8]
pub record Agrees (problem kept : List ℕ) : Type 0 where
  pub last_terms : (T : Theory) (f : Finished) → EngineWrote T f kept → f.end ≡ complete → (t u v : Term) (budget left budget' left' : ℕ) →
      Over T.symbols t → normalise f.state.rules t budget ≡ done u left → normalise_outer f.state.rules t budget' ≡ done v left' → u ≡ v
  pub answers : WroteFor problem kept → (a b : Counted) → decide_call problem kept ≡ ok a → outermost_call problem kept ≡ ok b →
      Compares a.answer → Compares b.answer → a.answer ≡ b.answer
