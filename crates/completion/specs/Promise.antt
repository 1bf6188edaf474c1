-- Document 01, "What demand 3 says": the promise of complete "about the bytes it takes and leaves"; and of demand 2, that the rules are those of
-- completion by the transition rules of Bachmair and Dershowitz. A result's bytes are read back, field by field and term by term, by functions that know
-- nothing of the run. Section 14 of docs/DEFINITION.md. Assumes nothing.
use Rattle.std.specs.Prelude.{◌≡◌, List, [], ◌∷◌, ◌↔◌, ℕ, zero, suc, eqb, ltb, length}
use Rattle.std.proofs.Math.Option.{Option, none, some}
use Rattle.std.specs.Prelude.{if◌then◌else◌}
use Rattle.terms.specs.Base.{number_from, Field}
use Rattle.problem.specs.Problem.{Reading, ok, refused, ◌>>=◌, refuse_if, read_field, read_term, Symbol, rank_of, Theory, Problem, theory, parse}
use Rattle.problem.specs.Stops.{cut_field, wrong_term}
use Rattle.rewriting.specs.Overlap.{Rule, sides_of}
use Rattle.rewriting.specs.Rewrite.{complete}
use Rattle.completion.specs.Turn.{Finished, run}
use Rattle.completion.specs.Keeps.{Keeps}
use Rattle.completion.specs.Decides.{Decides}
use Rattle.completion.specs.Transitions.{Properly, ◌⨾◌, Derivation}
use Rattle.completion.specs.Systems.{together, given}

-- "Fields, same form": the fields that bytes are, front to back. The first number bounds how many; one more than the bytes always suffices.
-- [3.1, 11.1]
unfoldable pub fields_from : ℕ → ℕ → List ℕ → Reading (List Field)
fields_from zero at bytes = refused cut_field at
fields_from (suc more) at [] = ok []
fields_from (suc more) at (b ∷ bytes) = do
  f ← read_field at (b ∷ bytes)
  fs ← fields_from more f.end f.rest
  ok (record { tag = f.tag; contents = f.contents } ∷ fs)

unfoldable pub fields_of : List ℕ → Reading (List Field)
fields_of bytes = fields_from (suc (length bytes)) 0 bytes

-- "tag 10, the end, one byte" [11.2]
unfoldable pub one_byte : List ℕ → Option ℕ
one_byte [] = none
one_byte (b ∷ []) = some b
one_byte (b ∷ c ∷ bytes) = none

unfoldable pub end_in : List Field → Option ℕ
end_in [] = none
end_in (f ∷ fs) =
    let later : Option ℕ = end_in fs in
    if eqb f.tag 0x10 then one_byte f.contents else later

-- "12, once a rule: number in two bytes, left, right": terms over the problem's symbols, and nothing behind them. What does not read so is refused;
-- with which number and place says nothing. [11.4]
unfoldable pub rule_of : List Symbol → List ℕ → Reading Rule
rule_of Σ [] = refused cut_field 0
rule_of Σ (high ∷ []) = refused cut_field 0
rule_of Σ (high ∷ low ∷ bytes) = do
  l ← read_term Σ (suc (length bytes)) 2 bytes
  r ← read_term Σ (suc (length l.rest)) l.end l.rest
  _ ← refuse_if (ltb 0 (length r.rest)) wrong_term r.end
  ok (record { number = number_from 0 (high ∷ low ∷ []); sides = record { left = l.part; right = r.part } })

unfoldable pub rules_in : List Symbol → List Field → Reading (List Rule)
rules_in Σ [] = ok []
rules_in Σ (f ∷ fs) =
    let later : Reading (List Rule) = rules_in Σ fs in
    let here : Reading (List Rule) = rule_of Σ f.contents >>= λ r. later >>= λ rs. ok (r ∷ rs) in
    if eqb f.tag 0x12 then here else later

-- What a result holds that turns of a theory leave, f being what they leave [14.1 to 14.3, 14.12].
pub record Promise (T : Theory) (f : Finished) (result : List ℕ) : Type 0 where
  pub fields : List Field
  pub are_fields : fields_of result ≡ ok fields
  -- "field 10 of the result it writes holds 0, which is so exactly when the turns defined above end with 0 for that problem"
  pub exactly : (end_in fields ≡ some 0) ↔ (f.end ≡ complete)
  -- "Its rules are the fields 12, each rewriting its left side to its right"; "its symbols .. are those of the problem's tag 01"
  pub rules : List Rule
  pub are_rules : rules_in T.symbols fields ≡ ok rules
  -- "and are the live rules, each once, as those turns leave them"
  pub are_live : rules ≡ f.state.rules
  -- what the turns leave, and so the result, keeps document 01's limits, is renamed, and its rules go down [14.12]
  pub keeps : Keeps T.symbols f
  -- "A rule set is delivered as complete when complete accepts a problem and field 10 of the result it writes holds 0";
  -- "the buyer's equations are its fields of tag 03"
  pub decide : end_in fields ≡ some 0 → Decides T.symbols T.equations rules
  -- Demand 2: by the six transitions the equations lead to the rules of the fields 12, with what the turns left waiting; with end 0 to these rules
  -- alone, and no equation.
  pub derived : Derivation (rank_of T.symbols) Properly (given T) (together (rank_of T.symbols) rules f.state.waiting)
  pub derived_alone : end_in fields ≡ some 0 → Derivation (rank_of T.symbols) Properly (given T) ([] ⨾ sides_of rules)

-- "Demand 3, the delivery theorem, is a promise of complete about the bytes it takes and leaves": of the problem's theory and its run. [14.11]
unfoldable pub Delivers : List ℕ → List ℕ → Type 0
Delivers problem result = (P : Problem) → parse problem ≡ ok P → Promise (theory P) (run P) result
