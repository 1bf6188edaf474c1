-- What the state's methods leave. Assumes nothing.
use Rattle.std.specs.Prelude.{◌≡◌, ◌⊎◌, List, [], ◌∷◌, ◌++◌, ℕ, suc, ◌+◌, ◌*◌, ◌<◌, length, Result, Ok, Err, IfOk}
use Rattle.std.proofs.Math.Option.{none, some}
use Rattle.limits.specs.Limits.{most_variables, most_apart}
use Rattle.terms.specs.Base.{number_bytes}
use Rattle.terms.specs.Term.{Pair, pair_variables}
use Rattle.fields.specs.Puts.{patched}
use Rattle.order.specs.Walk.{rank}
use Rattle.rewriting.specs.Overlap.{Rule as LiveRule}
use Rattle.problem.specs.Problem.{rank_of, Theory}
use Rattle.slots.specs.Slots.{slot, mark_of, PairAt}
use Rattle.slots.specs.declared.Pairs.{Pairs}
use Rattle.completion.specs.Turn.{Origin, Candidate, State as RunState, Taken, initial, orient, waits_again, kept, removed}
use Rattle.completion.specs.Calls.{origin_bytes}
use Rattle.inputs.specs.Inputs.{Held, inputs_of}
use Rattle.orient.specs.Orients.{Few, LowPair}
use Rattle.orient.specs.declared.Unoriented.{Unoriented}
use Rattle.orient.specs.declared.Unoriented.TheVariants.{Neither, TooLarge}
use Rattle.state.specs.declared.State.{State}
use Rattle.state.specs.declared.Log.{Log}
use Rattle.items.specs.Written.{logged_width}
use Rattle.state.specs.Run.{FineBut, Fine, Represents}

-- `initial`
pub record Initial (inputs : Pairs) (budget : ℕ) (r : State) : Type 0 where
  pub fine : Fine r
  pub units : r.units ≡ budget
  pub empty : r.log.count ≡ 0
  pub represents : (tab : List ℕ) (T : Theory) → Held tab inputs (inputs_of T.equations) → Represents tab r (initial T)

-- what a step leaves alone
pub record SameLog (st r : State) : Type 0 where
  pub log : r.log ≡ st.log
  pub back : r.back ≡ st.back
  pub units : r.units ≡ st.units

-- `take`: the waiting list without its oldest equation, if one waits
unfoldable pub behind_first : List Candidate → List Candidate
behind_first [] = []
behind_first (c ∷ cs) = cs

abbrev pub without_oldest : RunState → RunState
without_oldest s = record { rules = s.rules; made = s.made; waiting = behind_first s.waiting; log = s.log; put_back = s.put_back }

pub record Takes (st r : State) : Type 0 where
  pub fine : Fine r
  pub same : SameLog st r
  pub live : r.live ≡ st.live
  pub room : r.pairs.count < st.pairs.count ⊎ (r.pairs.count ≡ r.live)
  pub represents : (tab : List ℕ) (s : RunState) → Represents tab st s → Represents tab r (without_oldest s)

-- `orient`: the new rule behind the older ones, or why there is none
abbrev pub with_rule : RunState → Pair → RunState
with_rule s p = record {
  rules = s.rules ++ (record { number = suc s.made; sides = p } ∷ []);
  made = suc s.made;
  waiting = s.waiting;
  log = s.log;
  put_back = s.put_back;
}

pub record NewRule (tab : List ℕ) (T : Theory) (s : RunState) (e : Pair) (r : State) : Type 0 where
  pub sides : Pair
  pub oriented : orient T e ≡ some sides
  pub represents : Represents tab r (with_rule s sides)

abbrev pub OrientsIs : List ℕ → Theory → RunState → Pair → Result State Unoriented → Type 0
OrientsIs tab T s e (Ok r) = Few e × NewRule tab T s e r
OrientsIs tab T s e (Err Neither) = Few e × (orient T e ≡ none)
OrientsIs tab T s e (Err TooLarge) = most_variables < length (pair_variables e)

-- the state r has one live rule more than st
pub record OneMore (st r : State) : Type 0 where
  pub fine : FineBut 1 1 r
  pub live : r.live ≡ st.live + 1
  pub made : r.made ≡ st.made + 1
  pub same : SameLog st r

pub record Orients (tab pair : List ℕ) (st : State) (o : Result State Unoriented) : Type 0 where
  pub more : IfOk o (OneMore st)
  pub low : o ≡ Err Neither → LowPair pair
  pub answer : (T : Theory) → rank_of T.symbols ≡ rank tab → (s : RunState) (e : Pair) → Represents tab st s →
      PairAt most_apart tab pair 0 e → OrientsIs tab T s e o

-- `put_back`: the pair that was taken of s waits again
pub record PutsBack (pair : List ℕ) (st r : State) : Type 0 where
  pub fine : Fine r
  pub entries : r.log.count ≡ st.log.count + 1
  pub units : r.units ≡ st.units
  pub represents : (tab : List ℕ) (s : RunState) (t : Taken) → Represents tab st s → s.waiting ≡ t.waiting → PairAt most_apart tab pair 0 t.pair.sides →
      Few t.pair.sides → mark_of (slot pair 0) ≡ origin_bytes t.pair.origin → Represents tab r (waits_again s t)

-- `collapse`: the older rules that the newest one rewrites wait behind the others
abbrev pub collapsed : RunState → List LiveRule → LiveRule → RunState
collapsed s older new = record {
  rules = kept new older ++ (new ∷ []);
  made = s.made;
  waiting = s.waiting ++ removed new older;
  log = s.log;
  put_back = s.put_back;
}

pub record Collapses (tab : List ℕ) (st r : State) : Type 0 where
  pub fine : FineBut 1 1 r
  pub some_live : 0 < r.live
  pub made : r.made ≡ st.made
  pub same : SameLog st r
  pub represents : (s : RunState) (older : List LiveRule) (new : LiveRule) → s.rules ≡ older ++ (new ∷ []) → Represents tab st s →
      Represents tab r (collapsed s older new)

-- `push`: one entry more, behind the others
pub record Enters (made : ℕ) (pair : List ℕ) (log log' : Log) : Type 0 where
  pub bytes : log'.bytes ≡ patched (logged_width * log.count) (mark_of (slot pair 0) ++ number_bytes 2 made) log.bytes
  pub more : log'.count ≡ log.count + 1

-- `settle`, `enter_rule`: one entry more, of a pair that was settled or made a rule, and none put back since
abbrev pub with_entry : RunState → Origin → ℕ → RunState
with_entry s o n = record {
  rules = s.rules;
  made = s.made;
  waiting = s.waiting;
  log = s.log ++ (record { origin = o; made = n } ∷ []);
  put_back = 0;
}

pub record Logs (st : State) (origin : List ℕ) (made : ℕ) (r : State) : Type 0 where
  pub fine : (over : ℕ) → FineBut over 1 st → FineBut over 0 r
  pub entries : r.log.count ≡ st.log.count + 1
  pub units : r.units ≡ st.units
  pub represents : (tab : List ℕ) (s : RunState) (o : Origin) → Represents tab st s → origin ≡ origin_bytes o → Represents tab r (with_entry s o made)
