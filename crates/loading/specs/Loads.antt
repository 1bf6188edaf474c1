-- What each reader of a saved record answers, said by the definitions of checkpoint/specs/Checkpoint. Assumes nothing.
-- Read first: checkpoint/specs/Checkpoint, items/specs/Readers (OneAt, OneBad, There, ThereBad, rules_at), candidates/specs/Candidates (InRows).
use Rattle.std.specs.Prelude.{Result, Ok, Err, ◌≡◌, true, ℕ, suc, ◌+◌, ◌-◌, ◌*◌, ◌≤◌, ltb, length, take, drop}
use mathlib.Core.List.{List, ◌++◌, map, flat_map}
use Rattle.std.proofs.Math.Option.{none}
use Rattle.limits.specs.Limits.{most_equations, most_rules, most_pairs, most_entries, most_next, most_saved}
use Rattle.terms.specs.Term.{Pair}
use Rattle.reading.specs.Stops.{long_problem, wrong_saved}
use Rattle.reading.specs.Answers.{symbols_of}
use Rattle.problem.specs.Problem.{Reading, ok, refused, ◌>>=◌, refuse_if, Symbol, symbol_field}
use Rattle.problem.specs.Parser.{SymbolsAt}
use Rattle.rewriting.specs.Overlap.{Rule}
use Rattle.completion.specs.Turn.{Candidate, Entry}
use Rattle.items.specs.Fields.{one_field, fields_there, read_rule_at, rules_of}
use Rattle.items.specs.Written.{row, logged_width, logged}
use Rattle.items.specs.Readers.{part, OneAt, OneBad, There, ThereBad, rules_at}
use Rattle.items.specs.declared.BadField.{BadField}
use Rattle.items.specs.declared.Group.{Group}
use Rattle.checkpoint.specs.Checkpoint.{Checkpoint, read_equation, read_next, read_waiting, read_entry, read_put_back, few_entries, read_checkpoint}
use Rattle.inputs.specs.Inputs.{marked, InFields}
use Rattle.candidates.specs.Candidates.{InRows}
use Rattle.loading.specs.declared.Ended.{Ended}
use Rattle.loading.specs.declared.PairsFound.{PairsFound}
use Rattle.loading.specs.declared.Loaded.{Loaded}
use Rattle.loading.specs.declared.LoadError.{LoadError}
use Rattle.loading.specs.declared.LoadError.TheVariants.{Bad, Long}
use Rattle.loading.specs.declared.Front.{Front}
use Rattle.loading.specs.declared.Counts.{Counts}

-- `symbols_field`: the place behind it
abbrev pub IsFirst : List ℕ → Result ℕ BadField → Type 0
IsFirst l (Ok e) = SymbolsAt l e × OneAt 0x01 symbol_field l 0 (symbols_of (part l 3 e)) e
IsFirst l (Err bad) = OneBad 0x01 symbol_field l 0 bad.place

-- `equation_field`, `read_equations`
abbrev pub IsEquation : List ℕ → List ℕ → ℕ → Result ℕ BadField → Type 0
IsEquation tab l at (Ok e) = (p : Pair) × OneAt 0x03 (read_equation (symbols_of tab)) l at p e
IsEquation tab l at (Err bad) = OneBad 0x03 (read_equation (symbols_of tab)) l at bad.place

abbrev pub IsEquations : List ℕ → List ℕ → ℕ → Result Group BadField → Type 0
IsEquations tab l at (Ok g) =
    (es : List Pair) × There 0x03 (λ _ f. read_equation (symbols_of tab) f) most_equations l at g.end es × (length es ≡ g.count)
IsEquations tab l at (Err bad) = ThereBad 0x03 (λ _ f. read_equation (symbols_of tab) f) most_equations l at bad.place

-- `next_field`
abbrev pub IsNext : List ℕ → ℕ → Result ℕ BadField → Type 0
IsNext l at (Ok next) = OneAt 0x20 read_next l at next (at + 5) × (1 ≤ next) × (next ≤ most_next)
IsNext l at (Err bad) = OneBad 0x20 read_next l at bad.place

-- `back_field`
abbrev pub IsBack : List ℕ → ℕ → ℕ → Result ℕ BadField → Type 0
IsBack l at waiting (Ok back) = OneAt 0x22 (read_put_back waiting) l at back (at + 4) × (back ≤ waiting)
IsBack l at waiting (Err bad) = OneBad 0x22 (read_put_back waiting) l at bad.place

-- `read_end`: `read_checkpoint` behind its waiting equations, whatever is made of the log and the count
unfoldable pub read_end : (List Entry → ℕ → Checkpoint) → ℕ → ℕ → ℕ → List ℕ → Reading Checkpoint
read_end k next waiting at bytes = do
  log ← fields_there wrong_saved 0x13 (λ _ f. read_entry f) most_entries none at bytes
  _ ← refuse_if (few_entries next (length log.part)) wrong_saved log.end
  back ← one_field wrong_saved 0x22 (read_put_back waiting) log.end log.rest
  _ ← refuse_if (ltb 0 (length back.rest)) wrong_saved back.end
  ok (k log.part back.part)

pub record EndIs (l : List ℕ) (at next waiting : ℕ) (log : List ℕ) (entries back : ℕ) : Type 0 where
  pub entered : List Entry
  pub is : (k : List Entry → ℕ → Checkpoint) → read_end k next waiting at (drop at l) ≡ ok (k entered back)
  pub entries_are : entries ≡ length entered
  pub entries_few : entries ≤ most_entries
  pub next_few : next ≤ suc entries
  pub back_few : back ≤ waiting
  pub log_is : take (logged_width * entries) log ≡ flat_map logged entered

abbrev pub IsEnd : List ℕ → ℕ → ℕ → ℕ → List ℕ → Result Ended BadField → Type 0
IsEnd l at next waiting log (Ok r) = EndIs l at next waiting log r.entries r.back
IsEnd l at next waiting log (Err bad) = (k : List Entry → ℕ → Checkpoint) → read_end k next waiting at (drop at l) ≡ refused wrong_saved bad.place

-- `read_pairs`
pub record PairsAre (tab l : List ℕ) (at next : ℕ) (slots : List ℕ) (live count e : ℕ) : Type 0 where
  pub rules : List Rule
  pub waiting : List Candidate
  pub middle : ℕ
  pub rules_there : There 0x12 (read_rule_at (symbols_of tab) true (next - 1)) most_rules l at middle (rules_at at rules)
  pub waiting_there : There 0x21 (λ _ f. read_waiting (symbols_of tab) f) (most_pairs - length rules) l middle e waiting
  pub slotted : InRows tab slots count (map row rules ++ map marked waiting)
  pub live_is : live ≡ length rules
  pub live_few : live ≤ most_rules
  pub count_is : count ≡ live + length waiting
  pub count_few : count ≤ most_pairs

-- the rules and the waiting equations, and whatever is read behind them
unfoldable pub read_pairs : (List Rule → List Candidate → ℕ → List ℕ → Reading Checkpoint) → List Symbol → ℕ → ℕ → List ℕ → Reading Checkpoint
read_pairs k Σ next at bytes = do
  rules ← fields_there wrong_saved 0x12 (read_rule_at Σ true (next - 1)) most_rules none at bytes
  waiting ← fields_there wrong_saved 0x21 (λ _ f. read_waiting Σ f) (most_pairs - length rules.part) none rules.end rules.rest
  k (rules_of rules.part) waiting.part waiting.end waiting.rest

abbrev pub IsPairs : List ℕ → List ℕ → ℕ → ℕ → List ℕ → Result PairsFound BadField → Type 0
IsPairs tab l at next slots (Ok r) = PairsAre tab l at next slots r.live r.count r.end
IsPairs tab l at next slots (Err bad) = (k : List Rule → List Candidate → ℕ → List ℕ → Reading Checkpoint) →
    read_pairs k (symbols_of tab) next at (drop at l) ≡ refused wrong_saved bad.place

-- what stands before the rules was read so
pub record FrontAt (l : List ℕ) (front : Front) : Type 0 where
  pub small : length l ≤ most_saved
  pub table : SymbolsAt l front.table
  pub equations : List Pair
  pub there : There 0x03 (λ _ f. read_equation (symbols_of (part l 3 front.table)) f) most_equations l front.table front.end equations
  pub number : length equations ≡ front.equations
  pub next : OneAt 0x20 read_next l front.end front.next (front.end + 5)
  pub next_some : 1 ≤ front.next
  pub next_few : front.next ≤ most_next

-- a record that is read: where its symbols and its equations end, and what of it stands in the slots and in the log
pub record LoadedAt (l : List ℕ) (front : Front) (slots log : List ℕ) (counts : Counts) (c : Checkpoint) : Type 0 where
  pub is : read_checkpoint l ≡ ok c
  pub small : length l ≤ most_saved
  pub table : SymbolsAt l front.table
  pub symbols_are : c.theory.symbols ≡ symbols_of (part l 3 front.table)
  pub equations_there : There 0x03 (λ _ f. read_equation (symbols_of (part l 3 front.table)) f) most_equations l front.table front.end
      c.theory.equations
  pub equations_in : InFields (part l 3 front.table) l front.table c.theory.equations
  pub number : length c.theory.equations ≡ front.equations
  pub next_is : front.next ≡ suc c.state.made
  pub live_is : counts.live ≡ length c.state.rules
  pub live_few : counts.live ≤ most_rules
  pub pairs_few : counts.pairs ≤ most_pairs
  pub slotted : InRows (part l 3 front.table) slots counts.pairs (map row c.state.rules ++ map marked c.state.waiting)
  pub entries_few : counts.entries ≤ most_entries
  pub entries_are : counts.entries ≡ length c.state.log
  pub log_is : take (logged_width * counts.entries) log ≡ flat_map logged c.state.log
  pub next_few : front.next ≤ suc counts.entries
  pub back_is : counts.back ≡ c.state.put_back
  pub back_few : counts.back ≤ most_pairs

-- `load`
abbrev pub IsLoaded : List ℕ → List ℕ → List ℕ → Result Loaded LoadError → Type 0
IsLoaded l slots log (Ok r) = (c : Checkpoint) × LoadedAt l r.front slots log r.counts c
IsLoaded l slots log (Err (Bad p)) = read_checkpoint l ≡ refused wrong_saved p
IsLoaded l slots log (Err Long) = read_checkpoint l ≡ refused long_problem most_saved
