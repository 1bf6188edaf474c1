-- A saved record that keeps the limits is read back as what was saved, and has at most 17,781 bytes. Assumes nothing.
-- Read first: specs/Checkpoint, proofs/Items, items/proofs/Back (Backs, there_back, rules_at_back).
use mathlib.Core.Path.{◌≡◌, refl, ap, ◌∙◌}
use mathlib.Core.Bool.{Bool, false}
use mathlib.Core.List.{List, [], ◌∷◌, ◌++◌, map, flat_map}
use mathlib.Core.Option.{Option, none, some}
use Prim.Native.Nat.{ℕ, suc, ◌+◌, ◌-◌, ◌*◌, ◌≤◌, ◌<◌}
use native.Mathlib.Omega.{arith}
use lib.Dec.{eqb}
use lib.ListN.{length, length-append}
use borrow.Author.Tests.{le-ltb}
use Rattle.limits.specs.Limits.{most_symbols, most_equations, most_rules, most_pairs, most_entries, most_saved, most_number, longest_saved, two_byte_values}
use Rattle.terms.specs.Base.{number_bytes, Field, field_bytes, Every, of_none, of_cons}
use Rattle.terms.specs.Term.{Pair}
use Rattle.terms.proofs.Lists.{flat_map_append}
use Rattle.terms.proofs.Limits.{length_number_bytes, length_field_bytes}
use Rattle.terms.proofs.Every.{every_map}
use Rattle.fields.specs.Puts.{tagged}
use Rattle.rewriting.specs.Overlap.{Rule}
use Rattle.reading.specs.Stops.{wrong_saved}
use Rattle.reading.proofs.Reading.{bind_ok}
use Rattle.problem.specs.Problem.{Reading, ok, refuse_if, ReadField, Symbol, symbol_field}
use Rattle.completion.specs.Turn.{Candidate, State}
use Rattle.completion.specs.Calls.{pair_bytes, rule_field, origin_bytes, entry_field}
use Rattle.completion.specs.Keeps.{PairKeeps, RulesKeep}
use Rattle.completion.proofs.Held.{HeldPair}
use Rattle.completion.proofs.Over.{OverPair}
use Rattle.completion.proofs.Widths.{flat, flat_cons, pair_bytes_length, rule_length, origin_bytes_length, entry_length}
use Rattle.items.specs.Fields.{one_field, fields_there, number_before, read_rule_at}
use Rattle.items.specs.Readers.{rules_at}
use Rattle.items.proofs.Walking.{OtherTag}
use Rattle.items.proofs.Back.{placed, one_back, end_of, Backs, none_back, one_more, there_back, rules_at_back}
use Rattle.items.proofs.Slotted.{length_rules_at, rules_of_at}
use Rattle.checkpoint.specs.Checkpoint.{Checkpoint, symbol_bytes, equation_field_of, waiting_field, checkpoint_fields, checkpoint_bytes}
use Rattle.checkpoint.specs.Checkpoint.{read_equation, read_next, read_waiting, read_entry, read_put_back, read_checkpoint}
use Rattle.checkpoint.proofs.Items.{OriginWide, EntryWide, SymbolsRead, entry_back, next_back, put_back_back, entries_enough, equation_back}
use Rattle.checkpoint.proofs.Items.{waiting_back}

-- a waiting equation that can be saved
pub record WaitingKeeps (Σ : List Symbol) (c : Candidate) : Type 0 where
  pub from : OriginWide c.origin
  pub sides : PairKeeps Σ c.sides

-- What a checkpoint must keep to be read back.
pub record Writable (c : Checkpoint) : Type 0 where
  pub symbols_read : SymbolsRead c.theory.symbols
  pub few : length c.theory.symbols ≤ most_symbols
  pub equations_few : length c.theory.equations ≤ most_equations
  pub equations_fit : Every (λ e. HeldPair (length c.theory.symbols) 16 e × OverPair c.theory.symbols e) c.theory.equations
  pub rules_few : length c.state.rules ≤ most_rules
  pub rules_keep : RulesKeep c.theory.symbols 0 c.state.rules
  pub rules_old : Every (λ (r : Rule). r.number ≤ c.state.made) c.state.rules
  pub together : length c.state.rules + length c.state.waiting ≤ most_pairs
  pub waiting_keep : Every (WaitingKeeps c.theory.symbols) c.state.waiting
  pub made_few : c.state.made ≤ length c.state.log
  pub log_few : length c.state.log ≤ most_entries
  pub log_fit : Every EntryWide c.state.log
  pub put_back_few : c.state.put_back ≤ length c.state.waiting

-- Items of one tag that do not ask for the one before them.
module _ {A : Type 0} (tag : ℕ) (read : ReadField → Reading A) (field : A → Field) (Q : A → Type 0) (has_tag : (a : A) → (field a).tag ≡ tag)
    (short : (a : A) → Q a → length (field a).contents < two_byte_values)
    (back : (a : A) → Q a → (at : ℕ) (rest : List ℕ) → read (placed at (field a) rest) ≡ ok a) where
  backs_of : (at : ℕ) (before : Option A) (l : List A) → Every Q l → Backs tag (λ _ f. read f) at before (map field l) l
  backs_of at before [] of_none = none_back
  backs_of at before (a ∷ l) (of_cons q h) =
      one_more {f = field a} (has_tag a) (short a q) (back a q at) (backs_of (at + 3 + length (field a).contents) (some a) l h)

-- A group of fields of another tag, with such behind it, does not begin with this one.
other_group : {A : Type 0} (tag : ℕ) (field : A → Field) (l : List A) (rest : List ℕ) → ((a : A) → eqb (field a).tag tag ≡ false) → OtherTag tag rest →
    OtherTag tag (flat (map field l) ++ rest)
unfolding flat_map field_bytes
other_group tag field [] rest h o = o
other_group tag field (a ∷ l) rest h o = h a

-- How long a group is whose fields' contents have at most so many bytes.
group_length : {A : Type 0} (field : A → Field) (most : ℕ) (l : List A) → Every (λ a. length (field a).contents ≤ most) l →
    length (flat (map field l)) ≤ (3 + most) * length l
unfolding flat_map
group_length field most [] h = omega arith
group_length field most (a ∷ l) (of_cons q h) =
    let k = group_length field most l h in
    let m : (3 + most) * suc (length l) ≡ (3 + most) + (3 + most) * length l = omega arith in
    omega (arith, flat_cons (field a) (map field l))

module _ (Σ : List Symbol) where
  equation_short : (e : Pair) → HeldPair (length Σ) 16 e × OverPair Σ e → length (equation_field_of e).contents ≤ 240
  unfolding equation_field_of
  equation_short e h = omega (arith, pair_bytes_length e, h.0.left.small, h.0.right.small)

  rules_short : (before : ℕ) (rules : List Rule) → RulesKeep Σ before rules → Every (λ r. length (rule_field r).contents ≤ 242) rules
  unfolding RulesKeep
  rules_short before [] h = of_none
  rules_short before (r ∷ rules) h =
      let short : length (rule_field r).contents ≤ 242 = omega (arith, rule_length r, h.0.sides.left_small, h.0.sides.right_small) in
      of_cons short (rules_short r.number rules h.1)

  waiting_short : (c : Candidate) → WaitingKeeps Σ c → length (waiting_field c).contents ≤ 246
  unfolding waiting_field
  waiting_short c h =
      let l = length-append (origin_bytes c.origin) (pair_bytes c.sides) in
      omega (arith, origin_bytes_length c.origin, pair_bytes_length c.sides, h.sides.left_small, h.sides.right_small)

symbol_bytes_length : (Σ : List Symbol) → length (symbol_bytes Σ) ≡ 2 * length Σ
unfolding symbol_bytes flat_map
symbol_bytes_length [] = refl
symbol_bytes_length (s ∷ Σ) = let k = symbol_bytes_length Σ in omega arith

not_refused : (b : Bool) (n at : ℕ) → b ≡ false → refuse_if b n at ≡ ok tt
unfolding refuse_if
not_refused b n at e = rw e refl

module _ (c : Checkpoint) (w : Writable c) where
  abbrev Σ : List Symbol
  Σ = c.theory.symbols

  abbrev s : State
  s = c.state

  abbrev f01 : Field
  f01 = tagged 0x01 (symbol_bytes Σ)

  abbrev f20 : Field
  f20 = tagged 0x20 (number_bytes 2 (suc s.made))

  abbrev f22 : Field
  f22 = tagged 0x22 (number_bytes 1 s.put_back)

  -- what stands from each group on
  abbrev from22 : List ℕ
  from22 = field_bytes f22 ++ []

  abbrev from13 : List ℕ
  from13 = flat (map entry_field s.log) ++ from22

  abbrev from21 : List ℕ
  from21 = flat (map waiting_field s.waiting) ++ from13

  abbrev from12 : List ℕ
  from12 = flat (map rule_field s.rules) ++ from21

  abbrev from20 : List ℕ
  from20 = field_bytes f20 ++ from12

  abbrev from03 : List ℕ
  from03 = flat (map equation_field_of c.theory.equations) ++ from20

  laid : checkpoint_bytes c ≡ field_bytes f01 ++ from03
  unfolding checkpoint_bytes checkpoint_fields flat_map
  laid =
      let eqs : List Field = map equation_field_of c.theory.equations in
      let rules : List Field = map rule_field s.rules in
      let waiting : List Field = map waiting_field s.waiting in
      let log : List Field = map entry_field s.log in
      ap (λ l. field_bytes f01 ++ l)
      (flat_map_append field_bytes eqs (f20 ∷ (rules ++ (waiting ++ (log ++ (f22 ∷ [])))))
      ∙ ap (λ l. flat eqs ++ (field_bytes f20 ++ l))
      (flat_map_append field_bytes rules (waiting ++ (log ++ (f22 ∷ [])))
      ∙ ap (λ l. flat rules ++ l)
      (flat_map_append field_bytes waiting (log ++ (f22 ∷ []))
      ∙ ap (λ l. flat waiting ++ l) (flat_map_append field_bytes log (f22 ∷ [])))))

  made_few : s.made ≤ most_number
  made_few = omega (arith, w.made_few, w.log_few)

  -- 35 for the symbols, 243 an equation, 245 a rule, 249 a waiting equation, 11 an entry, 9 for the two numbers
  pub checkpoint_length : length (checkpoint_bytes c) ≤ longest_saved
  checkpoint_length =
      let a = ap length laid in
      let b = length-append (field_bytes f01) from03 in
      let d = length-append (flat (map equation_field_of c.theory.equations)) from20 in
      let e = length-append (field_bytes f20) from12 in
      let f = length-append (flat (map rule_field s.rules)) from21 in
      let g = length-append (flat (map waiting_field s.waiting)) from13 in
      let h = length-append (flat (map entry_field s.log)) from22 in
      let i = length-append (field_bytes f22) [] in
      let eqs : length (flat (map equation_field_of c.theory.equations)) ≤ 243 * length c.theory.equations =
      group_length equation_field_of 240 c.theory.equations (every_map (equation_short Σ) w.equations_fit) in
      let rules : length (flat (map rule_field s.rules)) ≤ 245 * length s.rules =
      group_length rule_field 242 s.rules (rules_short Σ 0 s.rules w.rules_keep) in
      let waiting : length (flat (map waiting_field s.waiting)) ≤ 249 * length s.waiting =
      group_length waiting_field 246 s.waiting (every_map (waiting_short Σ) w.waiting_keep) in
      let log : length (flat (map entry_field s.log)) ≤ 11 * length s.log =
      group_length entry_field 8 s.log (every_map (λ e _. omega (arith, entry_length e)) w.log_fit) in
      omega (
        arith,
        length_field_bytes f01,
        symbol_bytes_length Σ,
        length_field_bytes f20,
        length_number_bytes 2 (suc s.made),
        length_field_bytes f22,
        length_number_bytes 1 s.put_back,
        w.few,
        w.equations_few,
        w.rules_few,
        w.together,
        w.log_few,
      )

  back_03 : (at : ℕ) → fields_there wrong_saved 0x03 (λ _ f. read_equation Σ f) most_equations none at from03 ≡ ok
      (record { part = c.theory.equations; end = end_of at (map equation_field_of c.theory.equations); rest = from20 })
  unfolding equation_field_of field_bytes
  back_03 at =
      there_back wrong_saved 0x03 (λ _ f. read_equation Σ f)
      (backs_of 0x03 (read_equation Σ) equation_field_of _ (λ e. refl) (λ e h. omega (arith, equation_short Σ e h)) (equation_back Σ w.few)
      at none c.theory.equations w.equations_fit) most_equations w.equations_few from20 refl

  last_is : suc s.made - 1 ≡ s.made
  last_is = omega arith

  -- whether they are to go down or not
  back_12 : (ordered : Bool) (at : ℕ) → fields_there wrong_saved 0x12 (read_rule_at Σ ordered (suc s.made - 1)) most_rules none at from12 ≡ ok
      (record { part = rules_at at s.rules; end = end_of at (map rule_field s.rules); rest = from21 })
  unfolding field_bytes waiting_field entry_field number_before
  back_12 ordered at =
      rw last_is
      (there_back wrong_saved 0x12 (read_rule_at Σ ordered s.made)
      (rules_at_back Σ w.few ordered s.made at none s.rules w.rules_keep w.rules_old)
      most_rules (omega (arith, length_rules_at at s.rules, w.rules_few)) from21
      (other_group 0x12 waiting_field s.waiting from13 (λ a. refl) (other_group 0x12 entry_field s.log from22 (λ a. refl) refl)))

  -- the rules' fields began at `first`
  back_21 : (first at : ℕ) →
      fields_there wrong_saved 0x21 (λ _ f. read_waiting Σ f) (most_pairs - length (rules_at first s.rules)) none at from21 ≡ ok
      (record { part = s.waiting; end = end_of at (map waiting_field s.waiting); rest = from13 })
  unfolding waiting_field field_bytes entry_field
  back_21 first at =
      there_back wrong_saved 0x21 (λ _ f. read_waiting Σ f)
      (backs_of 0x21 (read_waiting Σ) waiting_field _ (λ c. refl) (λ c h. omega (arith, waiting_short Σ c h))
      (λ c h. waiting_back Σ w.few c h.from h.sides) at none s.waiting w.waiting_keep)
      (most_pairs - length (rules_at first s.rules)) (omega (arith, length_rules_at first s.rules, w.together)) from13
      (other_group 0x21 entry_field s.log from22 (λ a. refl) refl)

  back_13 : (at : ℕ) → fields_there wrong_saved 0x13 (λ _ f. read_entry f) most_entries none at from13 ≡ ok
      (record { part = s.log; end = end_of at (map entry_field s.log); rest = from22 })
  unfolding entry_field field_bytes
  back_13 at =
      there_back wrong_saved 0x13 (λ _ f. read_entry f)
      (backs_of 0x13 read_entry entry_field _ (λ e. refl) (λ e h. omega (arith, entry_length e)) entry_back at none s.log w.log_fit)
      most_entries w.log_few from22 refl

  -- What was saved is what is read.
  pub checkpoint_back : read_checkpoint (checkpoint_bytes c) ≡ ok c
  unfolding read_checkpoint
  checkpoint_back =
      bind_ok _ (not_refused _ _ _ (le-ltb most_saved (length (checkpoint_bytes c)) (omega (arith, checkpoint_length))))
      ∙ bind_ok _ (ap (one_field wrong_saved 0x01 symbol_field 0) laid
      ∙ one_back wrong_saved symbol_field 0 f01 from03 Σ (omega (arith, symbol_bytes_length Σ, w.few)) (w.symbols_read _ _))
      ∙ bind_ok _ (back_03 _)
      ∙ bind_ok _ (one_back wrong_saved read_next _ f20 from12 (suc s.made) (omega (arith, length_number_bytes 2 (suc s.made)))
      (next_back s.made made_few _ _))
      ∙ bind_ok _ (back_12 _ _)
      ∙ bind_ok _ (back_21 _ _)
      ∙ bind_ok _ (back_13 _)
      ∙ bind_ok _ (not_refused _ _ _ (entries_enough s.made (length s.log) w.made_few))
      ∙ bind_ok _ (one_back wrong_saved (read_put_back (length s.waiting)) _ f22 [] s.put_back (omega (arith, length_number_bytes 1 s.put_back))
      (put_back_back (length s.waiting) s.put_back w.put_back_few (omega (arith, w.put_back_few, w.together)) _ _))
      ∙ bind_ok _ (not_refused _ _ _ refl)
      ∙ rw (last_is, rules_of_at _ s.rules) refl
