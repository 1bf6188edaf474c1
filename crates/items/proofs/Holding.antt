-- Two sides that fill a field's bytes: `renamed_pair`, `rule_sides`; then a rule's field and the forms' field, which hold such a pair. Assumes
-- nothing.
-- Read first: specs/Fields (renamed_pair, rule_sides, read_rule), specs/Readers (SidesFill, IsPairRead), reading/proofs/Standing, proofs/OneField.
use mathlib.Core.Path.{◌≡◌, refl, ap, sym, ◌∙◌}
use mathlib.Core.Bool.{Bool, true, false, not, ◌&&◌, and-false, or-true}
use mathlib.Core.List.{List, [], ◌++◌, append-nil}
use Prim.Native.Nat.{ℕ, ◌+◌, ◌-◌, ◌<◌, ◌≤◌}
use native.Mathlib.Omega.{arith}
use lib.Dec.{ltb, leb}
use lib.ListN.{length, take, drop, length-take, length-drop, drop_of_length-le}
use lib.Seq.{take-take, take_at, drop_at, drop-drop}
use borrow.Author.Tests.{lt-ltb, le-ltb, le-leb, lt-leb}
use Rattle.limits.specs.Limits.{most_variables, most_apart}
use Rattle.terms.specs.Base.{number_from}
use Rattle.terms.specs.Term.{Term, Pair, term_bytes}
use Rattle.terms.specs.Flat.{Wf, Starts}
use Rattle.terms.proofs.Shape.{dec_agree}
use Rattle.terms.proofs.Bytes.{length_bytes}
use Rattle.terms.proofs.Lists.{take_drop}
use Rattle.terms.proofs.Flats.{widen}
use Rattle.order.specs.Order.{above}
use Rattle.order.specs.Walk.{IsAbove}
use Rattle.reading.specs.Answers.{symbols_of, Table, between, PairAt, IsPair, IsRenamed}
use Rattle.std.proofs.Common.{Result, Ok, Err}
use Rattle.reading.specs.declared.PairError.{PairError}
use Rattle.reading.specs.declared.PairError.TheVariants.{Wrong, Large}
use Rattle.reading.proofs.Reading.{bind_ok}
use Rattle.reading.proofs.Standing.{PairStands, pair_stands}
use Rattle.problem.specs.Problem.{Reading, ok, refused, ◌>>=◌, Symbol, rank_of, read_term, read_side, read_pair}
use Rattle.problem.specs.Parser.{field_at}
use Rattle.rewriting.specs.Overlap.{Rule}
use Rattle.slots.specs.Slots.{Sides}
use Rattle.completion.proofs.Ranks.{ranks_are}
use Rattle.items.specs.Fields.{demand, is_renamed, renamed_pair, rule_sides, read_rule, read_forms}
use Rattle.items.specs.Readers.{Unread, part, SidesFill}
use Rattle.items.proofs.Parts.{renamed_dec}
use Rattle.items.proofs.OneField.{unread_is, unread_bind, unread_then, demand_kept, demand_broken}

pair_refused : (Σ : List Symbol) (at : ℕ) (m : List ℕ) (n p : ℕ) → read_pair Σ at m ≡ refused n p → Unread (renamed_pair Σ at m)
unfolding renamed_pair
pair_refused Σ at m n p h = unread_bind (read_pair Σ at m) _ (unread_is h)

-- no pair fills the bytes from `at` to `end`
pub pair_unfilled : (tab l : List ℕ) (at end : ℕ) (r : Result ℕ PairError) → IsPair tab l at end r → ((m : ℕ) → r ≡ Ok m → ⊥) →
    Unread (renamed_pair (symbols_of tab) at (between l at end))
pair_unfilled tab l at end (Ok m) R n = absurd (n m refl)
pair_unfilled tab l at end (Err (Wrong p)) R n = pair_refused (symbols_of tab) at (between l at end) _ p R
pair_unfilled tab l at end (Err (Large p)) R n = pair_refused (symbols_of tab) at (between l at end) _ p R

-- a pair that fills the bytes from `at` to `end`
module _ (tab l : List ℕ) (at end : ℕ) (T : Table tab) (m : ℕ) (p : Pair) (P : PairAt tab l at end m p) where
  stands : PairStands tab T (between l at end) p
  stands = pair_stands tab T at (between l at end) p P.read

  left_is : part l at m ≡ term_bytes p.left
  left_is =
      let q : at + (end - at) ≡ end = omega (arith, P.middle, P.ends) in
      let both : take (end - at) (drop at l) ≡ term_bytes p.left ++ term_bytes p.right =
      take_drop at (end - at) l ∙ rw q stands.filled in
      sym (take-take (m - at) (end - at) (drop at l) (omega (arith, P.ends)))
      ∙ ap (take (m - at)) both
      ∙ take_at (term_bytes p.left) (term_bytes p.right) (m - at) (omega (arith, length_bytes p.left, P.middle))

  right_is : part l m end ≡ term_bytes p.right
  right_is =
      let q : m + (end - m) ≡ end = omega (arith, P.ends) in
      let s : at + (m - at) ≡ m = omega (arith, P.middle) in
      take_drop m (end - m) l ∙ rw q (ap (λ z. drop z (take end l)) (sym s) ∙ sym (drop-drop (m - at) at (take end l)))
      ∙ ap (drop (m - at)) stands.filled
      ∙ drop_at (term_bytes p.left) (term_bytes p.right) (m - at) (omega (arith, length_bytes p.left, P.middle))

  pub pair_fills : SidesFill tab l at end m p
  pair_fills = record {
    sides = record { left_wf = stands.left_wf; right_wf = stands.right_wf; left_bytes = left_is; right_bytes = right_is };
    middle = P.middle;
    ends = P.ends;
    left_small = stands.left_small;
    right_small = stands.right_small;
  }

  module _ (r : Bool) (R : IsRenamed l at end r) where
    test_is : r ≡ is_renamed p
    test_is = dec_agree r (is_renamed p) (R 16 tab p stands.left_wf stands.right_wf stands.filled) (renamed_dec p)

    pub pair_other : r ≡ false → Unread (renamed_pair (symbols_of tab) at (between l at end))
    unfolding renamed_pair
    pair_other h = rw (bind_ok _ P.read) (demand_broken _ (sym test_is ∙ h))

    pub pair_renamed : r ≡ true → renamed_pair (symbols_of tab) at (between l at end) ≡ ok p
    unfolding renamed_pair
    pair_renamed h = bind_ok _ P.read ∙ demand_kept _ (sym test_is ∙ h)

-- two sides, compared
starts : (tab : List ℕ) (x : Term) (s : List ℕ) → Wf most_variables tab x → s ≡ term_bytes x → Starts tab s x
starts tab x s w b = record { wf = widen most_variables most_apart tab x (omega arith) w; rest = []; bytes = b ∙ sym (append-nil (term_bytes x)) }

pub sides_compared : (tab : List ℕ) → Table tab → {left right : List ℕ} {p : Pair} → Sides most_variables tab left right p →
    (r : Bool) → IsAbove tab left right r → above (rank_of (symbols_of tab)) p.left p.right ≡ r
sides_compared tab T {p = p} S r A =
    ap (λ (f : ℕ → ℕ). above f p.left p.right) (ranks_are tab T)
    ∙ sym (A p.left p.right (starts tab _ _ S.left_wf S.left_bytes) (starts tab _ _ S.right_wf S.right_bytes))

-- the sides of a rule
pub sides_refused : (Σ : List Symbol) (ordered : Bool) (at : ℕ) (m : List ℕ) → Unread (renamed_pair Σ at m) → Unread (rule_sides Σ ordered at m)
unfolding rule_sides
sides_refused Σ ordered at m u = unread_bind (renamed_pair Σ at m) _ u

module _ (Σ : List Symbol) (ordered : Bool) (at : ℕ) (m : List ℕ) (p : Pair) (h : renamed_pair Σ at m ≡ ok p) where
  pub sides_any : not ordered ≡ true → rule_sides Σ ordered at m ≡ ok p
  unfolding rule_sides
  sides_any n = bind_ok _ h ∙ demand_kept _ (rw n refl)

  pub sides_above : above (rank_of Σ) p.left p.right ≡ true → rule_sides Σ ordered at m ≡ ok p
  unfolding rule_sides
  sides_above e = bind_ok _ h ∙ demand_kept _ (rw e (or-true (not ordered)))

  pub sides_not : not ordered ≡ false → above (rank_of Σ) p.left p.right ≡ false → Unread (rule_sides Σ ordered at m)
  unfolding rule_sides
  sides_not n e = rw (bind_ok _ h) (demand_broken _ (rw (n, e) refl))

-- the forms, in the field from `at` to e
pub forms_are : (tab l : List ℕ) (at e : ℕ) →
    read_forms (symbols_of tab) (field_at 0x14 l at e) ≡ renamed_pair (symbols_of tab) (at + 3) (between l (at + 3) e)
unfolding read_forms field_at
forms_are tab l at e = refl

-- a rule, in the field from `at` to e
no_sides : (Σ : List Symbol) (ordered : Bool) (at : ℕ) → Unread (rule_sides Σ ordered at [])
unfolding rule_sides renamed_pair read_pair read_side read_term ◌>>=◌ Unread
no_sides Σ ordered at = tt

module _ (tab : List ℕ) (ordered : Bool) (most : ℕ) (l : List ℕ) (at before e : ℕ) (within : e ≤ length l) where
  abbrev rule_read : Reading Rule
  rule_read = read_rule (symbols_of tab) ordered most before (field_at 0x12 l at e)

  abbrev sides_read : Reading Pair
  sides_read = rule_sides (symbols_of tab) ordered (at + 5) (between l (at + 5) e)

  pub rule_short : e < at + 5 → Unread rule_read
  unfolding read_rule field_at
  rule_short h =
      let none : drop 2 (drop (at + 3) (take e l)) ≡ [] =
      drop_of_length-le (drop (at + 3) (take e l)) {i = 2} (omega (arith, length-drop (at + 3) (take e l), length-take e l)) in
      rw none (unread_bind (rule_sides (symbols_of tab) ordered (at + 5) []) _ (no_sides (symbols_of tab) ordered (at + 5)))

  module _ (h : at + 5 ≤ e) (n : ℕ) (i : n ≡ number_from 0 (take 2 (drop (at + 3) l))) where
    rule_is : rule_read ≡ (sides_read >>= λ p. demand (ltb before n && leb n most) >>= λ _. ok (record { number = n; sides = p }))
    unfolding read_rule field_at
    rule_is =
        let q : at + 3 + 2 ≡ at + 5 = omega arith in
        let s : drop 2 (drop (at + 3) (take e l)) ≡ between l (at + 5) e = drop-drop 2 (at + 3) (take e l) ∙ rw q refl in
        let t : take 2 (drop (at + 3) (take e l)) ≡ take 2 (drop (at + 3) l) =
        take_drop (at + 3) 2 (take e l)
        ∙ ap (drop (at + 3)) (take-take (at + 3 + 2) e l (omega arith))
        ∙ sym (take_drop (at + 3) 2 l) in
        let m : number_from 0 (take 2 (drop (at + 3) (take e l))) ≡ n = ap (number_from 0) t ∙ sym i in
        rw (s, m) refl

    pub rule_unheld : Unread sides_read → Unread rule_read
    rule_unheld u = rw rule_is (unread_bind sides_read _ u)

    pub rule_low : n ≤ before → Unread rule_read
    rule_low k = rw rule_is (unread_then sides_read _ (λ p. demand_broken _ (rw (le-ltb before n k) refl)))

    pub rule_high : most < n → Unread rule_read
    rule_high k = rw rule_is (unread_then sides_read _ (λ p. demand_broken _ (rw (lt-leb n most k) (and-false (ltb before n)))))

    pub rule_fine : before < n → n ≤ most → (p : Pair) → sides_read ≡ ok p → rule_read ≡ ok (record { number = n; sides = p })
    rule_fine j k p h = rule_is ∙ bind_ok _ h ∙ demand_kept _ (rw (lt-ltb before n j, le-leb n most k) refl)

-- both sides fit in a slot
module _ (tab l : List ℕ) (at end m : ℕ) (p : Pair) (F : SidesFill tab l at end m p) where
  pub fill_short : (length (part l at m) ≤ 120) × (length (part l m end) ≤ 120)
  fill_short = (
    omega (arith, length-take (m - at) (drop at l), F.middle, F.left_small),
    omega (arith, length-take (end - m) (drop m l), F.ends, F.right_small),
  )
