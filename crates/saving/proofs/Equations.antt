-- Fields 03 are copied one by one: those of the first k equations are put, and the fields from i on are to come. Assumes nothing.
-- Read first: specs/Saves (FillFields, PutsEquation, PutsEquations), fields/specs/Adds (AddsSome), fields/proofs/Putting (puts_then).
use mathlib.Core.Path.{◌≡◌, refl, sym, ap, ◌∙◌}
use mathlib.Core.List.{List, [], ◌∷◌, ◌++◌, map, flat_map, append_assoc, append-nil}
use Prim.Native.Nat.{ℕ, ◌+◌, ◌-◌, ◌*◌, ◌<◌, ◌≤◌}
use native.Mathlib.Omega.{arith}
use lib.ListN.{length, drop, length-take}
use Rattle.limits.specs.Limits.{most_pair, forms_width}
use Rattle.terms.specs.Base.{field_bytes}
use Rattle.terms.specs.Term.{Pair}
use Rattle.fields.specs.Puts.{tagged}
use Rattle.fields.specs.Adds.{Adds, AddsSome}
use Rattle.fields.specs.declared.writer.Writer.{Writer}
use Rattle.fields.proofs.Appending.{patched_none}
use Rattle.fields.proofs.Putting.{puts_length, puts_then, puts_counted}
use Rattle.reading.specs.Forms.{ok, ReadField, due}
use Rattle.reading.specs.Answers.{field_at, DueTo, IsDue}
use Rattle.std.proofs.Common.{Result, Ok, Err}
use Rattle.reading.specs.declared.DueError.{DueError}
use Rattle.reading.specs.declared.DueError.TheVariants.{Cut, Other}
use Rattle.reading.proofs.Reading.{no_ok, ok_injective}
use Rattle.completion.specs.Calls.{pair_bytes}
use Rattle.items.specs.Readers.{part}
use Rattle.checkpoint.specs.Checkpoint.{equation_field_of}
use Rattle.saving.specs.Saves.{FillFields, PutsEquation, PutsEquations}

-- no field is put
writes_none : (w : Writer) (k : ℕ) → AddsSome forms_width w w k []
writes_none w k =
    record {
      same = refl;
      puts = record { puts = record { bytes = sym (patched_none w.at w.out.now); counted = refl; next = omega arith }; room = omega arith };
    }

-- `put_equation`: the contents are longer than a pair, or they are put
module _ (l : List ℕ) (from end : ℕ) {w : Writer} where
  pub field_long : most_pair < end - (from + 3) → PutsEquation l from end w w
  field_long h = record { ys = []; puts = writes_none w 1; answer = λ s. absurd (omega arith) }

  pub field_put : {w' : Writer} → end - (from + 3) ≤ most_pair →
      Adds w w' (3 + length (part l (from + 3) end)) (field_bytes (tagged 0x03 (part l (from + 3) end))) → PutsEquation l from end w w'
  field_put {w'} h p =
      let n = p.puts.next in
      let few : w'.at ≤ w.at + forms_width * 1 = omega (arith, length-take (end - (from + 3)) (drop (from + 3) l)) in
      record {
        ys = field_bytes (tagged 0x03 (part l (from + 3) end));
        puts = record { same = p.same; puts = record { puts = puts_counted _ _ _ _ _ _ p.puts; room = few } };
        answer = λ s. refl;
      }

abbrev all_bytes : List Pair → List ℕ
all_bytes es = flat_map field_bytes (map equation_field_of es)

-- of the equations es the bytes of the first k are ys, and the fields from i on are those of the others
pub record ToCome (l : List ℕ) (ys : List ℕ) (k i : ℕ) (es : List Pair) : Type 0 where
  pub rest : List Pair
  pub bytes : all_bytes es ≡ ys ++ all_bytes rest
  pub number : k + length rest ≡ length es
  pub filled : FillFields l i rest

-- `put_equations`
pub record SoFar (l : List ℕ) (from count : ℕ) (w₀ w : Writer) (k i : ℕ) : Type 0 where
  pub within : k ≤ count
  pub same : length w.out.now ≡ length w₀.out.now
  pub ys : List ℕ
  pub puts : AddsSome forms_width w₀ w k ys
  pub to_come : (es : List Pair) → FillFields l from es → length es ≡ count → ToCome l ys k i es

pub so_far_start : (l : List ℕ) (from count : ℕ) (w : Writer) → SoFar l from count w w 0 from
so_far_start l from count w = record {
  within = omega arith;
  same = refl;
  ys = [];
  puts = writes_none w 0;
  to_come = λ es f n. record { rest = es; bytes = refl; number = omega arith; filled = f };
}

-- no field 03 is there
not_ok : (tag : ℕ) (l : List ℕ) (at : ℕ) (r : Result ℕ DueError) → IsDue tag l at r → ((e : ℕ) → r ≡ Ok e → ⊥) → (f : ReadField) →
    due tag at (drop at l) ≡ ok f → ⊥
not_ok tag l at (Ok e) d h f q = h e refl
not_ok tag l at (Err Cut) d h f q = no_ok (sym d ∙ q)
not_ok tag l at (Err Other) d h f q = no_ok (sym d ∙ q)

module _ {l : List ℕ} {from count : ℕ} {w₀ w : Writer} (room : w₀.at + forms_width * count ≤ length w₀.out.now) {k i : ℕ}
    (s : SoFar l from count w₀ w k i) where
  -- a field is put
  module _ (h : k < count) {e : ℕ} (d : DueTo 0x03 l i e) {w' : Writer} (q : PutsEquation l i e w w') where
    one_less : (ys : List ℕ) (es : List Pair) → length es ≡ count → (rest : List Pair) → all_bytes es ≡ ys ++ all_bytes rest → k + length rest ≡ length es →
        FillFields l i rest → ToCome l (ys ++ q.ys) (k + 1) e es
    unfolding FillFields field_at equation_field_of flat_map
    one_less ys es c [] b n f = absurd (omega arith)
    one_less ys es c (p ∷ rest) b n f =
        let j : f.0 ≡ e = ap (λ (g : ReadField). g.end) (ok_injective (sym f.1 ∙ d.0)) in
        let put : q.ys ≡ field_bytes (tagged 0x03 (pair_bytes p)) =
        q.answer (omega (arith, f.2)) ∙ ap (λ z. field_bytes (tagged 0x03 z)) (ap (part l (i + 3)) (sym j) ∙ f.3) in
        record {
          rest = rest;
          bytes = b ∙ sym (append_assoc ys (field_bytes (tagged 0x03 (pair_bytes p))) (all_bytes rest))
              ∙ ap (λ z. ys ++ z ++ all_bytes rest) (sym put);
          number = omega arith;
          filled = rw j at f.4;
        }

    pub so_far_more : SoFar l from count w₀ w' (k + 1) e
    so_far_more =
        let p = s.puts.puts in
        let m = q.puts.puts in
        let n : w.at ≡ w₀.at + length s.ys = p.puts.next in
        let x = puts_then _ _ _ _ s.ys q.ys _ _ _ _ (omega (arith, p.room)) p.puts m.puts in
        record {
          within = omega arith;
          same = puts_length _ _ _ q.ys _ _ (omega (arith, p.room, m.room, m.puts.next, s.same)) m.puts ∙ s.same;
          ys = s.ys ++ q.ys;
          puts = record {
            same = q.puts.same ∙ s.puts.same;
            puts = record { puts = puts_counted _ _ _ _ _ _ x; room = omega (arith, p.room, m.room) };
          };
          to_come = λ es f c. let t = s.to_come es f c in one_less s.ys es c t.rest t.bytes t.number t.filled;
        }

  abbrev All : Type 0
  All = PutsEquations l from count w₀ w

  put_so_far : ((es : List Pair) → length es ≡ count → ToCome l s.ys k i es → s.ys ≡ all_bytes es) → All
  put_so_far answer = record {
    ys = s.ys;
    puts = record { same = s.puts.same; puts = record { puts = s.puts.puts.puts; room = omega (arith, s.puts.puts.room, s.within) } };
    answer = λ es f c. answer es c (s.to_come es f c);
  }

  -- the fields end too early: then no equations fill so many
  pub put_stopped : k < count → (r : Result ℕ DueError) → IsDue 0x03 l i r → ((e : ℕ) → r ≡ Ok e → ⊥) → All
  unfolding FillFields
  put_stopped h r d u = put_so_far (λ es c t. go es c t.rest t.number t.filled)
    where
      go : (es : List Pair) → length es ≡ count → (rest : List Pair) → k + length rest ≡ length es → FillFields l i rest → s.ys ≡ all_bytes es
      go es c [] n f = absurd (omega arith)
      go es c (p ∷ rest) n f = absurd (not_ok 0x03 l i r d u (field_at 0x03 l i f.0) f.1)

  pub put_all : count ≤ k → All
  unfolding flat_map
  put_all h = put_so_far (λ es c t. go es c t.rest t.bytes t.number)
    where
      go : (es : List Pair) → length es ≡ count → (rest : List Pair) → all_bytes es ≡ s.ys ++ all_bytes rest → k + length rest ≡ length es →
          s.ys ≡ all_bytes es
      go es c [] b n = sym (b ∙ append-nil s.ys)
      go es c (p ∷ rest) b n = absurd (omega (arith, s.within))
