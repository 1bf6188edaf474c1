-- A line a field, from the bytes of the fields: if the result is fields, the bytes from i on are the fields whose lines are to print. Assumes
-- nothing.
-- Read first: specs/Text (Lines), completion/specs/Settle (line), reading/proofs/Fields (field_back), fields/proofs/Appending.
use mathlib.Core.Path.{◌≡◌, refl, sym, ap, ap₂, ◌∙◌}
use mathlib.Core.List.{List, [], ◌∷◌, ◌++◌, flat_map}
use Prim.Native.Nat.{ℕ, ◌+◌, ◌-◌, ◌*◌, ◌≤◌, ◌<◌}
use native.Mathlib.Omega.{arith}
use native.Mathlib.Decide.{dec_lt}
use lib.ListN.{length, take, drop, length-append, length-drop}
use lib.Seq.{length-take-le}
use Rattle.terms.specs.Base.{Field, field_bytes, Every, of_cons}
use Rattle.terms.proofs.Lists.{take_drop}
use Rattle.reading.specs.Forms.{ok, refused, ReadField, read_field}
use Rattle.reading.specs.Answers.{field_at, WholeAt}
use Rattle.reading.proofs.Reading.{no_ok, ok_injective}
use Rattle.reading.proofs.Fields.{field_back}
use Rattle.completion.specs.Calls.{written}
use Rattle.completion.specs.Settle.{line}
use Rattle.fields.specs.Puts.{patched, PutsSome, tagged}
use Rattle.fields.proofs.Appending.{patched_none, patched_behind, patched_front}
use Rattle.fields.proofs.Putting.{puts_length}
use Rattle.settle_text.specs.Text.{Lines}

abbrev Short : List Field → Type 0
Short fs = Every (λ (f : Field). length f.contents < 65_536) fs

-- the fields that are still to print
pub record Lining (result out₀ : List ℕ) (fs : List Field) (i a : ℕ) (out : List ℕ) : Type 0 where
  pub rest : List Field
  pub short : Short rest
  pub left : drop i result ≡ flat_map field_bytes rest
  pub to_do : patched a (flat_map line rest) out ≡ patched 0 (flat_map line fs) out₀
  pub total : a + length (flat_map line rest) ≡ length (flat_map line fs)

-- what holds of any bytes, and what holds of the bytes of fields
pub record Printing (result out₀ out : List ℕ) (i a : ℕ) : Type 0 where
  pub within : i ≤ length result
  pub same : length out ≡ length out₀
  pub room : a ≤ 4 * i
  pub lines : (fs : List Field) → Short fs → result ≡ flat_map field_bytes fs → Lining result out₀ fs i a out

pub printing_start : (result out : List ℕ) → Printing result out out 0 0
printing_start result out = record {
  within = omega arith;
  same = refl;
  room = omega arith;
  lines = λ fs h e. record { rest = fs; short = h; left = e; to_do = refl; total = omega arith };
}

no_bytes : (fs : List Field) → length (flat_map field_bytes fs) ≡ 0 → fs ≡ []
unfolding flat_map field_bytes
no_bytes [] e = refl
no_bytes (f ∷ fs) e = absurd (omega arith)

lines_cons : (f : Field) (fs : List Field) → flat_map line (f ∷ fs) ≡ line f ++ flat_map line fs
unfolding flat_map
lines_cons f fs = refl

fields_cons : (f : Field) (fs : List Field) → flat_map field_bytes (f ∷ fs) ≡ field_bytes f ++ flat_map field_bytes fs
unfolding flat_map
fields_cons f fs = refl

none_left : length (flat_map field_bytes []) ≡ 0
unfolding flat_map
none_left = refl

no_lines : flat_map line [] ≡ []
unfolding flat_map
no_lines = refl

module _ (result out₀ : List ℕ) (big : 4 * length result ≤ length out₀) (out : List ℕ) (i a : ℕ) (p : Printing result out₀ out i a) where
  -- what is left begins with a field, which is read
  with_next : {C : Type 0} (fs : List Field) → Short fs → result ≡ flat_map field_bytes fs → i < length result →
      ((f : Field) (rest : List Field) → Short rest →
      read_field i (drop i result)
      ≡ ok (record { first = i; tag = f.tag; contents = f.contents; end = i + 3 + length f.contents; rest = flat_map field_bytes rest }) →
      patched a (line f ++ flat_map line rest) out ≡ patched 0 (flat_map line fs) out₀ →
      a + length (line f ++ flat_map line rest) ≡ length (flat_map line fs) → C) → C
  with_next {C} fs h e l k = let q : Lining result out₀ fs i a out = p.lines fs h e in go q.rest q.short q.left q.to_do q.total
    where
      go : (rest : List Field) → Short rest → drop i result ≡ flat_map field_bytes rest → patched a (flat_map line rest) out ≡ patched 0
          (flat_map line fs) out₀ →
          a + length (flat_map line rest) ≡ length (flat_map line fs) → C
      go [] s left to_do total = absurd (omega (arith, length-drop i result, ap length left ∙ none_left))
      go (f ∷ rest) (of_cons q s) left to_do total =
          k f rest s (ap (read_field i) (left ∙ fields_cons f rest) ∙ field_back i f (flat_map field_bytes rest) q)
          (ap (λ (z : List ℕ). patched a z out) (sym (lines_cons f rest)) ∙ to_do) (ap (λ (z : List ℕ). a + length z) (sym (lines_cons f rest)) ∙ total)

  -- bytes that end inside a field are no fields
  no_field : i < length result → read_field i (drop i result) ≡ refused 3 i → (r : ℕ) → Lines result out₀ out r
  no_field l cut r fs h e = absurd (with_next fs h e l λ f rest s read t u. no_ok (sym cut ∙ read))

  module _ (l : i < length result) (tag start n : ℕ) (F : WholeAt result i tag start n) where
    -- its contents, as the code's &result[start..n] is
    abbrev cs : List ℕ
    cs = take (n - start) (drop start result)

    part_length : length cs ≡ n - start
    part_length = length-take-le (n - start) (drop start result) (omega (arith, length-drop start result, F.within, F.low))

    pub line_room : (a + (10 + 2 * length cs) ≤ length out) × (length cs < 65_536)
    line_room =
        let w : a ≤ 4 * i = p.room in
        let s : length out ≡ length out₀ = p.same in
        (omega (arith, part_length, F.starts, F.within, F.low), omega (arith, part_length, F.short))

    pub printing_more : (out' : List ℕ) (r : ℕ) → PutsSome (10 + 2 * length cs) out a 1 (line (tagged tag cs)) out' r → Printing result out₀ out' n r
    unfolding field_at
    printing_more out' r q =
        let w : a ≤ 4 * i = p.room in
        let s : length out ≡ length out₀ = p.same in
        let c = part_length in
        let b = F.starts in
        let few : r ≤ a + (10 + 2 * length cs) * 1 = q.room in
        let next : r ≡ a + length (line (tagged tag cs)) = q.puts.next in
        record {
          within = F.within;
          same = puts_length out a _ _ out' r (omega (arith, F.within, F.low)) q.puts ∙ s;
          room = omega (arith, F.low);
          lines = λ fs h e. with_next fs h e l λ f rest sh read t u.
              let g = ok_injective (sym F.read ∙ read) in
              let z : start + (n - start) ≡ n = omega (arith, F.low) in
              let eq : cs ≡ f.contents =
              take_drop start (n - start) result ∙ ap₂ (λ (x y : ℕ). drop x (take y result)) b z ∙ ap (λ (f : ReadField). f.contents) g in
              let same_line : line (tagged tag cs) ≡ line f = ap₂ (λ (x : ℕ) (y : List ℕ). line (tagged x y)) (ap (λ (f : ReadField). f.tag) g) eq in
              let n₂ : r ≡ a + length (line f) = next ∙ ap (λ (y : List ℕ). a + length y) same_line in
              let b₂ : out' ≡ patched a (line f) out = q.puts.bytes ∙ ap (λ (y : List ℕ). patched a y out) same_line in
              record {
                rest = rest;
                short = sh;
                left = ap (λ (f : ReadField). f.rest) g;
                to_do = ap₂ (λ (k : ℕ) (d : List ℕ). patched k (flat_map line rest) d) n₂ b₂
                    ∙ patched_behind a (line f) (flat_map line rest) out (omega (arith, F.within, F.low)) ∙ t;
                total = omega (arith, n₂, u, length-append (line f) (flat_map line rest));
              };
        }

  pub printing_room : a ≤ length out₀
  printing_room = let w : a ≤ 4 * i = p.room in let v : i ≤ length result = p.within in omega arith

  printing_end : length result ≤ i → Lines result out₀ out a
  unfolding written
  printing_end l fs h e =
      let q : Lining result out₀ fs i a out = p.lines fs h e in
      let none : q.rest ≡ [] = no_bytes q.rest (sym (ap length q.left) ∙ omega (arith, length-drop i result)) in
      let z : flat_map line q.rest ≡ [] = ap (flat_map line) none ∙ no_lines in
      record {
        bytes = sym (patched_none a out) ∙ ap (λ (x : List ℕ). patched a x out) (sym z) ∙ q.to_do ∙ patched_front (flat_map line fs) out₀;
        count = omega (arith, q.total, ap length z);
      }

  -- no field begins at i: all are printed, or the bytes are no fields
  pub printing_done : read_field i (drop i result) ≡ refused 3 i → Lines result out₀ out a
  printing_done cut = go (dec_lt i (length result))
    where
      go : Dec (i < length result) → Lines result out₀ out a
      go (yes l) = no_field l cut a
      go (no l) = printing_end (omega arith)
