-- Whether bytes are those of terms one after the other: a walk from the last byte to the first, counting the terms that follow. Assumes nothing.
-- Read first: specs/Result (Formed, IsTerms), terms/proofs/Flats (unique).
use mathlib.Core.Path.{◌≡◌, refl, sym, ap, ◌∙◌}
use mathlib.Core.Bool.{true, false, false≢true}
use mathlib.Core.List.{List, ◌∷◌, ◌++◌, append_assoc}
use mathlib.Core.Option.{some}
use Rattle.std.specs.Prelude.{Some, None}
use Prim.Native.Nat.{ℕ, zero, suc, ◌+◌, ◌-◌, ◌≤◌, ◌<◌}
use native.Mathlib.Omega.{arith}
use lib.ListN.{length, get_or, drop, length-append, drop_of_length-le}
use lib.Seq.{drop-cons, drop_at}
use Rattle.terms.specs.Term.{Term, var, node, Terms, nil, cons, size, sizes, term_bytes, terms_bytes, subterm_at, subterm_in, count}
use Rattle.terms.specs.Scan.{owes}
use Rattle.terms.specs.Flat.{Wf, Wfs}
use Rattle.terms.proofs.Bytes.{length_bytes, length_bytes_all, around_in}
use Rattle.terms.proofs.Flats.{unique, wf_subterm_in}
use Rattle.terms.proofs.Places.{size_pos, place}
use Rattle.terms.proofs.Positions.{subterm_is}
use Rattle.terms.proofs.Scans.{owes_symbol, owes_other}
use Rattle.terms.proofs.Several.{begins_symbol, begins_variable}
use Rattle.mgu.specs.Result.{Formed, IsTerms}

-- terms that begin the bytes of others are at most as many
fewer : (tab : List ℕ) (us ts : Terms) (rest : List ℕ) → Wfs 32 tab us → Wfs 32 tab ts → terms_bytes us ++ rest ≡ terms_bytes ts → count us ≤ count ts
unfolding count terms_bytes Wfs
fewer tab nil ts rest w v e = omega arith
fewer tab (cons u us) nil rest w v e =
    let n = ap length e in
    absurd (omega (arith, n, length-append (term_bytes u ++ terms_bytes us) rest, length-append (term_bytes u) (terms_bytes us), length_bytes u, size_pos u))
fewer tab (cons u us) (cons t ts) rest w v e =
    let q = unique 32 tab u t (terms_bytes us ++ rest) (terms_bytes ts) w.0 v.0 (sym (append_assoc (term_bytes u) (terms_bytes us) rest) ∙ e) in
    let h = fewer tab us ts rest w.1 v.1 q.1 in
    omega arith

-- at each place a subterm begins
subterms_there : (ts : Terms) (p : ℕ) → p < sizes ts → (u : Term) × (subterm_in ts p ≡ some u)
unfolding subterm_at size
subterms_there ts p h = ((place (node 0 ts) (suc p) (omega arith)).s, subterm_is (node 0 ts) (suc p) (omega arith))

-- `formed`
head_is : (b c : ℕ) (l m : List ℕ) → b ∷ l ≡ c ∷ m → (b ≡ c) × (l ≡ m)
head_is b c l m e = (cc, cc)

module _ (tab : List ℕ) (b have : ℕ) where
  none_by : (ts : Terms) → Wfs 32 tab ts → count ts ≡ have → (u : Term) (rest : List ℕ) → Wf 32 tab u → b ∷ terms_bytes ts ≡ term_bytes u ++ rest →
      (160 ≤ b → ⊥) × (b < 128 → (b < 16) × (owes tab b ≤ have))
  unfolding Wf term_bytes
  none_by ts w n (var x) rest v e = let q = head_is b (128 + x) (terms_bytes ts) rest e in (λ h. omega (arith, q.0, v), λ h. absurd (omega (arith, q.0)))
  none_by ts w n (node f us) rest v e =
      let q = head_is b f (terms_bytes ts) (terms_bytes us ++ rest) e in
      let c = fewer tab us ts rest v.2 w (sym q.1) in
      let o : owes tab b ≡ count us = ap (owes tab) q.0 ∙ owes_symbol tab f v.0 ∙ sym v.1 in
      (λ h. omega (arith, q.0, v.0), λ h. (omega (arith, q.0, v.0), omega (arith, o)))

  pub formed_high : 160 ≤ b → Formed tab b have None
  formed_high h = λ ts w n u rest v e. (none_by ts w n u rest v e).0 h

  pub formed_gap : 16 ≤ b → b < 128 → Formed tab b have None
  formed_gap h k = λ ts w n u rest v e. let q = ((none_by ts w n u rest v e).1 k).0 in omega arith

  pub formed_few : (k : ℕ) → k ≡ owes tab b → b < 16 → have < k → Formed tab b have None
  formed_few k q h l = λ ts w n u rest v e. let r = ((none_by ts w n u rest v e).1 (omega arith)).1 in omega arith

  pub formed_variable : 128 ≤ b → b < 160 → Formed tab b have (Some (have + 1))
  formed_variable h k = record {
    most = omega arith;
    more = λ ts w n.
        let u = begins_variable 32 tab b ts h k w in
        (u.0, u.1, omega (arith, u.2, owes_other tab b (omega arith)), u.3);
  }

  pub formed_symbol : (k r : ℕ) → k ≡ owes tab b → b < 16 → k ≤ have → r ≡ have - k → Formed tab b have (Some (r + 1))
  formed_symbol k r q h l e = record {
    most = omega arith;
    more = λ ts w n. let u = begins_symbol 32 tab b ts h w (omega arith) in (u.0, u.1, omega (arith, u.2), u.3);
  }

-- the loop: the bytes from i on are those of `have` terms
pub record Forest (l tab : List ℕ) (i have : ℕ) : Type 0 where
  pub within : i + have ≤ length l
  pub ts : Terms
  pub wf : Wfs 32 tab ts
  pub number : count ts ≡ have
  pub bytes : drop i l ≡ terms_bytes ts

pub forest_start : (l tab : List ℕ) → Forest l tab (length l) 0
unfolding Wfs count terms_bytes
forest_start l tab =
    record { within = omega arith; ts = nil; wf = tt; number = refl; bytes = let h : length l ≤ length l = omega arith in drop_of_length-le l h }

module _ (l tab : List ℕ) (i have : ℕ) (f : Forest l tab i have) (h : 0 < i) where
  here : drop (i - 1) l ≡ get_or l (i - 1) 0 ∷ terms_bytes f.ts
  here =
      let e : suc (i - 1) ≡ i = omega arith in
      drop-cons l (i - 1) 0 (omega (arith, f.within)) ∙ ap (◌∷◌ (get_or l (i - 1) 0)) (ap (λ z. drop z l) e ∙ f.bytes)

  pub forest_more : (r : ℕ) → Formed tab (get_or l (i - 1) 0) have (Some r) → Forest l tab (i - 1) r
  forest_more r g =
      let m = g.more f.ts f.wf f.number in
      record { within = omega (arith, f.within, g.most); ts = m.0; wf = m.1; number = m.2; bytes = here ∙ m.3 }

  pub forest_bad : Formed tab (get_or l (i - 1) 0) have None → IsTerms l tab false
  forest_bad g = record {
    sound = λ e. absurd (false≢true e);
    complete = λ ts w e.
        let n : i - 1 < sizes ts = omega (arith, f.within, ap length e, length_bytes_all ts) in
        let s = subterms_there ts (i - 1) n in
        let a = around_in ts (i - 1) s.0 s.1 in
        let b : get_or l (i - 1) 0 ∷ terms_bytes f.ts ≡ term_bytes s.0 ++ a.after =
        sym here ∙ ap (drop (i - 1)) (e ∙ a.holds) ∙ drop_at a.before (term_bytes s.0 ++ a.after) (i - 1) a.begins in
        absurd (g f.ts f.wf f.number s.0 a.after (wf_subterm_in 32 tab ts (i - 1) s.0 w s.1) b);
  }

pub forest_done : (l tab : List ℕ) (i have : ℕ) → Forest l tab i have → i ≤ 0 → IsTerms l tab true
forest_done l tab zero have f h = record { sound = λ e. (f.ts, (f.wf, f.bytes)); complete = λ ts w e. refl }
forest_done l tab (suc i) have f h = absurd (omega arith)
