-- `normalise` and `reducible`: `normalise_in` with the limit 120 and nothing behind the term is the definition's; the units paid are those it takes; with
-- none it stops exactly where there is a step. Assumes nothing.
-- Read first: specs/Settled (Settled, Normalised, Reducible), proofs/Sequence, redex/proofs/Marking (plain).
use mathlib.Core.Path.{◌≡◌, refl, sym, ◌∙◌, ap, ap₂, subst}
use mathlib.Core.Bool.{true, false}
use mathlib.Core.List.{List, [], ◌++◌, append-nil}
use mathlib.Core.Option.{Option, none, some}
use Prim.Native.Nat.{ℕ, ◌+◌, ◌-◌, ◌≤◌}
use native.Mathlib.Omega.{arith}
use lib.Dec.{ltb}
use lib.ListN.{length, take, drop, length-append, length-drop}
use lib.Seq.{length-take-le, take_at}
use Rattle.limits.specs.Limits.{most_nodes, most_apart}
use Rattle.terms.specs.Base.{is_some}
use Rattle.terms.specs.Term.{Term, term_bytes, size}
use Rattle.terms.specs.Flat.{Wf}
use Rattle.terms.proofs.Bytes.{length_bytes}
use Rattle.terms.proofs.Shape.{zero≢one}
use Rattle.rewriting.specs.Overlap.{Rule, sides_of}
use Rattle.rewriting.specs.Rewrite.{End, complete, neither_above, spent, too_large, rules_full, log_full, Paid, done, stop, Paying, step, normalise}
use Rattle.matching.specs.Cells.{cells, node_bytes}
use Rattle.matching.proofs.Celled.{bytes_cells}
use Rattle.slots.specs.Slots.{Stored}
use Rattle.redex.specs.declared.Out.{Out}
use Rattle.redex.specs.declared.Step.{Step}
use Rattle.redex.specs.declared.Step.TheVariants.{Normal, Rewritten, Spent, TooLarge, NoTerm}
use Rattle.redex.proofs.Marking.{plain}
use Rattle.redex.proofs.Sizing.{bytes_length}
use Rattle.normaliser.specs.Inside.{pay_for, normalise_in}
use Rattle.normaliser.specs.Settled.{StepStops, EndsWith, Limit, Settled, WholeEnds, form_after, FormStops, SmallForm, NormalIs, Normalised, Reducible}
use Rattle.std.specs.Prelude.{Result}
use Rattle.normaliser.specs.declared.Stop.{Stop}
use Rattle.normaliser.specs.declared.Reached.{Reached}
use Rattle.normaliser.proofs.Sequence.{iterate_step, normalise_normal, normalise_whole}

form_stops : (e : End) (s : Step) (n : ℕ) → StepStops e s → FormStops e (form_after s n)
unfolding form_after
form_stops complete s n h = h
form_stops neither_above s n h = h
form_stops spent s n h = ap (λ s. form_after s n) h
form_stops too_large s n h = ap (λ s. form_after s n) h
form_stops rules_full s n h = h
form_stops log_full s n h = h

form_small : (s : Step) (n : ℕ) → n ≤ most_nodes → SmallForm (form_after s n)
unfolding form_after
form_small Normal n h = h
form_small Rewritten n h = tt
form_small Spent n h = tt
form_small TooLarge n h = tt
form_small NoTerm n h = tt

-- What stands in the first cells of t at the end is unloaded, by whichever strategy it came there.
module _
    (tab t : List ℕ) (units : ℕ) (o : Out) (long : length t ≡ most_nodes) (few : o.len ≤ most_nodes) (less : o.units ≤ units)
    (out out' C : List ℕ) (f : Result ℕ Stop) (room : most_nodes ≤ length out) (eC : C ≡ take o.len t)
    (e' : out' ≡ node_bytes C ++ drop (length C) out) (ef : f ≡ form_after o.step o.len) where
  length_C : length C ≡ o.len
  length_C = ap length eC ∙ length-take-le o.len t (omega arith)

  abbrev reached : Reached
  reached = record { form = f; paid = units - o.units }

  unload_go : (p : Paid Term) → WholeEnds tab t o p → NormalIs tab out' units reached p
  unfolding form_after
  unload_go (done y left) e =
      let b : node_bytes C ≡ term_bytes y = ap node_bytes (eC ∙ e.2) ∙ bytes_cells tab y e.3 in
      let k : length (node_bytes C) ≡ size y = ap length b ∙ length_bytes y in
      let u : o.units ≡ left = e.1 in (
        ef ∙ ap₂ form_after e.0 (sym length_C ∙ sym (bytes_length C) ∙ k),
        omega arith,
        ap (take (size y)) e' ∙ take_at (node_bytes C) (drop (length C) out) (size y) k ∙ b,
        e.3,
      )
  unload_go (stop c left) e =
      let u : o.units ≡ left = e.1 in
      (subst (λ f. FormStops c f) (sym ef) (form_stops c o.step o.len e.0), omega arith)

  pub unloaded : (by : List Rule → Term → Paying Term) (rules : List ℕ) (number : ℕ) (S : List ℕ) → ((rs : List Rule) → Stored tab rules 0 (sides_of rs) →
      number ≡ length rs → (x : Term) → Wf most_apart tab x → S ≡ term_bytes x →
      WholeEnds tab t o (by rs x units)) → Normalised by tab rules number S out out' units reached
  unloaded by rules number S ends = record {
    same = ap length e' ∙ length-append (node_bytes C) (drop (length C) out)
        ∙ omega (arith, bytes_length C, length_C, length-drop (length C) out);
    within = omega arith;
    small = subst SmallForm (sym ef) (form_small o.step o.len few);
    answer = λ rs st m x w b. unload_go (by rs x units) (ends rs st m x w b);
  }

-- The bytes S are loaded into 120 cells, t₁, that held z, and settled, t₂.
module _
    {tab rules : List ℕ} {number : ℕ} (S z : List ℕ) {t₁ t₂ : List ℕ} {units : ℕ} {o : Out} (short : length S ≤ most_nodes) (lz : length z ≡ most_nodes)
    (e₁ : t₁ ≡ S ++ drop (length S) z) (s : Settled tab rules number t₁ t₂ (length S) most_nodes units o) where
  settled_length : length t₂ ≡ most_nodes
  settled_length = s.bounds.same ∙ ap length e₁ ∙ length-append S (drop (length S) z) ∙ omega (arith, length-drop (length S) z)

  settled_term : (rs : List Rule) → Stored tab rules 0 (sides_of rs) → number ≡ length rs → (x : Term) → Wf most_apart tab x → S ≡ term_bytes x →
      EndsWith tab t₂ [] o (normalise_in rs (ltb most_nodes) x units)
  settled_term rs st m x w b =
      let lim : Limit (ltb most_nodes) most_nodes [] = λ k. (let e : k ≡ k + 0 = omega arith in ap (ltb most_nodes) e) in
      let text : take (length S) t₁ ≡ term_bytes x ++ [] =
      ap (take (length S)) e₁ ∙ take_at S (drop (length S) z) (length S) refl ∙ b ∙ sym (append-nil (term_bytes x)) in
      s.answer rs st m x [] (record { wf = w; marks = term_bytes x; marked = plain rs x; text = text }) (ltb most_nodes) lim

  -- `normalise`
  whole_ends : (p : Paid Term) → EndsWith tab t₂ [] o p → WholeEnds tab t₂ o p
  whole_ends (done y left) e = (e.0, e.1, e.3 ∙ append-nil (cells y), e.4)
  whole_ends (stop c left) e = e

  pub whole : (out : List ℕ) {out' C : List ℕ} {f : Result ℕ Stop} → most_nodes ≤ length out → C ≡ take o.len t₂ →
      out' ≡ node_bytes C ++ drop (length C) out → f ≡ form_after o.step o.len →
      Normalised normalise tab rules number S out out' units (record { form = f; paid = units - o.units })
  whole out {out'} {C} {f} room eC e' ef =
      let c = s.bounds.cost in
      unloaded tab t₂ units o settled_length s.bounds.small (omega arith) out out' C f room eC e' ef normalise rules number S
      λ rs st m x w b. whole_ends (normalise rs x units) (subst (λ p. EndsWith tab t₂ [] o p) (normalise_whole rs units x) (settled_term rs st m x w b))

  -- `reducible`
  module _ (no : units ≡ 0) where
    abbrev Tells : Option Term → Type 0
    Tells q = (o.step ≡ Spent → true ≡ is_some q) × ((o.step ≡ Spent → ⊥) → false ≡ is_some q)

    tells_go : (rs : List Rule) (x : Term) (q : Option Term) → step rs x ≡ q → EndsWith tab t₂ [] o (normalise_in rs (ltb most_nodes) x 0) → Tells q
    unfolding is_some pay_for
    tells_go rs x none e h =
        let g : EndsWith tab t₂ [] o (done x 0) = subst (λ p. EndsWith tab t₂ [] o p) (normalise_normal rs (ltb most_nodes) x 0 e) h in
        (λ z. absurd (let d : o.step ≡ Normal = g.0 in zero≢one (cc)), λ z. refl)
    tells_go rs x (some u) e h =
        let d : normalise_in rs (ltb most_nodes) x 0 ≡ stop spent 0 =
        iterate_step (step rs) (λ v. ltb most_nodes (size v)) x 0
        ∙ ap (λ q. pay_for (λ v. ltb most_nodes (size v)) (λ v n. normalise_in rs (ltb most_nodes) v n) x q 0) e in
        let g : EndsWith tab t₂ [] o (stop spent 0) = subst (λ p. EndsWith tab t₂ [] o p) d h in
        (λ z. refl, λ z. absurd (z g.0))

    tells : (rs : List Rule) → Stored tab rules 0 (sides_of rs) → number ≡ length rs → (x : Term) → Wf most_apart tab x → S ≡ term_bytes x → Tells (step rs x)
    tells rs st m x w b =
        tells_go rs x (step rs x) refl (subst (λ k. EndsWith tab t₂ [] o (normalise_in rs (ltb most_nodes) x k)) no (settled_term rs st m x w b))

    pub reduces : o.step ≡ Spent → Reducible tab rules number S true
    reduces z = record { answer = λ rs st m x w b. (tells rs st m x w b).0 z }

    pub reduces_not : (o.step ≡ Spent → ⊥) → Reducible tab rules number S false
    reduces_not z = record { answer = λ rs st m x w b. (tells rs st m x w b).1 z }
