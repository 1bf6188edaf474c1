-- The words of the delivery theorem and the relations of rewriting: a step at a node is a step, and a step from a term over the symbols is a step at
-- a node. Assumes nothing.
-- Read first: specs/Delivery, rewriting/proofs/Relations.
use mathlib.Core.Path.{◌≡◌, refl, sym, ◌∙◌, ap, subst}
use mathlib.Core.Bool.{Bool, true, false}
use mathlib.Core.Logic.{⊎_elim}
use mathlib.Core.List.Memᴰ
use mathlib.Core.List.{List, [], ◌∷◌, map, Memᴰ}
use Prim.Native.Nat.{ℕ}
use Rattle.std.specs.Prelude.{if◌then◌else◌}
use Rattle.terms.specs.Base.{member}
use Rattle.terms.specs.Term.{Term, Terms, var, node, nil, cons, variables, variables_of, subst_term, subst_terms, Pair, subterm_at, replace_at}
use Rattle.terms.proofs.Shape.{Says}
use Rattle.terms.proofs.Subst.{Subst, In, VarsIn, subst_agree}
use Rattle.terms.proofs.Numbers.{member_says}
use Rattle.terms.proofs.Context.{Ctx, plug}
use Rattle.terms.proofs.Places.{number}
use Rattle.terms.proofs.Positions.{Found, found, subterm_plug, replace_plug, Inherits, plug_inherits}
use Rattle.rewriting.specs.Overlap.{Rule, sides_of}
use Rattle.rewriting.proofs.Relations
use Rattle.rewriting.proofs.Relations.{Rules, Of, Star, Conv, ahead, back, Normal}
use Rattle.rewriting.proofs.Order.{StepAt, step_at, at_step}
use Rattle.rewriting.proofs.Stepping.{StepBy}
use Rattle.problem.specs.Problem.{Symbol}
use Rattle.completion.specs.Delivery.{Instance, AtNode, Step, Replacement, Many, stay, go}
use Rattle.problem.specs.Over.{Over, OverAll}

-- An item of a list by its sides: a rule, an equation.
pub record ItemOf {A : Type 0} (sides : A → Pair) (items : List A) (l r : Term) : Type 0 where
  pub item : A
  pub is_item : Memᴰ item items
  pub is_left : (sides item).left ≡ l
  pub is_right : (sides item).right ≡ r

pub of_item : {A : Type 0} (sides : A → Pair) (items : List A) (x : A) → Memᴰ x items → Of (map sides items) (sides x).left (sides x).right
of_item sides [] x i = absurd (Memᴰ.not-nil i)
of_item sides (y ∷ items) x i = ⊎_elim (λ e. Memᴰ.head (ap sides e)) (λ j. Memᴰ.tail (of_item sides items x j)) (Memᴰ.cases_cons i)

pub item_of : {A : Type 0} (sides : A → Pair) (items : List A) (l r : Term) → Of (map sides items) l r → ItemOf sides items l r
item_of sides [] l r i = absurd (Memᴰ.not-nil i)
item_of sides (x ∷ items) l r i =
    ⊎_elim
    (λ e. record { item = x; is_item = Memᴰ.head refl; is_left = ap (λ (p : Pair). p.left) (sym e); is_right = ap (λ (p : Pair). p.right) (sym e) })
    (λ j. let a = item_of sides items l r j in record { item = a.item; is_item = Memᴰ.tail a.is_item; is_left = a.is_left; is_right = a.is_right })
    (Memᴰ.cases_cons i)

abbrev pub rule_sides : Rule → Pair
rule_sides r = r.sides

-- Replacing an instance at a node is a step.
pub node_step : (R : Rules) (Σ : List Symbol) (e : Pair) (u v s t : Term) → R e.left e.right → Instance Σ e u v → AtNode u v s t → Relations.Step R s t
node_step R Σ e u v s t ρ i a =
    let f : Found s a.position u = found s a.position u a.there in
    at_step
    (record {
      l = e.left;
      r = e.right;
      rule = ρ;
      σ = i.substitution;
      c = f.c;
      before = f.whole ∙ ap (plug f.c) i.left_is;
      after = a.replaced ∙ f.replaced v ∙ ap (plug f.c) i.right_is;
    })

pub word_step : (Σ : List Symbol) (rules : List Rule) (s t : Term) → Step Σ rules s t → StepBy rules s t
word_step Σ rules s t w =
    node_step (Of (sides_of rules)) Σ w.rule.sides w.redex w.contractum s t (of_item rule_sides rules w.rule w.is_rule) w.instance
    w.at_node

pub word_many : (Σ : List Symbol) (rules : List Rule) {s t : Term} → Many (Step Σ rules) s t → Star (StepBy rules) s t
word_many Σ rules stay = Relations.stop
word_many Σ rules (go w m) = Relations.move (word_step Σ rules _ _ w) (word_many Σ rules m)

-- one term for another in a context
pub plug_node : (c : Ctx) (u v s t : Term) → s ≡ plug c u → t ≡ plug c v → AtNode u v s t
plug_node c u v s t e d =
    record {
      position = number c;
      there = ap (λ z. subterm_at z (number c)) e ∙ subterm_plug c u;
      replaced = d ∙ sym (ap (λ z. replace_at z (number c) v) e ∙ replace_plug c u v);
    }

-- The same node, the other way round.
turned : (u v s t : Term) → AtNode u v s t → AtNode v u t s
turned u v s t a =
    let f : Found s a.position u = found s a.position u a.there in
    plug_node f.c v u t s (a.replaced ∙ f.replaced v) f.whole

pub word_replacement : (Σ : List Symbol) (es : List Pair) (s t : Term) → Replacement Σ es s t → Conv (Relations.Step (Of es)) s t
word_replacement Σ es s t w =
    ⊎_elim
    (λ i. ahead (node_step _ Σ w.equation w.one w.other s t w.is_equation i
    w.at_node) Relations.same)
    (λ i. back (node_step _ Σ w.equation w.other w.one t s w.is_equation i
    (turned _ _ s t w.at_node)) Relations.same)
    w.instance

-- Terms over the symbols: what stands in one is one, and so is what an instance puts at a variable.
module _ (Σ : List Symbol) where
  pub over_inherits : Inherits (Over Σ) (OverAll Σ)
  unfolding Over
  over_inherits = record { arguments = λ f ts h. h.2; head = λ t ts h. h.0; tail = λ t ts h. h.1 }

  mutual
    unfolding Over subst_term variables

    pub over_at : (σ : Subst) (t : Term) → Over Σ (subst_term σ t) → (x : ℕ) → In x (variables t) → Over Σ (σ x)
    over_at σ (var y) h x i =
        ⊎_elim (λ e. subst (λ z. Over Σ (σ z)) (sym e) h) (λ j. absurd (Memᴰ.not-nil j)) (Memᴰ.cases_cons i)
    over_at σ (node f ts) h x i = over_ats σ ts h.2 x i

    pub over_ats : (σ : Subst) (ts : Terms) → OverAll Σ (subst_terms σ ts) → (x : ℕ) → In x (variables_of ts) → Over Σ (σ x)
    over_ats σ nil h x i = absurd (Memᴰ.not-nil i)
    over_ats σ (cons t ts) h x i = ⊎_elim (λ j. over_at σ t h.0 x j) (λ j. over_ats σ ts h.1 x j) (Memᴰ.append_cases (variables t) i)

  -- σ at the variables of l, and nothing elsewhere
  abbrev only : Subst → Term → Subst
  only σ l x = if member x (variables l) then σ x else var x

  only_over : (σ : Subst) (l : Term) (x : ℕ) → (In x (variables l) → Over Σ (σ x)) → (b : Bool) → Says (In x (variables l)) b →
      Over Σ (if b then σ x else var x)
  unfolding Over
  only_over σ l x h true i = h i
  only_over σ l x h false n = tt

  only_is : (σ : Subst) (l : Term) (x : ℕ) → In x (variables l) → (b : Bool) → Says (In x (variables l)) b → σ x ≡ (if b then σ x else var x)
  only_is σ l x i true k = refl
  only_is σ l x i false n = absurd (n i)

  -- A step from a term over the symbols, by rules whose right sides have no variables of their own, is one in the words.
  pub step_word : (rules : List Rule) → ((l r : Term) → Of (sides_of rules) l r → VarsIn (λ x. In x (variables l)) r) →
      (s t : Term) → Over Σ s → StepBy rules s t → Step Σ rules s t
  step_word rules vars s t h w =
      let p : StepAt (Of (sides_of rules)) s t = step_at w in
      let a : ItemOf rule_sides rules p.l p.r = item_of rule_sides rules p.l p.r p.rule in
      let redex : Term = subst_term p.σ p.l in
      let contractum : Term = subst_term p.σ p.r in
      let h' : Over Σ redex = plug_inherits over_inherits p.c redex (subst (Over Σ) p.before h) in
      record {
        rule = a.item;
        is_rule = a.is_item;
        redex = redex;
        contractum = contractum;
        instance = record {
          substitution = only p.σ p.l;
          over = λ x. only_over p.σ p.l x (over_at p.σ p.l h' x) (member x (variables p.l)) (member_says x (variables p.l));
          left_is = subst_agree p.σ (only p.σ p.l) p.l (λ x i. only_is p.σ p.l x i _ (member_says x (variables p.l)))
              ∙ ap (subst_term (only p.σ p.l)) (sym a.is_left);
          right_is = subst_agree p.σ (only p.σ p.l) p.r
              (λ x i. only_is p.σ p.l x (vars p.l p.r p.rule x i) _ (member_says x (variables p.l)))
              ∙ ap (subst_term (only p.σ p.l)) (sym a.is_right);
        };
        at_node = plug_node p.c redex contractum s t p.before p.after;
      }

  -- So a term over the symbols from which no step in the words leads is normal, and the other way round.
  pub word_normal : (rules : List Rule) (t : Term) → Normal (StepBy rules) t → (u : Term) → Step Σ rules t u → ⊥
  word_normal rules t n u w = n u (word_step Σ rules t u w)

  pub normal_word : (rules : List Rule) → ((l r : Term) → Of (sides_of rules) l r → VarsIn (λ x. In x (variables l)) r) →
      (t : Term) → Over Σ t → ((u : Term) → Step Σ rules t u → ⊥) → Normal (StepBy rules) t
  normal_word rules vars t h n u w = n u (step_word rules vars t u h w)
