-- Every term is accessible for the inverse of `Above rank`. Assumes nothing.
-- Read first: proofs/PathOrder.
use mathlib.Core.WellFounded.Acc
use mathlib.Core.WellFounded.{Acc}
use Prim.Native.Nat.{ℕ, ◌<◌}
use lib.WfN.{lt-wf_rel}
use Rattle.terms.specs.Term.{Term, Terms, var, node, nil, cons}
use Rattle.order.proofs.PathOrder.{SameLen, len_nil, len_cons, Above, by_arg, by_rank, by_lex, Within, here, by_above, later, AboveAll}
use Rattle.order.proofs.PathOrder.{all_nil, all_cons, Lex, first, next, var_above, lex_nil}

pub len_refl : (ss : Terms) → SameLen ss ss
len_refl nil = len_nil
len_refl (cons s ss) = len_cons (len_refl ss)

pub len_trans : {ss ts us : Terms} → SameLen ss ts → SameLen ts us → SameLen ss us
len_trans len_nil len_nil = len_nil
len_trans (len_cons l) (len_cons m) = len_cons (len_trans l m)

module _ (rank : ℕ → ℕ) where
  -- t is below s
  abbrev pub Below : Term → Term → Type 0
  Below t s = Above rank s t

  pub data AllAcc : Terms → Type 0 where
    acc_nil : AllAcc nil
    acc_cons : {s : Term} {ss : Terms} → Acc Below s → AllAcc ss → AllAcc (cons s ss)

  -- the smaller list is of accessible terms
  abbrev LexBelow : Terms → Terms → Type 0
  LexBelow ts ss = Lex rank ss ts × AllAcc ts

  pub lex_len : {ss ts : Terms} → Lex rank ss ts → SameLen ss ts
  lex_len (first a l) = len_cons l
  lex_len (next x) = len_cons (lex_len x)

  abbrev Outer : Terms → Term → Type 0
  Outer us s = (t : Term) → Above rank s t → (ts : Terms) → SameLen us ts → AllAcc ts → Acc LexBelow (cons t ts)

  lex_step : {us : Terms} {s : Term} {ss ts : Terms} → Lex rank (cons s ss) ts → AllAcc ts → Outer us s
      → ((ts : Terms) → LexBelow ts ss → Acc LexBelow (cons s ts)) → SameLen us ss → Acc LexBelow ts
  lex_step (first {t = t} {ts = ts} a l) (acc_cons x xs) outer inner m = outer t a ts (len_trans m l) xs
  lex_step (next {ts = ts} x) (acc_cons y ys) outer inner m = inner ts (x, ys)

  lex_inner : {us : Terms} (s : Term) → Outer us s → {ss : Terms} → Acc LexBelow ss → SameLen us ss → Acc LexBelow (cons s ss)
  lex_inner s outer (Acc.intro ss h) l =
      Acc.intro (cons s ss) (λ ts p. lex_step p.0 p.1 outer (λ ts q. lex_inner s outer (h ts q) (len_trans l (lex_len q.0))) l)

  lex_outer : {us : Terms} → ((ts : Terms) → SameLen us ts → AllAcc ts → Acc LexBelow ts)
      → {s : Term} → Acc Below s → (ss : Terms) → SameLen us ss → AllAcc ss → Acc LexBelow (cons s ss)
  lex_outer ih (Acc.intro s h) ss l a = lex_inner s (λ t b. lex_outer ih (h t b)) (ih ss l a) l

  lex_acc : (us ss : Terms) → SameLen us ss → AllAcc ss → Acc LexBelow ss
  lex_acc nil ss len_nil a = Acc.intro nil (λ ts p. absurd (lex_nil rank p.0))
  lex_acc (cons u us) ss (len_cons {ts = ts} l) (acc_cons x xs) = lex_outer (lex_acc us) x ts l xs

  -- some term of a list of accessible terms equals t or is above t
  within_acc : {ss : Terms} {t : Term} → Within rank ss t → AllAcc ss → Acc Below t
  within_acc here (acc_cons x xs) = x
  within_acc (by_above a) (acc_cons x xs) = Acc.inv x a
  within_acc (later w) (acc_cons x xs) = within_acc w xs

  -- what the induction knows of a term whose symbol is f and whose arguments are ss
  abbrev Known : Term → Type 0
  Known (var x) = Unit {0}
  Known (node f ss) =
      AllAcc ss
      × ((g : ℕ) → rank g < rank f → (ts : Terms) → AllAcc ts → Acc Below (node g ts))
      × ((ts : Terms) → LexBelow ts ss → Acc Below (node f ts))

  mutual
    step : {s t : Term} → Above rank s t → Known s → Acc Below t
    step (by_arg w) k = within_acc w k.0
    step (by_rank {g = g} {ts = ts} lt all) k = k.1 g lt ts (steps all k)
    step (by_lex {ts = ts} all x) k = k.2 ts (x, steps all k)

    steps : {s : Term} {ts : Terms} → AboveAll rank s ts → Known s → AllAcc ts
    steps all_nil k = acc_nil
    steps (all_cons a all) k = acc_cons (step a k) (steps all k)

  abbrev LowerAcc : ℕ → Type 0
  LowerAcc r = (g : ℕ) → rank g < r → (ts : Terms) → AllAcc ts → Acc Below (node g ts)

  node_inner : (f : ℕ) → LowerAcc (rank f) → {ss : Terms} → AllAcc ss → Acc LexBelow ss → Acc Below (node f ss)
  node_inner f lower a (Acc.intro ss h) =
      Acc.intro (node f ss) (λ t d. step d (a, lower, λ ts p. node_inner f lower p.1 (h ts p)))

  lower_acc : {r : ℕ} → Acc ◌<◌ r → LowerAcc r
  lower_acc (Acc.intro r h) g lt ts a = node_inner g (lower_acc (h (rank g) lt)) a (lex_acc ts ts (len_refl ts) a)

  node_acc : (f : ℕ) (ss : Terms) → AllAcc ss → Acc Below (node f ss)
  node_acc f ss a = node_inner f (lower_acc (lt-wf_rel.wf.apply (rank f))) a (lex_acc ss ss (len_refl ss) a)

  mutual
    pub above_acc : (t : Term) → Acc Below t
    above_acc (var x) = Acc.intro (var x) (λ t d. absurd (var_above rank d))
    above_acc (node f ss) = node_acc f ss (above_accs ss)

    pub above_accs : (ts : Terms) → AllAcc ts
    above_accs nil = acc_nil
    above_accs (cons t ts) = acc_cons (above_acc t) (above_accs ts)

  no_loop : {t : Term} → Acc Below t → Above rank t t → ⊥
  no_loop (Acc.intro t h) d = no_loop (h t d) d

  pub above_irrefl : {t : Term} → Above rank t t → ⊥
  above_irrefl {t} d = no_loop (above_acc t) d
