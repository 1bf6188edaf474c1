-- What the calls that save and resume refuse, in their order and with places of at most 49,152: resuming 1, 2, 16 and 17, and no other number. Assumes
-- nothing.
-- Read first: specs/Resume, reading/proofs/Refusals (Within), items/proofs/Refusals, completion/proofs/Refusals.
use mathlib.Core.Path.{◌≡◌, refl, sym, subst, ◌∙◌}
use mathlib.Core.Bool.{Bool, true, false}
use mathlib.Core.List.{List, [], ◌∷◌}
use mathlib.Core.Logic.{◌⊎◌, inl, inr, ⊎_elim}
use mathlib.Core.Option.{Option, none, some}
use Prim.Native.Nat.{ℕ, zero, suc, ◌+◌, ◌≤◌, ◌<◌}
use native.Mathlib.Omega.{arith}
use lib.Dec.{eqb}
use lib.ListN.{length}
use borrow.Author.Tests.{ltb-true, ltb-false}
use Rattle.limits.specs.Limits.{most_equations, most_rules, most_entries, most_budget, most_saved, least_buffer, least_saved}
use Rattle.std.specs.Prelude.{if◌then◌else◌}
use Rattle.reading.specs.Stops.{short_buffer, long_problem, wrong_saved, large_budget}
use Rattle.reading.proofs.Reading.{bind_ok, bind_refused}
use Rattle.reading.proofs.Refusals.{is_refusal, Within, reads, refuses, within_bind, within_also, within_test, wider, Behind}
use Rattle.problem.specs.Problem.{Reading, ok, refused, ◌>>=◌, refuse_if, ReadField, ReadPart}
use Rattle.problem.proofs.Reading.{no_ok, passed}
use Rattle.completion.specs.Calls.{enough, complete_call}
use Rattle.completion.proofs.Refusals.{complete_within}
use Rattle.items.specs.Fields.{or_refuse, one_field, fields_there}
use Rattle.items.proofs.Refusals.{one_within, there_within}
use Rattle.checkpoint.specs.Checkpoint.{Checkpoint, read_checkpoint}
use Rattle.checkpoint.specs.Resume.{Left, enough_to_save, read_resumption, complete_saving_call, resume_call, resume_saving_call}

-- Places: of the record, or its end.
module _ {e : ℕ} where
  if_placed : (b : Bool) (n at : ℕ) → is_refusal wrong_saved n ≡ true → (b ≡ true → at ≤ e) → Within wrong_saved e (λ _. b ≡ false) (refuse_if b n at)
  unfolding refuse_if
  if_placed true n at p h = refuses n at p (h refl)
  if_placed false n at p h = reads refl

  one_placed : {A : Type 0} (tag : ℕ) (read : ReadField → Reading A) (at : ℕ) (bytes : List ℕ) → at ≤ e →
      Within wrong_saved e (λ (a : ReadPart A). Behind at bytes a) (one_field wrong_saved tag read at bytes)
  one_placed tag read at bytes h =
      within_also (one_within (λ _. Unit {0}) wrong_saved e wrong_saved refl tag read (λ _ _ _ _. tt) at bytes h) λ _ _ w. w.0

  there_placed : {A : Type 0} (tag : ℕ) (read : Option A → ReadField → Reading A) (more at : ℕ) (bytes : List ℕ) → at + length bytes ≤ e →
      Within wrong_saved e (λ (a : ReadPart (List A)). Behind at bytes a) (fields_there wrong_saved tag read more none at bytes)
  there_placed tag read more at bytes h =
      within_also (there_within (λ _. Unit {0}) wrong_saved e wrong_saved refl tag read (λ _ _ _ _ _. tt) more none at bytes h) λ _ _ w. w.0

checkpoint_placed : (bytes : List ℕ) → Within wrong_saved (length bytes) (λ (c : Checkpoint). Unit {0}) (read_checkpoint bytes)
unfolding read_checkpoint
checkpoint_placed bytes =
    within_bind _ _ (if_placed _ long_problem most_saved refl (λ b. omega (arith, ltb-true most_saved (length bytes) b))) λ _ _.
    within_bind _ _ (one_placed 0x01 _ 0 bytes (omega arith)) λ Σ a.
    within_bind _ _ (there_placed 0x03 _ most_equations Σ.end Σ.rest (omega arith)) λ es b.
    within_bind _ _ (one_placed 0x20 _ es.end es.rest (omega arith)) λ next c.
    within_bind _ _ (there_placed 0x12 _ most_rules next.end next.rest (omega arith)) λ rules d.
    within_bind _ _ (there_placed 0x21 _ _ rules.end rules.rest (omega arith)) λ waiting f.
    within_bind _ _ (there_placed 0x13 _ most_entries waiting.end waiting.rest (omega arith)) λ log g.
    within_bind _ _ (within_test _ wrong_saved log.end refl (omega arith)) λ _ _.
    within_bind _ _ (one_placed 0x22 _ log.end log.rest (omega arith)) λ back h.
    within_bind _ _ (within_test _ wrong_saved back.end refl (omega arith)) λ _ _. reads tt

-- A refusal of a sequence is one of its first part, or of what follows it.
from_refused : {A B C : Type 0} (m : Reading A) (next : A → Reading B) (n p : ℕ) → (m >>= next) ≡ refused n p → (m ≡ refused n p → C) →
    ((a : A) → m ≡ ok a → next a ≡ refused n p → C) → C
unfolding ◌>>=◌
from_refused (ok a) next n p e f g = g a refl e
from_refused (refused k q) next n p e f g =
    let a : k ≡ n = cc in
    let b : q ≡ p = cc in
    f (rw (a, b) refl)

if_refused : (b : Bool) (k q n p : ℕ) → refuse_if b k q ≡ refused n p → (b ≡ true) × (n ≡ k) × (p ≡ q)
unfolding refuse_if
if_refused true k q n p e = (refl, cc, cc)
if_refused false k q n p e = absurd (no_ok (sym e))

-- the number is the caller's
or_refused : {A : Type 0} (k at : ℕ) (r : Reading A) (n p : ℕ) → or_refuse k at r ≡ refused n p → n ≡ k
unfolding or_refuse
or_refused k at (ok a) n p e = absurd (no_ok (sym e))
or_refused k at (refused m q) n p e = cc

one_refused : {A : Type 0} (k tag : ℕ) (read : ReadField → Reading A) (at : ℕ) (bytes : List ℕ) (n p : ℕ) → one_field k tag read at bytes ≡ refused n p → n ≡ k
unfolding one_field
one_refused k tag read at bytes n p e = or_refused k at _ n p e

there_refused : {A : Type 0} (k tag : ℕ) (read : Option A → ReadField → Reading A) (more : ℕ) (before : Option A) (at : ℕ) (bytes : List ℕ) (n p : ℕ) →
    fields_there k tag read more before at bytes ≡ refused n p → n ≡ k
unfolding fields_there
there_refused k tag read zero before at bytes n p e = absurd (no_ok (sym e))
there_refused k tag read (suc more) before at [] n p e = absurd (no_ok (sym e))
there_refused {A} k tag read (suc more) before at (c ∷ bytes) n p e =
    go (eqb c tag) refl (λ before at bytes e. there_refused k tag read more before at bytes n p e)
  where
    go : (t : Bool) → eqb c tag ≡ t → ((before : Option A) (at : ℕ) (bytes : List ℕ) → fields_there k tag read more before at bytes ≡ refused n p → n ≡ k) →
        n ≡ k
    go false t ih = absurd (no_ok (sym (rw t at e)))
    go true t ih =
        from_refused _ _ n p (rw t at e) (one_refused k tag (read before) at (c ∷ bytes) n p) λ a h e.
        from_refused _ _ n p e (ih (some a.part) a.end a.rest) λ later h e.
        absurd (no_ok (sym e))

-- What reading a saved record refuses: 2 at 49,152 exactly where it is longer, and 16 at a place of the record or its end.
pub data SavedRefused (bytes : List ℕ) : ℕ → ℕ → Type 0 where
  too_long : {n p : ℕ} → most_saved < length bytes → n ≡ long_problem → p ≡ most_saved → SavedRefused bytes n p
  not_well : {n p : ℕ} → length bytes ≤ most_saved → n ≡ wrong_saved → p ≤ length bytes → SavedRefused bytes n p

placed_at : {A : Type 0} {most e : ℕ} {Q : A → Type 0} {m : Reading A} {n p : ℕ} → Within most e Q m → m ≡ refused n p → p ≤ e
placed_at (reads q) h = absurd (no_ok (sym h))
placed_at {p = p} (refuses n at r q) h = let s : at ≡ p = cc in rw (← s) q

pub saved_refused : (bytes : List ℕ) (n p : ℕ) → read_checkpoint bytes ≡ refused n p → SavedRefused bytes n p
unfolding read_checkpoint
saved_refused bytes n p e =
    let place : p ≤ length bytes = placed_at (checkpoint_placed bytes) e in
    from_refused _ _ n p e (λ h. let k = if_refused _ _ _ n p h in too_long (ltb-true most_saved (length bytes) k.0) k.1 k.2) λ u h e.
    let number : n ≡ wrong_saved =
    from_refused _ _ n p e (one_refused _ _ _ _ _ n p) λ Σ _ e.
    from_refused _ _ n p e (there_refused _ _ _ _ _ _ _ n p) λ es _ e.
    from_refused _ _ n p e (one_refused _ _ _ _ _ n p) λ next _ e.
    from_refused _ _ n p e (there_refused _ _ _ _ _ _ _ n p) λ rules _ e.
    from_refused _ _ n p e (there_refused _ _ _ _ _ _ _ n p) λ waiting _ e.
    from_refused _ _ n p e (there_refused _ _ _ _ _ _ _ n p) λ log _ e.
    from_refused _ _ n p e (λ h. (if_refused _ _ _ n p h).1) λ _ _ e.
    from_refused _ _ n p e (one_refused _ _ _ _ _ n p) λ back _ e.
    from_refused _ _ n p e (λ h. (if_refused _ _ _ n p h).1) λ _ _ e.
    absurd (no_ok (sym e)) in
    not_well (ltb-false most_saved (length bytes) (passed _ 2 most_saved u h)) number place

-- resume: 1, then 2 and 16, then 17, each only where those before it are not given
pub data ResumeRefused (bytes : List ℕ) (budget buffer : ℕ) : ℕ → ℕ → Type 0 where
  short : {n p : ℕ} → buffer < least_buffer → n ≡ short_buffer → p ≡ 0 → ResumeRefused bytes budget buffer n p
  record_refused : {n p : ℕ} → least_buffer ≤ buffer → read_checkpoint bytes ≡ refused n p → SavedRefused bytes n p → ResumeRefused bytes budget buffer n p
  large : {n p : ℕ} → least_buffer ≤ buffer → (c : Checkpoint) → read_checkpoint bytes ≡ ok c → most_budget < budget → n ≡ large_budget → p ≡ 0 →
      ResumeRefused bytes budget buffer n p

module _ (bytes : List ℕ) (budget buffer n p : ℕ) where
  behind_buffers : least_buffer ≤ buffer → read_resumption bytes budget ≡ refused n p → ResumeRefused bytes budget buffer n p
  unfolding read_resumption
  behind_buffers room e =
      from_refused _ _ n p e (λ h. record_refused room h (saved_refused bytes n p h)) λ c r e.
      from_refused _ _ n p e (λ h. let k = if_refused _ _ _ n p h in large room c r (ltb-true most_budget budget k.0) k.1 k.2) λ _ _ e.
      absurd (no_ok (sym e))

  room_is : (u : Unit {0}) → enough buffer ≡ ok u → least_buffer ≤ buffer
  unfolding enough
  room_is u h = ltb-false buffer least_buffer (passed _ 1 0 u h)

  short_is : enough buffer ≡ refused n p → ResumeRefused bytes budget buffer n p
  unfolding enough
  short_is h = let k = if_refused _ _ _ n p h in short (ltb-true buffer least_buffer k.0) k.1 k.2

  pub resume_refused : resume_call bytes budget buffer ≡ refused n p → ResumeRefused bytes budget buffer n p
  unfolding resume_call
  resume_refused e =
      from_refused _ _ n p e short_is λ u h e.
      from_refused _ _ n p e (behind_buffers (room_is u h)) λ _ _ e.
      absurd (no_ok (sym e))

  -- the calls that save: 1 for the second buffer too, behind that for the first and before all else
  pub record LentShort (lent : ℕ) : Type 0 where
    pub room : least_buffer ≤ buffer
    pub under : lent < least_saved
    pub number : n ≡ short_buffer
    pub place : p ≡ 0

  lent_short : (lent : ℕ) (u : Unit {0}) → enough buffer ≡ ok u → enough_to_save lent ≡ refused n p → LentShort lent
  unfolding enough_to_save
  lent_short lent u h e =
      let k = if_refused _ _ _ n p e in
      record { room = room_is u h; under = ltb-true lent least_saved k.0; number = k.1; place = k.2 }

  pub resume_saving_refused : (lent : ℕ) → resume_saving_call bytes budget buffer lent ≡ refused n p → LentShort lent ⊎ ResumeRefused bytes budget buffer n p
  unfolding resume_saving_call
  resume_saving_refused lent e =
      from_refused _ _ n p e (λ h. inr (short_is h)) λ u h e.
      from_refused _ _ n p e (λ k. inl (lent_short lent u h k)) λ _ _ e.
      from_refused _ _ n p e (λ k. inr (behind_buffers (room_is u h) k)) λ _ _ e.
      absurd (no_ok (sym e))

  -- complete_saving: else as complete
  pub complete_saving_refused : (lent : ℕ) → complete_saving_call bytes buffer lent ≡ refused n p → LentShort lent ⊎ (complete_call bytes buffer ≡ refused n p)
  unfolding complete_saving_call complete_call
  complete_saving_refused lent e =
      from_refused _ _ n p e (λ h. inr (bind_refused _ h)) λ u h e.
      from_refused _ _ n p e (λ k. inl (lent_short lent u h k)) λ _ _ e.
      from_refused _ _ n p e (λ k. inr (bind_ok _ h ∙ bind_refused _ k)) λ _ _ e.
      absurd (no_ok (sym e))

-- So what these calls come to: refusals 1 to 17, not 7, at places of at most 49,152.
abbrev pub SavingWithin : {A : Type 0} → (A → Type 0) → Reading A → Type 0
SavingWithin Q m = Within large_budget most_saved Q m

listed : {A : Type 0} (m : Reading A) → ((n p : ℕ) → m ≡ refused n p → (is_refusal large_budget n ≡ true) × (p ≤ most_saved)) →
    SavingWithin (λ (a : A). Unit {0}) m
listed (ok a) h = reads tt
listed (refused n p) h = let k = h n p refl in refuses n p k.0 k.1

module _ {bytes : List ℕ} {budget buffer n p : ℕ} where
  resume_listed : ResumeRefused bytes budget buffer n p → (is_refusal large_budget n ≡ true) × (p ≤ most_saved)
  resume_listed (short h q z) = (rw q refl, omega arith)
  resume_listed (record_refused room e (too_long l q z)) = (rw q refl, omega arith)
  resume_listed (record_refused room e (not_well l q z)) = (rw q refl, omega arith)
  resume_listed (large room c e l q z) = (rw q refl, omega arith)

  lent_listed : {lent : ℕ} → LentShort bytes budget buffer n p lent → (is_refusal large_budget n ≡ true) × (p ≤ most_saved)
  lent_listed h = (rw h.number refl, omega (arith, h.place))

pub resume_within : (bytes : List ℕ) (budget buffer : ℕ) → SavingWithin (λ (r : List ℕ). Unit {0}) (resume_call bytes budget buffer)
resume_within bytes budget buffer = listed _ λ n p e. resume_listed (resume_refused bytes budget buffer n p e)

pub resume_saving_within : (bytes : List ℕ) (budget buffer lent : ℕ) → SavingWithin (λ (l : Left). Unit {0}) (resume_saving_call bytes budget buffer lent)
resume_saving_within bytes budget buffer lent =
    listed _ λ n p e. ⊎_elim lent_listed resume_listed (resume_saving_refused bytes budget buffer n p lent e)

complete_listed : (bytes : List ℕ) (buffer : ℕ) (n p : ℕ) → complete_call bytes buffer ≡ refused n p → (is_refusal large_budget n ≡ true) × (p ≤ most_saved)
complete_listed bytes buffer n p e = go (subst (SavingWithin _) e (wider (omega arith) (omega arith) (complete_within bytes buffer)))
  where
    go : {A : Type 0} {Q : A → Type 0} → SavingWithin Q (refused n p) → (is_refusal large_budget n ≡ true) × (p ≤ most_saved)
    go (refuses _ _ r q) = (r, q)

pub complete_saving_within : (bytes : List ℕ) (buffer lent : ℕ) → SavingWithin (λ (l : Left). Unit {0}) (complete_saving_call bytes buffer lent)
complete_saving_within bytes buffer lent =
    listed _ λ n p e. ⊎_elim lent_listed (complete_listed bytes buffer n p) (complete_saving_refused bytes 0 buffer n p lent e)
