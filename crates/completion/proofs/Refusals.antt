-- What complete, compare, unify and subterm come to: refusals 1 to 12, not 7, at places of at most 8,192, and how large what they answer is. Assumes
-- nothing.
-- Read first: reading/proofs/Refusals (Within), problem/proofs/Refusals, specs/Calls.
use mathlib.Core.Path.{◌≡◌, refl, ap}
use mathlib.Core.Bool.{Bool, true, false}
use mathlib.Core.List.{List}
use mathlib.Core.Option.{Option, none, some}
use Prim.Native.Nat.{ℕ, ◌+◌, ◌≤◌}
use native.Mathlib.Omega.{arith}
use lib.Dec.{ltb}
use lib.ListN.{length, take, drop, length-take, length-drop}
use borrow.Author.Tests.{ltb-false}
use Rattle.limits.specs.Limits.{most_nodes, most_problem, most_result, field_head}
use Rattle.std.specs.Prelude.{if◌then◌else◌}
use Rattle.terms.specs.Base.{field_bytes}
use Rattle.terms.specs.Term.{Term, Pair, size, renamed, term_bytes, subterm_at, same}
use Rattle.terms.proofs.Bytes.{length_bytes, subterm_run}
use Rattle.terms.proofs.Limits.{length_field_bytes, renamed_left_size}
use Rattle.terms.proofs.Places.{size_pos}
use Rattle.terms.proofs.Positions.{subterm_below}
use Rattle.order.specs.Order.{above, comparison}
use Rattle.unify.specs.Unify.{Binding, under}
use Rattle.reading.specs.Stops.{short_buffer, not_one_equation}
use Rattle.reading.proofs.Refusals.{Within, reads, within_bind, within_also, within_test, wider, was_read, never_7}
use Rattle.problem.specs.Problem.{Reading, ok, refused}
use Rattle.problem.proofs.Refusals.{parse_within, only_within}
use Rattle.completion.specs.Calls.{enough, complete_call, Single, parse_single, compare_call, CommonInstance, instance, no_instance, instance_too_large}
use Rattle.completion.specs.Calls.{unified, unify_call, Part, part_of, subterm_part}
use Rattle.completion.proofs.Accepts.{single_fits}
use Rattle.completion.proofs.Capacity.{complete_writes}

-- what a call on a problem comes to
abbrev pub CallWithin : {A : Type 0} → (A → Type 0) → Reading A → Type 0
CallWithin Q m = Within not_one_equation most_problem Q m

pub enough_within : (buffer : ℕ) → CallWithin (λ _. Unit {0}) (enough buffer)
unfolding enough
enough_within buffer = within_also (within_test _ short_buffer 0 refl (omega arith)) λ _ _ _. tt

pub single_within : (bytes : List ℕ) → CallWithin (λ (S : Single). S.equation.first ≤ most_problem) (parse_single bytes)
unfolding parse_single
single_within bytes =
    within_bind _ _ (wider (omega arith) (omega arith) (parse_within bytes)) λ P p.
    within_bind _ _ (only_within (length bytes) P.equations p.short p.firsts) λ _ q. reads q

complete_refuses : (bytes : List ℕ) (buffer : ℕ) → CallWithin (λ (r : List ℕ). Unit {0}) (complete_call bytes buffer)
unfolding complete_call
complete_refuses bytes buffer =
    within_bind _ _ (enough_within buffer) λ _ _.
    within_bind _ _ (wider (omega arith) (omega arith) (parse_within bytes)) λ _ _. reads tt

pub complete_within : (bytes : List ℕ) (buffer : ℕ) → CallWithin (λ (r : List ℕ). length r ≤ most_result) (complete_call bytes buffer)
complete_within bytes buffer = within_also (complete_refuses bytes buffer) λ r q _. (complete_writes bytes buffer r q).few

-- compare's answers are 1 to 4
pub comparison_range : (r : ℕ → ℕ) (s t : Term) → (1 ≤ comparison r s t) × (comparison r s t ≤ 4)
unfolding comparison
comparison_range r s t = go (above r s t) (above r t s) (same s t)
  where
    go : (a b d : Bool) → (1 ≤ (if a then 1 else if b then 2 else if d then 3 else 4)) × ((if a then 1 else if b then 2 else if d then 3 else 4) ≤ 4)
    go true b d = (omega arith, omega arith)
    go false true d = (omega arith, omega arith)
    go false false true = (omega arith, omega arith)
    go false false false = (omega arith, omega arith)

pub compare_within : (bytes : List ℕ) → CallWithin (λ (v : ℕ). v ≤ 4) (compare_call bytes)
unfolding compare_call
compare_within bytes = within_bind _ _ (single_within bytes) λ S _. reads (comparison_range _ _ _).1

-- unify's field
abbrev pub InstanceFew : CommonInstance → Type 0
InstanceFew (instance bytes) = length bytes ≤ field_head + most_nodes
InstanceFew no_instance = Unit {0}
InstanceFew instance_too_large = Unit {0}

unified_few : (s : Term) (m : Option (List Binding)) → InstanceFew (unified s m)
unfolding unified
unified_few s none = tt
unified_few s (some m) = go (under m s) (ltb most_nodes (size (under m s))) refl
  where
    go : (t : Term) (b : Bool) → ltb most_nodes (size t) ≡ b →
        InstanceFew (if b then instance_too_large
        else instance (field_bytes (record { tag = 0x15; contents = term_bytes (renamed (record { left = t; right = t })).left })))
    go t true h = tt
    go t false h =
        let e : Pair = record { left = t; right = t } in
        let a = length_field_bytes (record { tag = 0x15; contents = term_bytes (renamed e).left }) in
        omega (arith, ltb-false most_nodes (size t) h, length_bytes (renamed e).left, renamed_left_size e)

pub unify_within : (bytes : List ℕ) (buffer : ℕ) → CallWithin InstanceFew (unify_call bytes buffer)
unfolding unify_call
unify_within bytes buffer =
    within_bind _ _ (enough_within buffer) λ _ _.
    within_bind _ _ (single_within bytes) λ S _. reads (unified_few _ _)

-- "Refusal 7 no longer occurs." [4.7]
pub calls_never_7 : (bytes : List ℕ) (buffer at : ℕ) →
    (complete_call bytes buffer ≡ refused 7 at → ⊥) × (compare_call bytes ≡ refused 7 at → ⊥) × (unify_call bytes buffer ≡ refused 7 at → ⊥)
calls_never_7 bytes buffer at =
    (λ q. never_7 (complete_within bytes buffer) q, λ q. never_7 (compare_within bytes) q, λ q. never_7 (unify_within bytes buffer) q)

-- subterm's part: it has a byte, or it begins at the first
pub record PartWithin (p : Part) : Type 0 where
  pub start_few : p.start ≤ most_problem + field_head + most_nodes
  pub bytes_few : p.bytes ≤ most_nodes
  pub empty_first : p.bytes ≡ 0 → p.start ≡ 0

no_part : PartWithin (record { start = 0; bytes = 0 })
no_part = record { start_few = omega arith; bytes_few = omega arith; empty_first = λ _. refl }

subterm_few : (t : Term) (p : ℕ) (u : Term) → subterm_at t p ≡ some u → size u ≤ size t
subterm_few t p u q =
    let l : length (take (size u) (drop p (term_bytes t))) ≡ length (term_bytes u) = ap length (subterm_run t p u q) in
    omega (arith, length-take (size u) (drop p (term_bytes t)), length-drop p (term_bytes t), length_bytes t, length_bytes u)

pub part_within : (problem : List ℕ) (p : ℕ) → PartWithin (subterm_part problem p)
unfolding subterm_part part_of
part_within problem p = go (parse_single problem) refl
  where
    found : (S : Single) → parse_single problem ≡ ok S → (o : Option Term) → subterm_at S.equation.sides.left p ≡ o →
        PartWithin (part_of S.equation.first p o)
    found S q none h = no_part
    found S q (some u) h =
        let left : Term = S.equation.sides.left in
        let small : size left ≤ most_nodes = (single_fits problem S q).fits.left.small in
        let low : S.equation.first ≤ most_problem = was_read (single_within problem) q in
        record {
          start_few = omega (arith, subterm_below left p u h);
          bytes_few = omega (arith, subterm_few left p u h);
          empty_first = λ e. absurd (omega (arith, size_pos u));
        }

    go : (c : Reading Single) → parse_single problem ≡ c → PartWithin (subterm_part problem p)
    go (ok S) q = rw (q, subterm_part) (found S q (subterm_at S.equation.sides.left p) refl)
    go (refused n at) q = rw (q, subterm_part) no_part
