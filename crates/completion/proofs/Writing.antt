-- Bytes written at the front of a buffer, and the call complete where the buffer has room. Assumes nothing.
-- Read first: specs/Calls (written, enough, complete_call).
use mathlib.Core.Path.{◌≡◌, refl}
use mathlib.Core.List.{List}
use Prim.Native.Nat.{ℕ, ◌≤◌}
use lib.ListN.{length, take, drop}
use lib.Seq.{take_at}
use borrow.Author.Tests.{le-ltb}
use Rattle.problem.specs.Problem.{ok, ◌>>=◌, refuse_if, parse}
use Rattle.completion.specs.Turn.{run}
use Rattle.completion.specs.Calls.{written, enough, result_bytes, complete_call}

pub written_front : (bytes buffer : List ℕ) (n : ℕ) → length bytes ≡ n → take n (written bytes buffer) ≡ bytes
unfolding written
written_front bytes buffer n e = take_at bytes (drop (length bytes) buffer) n e

pub room_enough : (buffer : ℕ) → 16_384 ≤ buffer → enough buffer ≡ ok tt
unfolding enough refuse_if
room_enough buffer h = rw (le-ltb buffer 16_384 h) refl

pub complete_is : (problem : List ℕ) (buffer : ℕ) → 16_384 ≤ buffer → complete_call problem buffer ≡ (parse problem >>= λ P. ok (result_bytes (run P)))
unfolding complete_call ◌>>=◌
complete_is problem buffer h = rw (room_enough buffer h) refl
