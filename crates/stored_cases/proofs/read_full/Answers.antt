-- `read_full`: each turn fills a byte or more, and what stands at the buffer's start is what the input lost. Assumes nothing.
-- Read first: `read_full` in src/lib.rt.
use Rattle.std.proofs.Common.{◌≡◌, ℕ, ◌+◌, ◌-◌, ◌≤◌, List, ◌++◌, rules, length, take, sym, ap, ◌∙◌, subst, length-take-le}
use Rattle.std.specs.Io.KnownBytes.{Consumes}
use Rattle.std.proofs.KnownBytes.{Consumes-trans}
use Rattle.std.proofs.Math.Seq.{take-append-add}
use borrow.Rule.Slice.PartMut.{put_mid, post_of}
use lib.Seq.{take-append-le}
use Rattle.stored_cases.proofs.read_full.Goals as goal

-- of a list whose middle was put, the start with so many elements of the middle
start_put : (at k n : ℕ) (xs ys : List ℕ) → at ≤ length xs → n ≤ length ys → take (at + n) (put_mid at k xs ys) ≡ take at xs ++ take n ys
start_put at k n xs ys within fits =
    let after = ys ++ post_of at k xs in
    let long : length (take at xs) ≡ at = length-take-le at xs within in
    ap (λ m. take (m + n) (take at xs ++ after)) (sym long)
    ∙ take-append-add (take at xs) after n
    ∙ ap (λ l. take at xs ++ l) (take-append-le n ys (post_of at k xs) fits)

pub loop-preserved : goal.loop-preserved
loop-preserved g c =
    let room = length c.loop.buffer - c.loop.filled in
    let start = start_put c.loop.filled room c.in_ok-n.n c.loop.buffer c.read.new.buf c.loop.invariant.1 c.in_ok-n.ensures.bound.0 in
    (search rules, search rules, subst (Consumes _ _) (sym start) (Consumes-trans _ _ _ _ _ c.loop.invariant.2 c.in_ok-n.ensures.bytes.0))
