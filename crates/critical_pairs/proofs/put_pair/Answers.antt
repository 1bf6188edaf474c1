-- `put_pair`: two instances, written and renamed together, are the two sides of the renamed pair (`pair_halves`). Assumes nothing.
-- Read first: specs/Placed (PutPair), proofs/Pairing.
use Rattle.critical_pairs.proofs.Pairing.{Halves, pair_room, pair_room_2, pair_names, pair_halves, pair_put}
use Prim.Native.Nat.{ℕ}
use lib.ListN.{length-replicate}
use native.Mathlib.Omega.{arith}
use Rattle.critical_pairs.proofs.put_pair.Goals as goal

pub write-e-requires : goal.write-e-requires
write-e-requires c =
    pair_room c.args.arena.now.ready c.requires.low c.requires.both_small _ (omega (arith, length-replicate {A = ℕ} 240 0))

pub write-f-requires : goal.write-f-requires
write-f-requires c =
    pair_room_2 c.args.arena.now.ready c.requires.low c.requires.both_small (omega (arith, length-replicate {A = ℕ} 240 0)) c.write-e.ensures

pub rename_front-requires : goal.rename_front-requires
rename_front-requires c =
    pair_names c.args.arena.now.ready c.requires.low c.requires.both_small (omega (arith, length-replicate {A = ℕ} 240 0))
    c.write-e.ensures c.write-f.ensures

pub slice_bounds-put_sides-end : goal.slice_bounds-put_sides-end
slice_bounds-put_sides-end c =
    let halves : Halves c.write-e.result c.write-f.result c.rename_front.new.out c.requires.both_small.0 c.requires.both_small.1 =
    pair_halves c.args.arena.now.ready c.requires.low c.requires.both_small (omega (arith, length-replicate {A = ℕ} 240 0)) c.write-e.ensures
    c.write-f.ensures c.rename_front.ensures in
    let h = halves in let a = h.order in let b = h.inside in omega arith

pub slice_bounds-put_sides-count-2 : goal.slice_bounds-put_sides-count-2
slice_bounds-put_sides-count-2 c =
    let halves : Halves c.write-e.result c.write-f.result c.rename_front.new.out c.requires.both_small.0 c.requires.both_small.1 =
    pair_halves c.args.arena.now.ready c.requires.low c.requires.both_small (omega (arith, length-replicate {A = ℕ} 240 0)) c.write-e.ensures
    c.write-f.ensures c.rename_front.ensures in
    halves.order

pub slice_bounds-put_sides-start-2 : goal.slice_bounds-put_sides-start-2
slice_bounds-put_sides-start-2 c =
    let halves : Halves c.write-e.result c.write-f.result c.rename_front.new.out c.requires.both_small.0 c.requires.both_small.1 =
    pair_halves c.args.arena.now.ready c.requires.low c.requires.both_small (omega (arith, length-replicate {A = ℕ} 240 0)) c.write-e.ensures
    c.write-f.ensures c.rename_front.ensures in
    halves.order

pub slice_bounds-put_sides-end-2 : goal.slice_bounds-put_sides-end-2
slice_bounds-put_sides-end-2 c =
    let halves : Halves c.write-e.result c.write-f.result c.rename_front.new.out c.requires.both_small.0 c.requires.both_small.1 =
    pair_halves c.args.arena.now.ready c.requires.low c.requires.both_small (omega (arith, length-replicate {A = ℕ} 240 0)) c.write-e.ensures
    c.write-f.ensures c.rename_front.ensures in
    halves.inside

pub put_sides-requires : goal.put_sides-requires
put_sides-requires c =
    let halves : Halves c.write-e.result c.write-f.result c.rename_front.new.out c.requires.both_small.0 c.requires.both_small.1 =
    pair_halves c.args.arena.now.ready c.requires.low c.requires.both_small (omega (arith, length-replicate {A = ℕ} 240 0)) c.write-e.ensures
    c.write-f.ensures c.rename_front.ensures in
    record {
      k_in_bounds = c.requires.layout.room;
      left_len_bound = halves.short;
    }

pub returns : goal.returns
returns c =
    let halves : Halves c.write-e.result c.write-f.result c.rename_front.new.out c.requires.both_small.0 c.requires.both_small.1 =
    pair_halves c.args.arena.now.ready c.requires.low c.requires.both_small (omega (arith, length-replicate {A = ℕ} 240 0)) c.write-e.ensures
    c.write-f.ensures c.rename_front.ensures in
    pair_put c.args.arena.now.ready c.requires.low c.requires.both_small halves c.put_sides.ensures
