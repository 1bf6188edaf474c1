-- Saved records and resumed runs, each line by computation. Assumes nothing.
-- Read first: specs/Checkpoint, specs/Resume, completion/proofs/Instances.
use mathlib.Core.Path.{◌≡◌, refl}
use mathlib.Core.List.{List, [], ◌∷◌, ◌++◌}
use Prim.Native.Nat.{ℕ}
use lib.ListN.{take}
use Rattle.terms.specs.Base.{number_bytes}
use Rattle.problem.specs.Problem.{Reading, ok, refused}
use Rattle.completion.proofs.Instances.{group, x, y, ◌*◌, ◌≈◌, problem}
use Rattle.items.proofs.Computes.{items_compute}
use Rattle.checkpoint.specs.Checkpoint
use Rattle.checkpoint.specs.Resume
use Rattle.checkpoint.specs.Resume.{complete_saving_call, resume_call, resume_saving_call, after_result, after_saved}

-- all that runs in these lines
unfoldable pub resumes : Unit {0}
unfolding items_compute Checkpoint.symbol_bytes Checkpoint.equation_field_of Checkpoint.waiting_field
    Checkpoint.checkpoint_fields Checkpoint.checkpoint_bytes Checkpoint.read_equation Checkpoint.read_next
    Checkpoint.origin_with Checkpoint.read_origin Checkpoint.read_waiting Checkpoint.read_entry Checkpoint.read_put_back Checkpoint.few_entries
    Checkpoint.read_checkpoint Resume.saved_at Resume.leaves Resume.resumed Resume.enough_to_save Resume.complete_saving_call
    Resume.read_resumption Resume.resume_call Resume.resume_saving_call Resume.after_result Resume.after_saved
resumes = tt

-- f(f(x)) = x, budget 2: one rule made, and the scan unfinished
abbrev given : List ℕ
given = number_bytes 21 0x01_0004_00000101_02_0004_00000002_03_0004_01018080

abbrev saved : List ℕ
saved = number_bytes 43 0x01_0004_00000101_03_0004_01018080_20_0002_0002_12_0006_000101018080_13_0008_0100010000000001_22_0001_00

-- the result with this end and so many units
abbrev result : ℕ → ℕ → List ℕ
result end units =
    number_bytes 3 0x10_0001 ++ (end ∷ (number_bytes 3 0x11_0004 ++ (number_bytes 4 units ++ number_bytes 20 0x12_0006_000101018080_13_0008_0100010000000001)))

-- x*y = y*x, put back
abbrev waits : List ℕ
waits = number_bytes 53 0x01_0006_000001020201_03_0006_028081028180_20_0002_0001_21_000c_010001000000028081028180_13_0008_010001000000ffff_22_0001_01

-- resumed with two units, into a result buffer that is long enough
abbrev two_more : List ℕ → Reading (List ℕ)
two_more bytes = resume_call bytes 2 16_384

-- a record for f(f(x)) = x whose fields behind the equation are these; they begin at 14
abbrev behind : List ℕ → List ℕ
behind fields = number_bytes 14 0x01_0004_00000101_03_0004_01018080 ++ fields

pub instances :
    -- document 01's instance 10, saving
    (complete_saving_call given 16_384 49_152 ≡ ok (record { result = result 0x15 2; saved = saved }))
    -- one unit is not enough for the unfinished turn, two are; the units are the resumption's own
    × (resume_saving_call saved 1 16_384 49_152 ≡ ok (record { result = result 0x15 1; saved = saved }))
    × (resume_saving_call saved 2 16_384 49_152 ≡ ok (record { result = result 0 2; saved = [] }))
    × (two_more saved ≡ ok (result 0 2))
    -- an equation that was put back, and end 20 in the next turn
    × (complete_saving_call (problem group 1 ((x * y ≈ y * x) ∷ [])) 16_384 49_152 ≡ ok
    (record { result = number_bytes 22 0x10_0001_15_11_0004_00000001_13_0008_010001000000ffff; saved = waits }))
    × (resume_call waits 1 16_384 ≡ ok (number_bytes 31 0x10_0001_14_11_0004_00000001_13_0008_010001000000ffff_14_0006_028081028180))
    -- the lent bytes: behind the saved record, and all of them where nothing is saved or the call refuses
    × (after_saved (complete_saving_call given 16_384 49_152) (saved ++ (7 ∷ [])) ≡ saved ++ (7 ∷ []))
    × (after_saved (resume_saving_call saved 2 16_384 49_152) (7 ∷ 8 ∷ []) ≡ 7 ∷ 8 ∷ [])
    × (after_result (resume_saving_call [] 2 16_384 49_152) (7 ∷ 8 ∷ []) ≡ 7 ∷ 8 ∷ [])
unfolding resumes
instances = (refl, refl, refl, refl, refl, refl, refl, refl, refl)

pub refused_instances :
    -- 1, of either buffer, before all else; 17 after 16
    (resume_saving_call [] 1_000_001 16_384 49_151 ≡ refused 1 0)
    × (resume_saving_call [] 1_000_001 16_383 49_152 ≡ refused 1 0)
    × (complete_saving_call [] 16_384 49_151 ≡ refused 1 0)
    × (complete_saving_call [] 16_384 49_152 ≡ refused 4 0)
    × (resume_call [] 1_000_001 16_384 ≡ refused 16 0)
    × (resume_call saved 1_000_001 16_384 ≡ refused 17 0)
    -- 16 at the end where a field is due, at the first byte of one that is cut, and at bytes behind the last one
    × (two_more (take 39 saved) ≡ refused 16 39)
    × (two_more (take 42 saved) ≡ refused 16 39)
    × (two_more (saved ++ (0 ∷ [])) ≡ refused 16 43)
    -- a symbol of arity 5, and an equation with no right side
    × (two_more (number_bytes 7 0x01_0004_00000501) ≡ refused 16 0)
    × (two_more (number_bytes 13 0x01_0004_00000101_03_0003_010180) ≡ refused 16 7)
    -- the next rule number 514, and one that is not above a rule's
    × (two_more (behind (number_bytes 5 0x20_0002_0202)) ≡ refused 16 14)
    × (two_more (behind (number_bytes 14 0x20_0002_0001_12_0006_000101018080)) ≡ refused 16 19)
    -- a rule whose right side is above its left, and one that is not renamed
    × (two_more (behind (number_bytes 14 0x20_0002_0002_12_0006_000180010180)) ≡ refused 16 19)
    × (two_more (behind (number_bytes 14 0x20_0002_0002_12_0006_000101018181)) ≡ refused 16 19)
    -- a waiting equation of kind 1 with a second number, and one that is not renamed
    × (two_more (behind (number_bytes 18 0x20_0002_0001_21_000a_01000100010001018080)) ≡ refused 16 19)
    × (two_more (behind (number_bytes 18 0x20_0002_0001_21_000a_01000100000001018181)) ≡ refused 16 19)
    -- an entry of kind 5, and fewer entries than rules were made
    × (two_more (behind (number_bytes 16 0x20_0002_0001_13_0008_0500010000000001)) ≡ refused 16 19)
    × (two_more (behind (number_bytes 18 0x20_0002_0002_12_0006_000101018080_22_0001_00)) ≡ refused 16 28)
    -- more put back than wait
    × (two_more (behind (number_bytes 9 0x20_0002_0001_22_0001_01)) ≡ refused 16 19)
unfolding resumes
refused_instances =
    (refl, refl, refl, refl, refl, refl, refl, refl, refl, refl, refl, refl, refl, refl, refl, refl, refl, refl, refl, refl)
