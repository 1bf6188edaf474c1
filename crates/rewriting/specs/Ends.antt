-- The ends of a run as the code has them: which end of the definition each is, and the papers' numbers. Assumes nothing.
use Rattle.std.specs.Prelude.{ℕ}
use Rattle.rewriting.specs.Rewrite.{End, complete, neither_above, spent, too_large, rules_full, log_full}
use Rattle.rewriting.specs.declared.End.{End as Ending}
use Rattle.rewriting.specs.declared.End.TheVariants.{Complete, NeitherAbove, Spent, TooLarge, RulesFull, LogFull}

-- the end of the code that an end of the definition is
unfoldable pub ending : End → Ending
ending complete = Complete
ending neither_above = NeitherAbove
ending spent = Spent
ending too_large = TooLarge
ending rules_full = RulesFull
ending log_full = LogFull

-- "0, complete"; the ends 20 to 23 of the table of stops; "24 when a 513th log entry is due"
unfoldable pub number_of : Ending → ℕ
number_of Complete = 0
number_of NeitherAbove = 20
number_of Spent = 21
number_of TooLarge = 22
number_of RulesFull = 23
number_of LogFull = 24
