-- `symbols`: what `due` and `check_symbols` answer, with the reasons of the refusals. Assumes nothing.
-- Read first: specs/Parser (IsSymbols, SymbolsAt), proofs/Fields.
use Rattle.reading.proofs.Reading.{bind_refused}
use Rattle.problem.specs.Problem.{symbol_field}
use Rattle.problem.specs.Parser.{IsSymbols}
use Rattle.problem.proofs.Handed.{handed_on}
use Rattle.problem.proofs.Fields.{symbols_length, symbols_refused, symbols_fine}
use Rattle.problem.proofs.symbols.Goals as goal

pub returns-in_err-end : goal.returns-in_err-end
returns-in_err-end c = handed_on (IsSymbols c.args.problem.now) _ _ c.from_residual.ensures.1 (bind_refused symbol_field c.in_err-end.ensures)

pub returns-in-Ok : goal.returns-in-Ok
returns-in-Ok c = symbols_fine _ _ c.in_ok-end.ensures c.in-Ok.ensures

pub returns-in-Err-WrongLength : goal.returns-in-Err-WrongLength
returns-in-Err-WrongLength c =
    let S = rw c.in-Err-WrongLength.field-0-is at c.in-Err-WrongLength.ensures in
    symbols_length _ _ c.in_ok-end.ensures S

pub returns-in-Err-WrongByte : goal.returns-in-Err-WrongByte
returns-in-Err-WrongByte c =
    let S = rw c.in-Err-WrongByte.field-0-is at c.in-Err-WrongByte.ensures in
    symbols_refused _ _ c.in_ok-end.ensures _ _ S.1
