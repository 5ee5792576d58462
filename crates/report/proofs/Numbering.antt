-- The numbers of refusals have two digits at most.
use Rattle.std.proofs.Common.{◌≤◌, arith}
use Rattle.fault.specs.declared.kinds.KeyFault.{KeyFault}
use Rattle.fault.specs.declared.kinds.KeyFault.TheVariants as key
use Rattle.fault.specs.declared.kinds.SessionFault.{SessionFault}
use Rattle.fault.specs.declared.kinds.SessionFault.TheVariants as session
use Rattle.fault.specs.declared.kinds.SheetFault.{SheetFault}
use Rattle.fault.specs.declared.kinds.SheetFault.TheVariants as sheet
use Rattle.fault.specs.declared.kinds.ConsoleFault.{ConsoleFault}
use Rattle.fault.specs.declared.kinds.ConsoleFault.TheVariants as console
use Rattle.fault.specs.Numbers.{console_number, sheet_number, number_of, key_number}

of_key : (f : KeyFault) → key_number f ≤ 13
of_key key.Suite = omega arith
of_key key.Length = omega arith

of_session : (f : SessionFault) → number_of f ≤ 13
of_session (session.Key k) = of_key k
of_session session.Header = omega arith
of_session session.Body = omega arith
of_session session.Room = omega arith
of_session session.Empty = omega arith
of_session session.Tag = omega arith
of_session session.Forged = omega arith

of_sheet : (f : SheetFault) → sheet_number f ≤ 13
of_sheet (sheet.Session s) = of_session s
of_sheet sheet.Room = omega arith
of_sheet sheet.Cut = omega arith
of_sheet sheet.UnknownBit = omega arith
of_sheet sheet.Missing = omega arith
of_sheet sheet.Value = omega arith

pub refusal_number : (f : ConsoleFault) → console_number f ≤ 13
refusal_number (console.Sheet s) = of_sheet s
refusal_number console.Input = omega arith
