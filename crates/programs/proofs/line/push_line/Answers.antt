use Rattle.std.proofs.Common.{true≢false, sym, refl}
use Rattle.programs.proofs.Printing.{printed, line_of_totals, line_of_refusal}
use Rattle.programs.proofs.line.push_line.Goals as goal

pub returns-in-Ok-clause-line : goal.returns-in-Ok-clause-line
returns-in-Ok-clause-line c =
    let line = line_of_totals c.args.book.now c.args.trace.now c.args.tables.now c.requires c.in-Ok.totals c.in-Ok.ensures.answer (c.in-Ok.ensures.room.0 refl) in
    printed c.writeln.result _ _ _ _ line (search c.writeln.ensures.bytes)

pub returns-in-Err-clause-line : goal.returns-in-Err-clause-line
returns-in-Err-clause-line c =
    let line = line_of_refusal c.args.book.now c.args.trace.now c.args.tables.now c.requires c.in-Err.fault c.number.result c.number.ensures (λ r. true≢false (sym (c.in-Err.ensures.room.1 r))) in
    printed c.writeln-in-Err.result _ _ _ _ line (search c.writeln-in-Err.ensures.bytes)
