use Rattle.std.proofs.Common.{◌+◌, arith}
use Rattle.chart.proofs.Places.{cell_within, start_mono, place_small}
use Rattle.chart.proofs.column.Column.cell.Goals as goal

pub returns-clause-room : goal.returns-clause-room
returns-clause-room g c =
    let column = c.args.self.now in
    let s = column.symbols in
    omega (arith, c.cell_place.ensures, cell_within s c.args.end c.args.start c.requires.0, start_mono s (c.args.end + 1) (column.end + 1) (omega (arith, c.requires.1)), column.long)

pub returns-clause-small : goal.returns-clause-small
returns-clause-small g c =
    let column = c.args.self.now in
    omega (arith, c.cell_place.ensures, place_small column.symbols c.args.end c.args.start column.most (omega (arith, c.requires.1, column.few)) c.requires.0)
