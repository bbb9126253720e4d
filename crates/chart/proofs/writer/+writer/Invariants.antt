use Rattle.std.proofs.Common.{◌+◌, ◌*◌, length}
use Rattle.chart.specs.Inner.{room}
use Rattle.chart.proofs.writer.+writer.Given as goal

abbrev pub decreases-write_symbol : goal.decreases-write_symbol
decreases-write_symbol g l = 64 * room l.table.now + (4 * length l.items.now + 1)

abbrev pub decreases-write_parts : goal.decreases-write_parts
decreases-write_parts g l = 64 * room l.table.now + 4 * length l.items.now
