-- The numbers of the refusals of feeds, withdrawals, readings and parts; and each in plain words: the cause and the number.
use Rattle.std.specs.Prelude.{ℕ, List, codes}
use Rattle.book.specs.Faults.{with_number}
use Rattle.chart.specs.declared.{fault.FeedFault.FeedFault, fault.FeedFault.TheVariants.NoRoom, fault.WithdrawFault.WithdrawFault}
use Rattle.chart.specs.declared.{fault.WithdrawFault.TheVariants.TooMany, fault.ReadingFault.ReadingFault}
use Rattle.chart.specs.declared.{fault.ReadingFault.TheVariants.TooManyNodes, fault.PartFault.PartFault}
use Rattle.chart.specs.declared.fault.PartFault.TheVariants.{PastTheTrace}

abbrev pub feed_number : FeedFault → ℕ
feed_number NoRoom = 11

abbrev pub feed_text : FeedFault → List ℕ
feed_text f = with_number (codes "no room for one more event") (feed_number f)

abbrev pub withdraw_number : WithdrawFault → ℕ
withdraw_number TooMany = 12

abbrev pub withdraw_text : WithdrawFault → List ℕ
withdraw_text f = with_number (codes "more events than are held") (withdraw_number f)

abbrev pub reading_number : ReadingFault → ℕ
reading_number TooManyNodes = 13

abbrev pub reading_text : ReadingFault → List ℕ
reading_text f = with_number (codes "more nodes than the table takes") (reading_number f)

abbrev pub part_number : PartFault → ℕ
part_number PastTheTrace = 14

abbrev pub part_text : PartFault → List ℕ
part_text f = with_number (codes "a node that ends past the trace") (part_number f)
