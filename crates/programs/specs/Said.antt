-- Words of private contracts: no promise to a caller rests on these. What the lines of a script say, as they were read.
use Rattle.std.specs.Prelude.{map}
use Rattle.book.specs.Runs.{Call, an_offer, a_load, a_strike}
use Rattle.replay.specs.Calls.{chart_call_of}
use Rattle.programs.specs.Scripts.{ChartLine, a_call, a_total, a_reading, Script}
use Rattle.programs.specs.declared.script.lines.BookLine.{BookLine}
use Rattle.programs.specs.declared.script.lines.BookLine.TheVariants.{Offer, Load, Strike}
use Rattle.programs.specs.declared.script.lines.Question.{Question}
use Rattle.programs.specs.declared.script.lines.Question.TheVariants.{Total, Reading}
use Rattle.programs.specs.declared.script.lines.ChartLine.{ChartLine as Line}
use Rattle.programs.specs.declared.script.lines.ChartLine.TheVariants.{Call as ACall, Ask}
use Rattle.programs.specs.declared.script.lines.Script.{Script as Read}

-- a line of the book
abbrev pub book_line : BookLine → Call
book_line (Offer head items cost) = an_offer head items.items cost
book_line (Load text) = a_load text.now
book_line Strike = a_strike

-- what is asked
abbrev pub asked : {E : Type 0} → Question → ChartLine E
asked Total = a_total
asked Reading = a_reading

-- a line of the chart
abbrev pub chart_line : {E : Type 0} → Line E → ChartLine E
chart_line (ACall c) = a_call (chart_call_of c)
chart_line (Ask q) = asked q

-- a script
abbrev pub script_said : {P E : Type 0} → Read P E → Script P E
script_said s = record {
  patterns = s.patterns.items;
  book = map book_line s.book.items;
  weights = s.sizes.weights;
  nodes = s.sizes.nodes;
  chart = map chart_line s.chart.items;
}
