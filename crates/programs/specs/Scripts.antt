-- A script of the calls of the interface, as its lines say it.
use Rattle.std.specs.Prelude.{ℕ, List}
use Rattle.book.specs.Runs.{Call}
use Rattle.chart.specs.Runs.{ChartCall}

-- a line of the chart: a call, or what is asked there
pub data ChartLine (E : Type 0) : Type 0 where
  a_call : ChartCall E → ChartLine E
  a_total : ChartLine E
  a_reading : ChartLine E

-- the patterns, the calls of the book, how many weights and nodes the tables have, and the lines of the chart
pub record Script (P E : Type 0) : Type 0 where
  pub patterns : List P
  pub book : List Call
  pub weights : ℕ
  pub nodes : ℕ
  pub chart : List (ChartLine E)
