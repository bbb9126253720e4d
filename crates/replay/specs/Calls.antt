-- The calls in a caller's lists.
use Rattle.book.specs.Runs.{Call, an_offer, a_load, a_strike}
use Rattle.replay.specs.declared.call.BookCall.{BookCall}
use Rattle.replay.specs.declared.call.BookCall.TheVariants.{Offer, Load, Strike}
use Rattle.chart.specs.Runs.{ChartCall as Called, a_feed, a_withdraw}
use Rattle.replay.specs.declared.call.ChartCall.{ChartCall}
use Rattle.replay.specs.declared.call.ChartCall.TheVariants.{Feed, Withdraw}

-- a call of a book, with its arguments
abbrev pub call_of : BookCall → Call
call_of (Offer head items cost) = an_offer head items.now cost
call_of (Load text) = a_load text.now
call_of Strike = a_strike

-- a call of a chart, with its argument
abbrev pub chart_call_of : {E : Type 0} → ChartCall E → Called E
chart_call_of (Feed e) = a_feed e
chart_call_of (Withdraw k) = a_withdraw k
