use Rattle.std.proofs.Common.{rules, ◌≡◌, ◌<◌, length, sym, ap, ◌∙◌, subst, true, false, arith, inl, []}
use Rattle.grammar.specs.Binarise.{binarise, binarised}
use Rattle.grammar.specs.Nullable.{nullable, nullable_tree}
use Rattle.grammar.specs.Nodes.{tree_nodes}
use Rattle.grammar.specs.Taken.{Takes}
use Rattle.grammar.proofs.Totals.{takes_one}
use Rattle.chart.specs.Events.{chart_book, chart_fits}
use Rattle.book.specs.Rules.{rules_book}
use Rattle.grammar.specs.Lists.{span}
use Rattle.chart.specs.Nodes.{nodes_of}
use Rattle.chart.specs.Inner.{Wrote, Stands}
use Rattle.chart.specs.Readings.{reading_answer, ReadingIs}
use Rattle.chart.proofs.OfBook.{book_sound}
use Rattle.chart.proofs.Choices.{symbols_least}
use Rattle.chart.proofs.ReadingTaken.{nodes_taken, nodes_nothing, nothing_read, whole_span, means_none, means_read}
use Rattle.chart.proofs.reading.reading.Goals as goal
use Rattle.chart.proofs.reading.reading.Goals.{then-chart-eq0, else-chart-eq0}

pub returns-then-not-explained-clause-means : goal.returns-then-not-explained-clause-means
returns-then-not-explained-clause-means g c es h =
    let k = c.args.chart.now in
    let told = c.explained.ensures.means es h in
    let no : c.explained.result ≡ false = search in
    let is_none = means_none (chart_book k) (book_sound k.book.now) (chart_fits g.A.Alphabet.test k) es (nodes_of c.args.nodes.now) (told.no.0 no) in
    search is_none

pub write_symbol-requires-clause-symbol : goal.write_symbol-requires-clause-symbol
write_symbol-requires-clause-symbol g c = let l = symbols_least (chart_book c.args.chart.now) in omega (arith, l)

pub returns-clause-means : goal.returns-clause-means
returns-clause-means g c es h =
    let k = c.args.chart.now in
    let W = chart_book k in
    let S = book_sound k.book.now in
    let fits = chart_fits g.A.Alphabet.test k in
    let told = c.explained.ensures.means es h in
    let yes : c.explained.result ≡ true = search in
    let some = (takes_one _ W S fits es).one.1 (told.yes.0 yes) in
    let r = some.0 in
    let t = nodes_of c.args.nodes.now in
    let begun = c.of-table.ensures.wrote in
    let read : ReadingIs W fits es t (reading_answer c.answer.result) (nodes_of c.if-chart-eq0.table.nodes.now) = elim c.if-chart-eq0.branch [
      | then-chart-eq0 w ↦
          let none : length es ≡ 0 = h.many ∙ w.if-chart-eq0.true in
          let null = nothing_read W S fits es none (sym told.is_total ∙ yes) in
          let same = w.converted.ensures in
          let low : 0 < 32 = omega arith in
          let empty : nullable (binarised (rules_book w.converted.result.now.rules)) 0 ≡ true = subst (λ v. nullable (binarised (rules_book v.rules)) 0 ≡ true) (sym same) null in
          let wrote : Wrote t (tree_nodes 0 (nullable_tree (binarised (rules_book w.converted.result.now.rules)) 0)) w.write_blank.new.table = search (w.write_blank.ensures.wrote t [], low, empty, begun) in
          means_read W S fits es t r _ _ _ some.1 (ap (λ v. tree_nodes 0 (nullable_tree (binarised (rules_book v.rules)) 0)) same ∙ nodes_nothing W S fits r es none some.1)
          (c.answer.ensures t _ (subst (Wrote t _) (sym w.table-is) wrote)) (subst (Wrote t _) (sym w.table-is) wrote).places
      | else-chart-eq0 w ↦
          let taken = nodes_taken W S fits r es (omega (arith, h.many, w.if-chart-eq0.false)) some.1 in
          let whole : Takes (binarised W) fits 0 (binarise W r) (span es 0 k.events) = subst (Takes (binarised W) fits 0 (binarise W r)) (sym (whole_span W S fits es k.events h.many)) taken.0 in
          let stands : Stands (binarised W) 0 [] = inl (omega arith) in
          let wrote : Wrote t (tree_nodes 0 (binarise W r)) w.write_symbol.new.table = search (w.write_symbol.ensures.wrote t [] stands g.A.Alphabet.test es h, whole, begun) in
          means_read W S fits es t r _ _ _ some.1 taken.1 (c.answer.ensures t _ (subst (Wrote t _) (sym w.table-is) wrote)) (subst (Wrote t _) (sym w.table-is) wrote).places
    ] in
    let same_name : c.if-chart-eq0.table.nodes.ghost_name ≡ c.of-table.result.nodes.ghost_name = elim c.if-chart-eq0.branch [
      | then-chart-eq0 w ↦ ap (λ s. s.nodes.ghost_name) w.table-is ∙ w.write_blank.ensures.same.table
      | else-chart-eq0 w ↦ ap (λ s. s.nodes.ghost_name) w.table-is ∙ w.write_symbol.ensures.same.table
    ] in
    let table = sym same_name in
    subst (λ l. ReadingIs W fits es t (reading_answer c.answer.result) (nodes_of l)) (search (rules, table)) read
