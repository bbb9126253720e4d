use Rattle.std.proofs.Common.{◌≡◌, ◌<◌, ◌≤◌, ◌++◌, get_or, take, drop, sym, ap, ◌∙◌, subst, append_assoc, arith}
use Rattle.std.proofs.lemmas.Bool.{both_ways}
use Rattle.grammar.specs.Binarise.{binarised}
use Rattle.grammar.specs.Productions.{right_of}
use Rattle.book.specs.Rules.{rules_book}
use Rattle.chart.specs.Inner.{Wrote, SameTable, blank_nodes, AllBlank}
use Rattle.chart.proofs.OfBook.{rules_sound}
use Rattle.chart.proofs.NodeTables.{wrote_full, same_then}
use Rattle.chart.proofs.BlankRounds.{rounds_in, most_rounds, rounds_most}
use Rattle.grammar.proofs.BinarisedRules.{get_d_mem}
use Rattle.chart.proofs.BlankNodes.{brought_blank, brought_fewer, blank_rest, blank_at, blank_step}
use Rattle.chart.proofs.blank_walk.+write_blanks.Goals as goal
use Rattle.chart.proofs.blank_walk.+write_blanks.Goals.{in-Some, in_default}

pub returns-then-table-clause-wrote : goal.returns-then-table-clause-wrote
returns-then-table-clause-wrote m c t ks all w =
    let B = binarised (rules_book c.args.converted.now.rules) in
    let ys = c.args.items.now in
    let i = c.loop-item.item-index in
    let was = c.loop-item.invariant.wrote t ks all w in
    subst (λ l. Wrote t l c.loop-item.table) (append_assoc ks (blank_nodes B c.args.at (take i ys)) (blank_nodes B c.args.at (drop i ys)) ∙ ap (λ l. ks ++ l) (sym (blank_rest B c.args.at ys i)))
    (wrote_full t (ks ++ blank_nodes B c.args.at (take i ys)) c.loop-item.table was c.if-table.true (blank_nodes B c.args.at (drop i ys)))

pub write_blanks-requires : goal.write_blanks-requires
write_blanks-requires t c =
    let rules = c.args.converted.now.rules in
    let W = rules_book rules in
    let B = binarised W in
    let ys = c.args.items.now in
    let i = c.loop-item.item-index in
    let h = c.in-Some.ensures in
    let b = c.in-Some.by in
    let y = get_or ys i 0 in
    let fewer : most_rounds B (right_of W b.number) < rounds_in B B.symbols y = brought_fewer W (rules_sound rules) y h.0 b h.1 in
    let most : rounds_in B B.symbols y ≤ most_rounds B ys = rounds_most B y ys (get_d_mem ys i 0 (omega arith)) in
    let same : most_rounds B c.items_of.result.now ≡ most_rounds B (right_of W b.number) = ap (most_rounds B) c.items_of.ensures in
    (omega (arith, c.decreases), tt)

pub loop-item-preserved : goal.loop-item-preserved
loop-item-preserved m c = elim c.match-brought_head.branch [
  | in-Some w ↦
      let rules = c.args.converted.now.rules in
      let W = rules_book rules in
      let B = binarised W in
      let S = rules_sound rules in
      let ys = c.args.items.now in
      let i = c.loop-item.item-index in
      let h = w.in-Some.ensures in
      let b = w.in-Some.by in
      let r : w.items_of.result.now ≡ right_of W b.number = w.items_of.ensures in
      let blank = subst (AllBlank B) (sym r) (brought_blank W S (get_or ys i 0) h.0 b h.1) in
      record {
        wrote = λ t ks all e.
            let one = w.push.ensures.wrote t _ (c.loop-item.invariant.wrote t ks all e) in
            let step = blank_step W S c.args.at ys i (omega arith) b h.0 h.1 ks _ _ w.blank_node.ensures r in
            subst (Wrote t _) (sym w.table-is) (subst (λ l. Wrote t l w.write_blanks.new.table) step (w.write_blanks.ensures.wrote t _ blank one));
        same = subst (SameTable c.args.table.now) (sym w.table-is) (same_then _ _ _ c.loop-item.invariant.same (same_then _ _ _ w.push.ensures.same w.write_blanks.ensures.same));
      }
  | in_default w ↦
      let B = binarised (rules_book c.args.converted.now.rules) in
      let at = blank_at B c.args.at c.args.items.now c.loop-item.item-index (omega arith) in
      record {
        wrote = λ t ks all e. absurd (both_ways _ (w.in_default.ensures (at all).0) (at all).1);
        same = subst (SameTable c.args.table.now) (sym w.table-is) c.loop-item.invariant.same;
      }
]
