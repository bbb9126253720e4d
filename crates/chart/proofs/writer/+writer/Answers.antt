use Rattle.std.proofs.Common.{◌≡◌, ◌+◌, ◌<◌, ◌≤◌, true, Some, List, [], ◌∷◌, ◌++◌, length, drop, sym, ap, ◌∙◌, subst, inl, append_assoc, arith}
use Rattle.std.proofs.lemmas.List.{append-nil}
use Rattle.grammar.specs.Productions.{right_of}
use Rattle.grammar.specs.Lists.{span}
use Rattle.grammar.specs.Chains.{Leads, the_right, the_left}
use Rattle.grammar.specs.Nodes.{Node as TreeNode, tree_nodes}
use Rattle.grammar.specs.Nullable.{nullable, nullable_tree}
use Rattle.grammar.specs.Taken.{step_over, Takes}
use Rattle.grammar.proofs.Spans.{span_length}
use Rattle.conversion.specs.Views.{drop_of}
use Rattle.chart.specs.declared.choice.Choice.TheVariants.{Step, Leaf, Fork}
use Rattle.chart.specs.Events.{chart_book, chart_fits}
use Rattle.chart.specs.Inner.{chart_rules, choice_number, ChoiceAt, ChoiceTaken, Wrote, room, RuleOver, Stands, below_root, blank_nodes, AllBlank}
use Rattle.chart.proofs.OfBook.{book_sound}
use Rattle.chart.proofs.NodeTables.{wrote_full, room_left}
use Rattle.chart.proofs.Writing.{leaf_below, unit_below, right_below, left_below, fork_below, tail_below, taken_root, taken_yes, pattern_nodes, head_chosen, choice_over, over_some, tail_over, step_small, fork_small, over_unit, over_binary, over_blank, over_left, right_short}
use Rattle.grammar.specs.Binarise.{binarised}
use Rattle.book.specs.Rules.{rules_book}
use Rattle.book.specs.declared.converted.Converted.{Converted}
use Rattle.chart.proofs.writer.+writer.Goals as goal

joined : (ks a b l : List TreeNode) → l ≡ a ++ b → (ks ++ a) ++ b ≡ ks ++ l
joined ks a b l e = append_assoc ks a b ∙ ap (λ m. ks ++ m) (sym e)

pub write_parts-returns-in_default-clause-wrote : goal.write_parts-returns-in_default-clause-wrote
write_parts-returns-in_default-clause-wrote g t c t' ks x at over test es h s taken chosen wrote =
    let k = c.args.chart.now in
    let W = chart_book k in
    let S = book_sound k.book.now in
    absurd (over_some W S x c.args.count c.args.choice c.args.items.now c.in_default.ensures.cases at over)

pub write_parts-write_symbol-requires : goal.write_parts-write_symbol-requires
write_parts-write_symbol-requires g t c κs within =
    let k = c.args.chart.now in
    let W = chart_book k in
    let S = book_sound k.book.now in
    let at : ChoiceAt (chart_rules k) c.requires.choice.0 c.args.count (Some (Step c.in-Step.step)) = subst (λ v. ChoiceAt (chart_rules k) c.requires.choice.0 c.args.count (Some v)) c.in-Step.is c.requires.choice.1 in
    (omega (arith, c.decreases, c.in-Some.ensures.cases.1), (within.0, (within.1.0, (within.1.1, (step_small W S c.requires.choice.0 c.in-Step.step.number (drop_of c.in-Step.step.dropped) c.in-Step.step.to at.1, c.requires.part)))))

pub write_parts-returns-in-Leaf-clause-wrote : goal.write_parts-returns-in-Leaf-clause-wrote
write_parts-returns-in-Leaf-clause-wrote g t c t' ks x at over test es h s taken chosen wrote =
    let k = c.args.chart.now in
    let W = chart_book k in
    let S = book_sound k.book.now in
    let a = c.args in
    let leaf_taken : ChoiceTaken (chart_rules k) (chart_fits test k) x es a.start a.count (Some (Leaf c.in-Leaf.field-0)) = subst (λ v. ChoiceTaken (chart_rules k) (chart_fits test k) x es a.start a.count (Some v)) c.in-Leaf.is chosen in
    subst (λ l. Wrote t' l a.table.now) (sym (ap (λ l. ks ++ l) (leaf_below W S (chart_fits test k) x c.in-Leaf.field-0 a.start s (span es a.start a.count) taken leaf_taken) ∙ append-nil ks)) wrote

pub write_parts-returns-in-None-clause-wrote : goal.write_parts-returns-in-None-clause-wrote
write_parts-returns-in-None-clause-wrote g t c t' ks x at over test es h s taken chosen wrote =
    let k = c.args.chart.now in
    let W = chart_book k in
    let S = book_sound k.book.now in
    let a = c.args in
    let u = c.in-Step.step in
    let w = span es a.start a.count in
    let fits = chart_fits test k in
    let there : ChoiceAt (chart_rules k) x a.count (Some (Step u)) = subst (λ v. ChoiceAt (chart_rules k) x a.count (Some v)) c.in-Step.is at in
    let step_taken : ChoiceTaken (chart_rules k) fits x es a.start a.count (Some (Step u)) = subst (λ v. ChoiceTaken (chart_rules k) fits x es a.start a.count (Some v)) c.in-Step.is chosen in
    let below : RuleOver (chart_rules k) x u.number a.items.now = subst (λ v. RuleOver (chart_rules k) x (choice_number v) a.items.now) c.in-Step.is over in
    let has = subst (λ d. Leads (chart_rules k) x u.number (drop_of d) u.to) c.in-None.is there.1 in
    let whole = subst (λ d. Takes (chart_rules k) fits x (step_over (chart_rules k) x u.number (drop_of d) step_taken.0) w) c.in-None.is step_taken.2 in
    subst (λ l. Wrote t' (ks ++ l) c.write_symbol.new.table) (sym (unit_below W S fits x u.number a.start s step_taken.0 w taken whole))
    (c.write_symbol.ensures.wrote t' ks (inl (over_unit W S x u.number a.items.now below u.to has)) test es h step_taken.0 step_taken.1 wrote)

pub write_parts-write_symbol-requires-in-Right : goal.write_parts-write_symbol-requires-in-Right
write_parts-write_symbol-requires-in-Right g t c κs within =
    let k = c.args.chart.now in
    let W = chart_book k in
    let S = book_sound k.book.now in
    let at : ChoiceAt (chart_rules k) c.requires.choice.0 c.args.count (Some (Step c.in-Step.step)) = subst (λ v. ChoiceAt (chart_rules k) c.requires.choice.0 c.args.count (Some v)) c.in-Step.is c.requires.choice.1 in
    (omega (arith, c.decreases, c.in-Some.ensures.cases.1), (within.0, (within.1.0, (within.1.1, (step_small W S c.requires.choice.0 c.in-Step.step.number (drop_of c.in-Step.step.dropped) c.in-Step.step.to at.1, c.requires.part)))))

pub write_parts-write_symbol-requires-in-Left : goal.write_parts-write_symbol-requires-in-Left
write_parts-write_symbol-requires-in-Left g t c κs within =
    let k = c.args.chart.now in
    let W = chart_book k in
    let S = book_sound k.book.now in
    let at : ChoiceAt (chart_rules k) c.requires.choice.0 c.args.count (Some (Step c.in-Step.step)) = subst (λ v. ChoiceAt (chart_rules k) c.requires.choice.0 c.args.count (Some v)) c.in-Step.is c.requires.choice.1 in
    let same = c.write_blank.ensures.same in
    (omega (arith, c.decreases, c.in-Some.ensures.cases.1, same.less), (within.0, (within.1.0, (within.1.1, (step_small W S c.requires.choice.0 c.in-Step.step.number (drop_of c.in-Step.step.dropped) c.in-Step.step.to at.1, c.requires.part)))))

pub write_parts-write_symbol-requires-in-Fork : goal.write_parts-write_symbol-requires-in-Fork
write_parts-write_symbol-requires-in-Fork g t c κs within =
    let k = c.args.chart.now in
    let W = chart_book k in
    let S = book_sound k.book.now in
    let f = c.in-Fork in
    let at : ChoiceAt (chart_rules k) c.requires.choice.0 c.args.count (Some (Fork f.field-0 f.left f.right f.cut)) = subst (λ v. ChoiceAt (chart_rules k) c.requires.choice.0 c.args.count (Some v)) f.is c.requires.choice.1 in
    (omega (arith, c.decreases, c.in-Some.ensures.cases.1), (within.0, (within.1.0, (within.1.1, ((fork_small W S c.requires.choice.0 f.field-0 f.left f.right at.0).0, (at.1, omega (arith, at.2, c.requires.part)))))))

pub write_parts-write_symbol-requires-in-Fork-2 : goal.write_parts-write_symbol-requires-in-Fork-2
write_parts-write_symbol-requires-in-Fork-2 g t c κs within =
    let k = c.args.chart.now in
    let W = chart_book k in
    let S = book_sound k.book.now in
    let f = c.in-Fork in
    let at : ChoiceAt (chart_rules k) c.requires.choice.0 c.args.count (Some (Fork f.field-0 f.left f.right f.cut)) = subst (λ v. ChoiceAt (chart_rules k) c.requires.choice.0 c.args.count (Some v)) f.is c.requires.choice.1 in
    let same = c.write_symbol-in-Fork.ensures.same in
    (omega (arith, c.decreases, c.in-Some.ensures.cases.1, same.less), (within.0, (within.1.0, (within.1.1, ((fork_small W S c.requires.choice.0 f.field-0 f.left f.right at.0).1, (omega (arith, at.2), omega (arith, at.2, c.requires.part)))))))

pub write_parts-returns-in-Right-clause-wrote : goal.write_parts-returns-in-Right-clause-wrote
write_parts-returns-in-Right-clause-wrote g t c t' ks x at over test es h s taken chosen wrote =
    let k = c.args.chart.now in
    let W = chart_book k in
    let S = book_sound k.book.now in
    let a = c.args in
    let B = chart_rules k in
    let fits = chart_fits test k in
    let u = c.in-Step.step in
    let w = span es a.start a.count in
    let there : ChoiceAt B x a.count (Some (Step u)) = subst (λ v. ChoiceAt B x a.count (Some v)) c.in-Step.is at in
    let step_taken : ChoiceTaken B fits x es a.start a.count (Some (Step u)) = subst (λ v. ChoiceTaken B fits x es a.start a.count (Some v)) c.in-Step.is chosen in
    let below : RuleOver B x u.number a.items.now = subst (λ v. RuleOver B x (choice_number v) a.items.now) c.in-Step.is over in
    let z = c.in-Right.field-0 in
    let d : drop_of u.dropped ≡ the_right z = ap drop_of c.in-Some-dropped.is ∙ ap (λ v. drop_of (Some v)) c.in-Right.is in
    let leads = subst (λ d. Leads B x u.number d u.to) d there.1 in
    let whole = subst (λ d. Takes B fits x (step_over B x u.number d step_taken.0) w) d step_taken.2 in
    let rest : drop 1 a.items.now ≡ c.in-Some.rest.now = ap (drop 1) c.in-Some.ensures.cases.0 in
    let blank = over_blank W S x u.number a.items.now below u.to z leads.0 leads.1 (a.start + a.count) in
    let first = c.write_symbol-in-Right.ensures.wrote t' ks (inl (over_binary W S x u.number a.items.now below u.to z leads.0).0) test es h step_taken.0 step_taken.1 wrote in
    let second = subst (λ (q : Converted). AllBlank (binarised (rules_book q.rules)) c.in-Some.rest.now
    → Wrote t' ((ks ++ tree_nodes a.start step_taken.0) ++ blank_nodes (binarised (rules_book q.rules)) (a.start + a.count) c.in-Some.rest.now) c.write_blanks.new.table)
    c.converted-converted.ensures (λ all. assumption (c.write_blanks.ensures.wrote t' (ks ++ tree_nodes a.start step_taken.0) all first)) (subst (AllBlank B) rest blank.1) in
    subst (λ l. Wrote t' l c.write_blanks.new.table)
    (joined ks (tree_nodes a.start step_taken.0) (blank_nodes B (a.start + a.count) c.in-Some.rest.now) (below_root a.start s)
    (right_below W S fits x u.number a.start s step_taken.0 w taken u.to z a.count step_taken.1 (span_length es a.start a.count (omega (arith, h.many, c.requires.part))) whole
    ∙ ap (λ l. tree_nodes a.start step_taken.0 ++ l) (blank.0 ∙ ap (blank_nodes B (a.start + a.count)) rest))) second

pub write_parts-returns-in-Left-clause-wrote : goal.write_parts-returns-in-Left-clause-wrote
write_parts-returns-in-Left-clause-wrote g t c t' ks x at over test es h s taken chosen wrote =
    let k = c.args.chart.now in
    let W = chart_book k in
    let S = book_sound k.book.now in
    let a = c.args in
    let B = chart_rules k in
    let fits = chart_fits test k in
    let u = c.in-Step.step in
    let w = span es a.start a.count in
    let there : ChoiceAt B x a.count (Some (Step u)) = subst (λ v. ChoiceAt B x a.count (Some v)) c.in-Step.is at in
    let step_taken : ChoiceTaken B fits x es a.start a.count (Some (Step u)) = subst (λ v. ChoiceTaken B fits x es a.start a.count (Some v)) c.in-Step.is chosen in
    let below : RuleOver B x u.number a.items.now = subst (λ v. RuleOver B x (choice_number v) a.items.now) c.in-Step.is over in
    let y = c.in-Left.left in
    let d : drop_of u.dropped ≡ the_left y = ap drop_of c.in-Some-dropped.is ∙ ap (λ v. drop_of (Some v)) c.in-Left.is in
    let leads = subst (λ d. Leads B x u.number d u.to) d there.1 in
    let whole = subst (λ d. Takes B fits x (step_over B x u.number d step_taken.0) w) d step_taken.2 in
    let rest : drop 1 a.items.now ≡ c.in-Some.rest.now = ap (drop 1) c.in-Some.ensures.cases.0 in
    let held = c.converted-converted in
    let null : nullable (binarised (rules_book held.result.now.rules)) y ≡ true = subst (λ (q : Converted). nullable (binarised (rules_book q.rules)) y ≡ true) (sym held.ensures) leads.1 in
    let low = over_left W S x u.number a.items.now below y u.to leads.0 leads.1 in
    let blank : Wrote t' (ks ++ tree_nodes a.start (nullable_tree (binarised (rules_book held.result.now.rules)) y)) c.write_blank.new.table =
    search (c.write_blank.ensures.wrote, low, null, wrote) in
    let first = subst (λ (q : Converted). Wrote t' (ks ++ tree_nodes a.start (nullable_tree (binarised (rules_book q.rules)) y)) c.write_blank.new.table) held.ensures blank in
    let second = c.write_symbol-in-Left.ensures.wrote t' (ks ++ tree_nodes a.start (nullable_tree B y))
    (subst (Stands B u.to) rest (over_binary W S x u.number a.items.now below y u.to leads.0).1) test es h step_taken.0 step_taken.1 first in
    subst (λ l. Wrote t' l c.write_symbol-in-Left.new.table)
    (joined ks (tree_nodes a.start (nullable_tree B y)) (tree_nodes a.start step_taken.0) (below_root a.start s)
    (left_below W S fits x u.number a.start s step_taken.0 w taken y leads.1 whole)) second

pub write_parts-returns-in-Fork-clause-wrote : goal.write_parts-returns-in-Fork-clause-wrote
write_parts-returns-in-Fork-clause-wrote g t c t' ks x at over test es h s taken chosen wrote =
    let k = c.args.chart.now in
    let W = chart_book k in
    let S = book_sound k.book.now in
    let a = c.args in
    let B = chart_rules k in
    let fits = chart_fits test k in
    let f = c.in-Fork in
    let w = span es a.start a.count in
    let choice = Fork f.field-0 f.left f.right f.cut in
    let there : ChoiceAt B x a.count (Some choice) = subst (λ v. ChoiceAt B x a.count (Some v)) f.is at in
    let fork_taken : ChoiceTaken B fits x es a.start a.count (Some choice) = subst (λ v. ChoiceTaken B fits x es a.start a.count (Some v)) f.is chosen in
    let below : RuleOver B x f.field-0 a.items.now = subst (λ v. RuleOver B x (choice_number v) a.items.now) f.is over in
    let rest : drop 1 a.items.now ≡ c.in-Some.rest.now = ap (drop 1) c.in-Some.ensures.cases.0 in
    let parts = over_binary W S x f.field-0 a.items.now below f.left f.right there.0 in
    let first = c.write_symbol-in-Fork.ensures.wrote t' ks (inl parts.0) test es h fork_taken.0 fork_taken.1.1 wrote in
    let second = c.write_symbol-in-Fork-2.ensures.wrote t' (ks ++ tree_nodes a.start fork_taken.0) (subst (Stands B f.right) rest parts.1) test es h fork_taken.1.0 fork_taken.1.2 first in
    subst (λ l. Wrote t' l c.write_symbol-in-Fork-2.new.table)
    (joined ks (tree_nodes a.start fork_taken.0) (tree_nodes (a.start + f.cut) fork_taken.1.0) (below_root a.start s)
    (fork_below W S fits x f.field-0 a.start s fork_taken.0 w taken fork_taken.1.0 f.left f.cut (span es a.start f.cut) fork_taken.1.1
    (span_length es a.start f.cut (omega (arith, h.many, c.requires.part, there.2))) fork_taken.1.3)) second

pub write_symbol-returns-then-table-clause-wrote : goal.write_symbol-returns-then-table-clause-wrote
write_symbol-returns-then-table-clause-wrote g t c t' ks stands test es h s taken wrote = wrote_full t' ks c.args.table.now wrote c.if-table.true (tree_nodes c.args.start s)

pub write_symbol-returns-in_default-clause-wrote : goal.write_symbol-returns-in_default-clause-wrote
write_symbol-returns-in_default-clause-wrote g t c t' ks stands test es h s taken wrote =
    let k = c.args.chart.now in
    let W = chart_book k in
    let S = book_sound k.book.now in
    absurd (taken_yes W S (chart_fits test k) c.args.symbol s (span es c.args.start c.args.count) taken (c.in_default.ensures.taken test es h))

pub write_symbol-returns-then-symbol-lt-TAILS-clause-wrote : goal.write_symbol-returns-then-symbol-lt-TAILS-clause-wrote
write_symbol-returns-then-symbol-lt-TAILS-clause-wrote g t c t' ks stands test es h s taken wrote =
    let k = c.args.chart.now in
    let W = chart_book k in
    let S = book_sound k.book.now in
    subst (λ l. Wrote t' l c.args.table.now)
    (sym (ap (λ l. ks ++ l) (pattern_nodes W S (chart_fits test k) c.args.start c.args.symbol s (span es c.args.start c.args.count) (omega arith) (omega arith) taken) ∙ append-nil ks)) wrote

pub write_symbol-write_parts-requires : goal.write_symbol-write_parts-requires
write_symbol-write_parts-requires g t c κs within =
    let k = c.args.chart.now in
    let W = chart_book k in
    let S = book_sound k.book.now in
    let n = c.number-rule.result in
    let right : c.right-right.result.now ≡ right_of W n = c.right-right.ensures ∙ ap (λ r. right_of (rules_book r) n) c.rules.ensures in
    let short : length c.right-right.result.now ≤ 8 = subst (λ l. length l ≤ 8) (sym right) (right_short W S n) in
    let some : 0 < room c.args.table.now = room_left c.args.table.now c.if-table.false in
    (omega (arith, c.decreases, c.push.ensures.room), (within.0, (within.1.0, (within.1.1, ((c.args.symbol, c.in-Some.ensures.at), c.requires.part)))))

pub write_symbol-write_parts-requires-else-symbol-lt-HEADS : goal.write_symbol-write_parts-requires-else-symbol-lt-HEADS
write_symbol-write_parts-requires-else-symbol-lt-HEADS g t c κs within =
    (omega (arith, c.decreases), (within.0, (within.1.0, (within.1.1, ((c.args.symbol, c.in-Some.ensures.at), c.requires.part)))))

pub write_symbol-returns-then-symbol-lt-HEADS-clause-wrote : goal.write_symbol-returns-then-symbol-lt-HEADS-clause-wrote
write_symbol-returns-then-symbol-lt-HEADS-clause-wrote g t c t' ks stands test es h s taken wrote =
    let k = c.args.chart.now in
    let W = chart_book k in
    let S = book_sound k.book.now in
    let a = c.args in
    let choice = c.in-Some.choice in
    let n = c.number-rule.result in
    let right : c.right-right.result.now ≡ right_of W n = c.right-right.ensures ∙ ap (λ r. right_of (rules_book r) n) c.rules.ensures in
    let long = span_length es a.start a.count (omega (arith, h.many, c.requires.part)) in
    let node : TreeNode = record { rule = n; first = a.start; count = a.count } in
    let pushed : Wrote t' (ks ++ (node ∷ [])) c.push.new.self = assumption (subst (λ n. Wrote t' (ks ++ (n ∷ [])) c.push.new.self) c.node.ensures (c.push.ensures.wrote t' ks wrote)) in
    let over = choice_over W S a.symbol a.count choice c.if-symbol-lt-HEADS.true c.in-Some.ensures.at in
    let below = c.write_parts.ensures.wrote t' (ks ++ (node ∷ [])) a.symbol c.in-Some.ensures.at
    (subst (RuleOver (chart_rules k) a.symbol (choice_number choice)) (ap (right_of W) (sym c.number-rule.ensures) ∙ sym right) over) test es h s taken (c.in-Some.ensures.taken test es h) pushed in
    subst (λ l. Wrote t' l c.write_parts.new.table)
    (joined ks (node ∷ []) (below_root a.start s) (tree_nodes a.start s)
    (head_chosen W S (chart_fits test k) a.symbol es a.start a.count choice s c.if-symbol-lt-HEADS.true long taken (c.in-Some.ensures.taken test es h)
    ∙ ap (λ j. record { rule = j; first = a.start; count = a.count } ∷ below_root a.start s) (sym c.number-rule.ensures))) below

pub write_symbol-returns-else-symbol-lt-HEADS-clause-wrote : goal.write_symbol-returns-else-symbol-lt-HEADS-clause-wrote
write_symbol-returns-else-symbol-lt-HEADS-clause-wrote g t c t' ks stands test es h s taken wrote =
    let k = c.args.chart.now in
    let W = chart_book k in
    let S = book_sound k.book.now in
    let a = c.args in
    let high : 64 ≤ a.symbol = omega (arith, c.else-symbol-ge-HEADS.either, c.if-symbol-lt-HEADS.false) in
    let root = taken_root W S (chart_fits test k) a.symbol s (span es a.start a.count) taken in
    let below = c.write_parts-else-symbol-lt-HEADS.ensures.wrote t' ks a.symbol c.in-Some.ensures.at
    (tail_over W S a.symbol a.count c.in-Some.choice a.items.now high c.in-Some.ensures.at stands) test es h s taken (c.in-Some.ensures.taken test es h) wrote in
    subst (λ l. Wrote t' (ks ++ l) c.write_parts-else-symbol-lt-HEADS.new.table) (sym (tail_below a.start s (omega (arith, root)))) below
