use Rattle.std.proofs.Common.{◌≤◌, length, take, sym, ap, ◌∙◌, arith}
use Rattle.std.proofs.lemmas.List.{length-take}
use Rattle.text.specs.Outcomes.{rule, written, item_of, cost_part, item_part, in_nine, token_piece}
use Rattle.text.specs.Turns.{words_left}
use Rattle.text.proofs.Nine.{item_step, items_end, items_stop}
use Rattle.text.proofs.reader.item_part.Goals as goal

pub loop-token-preserved : goal.loop-token-preserved
loop-token-preserved c =
    let l = c.loop-token.line in
    let m = c.with_item-line.result in
    let t = c.in-Some.token in
    let rest = words_left c.next_token.new.words in (
      c.with_item-line.ensures.cost ∙ c.loop-token.invariant.0,
      ap (λ h. in_nine (item_part h (take m.len m.items) rest)) c.with_item-line.ensures.head
          ∙ item_step l.head (take l.len l.items) (take m.len m.items) c.in-Some-item_of.item (token_piece t) (words_left c.loop-token.words) rest
          c.in-Some.ensures.0 (c.in-Some-item_of.ensures.is ∙ ap item_of (sym c.in-Some.ensures.1)) c.with_item-line.ensures.right
          ∙ c.loop-token.invariant.1,
    )

pub returns-in-None : goal.returns-in-None
returns-in-None c =
    let l = c.loop-token.line in
    let t = c.in-Some.token in
    let few : length (take l.len l.items) ≤ 9 = omega (arith, length-take l.len l.items, l.sized, l.short) in
    c.cost_word.ensures ∙ ap (cost_part l.head (take l.len l.items)) (sym c.in-Some.ensures.0)
    ∙ items_stop l.head (take l.len l.items) (token_piece t) (words_left c.loop-token.words) (words_left c.next_token.new.words) few c.in-Some.ensures.0 (c.in-None.ensures.is ∙ ap item_of (sym c.in-Some.ensures.1))
    ∙ c.loop-token.invariant.1

pub returns : goal.returns
returns c =
    let l = c.loop-token.line in
    let few : length (take l.len l.items) ≤ 9 = omega (arith, length-take l.len l.items, l.sized, l.short) in
    let is = take l.len l.items in
    ap (λ k. rule (written l.head is k)) c.loop-token.invariant.0 ∙ ap (cost_part l.head is) (sym c.in_default.ensures)
    ∙ items_end l.head is (words_left c.loop-token.words) few c.in_default.ensures ∙ c.loop-token.invariant.1
