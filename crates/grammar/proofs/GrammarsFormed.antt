-- The grammars of a book have productions of their own symbols alone.
use Rattle.std.proofs.Common.{ℕ, ◌+◌, ◌-◌, ◌<◌, sym, ap, subst, inl, inr, arith}
use Rattle.std.proofs.lemmas.Bool.{cases_lt}
use Rattle.grammar.specs.Lists.{Mem}
use Rattle.grammar.specs.Productions.{Book, Sound}
use Rattle.grammar.specs.Binarised.{Right, empty, unit, binary, terminal, Binarised, Bounded, Has}
use Rattle.grammar.specs.Strict.{strict_form}
use Rattle.grammar.specs.Binarise.{binarised, Within}
use Rattle.grammar.specs.Grammars.{Symbol, Belongs, IsGrammar, item_symbol, book_grammar, right_symbols, rules_grammar, Grammar}
use Rattle.grammar.proofs.Short.{written_production, rule_production}
use Rattle.grammar.proofs.Lists.{map_mem}
use Rattle.grammar.proofs.BinarisedRules.{binarised_bounded, binarised_within}
use Rattle.grammar.proofs.Grammars.{item_head, item_pattern}
use Rattle.grammar.proofs.StrictForm.{strict_has, strict_symbols}
use Rattle.grammar.specs.Promises.{Grammars}

book_formed : (W : Book) → Sound W → IsGrammar (book_grammar W)
book_formed W S x α m =
    let k = map_mem written_production (x, α) W.productions m in
    let p = k.0 in (
      subst (λ z. z < 32) (sym (ap (λ c. c.0) k.2)) (S.heads p k.1),
      (λ s i. let j = map_mem item_symbol s p.right (subst (Mem s) (ap (λ c. c.1) k.2) i) in
          subst (Belongs (book_grammar W)) (sym j.2) (item j.0 (S.items p j.0 k.1 j.1))),
    )
  where
    item : (y : ℕ) → y < 32 + W.patterns → Belongs (book_grammar W) (item_symbol y)
    item y h = elim (cases_lt y 32) [
      | inl l ↦ subst (Belongs (book_grammar W)) (sym (item_head y l)) l
      | inr l ↦ subst (Belongs (book_grammar W)) (sym (item_pattern y l)) (let z : y - 32 < W.patterns = omega arith in z)
    ]

-- rules made of the symbols and of T terminals are a grammar
rules_formed : (T : ℕ) (B : Binarised) → Bounded B → ((x n : ℕ) (b : Right) → Has B x n b → Within B.symbols T b) → IsGrammar (rules_grammar T B)
rules_formed T B bounded within x α m =
    let k = map_mem rule_production (x, α) B.rules m in
    let r = k.0 in (
      subst (λ z. z < B.symbols) (sym (ap (λ c. c.0) k.2)) (bounded r k.1),
      (λ s i. side r.right (within r.left r.number r.right k.1) s (subst (Mem s) (ap (λ c. c.1) k.2) i)),
    )
  where
    side : (b : Right) → Within B.symbols T b → (s : Symbol) → Mem s (right_symbols b) → Belongs (rules_grammar T B) s
    side empty w s i = absurd i
    side (unit y) w s (inl e) = subst (Belongs (rules_grammar T B)) (sym e) w
    side (unit y) w s (inr i) = absurd i
    side (binary y z) w s (inl e) = subst (Belongs (rules_grammar T B)) (sym e) w.0
    side (binary y z) w s (inr (inl e)) = subst (Belongs (rules_grammar T B)) (sym e) w.1
    side (binary y z) w s (inr (inr i)) = absurd i
    side (terminal t) w s (inl e) = subst (Belongs (rules_grammar T B)) (sym e) w
    side (terminal t) w s (inr i) = absurd i

pub are_grammars : (W : Book) → Sound W → Grammars W
are_grammars W S = record {
  written = book_formed W S;
  binary = rules_formed W.patterns B (binarised_bounded W S) (binarised_within W S);
  strict = rules_formed W.patterns (strict_form B)
      (λ r m. subst (λ n. r.left < n) (sym (strict_symbols B)) (strict_has B r.left r.number r.right m).0)
      (λ x n b h. let k = (strict_has B x n b h).1 in
      subst (λ z. Within z W.patterns b) (sym (strict_symbols B)) (binarised_within W S k.0 n b k.2));
}
  where
    B : Binarised
    B = binarised W
