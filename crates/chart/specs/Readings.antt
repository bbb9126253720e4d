-- What the call for the reading answers, and what it leaves in the caller's table.
use Rattle.std.specs.Prelude.{◌≡◌, ℕ, Bool, ◌↔◌, List, ◌∷◌, Ok, Err, Some, None, Option, Result}
use Rattle.grammar.specs.{Lists.First, Productions.Book, Binarise.binarised, Chains.ChainStep, Chains.chosen_chain}
use Rattle.grammar.specs.{Strict.StrictFormRule, Strict.strict_rules_of, Taken.rule_fits, Readings.Reading, PlainReadings.Unread}
use Rattle.grammar.specs.{Nodes.Node, Nodes.nodes, Promises.NodeList, Promises.TakesExactly, Promises.TableAfter}
use Rattle.grammar.specs.Answers.{Taken, Answer, none, number, refused, Answers}
use Rattle.chart.specs.Faults.{reading_number}
use Rattle.chart.specs.declared.fault.ReadingFault.{ReadingFault}

-- what the answer says: none, or the number of nodes; or a refusal, by its number
abbrev pub reading_answer : Result (Option ℕ) ReadingFault → Answer
reading_answer (Ok None) = none
reading_answer (Ok (Some n)) = number n
reading_answer (Err f) = refused (reading_number f)

-- over these events and the table t the call for the reading answers a and leaves t'
pub record ReadingIs (W : Book) {E : Type 0} (fits : E → ℕ → Bool) (es : List E) (t : List Node) (a : Answer) (t' : List Node) : Type 0 where
  pub answers : Answers W fits es t a t'
  -- no other answer and no other table would do
  pub once : (b : Answer) (s : List Node) → Answers W fits es t b s → (b ≡ a) × (s ≡ t')
  pub none_exactly : (a ≡ none) ↔ Unread W fits es
  pub taken : TakesExactly W fits es
  -- along a chosen chain the same strict rule is the first that fits: the first that fits at x is so too at the end of the chain's first step
  pub coherent : (w : List E) (x : ℕ) (r : StrictFormRule) (s : ChainStep) (c : List ChainStep)
      → First (rule_fits (binarised W) fits w) (strict_rules_of (binarised W) x) r → chosen_chain (binarised W) x r.end ≡ s ∷ c
      → First (rule_fits (binarised W) fits w) (strict_rules_of (binarised W) s.to) (record { symbol = s.to; end = r.end; number = r.number; right = r.right })
  pub told : (r : Reading) → Taken W fits r es → NodeList W fits 0 r es
  pub table : (r : Reading) → Taken W fits r es → TableAfter (nodes 0 r) t
