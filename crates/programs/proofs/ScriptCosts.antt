-- The costs of the offers in a script have 16 bits.
use Rattle.std.proofs.Common.{◌≡◌, ℕ, ◌≤◌, true, ◌&&◌, leb, List, [], ◌∷◌, Some, None, Ok, Err, Option, Result, sym, refl, subst, inl, inr}
use Rattle.std.specs.Prelude.{option_map, option_and_then, ok_or}
use Rattle.std.proofs.lemmas.Bool.{and_parts, leb-true}
use Rattle.std.proofs.lemmas.Option.{cond_some}
use Rattle.grammar.proofs.Lists.{mem_append}
use Rattle.text.specs.Numbers.{all_digits, said_number}
use Rattle.text.specs.Words.{Piece, words}
use Rattle.book.specs.Runs.{Call, an_offer, a_load, a_strike}
use Rattle.chart.specs.Runs.{a_feed, a_withdraw}
use Rattle.programs.specs.Scripts.{a_call, a_total, a_reading, Script}
use Rattle.programs.specs.Spelling.{Spelling, word_texts, number_said, first_number, by_number, only, numbers_said}
use Rattle.programs.specs.ScriptLines.{Item, patterns, a_book_call, rules_follow, weights, nodes, a_chart_line, first_of, one_number, offer_said, load_said, item_said, kind_said, words_say, line_said, with_item}
use Rattle.programs.specs.ScriptMeans.{Says, ItemsAre, Follows}
use Rattle.programs.specs.ScriptMeans.ItemsAre.{none, blank, line, load}
use Rattle.programs.specs.Printed.{Cheap, AllCheap}
use Rattle.programs.specs.declared.script.fault.Cause.{Cause}
use Rattle.programs.specs.declared.script.fault.Cause.TheVariants.{OtherWords}
use Rattle.programs.specs.declared.script.said.First.{First}
use Rattle.programs.specs.declared.script.said.First.TheVariants.{Patterns, Offer, Load, Strike, Weights, Nodes, Feed, Withdraw, Total, Reading}

-- a number that is said is within its limit
pub number_within : (limit : ℕ) (w : List ℕ) (n : ℕ) → number_said limit w ≡ Some n → (all_digits w ≡ true) × (said_number w ≡ n) × (n ≤ limit)
unfolding number_said
number_within limit w n e =
    let c = cond_some (all_digits w && leb (said_number w) limit) (said_number w) n e in
    let p = and_parts (all_digits w) (leb (said_number w) limit) c.0 in
    (p.0, c.1, subst (λ k. k ≤ limit) c.1 (leb-true (said_number w) limit p.1))

-- what holds of what f gives by every number within the limit
by_within : {A : Type 0} (Q : Option A → Type 0) (limit : ℕ) (f : ℕ → List (List ℕ) → Option A) (ws : List (List ℕ)) → Q None → ((n : ℕ) (vs : List (List ℕ)) → n ≤ limit → Q (f n vs)) → Q (by_number limit f ws)
unfolding first_number
by_within Q limit f [] h g = h
by_within {A} Q limit f (w ∷ ws) h g = by_said (number_said limit w) refl
  where
    by_said : (o : Option ℕ) → number_said limit w ≡ o → Q (option_and_then (λ (p : ℕ × List (List ℕ)). f p.0 p.1) (option_map (λ n. (n, ws)) (number_said limit w)))
    by_said None e = subst (λ o. Q (option_and_then (λ (p : ℕ × List (List ℕ)). f p.0 p.1) (option_map (λ n. (n, ws)) o))) (sym e) h
    by_said (Some n) e = subst (λ o. Q (option_and_then (λ (p : ℕ × List (List ℕ)). f p.0 p.1) (option_map (λ n. (n, ws)) o))) (sym e) (g n ws (number_within limit w n e).2)

-- an offer that is said has a cost of 16 bits
abbrev CheapCall : Option Call → Type 0
CheapCall None = Unit {0}
CheapCall (Some c) = Cheap c

offer_cheap : (ws : List (List ℕ)) → CheapCall (offer_said ws)
offer_cheap ws =
    by_within CheapCall 255 (λ head. by_number 65535 (λ cost vs. option_map (λ items. an_offer head items cost) (numbers_said 255 vs))) ws tt
    (λ head us _. by_within CheapCall 65535 (λ cost vs. option_map (λ items. an_offer head items cost) (numbers_said 255 vs)) us tt (λ cost vs low. with_items head cost low (numbers_said 255 vs)))
  where
    with_items : (head cost : ℕ) → cost ≤ 65535 → (o : Option (List ℕ)) → CheapCall (option_map (λ items. an_offer head items cost) o)
    with_items head cost low None = tt
    with_items head cost low (Some items) = low

abbrev pub CheapItem : {P E : Type 0} → Item P E → Type 0
CheapItem (a_book_call c) = Cheap c
CheapItem _ = Unit {0}

abbrev CheapSome : {P E : Type 0} → Option (Item P E) → Type 0
CheapSome None = Unit {0}
CheapSome (Some i) = CheapItem i

abbrev CheapSaid : {P E : Type 0} → Result (Option (Item P E)) Cause → Type 0
CheapSaid (Ok o) = CheapSome o
CheapSaid (Err c) = Unit {0}

module _ {P E : Type 0} (S : Spelling P E) where
  by_map : {A : Type 0} (f : A → Item P E) (o : Option A) → ((x : A) → CheapItem (f x)) → CheapSome (option_map f o)
  by_map f None h = tt
  by_map f (Some x) h = h x

  by_call : (o : Option Call) → CheapCall o → CheapSome {P = P} {E = E} (option_map a_book_call o)
  by_call None h = tt
  by_call (Some c) h = h

  by_only : (i : Item P E) (ws : List (List ℕ)) → CheapItem i → CheapSome (only i ws)
  by_only i [] h = h
  by_only i (w ∷ ws) h = tt

  load_cheap : (text : List ℕ) (vs : List Piece) → CheapItem (load_said {P = P} {E = E} text vs)
  load_cheap text [] = tt
  load_cheap text (v ∷ vs) = tt

  item_cheap : (first : First) (text : List ℕ) (vs : List Piece) → CheapSome (item_said S first text vs)
  item_cheap Patterns text vs = by_map patterns (S.patterns (word_texts vs)) (λ x. tt)
  item_cheap Offer text vs = by_call (offer_said (word_texts vs)) (offer_cheap (word_texts vs))
  item_cheap Load text vs = load_cheap text vs
  item_cheap Strike text vs = by_only (a_book_call a_strike) (word_texts vs) tt
  item_cheap Weights text vs = by_map weights (one_number 4210688 (word_texts vs)) (λ x. tt)
  item_cheap Nodes text vs = by_map nodes (one_number 65536 (word_texts vs)) (λ x. tt)
  item_cheap Feed text vs = by_map (λ e. a_chart_line (a_call (a_feed e))) (S.event (word_texts vs)) (λ x. tt)
  item_cheap Withdraw text vs = by_map (λ k. a_chart_line (a_call (a_withdraw k))) (one_number 4294967295 (word_texts vs)) (λ x. tt)
  item_cheap Total text vs = by_only (a_chart_line a_total) (word_texts vs) tt
  item_cheap Reading text vs = by_only (a_chart_line a_reading) (word_texts vs) tt

  or_cheap : (o : Option (Item P E)) → CheapSome o → CheapSaid (ok_or (option_map Some o) OtherWords)
  or_cheap None h = tt
  or_cheap (Some i) h = h

  kind_cheap : (k : Option First) (text : List ℕ) (vs : List Piece) → CheapSaid (kind_said S k text vs)
  kind_cheap None text vs = tt
  kind_cheap (Some first) text vs = or_cheap (item_said S first text vs) (item_cheap first text vs)

  words_cheap : (text : List ℕ) (ws : List Piece) → CheapSaid (words_say S text ws)
  words_cheap text [] = tt
  words_cheap text (v ∷ vs) = kind_cheap (first_of S.name v.bytes) text vs

  line_cheap : (w : List ℕ) → CheapSaid (line_said S w)
  unfolding line_said
  line_cheap w = words_cheap w (words 0 w)

  said_cheap : (w : List ℕ) (i : Item P E) → Says S w i → CheapItem i
  said_cheap w i e = subst CheapSaid e (line_cheap w)

  one_cheap : (s : Script P E) (i : Item P E) → AllCheap s.book → CheapItem i → AllCheap (with_item s i).book
  one_cheap s (patterns ps) h c = h
  one_cheap s (a_book_call x) h c = λ y m. elim (mem_append y s.book (x ∷ []) m) [
    | inl k ↦ h y k
    | inr (inl e) ↦ subst Cheap (sym e) c
    | inr (inr k) ↦ absurd k
  ]
  one_cheap s rules_follow h c = h
  one_cheap s (weights n) h c = h
  one_cheap s (nodes n) h c = h
  one_cheap s (a_chart_line l) h c = h

  pub all_cheap : {ws : List (List ℕ)} {is : List (Item P E)} → ItemsAre S ws is → (s t : Script P E) → Follows s is t → AllCheap s.book → AllCheap t.book
  all_cheap none s t f h = subst (λ (q : Script P E). AllCheap q.book) (sym f) h
  all_cheap (blank w ws is e a) s t f h = all_cheap a s t f h
  all_cheap (line w ws i is e o a) s t f h = all_cheap a (with_item s i) t f.1 (one_cheap s i h (said_cheap w i e))
  all_cheap (load w rs ws is e n a) s t f h = all_cheap a (with_item s (a_book_call (a_load _))) t f.1 (one_cheap s (a_book_call (a_load _)) h tt)
