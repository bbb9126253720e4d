-- What one line of a script says, by its words.
use Rattle.std.specs.Prelude.{◌↔◌, IfSome, codes, option_map, option_and_then, ok_or}
use Rattle.std.proofs.Common.{◌≡◌, ℕ, ◌≤◌, cond, ◌&&◌, leb, List, [], ◌∷◌, Some, None, Ok, Err, Option, sym, refl, ap, ◌∙◌, subst, inl, inr, arith}
use Rattle.std.proofs.lemmas.Bool.{cond_both, cond-true, le-leb}
use Rattle.grammar.specs.Lists.{Mem, same_numbers}
use Rattle.text.specs.Numbers.{all_digits, said_number}
use Rattle.text.specs.Words.{Piece, words}
use Rattle.book.specs.Runs.{an_offer, a_load, a_strike}
use Rattle.chart.specs.Runs.{a_feed, a_withdraw}
use Rattle.programs.specs.Scripts.{a_call, a_total, a_reading}
use Rattle.programs.specs.Spelling.{Spelling, bytes_spelling, cards_spelling, word_texts, number_said, first_number, by_number, only, numbers_said}
use Rattle.programs.specs.ScriptLines.{Item, patterns, a_book_call, rules_follow, weights, nodes, a_chart_line, first_of, one_number, offer_said, load_said, item_said, kind_said, words_say, line_said}
use Rattle.programs.specs.ScriptMeans.{SaysNumber, SayNumbers, OneNumber, WordsSay, first_words, BeginsUnknown}
use Rattle.programs.proofs.ScriptLaw.{same_is}
use Rattle.programs.proofs.ScriptCosts.{number_within}
use Rattle.programs.specs.declared.script.fault.Cause.TheVariants.{UnknownLine, OtherWords}
use Rattle.programs.specs.declared.script.said.First.{First}
use Rattle.programs.specs.declared.script.said.First.TheVariants.{Patterns, Offer, Load, Strike, Weights, Nodes, Feed, Withdraw, Total, Reading}

-- Numbers

number_is : (limit : ℕ) (w : List ℕ) (n : ℕ) → SaysNumber limit w n → number_said limit w ≡ Some n
unfolding number_said
number_is limit w n (d, e, l) =
    let low : said_number w ≤ limit = omega (arith, e, l) in
    cond-true (all_digits w && leb (said_number w) limit) (Some (said_number w)) None (ap (λ b. b && leb (said_number w) limit) d ∙ le-leb (said_number w) limit low) ∙ ap Some e

numbers_are : (limit : ℕ) (ws : List (List ℕ)) (ns : List ℕ) → SayNumbers limit ws ns → numbers_said limit ws ≡ Some ns
unfolding numbers_said
numbers_are limit [] [] h = refl
numbers_are limit [] (n ∷ ns) h = absurd h
numbers_are limit (w ∷ ws) [] h = absurd h
numbers_are limit (w ∷ ws) (n ∷ ns) (a, b) =
    ap (option_and_then (λ m. option_map (λ (ms : List ℕ). m ∷ ms) (numbers_said limit ws))) (number_is limit w n a) ∙ ap (option_map (λ (ms : List ℕ). n ∷ ms)) (numbers_are limit ws ns b)

numbers_say : (limit : ℕ) (ws : List (List ℕ)) → IfSome (numbers_said limit ws) (SayNumbers limit ws)
unfolding numbers_said
numbers_say limit [] = tt
numbers_say limit (w ∷ ws) = by_first (numbers_say limit ws) (number_said limit w) refl
  where
    by_rest : (n : ℕ) → SaysNumber limit w n → (o : Option (List ℕ)) → IfSome o (SayNumbers limit ws) → IfSome (option_map (λ (ms : List ℕ). n ∷ ms) o) (SayNumbers limit (w ∷ ws))
    by_rest n a None h = tt
    by_rest n a (Some ms) h = (a, h)

    by_first : IfSome (numbers_said limit ws) (SayNumbers limit ws) → (o : Option ℕ) → number_said limit w ≡ o
        → IfSome (option_and_then (λ m. option_map (λ (ms : List ℕ). m ∷ ms) (numbers_said limit ws)) o) (SayNumbers limit (w ∷ ws))
    by_first h None e = tt
    by_first h (Some n) e = by_rest n (number_within limit w n e) (numbers_said limit ws) h

-- what f gives by the number of the first word
by_first_is : {A : Type 0} (limit : ℕ) (f : ℕ → List (List ℕ) → Option A) (w : List ℕ) (ws : List (List ℕ)) (n : ℕ) → SaysNumber limit w n → by_number limit f (w ∷ ws) ≡ f n ws
unfolding first_number
by_first_is limit f w ws n h = ap (λ o. option_and_then (λ (p : ℕ × List (List ℕ)). f p.0 p.1) (option_map (λ m. (m, ws)) o)) (number_is limit w n h)

by_says : {A : Type 0} (limit : ℕ) (f : ℕ → List (List ℕ) → Option A) (R : A → Type 0) (vs : List (List ℕ))
    → ((w : List ℕ) (ws : List (List ℕ)) (n : ℕ) → vs ≡ w ∷ ws → SaysNumber limit w n → IfSome (f n ws) R) → IfSome (by_number limit f vs) R
unfolding first_number
by_says limit f R [] h = tt
by_says limit f R (w ∷ ws) h = by_said (number_said limit w) refl
  where
    by_said : (o : Option ℕ) → number_said limit w ≡ o → IfSome (option_and_then (λ (p : ℕ × List (List ℕ)). f p.0 p.1) (option_map (λ m. (m, ws)) o)) R
    by_said None e = tt
    by_said (Some n) e = h w ws n refl (number_within limit w n e)

one_is : (limit : ℕ) (ws : List (List ℕ)) (n : ℕ) → OneNumber limit ws n → one_number limit ws ≡ Some n
one_is limit ws n (w, e, h) = ap (one_number limit) e ∙ by_first_is limit only w [] n h

one_says : (limit : ℕ) (ws : List (List ℕ)) → IfSome (one_number limit ws) (OneNumber limit ws)
one_says limit ws = by_says limit only (OneNumber limit ws) ws (λ w vs n e h. alone w vs n e h)
  where
    alone : (w : List ℕ) (vs : List (List ℕ)) (n : ℕ) → ws ≡ w ∷ vs → SaysNumber limit w n → IfSome (only n vs) (OneNumber limit ws)
    alone w [] n e h = (w, e, h)
    alone w (v ∷ vs) n e h = tt

-- The first word

-- the first word of a line of each kind
abbrev word_of : List ℕ → First → List ℕ
word_of name Patterns = name
word_of name Offer = codes "offer"
word_of name Load = codes "load"
word_of name Strike = codes "strike"
word_of name Weights = codes "weights"
word_of name Nodes = codes "nodes"
word_of name Feed = codes "feed"
word_of name Withdraw = codes "withdraw"
word_of name Total = codes "total"
word_of name Reading = codes "reading"

-- it tells the kinds apart
abbrev pub Apart : List ℕ → Type 0
Apart name = (k : First) → first_of name (word_of name k) ≡ Some k

pub bytes_apart : Apart bytes_spelling.name
unfolding first_of
bytes_apart Patterns = refl
bytes_apart Offer = refl
bytes_apart Load = refl
bytes_apart Strike = refl
bytes_apart Weights = refl
bytes_apart Nodes = refl
bytes_apart Feed = refl
bytes_apart Withdraw = refl
bytes_apart Total = refl
bytes_apart Reading = refl

pub cards_apart : Apart cards_spelling.name
unfolding first_of
cards_apart Patterns = refl
cards_apart Offer = refl
cards_apart Load = refl
cards_apart Strike = refl
cards_apart Weights = refl
cards_apart Nodes = refl
cards_apart Feed = refl
cards_apart Withdraw = refl
cards_apart Total = refl
cards_apart Reading = refl

-- one test more
first_or_later : (w v : List ℕ) (k : First) (Q : Option First → Type 0) (o : Option First) → (w ≡ v → Q (Some k)) → Q o → Q (cond (same_numbers w v) (Some k) o)
first_or_later w v k Q o a b = cond_both (same_numbers w v) (Some k) o Q (λ t. a (same_is w v t)) (λ f. b)

first_is : (name w : List ℕ) → IfSome (first_of name w) (λ k. w ≡ word_of name k)
unfolding first_of
first_is name w =
    let Q : Option First → Type 0 = λ o. IfSome o (λ k. w ≡ word_of name k) in
    first_or_later w name Patterns Q _ (λ e. e) (
    first_or_later w (codes "offer") Offer Q _ (λ e. e) (
    first_or_later w (codes "load") Load Q _ (λ e. e) (
    first_or_later w (codes "strike") Strike Q _ (λ e. e) (
    first_or_later w (codes "weights") Weights Q _ (λ e. e) (
    first_or_later w (codes "nodes") Nodes Q _ (λ e. e) (
    first_or_later w (codes "feed") Feed Q _ (λ e. e) (
    first_or_later w (codes "withdraw") Withdraw Q _ (λ e. e) (
    first_or_later w (codes "total") Total Q _ (λ e. e) (
    first_or_later w (codes "reading") Reading Q None (λ e. e) tt)))))))))

-- Lines

-- the words of a text that begins with a word
first_at : (ws : List Piece) (name : List ℕ) (vs : List (List ℕ)) → word_texts ws ≡ name ∷ vs → (v : Piece) × ((us : List Piece) × (ws ≡ v ∷ us) × (v.bytes ≡ name) × (word_texts us ≡ vs))
first_at [] name vs e = absurd cc
first_at (v ∷ us) name vs e =
    let a : v.bytes ≡ name = cc in
    let b : word_texts us ≡ vs = cc in
    (v, (us, refl, a, b))

for_map : {A B : Type 0} (f : A → B) (R : B → Type 0) (o : Option A) → ((x : A) → o ≡ Some x → R (f x)) → IfSome (option_map f o) R
for_map f R None h = tt
for_map f R (Some x) h = h x refl

if_at : {A : Type 0} (R : A → Type 0) (o : Option A) (x : A) → IfSome o R → o ≡ Some x → R x
if_at R o x h e = subst (λ q. IfSome q R) e h

for_only : {A : Type 0} (R : A → Type 0) (x : A) (vs : List (List ℕ)) → (vs ≡ [] → R x) → IfSome (only x vs) R
for_only R x [] h = h refl
for_only R x (v ∷ vs) h = tt

module _ {P E : Type 0} (S : Spelling P E) (text : List ℕ) where
  module _ (v : Piece) (us : List Piece) where
    abbrev vs : List (List ℕ)
    vs = word_texts us

    abbrev R : Item P E → Type 0
    R i = WordsSay S text (v ∷ us) i

    module _ (name : List ℕ) (e : v.bytes ≡ name) where
      begin : word_texts (v ∷ us) ≡ name ∷ vs
      begin = ap (λ b. b ∷ vs) e

      begin_at : (rest : List (List ℕ)) → vs ≡ rest → word_texts (v ∷ us) ≡ name ∷ rest
      begin_at rest f = begin ∙ ap (λ l. name ∷ l) f

    load_words : v.bytes ≡ codes "load" → R (load_said text us)
    load_words e = by_words us refl
      where
        by_words : (xs : List Piece) → us ≡ xs → R (load_said text xs)
        by_words [] f = ap (λ b. b ∷ vs) e ∙ ap (λ l. codes "load" ∷ word_texts l) f
        by_words (u ∷ xs) f = (v, (u, (xs, ap (λ l. v ∷ l) f, e, refl)))

    offer_words : v.bytes ≡ codes "offer" → IfSome (offer_said vs) (λ c. R (a_book_call c))
    offer_words e =
        by_says 255 (λ head. by_number 65535 (λ cost ws. option_map (λ items. an_offer head items cost) (numbers_said 255 ws))) (λ c. R (a_book_call c)) vs (λ h ws head f a.
        by_says 65535 (λ cost is. option_map (λ items. an_offer head items cost) (numbers_said 255 is)) (λ c. R (a_book_call c)) ws (λ c is cost g b.
        for_map (λ items. an_offer head items cost) (λ c. R (a_book_call c)) (numbers_said 255 is) (λ items k.
        (h, (c, (is, begin_at (codes "offer") e (h ∷ (c ∷ is)) (f ∙ ap (λ l. h ∷ l) g), a, b, if_at (SayNumbers 255 is) (numbers_said 255 is) items (numbers_say 255 is) k))))))

    item_words : (k : First) → v.bytes ≡ word_of S.name k → IfSome (item_said S k text us) R
    item_words Patterns e = for_map patterns R (S.patterns vs) (λ ps q. (vs, begin S.name e, q))
    item_words Offer e = for_map a_book_call R (offer_said vs) (λ c q. if_at (λ x. R (a_book_call x)) (offer_said vs) c (offer_words e) q)
    item_words Load e = load_words e
    item_words Strike e = for_only R (a_book_call a_strike) vs (λ f. begin_at (codes "strike") e [] f)
    item_words Weights e = for_map weights R (one_number 4210688 vs) (λ n q. (vs, begin (codes "weights") e, if_at (OneNumber 4210688 vs) (one_number 4210688 vs) n (one_says 4210688 vs) q))
    item_words Nodes e = for_map nodes R (one_number 65536 vs) (λ n q. (vs, begin (codes "nodes") e, if_at (OneNumber 65536 vs) (one_number 65536 vs) n (one_says 65536 vs) q))
    item_words Feed e = for_map (λ x. a_chart_line (a_call (a_feed x))) R (S.event vs) (λ x q. (vs, begin (codes "feed") e, q))
    item_words Withdraw e = for_map (λ k. a_chart_line (a_call (a_withdraw k))) R (one_number 4294967295 vs) (λ n q. (vs, begin (codes "withdraw") e, if_at (OneNumber 4294967295 vs) (one_number 4294967295 vs) n (one_says 4294967295 vs) q))
    item_words Total e = for_only R (a_chart_line a_total) vs (λ f. begin_at (codes "total") e [] f)
    item_words Reading e = for_only R (a_chart_line a_reading) vs (λ f. begin_at (codes "reading") e [] f)

    kind_words : (k : Option First) → IfSome k (λ f. v.bytes ≡ word_of S.name f) → (i : Item P E) → kind_said S k text us ≡ Ok (Some i) → R i
    kind_words None h i e = absurd cc
    kind_words (Some f) h i e = by_item (item_said S f text us) (item_words f h) e
      where
        by_item : (o : Option (Item P E)) → IfSome o R → ok_or (option_map Some o) OtherWords ≡ Ok (Some i) → R i
        by_item None g q = absurd cc
        by_item (Some j) g q = let s : j ≡ i = cc in subst R s g

  -- what is read of the words they say
  words_said : (ws : List Piece) (i : Item P E) → words_say S text ws ≡ Ok (Some i) → WordsSay S text ws i
  words_said [] i e = absurd cc
  words_said (v ∷ us) i e = kind_words v us (first_of S.name v.bytes) (first_is S.name v.bytes) i e

  -- a line of a kind that begins with its word
  of_kind : (ws : List Piece) (k : First) (vs : List (List ℕ)) (i : Item P E) → Apart S.name → word_texts ws ≡ word_of S.name k ∷ vs
      → ((v : Piece) (us : List Piece) → ws ≡ v ∷ us → word_texts us ≡ vs → item_said S k text us ≡ Some i) → words_say S text ws ≡ Ok (Some i)
  of_kind ws k vs i apart e h =
      let p = first_at ws (word_of S.name k) vs e in
      ap (words_say S text) p.1.1 ∙ ap (λ o. kind_said S o text p.1.0) (ap (first_of S.name) p.1.2 ∙ apart k) ∙ ap (λ o. ok_or (option_map Some o) OtherWords) (h p.0 p.1.0 p.1.1 p.1.3)

  words_are_said : Apart S.name → (ws : List Piece) (i : Item P E) → WordsSay S text ws i → words_say S text ws ≡ Ok (Some i)
  words_are_said apart ws (patterns ps) (vs, e, q) = of_kind ws Patterns vs (patterns ps) apart e (λ v us _ f. ap (option_map patterns) (ap S.patterns f ∙ q))
  words_are_said apart ws (a_book_call (an_offer head items cost)) (h, (c, (is, e, a, b, d))) = of_kind ws Offer (h ∷ (c ∷ is)) (a_book_call (an_offer head items cost)) apart e (λ v us _ f.
      ap (λ l. option_map a_book_call (offer_said l)) f
      ∙ ap (option_map a_book_call) (by_first_is 255 (λ hd. by_number 65535 (λ ct ws. option_map (λ ns. an_offer hd ns ct) (numbers_said 255 ws))) h (c ∷ is) head a
      ∙ by_first_is 65535 (λ ct ws. option_map (λ ns. an_offer head ns ct) (numbers_said 255 ws)) c is cost b ∙ ap (option_map (λ ns. an_offer head ns cost)) (numbers_are 255 is items d)))
  words_are_said apart ws (a_book_call (a_load rule)) (v, (u, (us, e, b, r))) =
      ap (words_say S text) e ∙ ap (λ o. kind_said S o text (u ∷ us)) (ap (first_of S.name) b ∙ apart Load) ∙ ap (λ t. Ok (Some (a_book_call (a_load t)))) (sym r)
  words_are_said apart ws (a_book_call a_strike) e = of_kind ws Strike [] (a_book_call a_strike) apart e (λ v us _ f. ap (only (a_book_call a_strike)) f)
  words_are_said apart ws rules_follow e = of_kind ws Load [] rules_follow apart e (λ v us _ f. no_more us f)
    where
      no_more : (us : List Piece) → word_texts us ≡ [] → item_said S Load text us ≡ Some rules_follow
      no_more [] f = refl
      no_more (u ∷ us) f = absurd cc
  words_are_said apart ws (weights n) (vs, e, q) = of_kind ws Weights vs (weights n) apart e (λ v us _ f. ap (λ l. option_map weights (one_number 4210688 l)) f ∙ ap (option_map weights) (one_is 4210688 vs n q))
  words_are_said apart ws (nodes n) (vs, e, q) = of_kind ws Nodes vs (nodes n) apart e (λ v us _ f. ap (λ l. option_map nodes (one_number 65536 l)) f ∙ ap (option_map nodes) (one_is 65536 vs n q))
  words_are_said apart ws (a_chart_line (a_call (a_feed x))) (vs, e, q) = of_kind ws Feed vs (a_chart_line (a_call (a_feed x))) apart e (λ v us _ f. ap (option_map (λ y. a_chart_line (a_call (a_feed y)))) (ap S.event f ∙ q))
  words_are_said apart ws (a_chart_line (a_call (a_withdraw k))) (vs, e, q) = of_kind ws Withdraw vs (a_chart_line (a_call (a_withdraw k))) apart e (λ v us _ f.
      ap (λ l. option_map (λ n. a_chart_line (a_call (a_withdraw n))) (one_number 4294967295 l)) f ∙ ap (option_map (λ n. a_chart_line (a_call (a_withdraw n)))) (one_is 4294967295 vs k q))
  words_are_said apart ws (a_chart_line a_total) e = of_kind ws Total [] (a_chart_line a_total) apart e (λ v us _ f. ap (only (a_chart_line a_total)) f)
  words_are_said apart ws (a_chart_line a_reading) e = of_kind ws Reading [] (a_chart_line a_reading) apart e (λ v us _ f. ap (only (a_chart_line a_reading)) f)

module _ {P E : Type 0} (S : Spelling P E) where
  pub line_law : Apart S.name → (w : List ℕ) (i : Item P E) → WordsSay S w (words 0 w) i ↔ (line_said S w ≡ Ok (Some i))
  unfolding line_said
  line_law apart w i = (words_are_said S w apart (words 0 w) i, words_said S w (words 0 w) i)

  kind_some : (k : Option First) (text : List ℕ) (us : List Piece) → kind_said S k text us ≡ Ok None → ⊥
  kind_some None text us e = absurd cc
  kind_some (Some f) text us e = by_item (item_said S f text us) e
    where
      by_item : (o : Option (Item P E)) → ok_or (option_map Some o) OtherWords ≡ Ok None → ⊥
      by_item None q = absurd cc
      by_item (Some j) q = absurd cc

  none_words : (text : List ℕ) (ws : List Piece) → words_say S text ws ≡ Ok None → ws ≡ []
  none_words text [] e = refl
  none_words text (v ∷ us) e = absurd (kind_some (first_of S.name v.bytes) text us e)

  pub none_law : (w : List ℕ) → (words 0 w ≡ []) ↔ (line_said S w ≡ Ok None)
  unfolding line_said
  none_law w = (λ e. ap (words_say S w) e, none_words w (words 0 w))

-- Unknown first words

word_mem : (name : List ℕ) (k : First) → Mem (word_of name k) (first_words name)
word_mem name Patterns = inl refl
word_mem name Offer = inr (inl refl)
word_mem name Load = inr (inr (inl refl))
word_mem name Strike = inr (inr (inr (inl refl)))
word_mem name Weights = inr (inr (inr (inr (inl refl))))
word_mem name Nodes = inr (inr (inr (inr (inr (inl refl)))))
word_mem name Feed = inr (inr (inr (inr (inr (inr (inl refl))))))
word_mem name Withdraw = inr (inr (inr (inr (inr (inr (inr (inl refl)))))))
word_mem name Total = inr (inr (inr (inr (inr (inr (inr (inr (inl refl))))))))
word_mem name Reading = inr (inr (inr (inr (inr (inr (inr (inr (inr (inl refl)))))))))

mem_word : (name w : List ℕ) → Mem w (first_words name) → (k : First) × (w ≡ word_of name k)
mem_word name w (inl e) = (Patterns, e)
mem_word name w (inr (inl e)) = (Offer, e)
mem_word name w (inr (inr (inl e))) = (Load, e)
mem_word name w (inr (inr (inr (inl e)))) = (Strike, e)
mem_word name w (inr (inr (inr (inr (inl e))))) = (Weights, e)
mem_word name w (inr (inr (inr (inr (inr (inl e)))))) = (Nodes, e)
mem_word name w (inr (inr (inr (inr (inr (inr (inl e))))))) = (Feed, e)
mem_word name w (inr (inr (inr (inr (inr (inr (inr (inl e)))))))) = (Withdraw, e)
mem_word name w (inr (inr (inr (inr (inr (inr (inr (inr (inl e))))))))) = (Total, e)
mem_word name w (inr (inr (inr (inr (inr (inr (inr (inr (inr (inl e)))))))))) = (Reading, e)
mem_word name w (inr (inr (inr (inr (inr (inr (inr (inr (inr (inr m)))))))))) = absurd m

module _ {P E : Type 0} (S : Spelling P E) (apart : Apart S.name) (text : List ℕ) where
  kind_none : (k : Option First) (us : List Piece) → kind_said S k text us ≡ Err UnknownLine → k ≡ None
  kind_none None us e = refl
  kind_none (Some f) us e = by_item (item_said S f text us) e
    where
      by_item : (o : Option (Item P E)) → ok_or (option_map Some o) OtherWords ≡ Err UnknownLine → Some f ≡ None
      by_item None q = absurd cc
      by_item (Some j) q = absurd cc

  first_none : (w : List ℕ) → (Mem w (first_words S.name) → ⊥) → first_of S.name w ≡ None
  first_none w n = by_first (first_of S.name w) refl (first_is S.name w)
    where
      by_first : (o : Option First) → first_of S.name w ≡ o → IfSome o (λ k. w ≡ word_of S.name k) → first_of S.name w ≡ None
      by_first None e h = e
      by_first (Some k) e h = absurd (n (subst (λ x. Mem x (first_words S.name)) (sym h) (word_mem S.name k)))

  first_unknown : (w : List ℕ) → first_of S.name w ≡ None → Mem w (first_words S.name) → ⊥
  first_unknown w e m =
      let p = mem_word S.name w m in
      let s : first_of S.name w ≡ Some p.0 = ap (first_of S.name) p.1 ∙ apart p.0 in
      absurd cc

  unknown_said : (ws : List Piece) → words_say S text ws ≡ Err UnknownLine → BeginsUnknown S.name ws
  unknown_said [] e = absurd cc
  unknown_said (v ∷ us) e = (v, (us, refl, first_unknown v.bytes (kind_none (first_of S.name v.bytes) us e)))

  said_unknown : (ws : List Piece) → BeginsUnknown S.name ws → words_say S text ws ≡ Err UnknownLine
  said_unknown ws (v, (us, e, n)) = ap (words_say S text) e ∙ ap (λ k. kind_said S k text us) (first_none v.bytes n)

pub unknown_law : {P E : Type 0} (S : Spelling P E) → Apart S.name → (w : List ℕ) → BeginsUnknown S.name (words 0 w) ↔ (line_said S w ≡ Err UnknownLine)
unfolding line_said
unknown_law S apart w = (said_unknown S apart w (words 0 w), unknown_said S apart w (words 0 w))
