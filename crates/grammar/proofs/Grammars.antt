-- A nonterminal is rewritten to letters that the events fit exactly if a derivation tree derives them: for any grammar, for a book's
-- productions, and for binarised or strict rules.
use Rattle.std.proofs.Common.{◌≡◌, ℕ, zero, suc, ◌-◌, ◌<◌, ◌≤◌, Bool, true, ◌↔◌, List, [], ◌∷◌, ◌++◌, map, length, get_or, sym, refl, ap, ◌∙◌, subst, inl, inr, append_assoc, append-nil, arith}
use Rattle.std.proofs.lemmas.Bool.{cases_lt, lt-ltb, le-ltb}
use Rattle.grammar.specs.Lists.{Mem}
use Rattle.grammar.specs.Productions.{Production, Book, Numbers, production, right_of}
use Rattle.grammar.specs.Binarised.{Right, empty, unit, binary, terminal, rule, Binarised, Has, Tree, null, over, fork, leaf, Derives, by_empty, by_unit, by_binary, by_terminal}
use Rattle.grammar.specs.Readings.{Reading, Parts, node, no_part, event, part, Reads, by_rule, Along, at_end, at_event, at_part}
use Rattle.grammar.specs.Grammars.{Symbol, nonterminal, letter, Grammar, Step, Steps, no_step, steps_on, Fit, Generates, item_symbol, book_grammar, right_symbols, rules_grammar}
use Rattle.grammar.proofs.Short.{written_production, rule_production}
use Rattle.grammar.proofs.Lists.{mem_map, map_mem}
use Rattle.grammar.proofs.BinarisedRules.{production_mem}

-- the symbols α yield the events w, production by production
pub data Yields (G : Grammar) {E : Type 0} (fits : E → ℕ → Bool) : List Symbol → List E → Type 0 where
  yields_nothing : Yields G fits [] []
  yields_event : {t : ℕ} {α : List Symbol} {e : E} {w : List E} → fits e t ≡ true → Yields G fits α w → Yields G fits (letter t ∷ α) (e ∷ w)
  yields_by : {x : ℕ} {β α : List Symbol} {u v w : List E} → Mem (x, β) G.productions → Yields G fits β u → Yields G fits α v → u ++ v ≡ w
      → Yields G fits (nonterminal x ∷ α) w

module _ (G : Grammar) {E : Type 0} (fits : E → ℕ → Bool) where
  yields_append : {α β : List Symbol} {u v : List E} → Yields G fits α u → Yields G fits β v → Yields G fits (α ++ β) (u ++ v)
  yields_append yields_nothing d = d
  yields_append (yields_event f a) d = yields_event f (yields_append a d)
  yields_append {v = v} (yields_by {u = u} {v = v'} m b a e) d = yields_by m b (yields_append a d) (sym (append_assoc u v' v) ∙ ap (λ z. z ++ v) e)

  -- what two rows of symbols yield is cut between them
  record CutInTwo (α β : List Symbol) (w : List E) : Type 0 where
    one : List E
    two : List E
    from_one : Yields G fits α one
    from_two : Yields G fits β two
    whole : one ++ two ≡ w

  yields_cut : (α : List Symbol) {β : List Symbol} {w : List E} → Yields G fits (α ++ β) w → CutInTwo α β w
  yields_cut [] {w = w} d = record { one = []; two = w; from_one = yields_nothing; from_two = d; whole = refl }
  yields_cut (letter t ∷ α) (yields_event {e = e} f d) = let k = yields_cut α d in
      record { one = e ∷ k.one; two = k.two; from_one = yields_event f k.from_one; from_two = k.from_two; whole = ap (λ z. e ∷ z) k.whole }
  yields_cut (nonterminal x ∷ α) (yields_by {u = u} m b a e) = let k = yields_cut α a in
      record {
        one = u ++ k.one;
        two = k.two;
        from_one = yields_by m b k.from_one refl;
        from_two = k.from_two;
        whole = append_assoc u k.one k.two ∙ ap (λ z. u ++ z) k.whole ∙ e;
      }

  step_back : {α β : List Symbol} {w : List E} → Step G α β → Yields G fits β w → Yields G fits α w
  step_back {w = w} s d =
      let k = yields_cut s.before (subst (λ γ. Yields G fits γ w) s.to d) in
      let j = yields_cut s.right k.from_two in
      subst (λ γ. Yields G fits γ w) (sym s.from) (subst (Yields G fits (s.before ++ (nonterminal s.left ∷ s.after))) k.whole
      (yields_append k.from_one (yields_by s.production j.from_one j.from_two j.whole)))

  steps_back : {α β : List Symbol} {w : List E} → Steps G α β → Yields G fits β w → Yields G fits α w
  steps_back no_step d = d
  steps_back (steps_on s r) d = step_back s (steps_back r d)

  letters_yield : (ts : List ℕ) (w : List E) → Fit fits ts w → Yields G fits (map letter ts) w
  letters_yield [] [] f = yields_nothing
  letters_yield [] (e ∷ w) f = absurd f
  letters_yield (t ∷ ts) [] f = absurd f
  letters_yield (t ∷ ts) (e ∷ w) f = yields_event f.0 (letters_yield ts w f.1)

  fit_append : (ts : List ℕ) (u : List E) (us : List ℕ) (v : List E) → Fit fits ts u → Fit fits us v → Fit fits (ts ++ us) (u ++ v)
  fit_append [] [] us v f g = g
  fit_append [] (e ∷ u) us v f g = absurd f
  fit_append (t ∷ ts) [] us v f g = absurd f
  fit_append (t ∷ ts) (e ∷ u) us v f g = (f.0, fit_append ts u us v f.1 g)

-- steps within a longer row

before_step : (G : Grammar) (γ : List Symbol) {α β : List Symbol} → Step G α β → Step G (γ ++ α) (γ ++ β)
before_step G γ s = record {
  before = γ ++ s.before;
  left = s.left;
  right = s.right;
  after = s.after;
  production = s.production;
  from = ap (λ z. γ ++ z) s.from ∙ sym (append_assoc γ s.before (nonterminal s.left ∷ s.after));
  to = ap (λ z. γ ++ z) s.to ∙ sym (append_assoc γ s.before (s.right ++ s.after));
}

after_step : (G : Grammar) (γ : List Symbol) {α β : List Symbol} → Step G α β → Step G (α ++ γ) (β ++ γ)
after_step G γ s = record {
  before = s.before;
  left = s.left;
  right = s.right;
  after = s.after ++ γ;
  production = s.production;
  from = ap (λ z. z ++ γ) s.from ∙ append_assoc s.before (nonterminal s.left ∷ s.after) γ;
  to = ap (λ z. z ++ γ) s.to ∙ append_assoc s.before (s.right ++ s.after) γ ∙ ap (λ z. s.before ++ z) (append_assoc s.right s.after γ);
}

before_steps : (G : Grammar) (γ : List Symbol) {α β : List Symbol} → Steps G α β → Steps G (γ ++ α) (γ ++ β)
before_steps G γ no_step = no_step
before_steps G γ (steps_on s r) = steps_on (before_step G γ s) (before_steps G γ r)

after_steps : (G : Grammar) (γ : List Symbol) {α β : List Symbol} → Steps G α β → Steps G (α ++ γ) (β ++ γ)
after_steps G γ no_step = no_step
after_steps G γ (steps_on s r) = steps_on (after_step G γ s) (after_steps G γ r)

steps_then : {G : Grammar} {α β γ : List Symbol} → Steps G α β → Steps G β γ → Steps G α γ
steps_then no_step r = r
steps_then (steps_on s q) r = steps_on s (steps_then q r)

map_letters : (ts us : List ℕ) → map letter ts ++ map letter us ≡ map letter (ts ++ us)
map_letters [] us = refl
map_letters (t ∷ ts) us = ap (λ z. letter t ∷ z) (map_letters ts us)

-- what is yielded is reached by rewriting
record ReachedWord (G : Grammar) {E : Type 0} (fits : E → ℕ → Bool) (α : List Symbol) (w : List E) : Type 0 where
  word : List ℕ
  rewritten : Steps G α (map letter word)
  fit : Fit fits word w

reach : (G : Grammar) {E : Type 0} (fits : E → ℕ → Bool) {α : List Symbol} {w : List E} → Yields G fits α w → ReachedWord G fits α w
reach G fits yields_nothing = record { word = []; rewritten = no_step; fit = tt }
reach G fits (yields_event {t = t} f d) = let k = reach G fits d in
    record { word = t ∷ k.word; rewritten = before_steps G (letter t ∷ []) k.rewritten; fit = (f, k.fit) }
reach G fits (yields_by {x = x} {β = β} {α = α} {u = u} {v = v} m b a e) =
    let k = reach G fits b in let j = reach G fits a in
    record {
      word = k.word ++ j.word;
      rewritten = steps_on (record { before = []; left = x; right = β; after = α; production = m; from = refl; to = refl })
          (steps_then (after_steps G α k.rewritten)
          (subst (Steps G (map letter k.word ++ α)) (map_letters k.word j.word) (before_steps G (map letter k.word) j.rewritten)));
      fit = subst (Fit fits (k.word ++ j.word)) e (fit_append G fits k.word u j.word v k.fit j.fit);
    }

-- rewriting and yielding are the same
pub generates_yields : (G : Grammar) {E : Type 0} (fits : E → ℕ → Bool) (x : ℕ) (w : List E) → Generates G fits x w ↔ Yields G fits (nonterminal x ∷ []) w
generates_yields G fits x w = (
  (λ g. steps_back G fits g.rewritten (letters_yield G fits g.word w g.fit)),
  (λ d. let k = reach G fits d in record { word = k.word; rewritten = k.rewritten; fit = k.fit }),
)

-- a nonterminal alone yields what one of its productions yields
pub record ByProduction (G : Grammar) {E : Type 0} (fits : E → ℕ → Bool) (x : ℕ) (w : List E) : Type 0 where
  pub side : List Symbol
  pub is_one : Mem (x, side) G.productions
  pub yields : Yields G fits side w

alone : (G : Grammar) {E : Type 0} (fits : E → ℕ → Bool) {x : ℕ} {w : List E} → ByProduction G fits x w → Yields G fits (nonterminal x ∷ []) w
alone G fits {w = w} k = yields_by k.is_one k.yields yields_nothing (append-nil w)

-- the book's productions

pub item_head : (y : ℕ) → y < 32 → item_symbol y ≡ nonterminal y
item_head y l = rw (lt-ltb y 32 l)

pub item_pattern : (y : ℕ) → 32 ≤ y → item_symbol y ≡ letter (y - 32)
item_pattern y l = rw (le-ltb y 32 l)

get_d_index : {A : Type 0} (xs : List A) (a d : A) → Mem a xs → (n : ℕ) × (n < length xs) × (get_or xs n d ≡ a)
get_d_index [] a d m = absurd m
get_d_index (x ∷ xs) a d (inl e) = (zero, omega arith, sym e)
get_d_index (x ∷ xs) a d (inr m) = let k = get_d_index xs a d m in (suc k.0, (let l = k.1 in omega arith), k.2)

production_index : (W : Book) (p : Production) → Mem p W.productions → (n : ℕ) × Numbers W n × (production W n ≡ p)
unfolding production
production_index W p m = get_d_index W.productions p _ m

module _ (W : Book) {E : Type 0} (fits : E → ℕ → Bool) where
  mutual
    reads_by : {x : ℕ} {r : Reading} {w : List E} → Reads W fits x r w → ByProduction (book_grammar W) fits x w
    reads_by {x} (by_rule {n = n} m h a) = record {
      side = map item_symbol (right_of W n);
      is_one = subst (λ z. Mem (z, map item_symbol (right_of W n)) (map written_production W.productions)) h
          (mem_map written_production (production W n) W.productions (production_mem W n m));
      yields = along_yields a;
    }

    along_yields : {ys : List ℕ} {ps : Parts} {w : List E} → Along W fits ys ps w → Yields (book_grammar W) fits (map item_symbol ys) w
    along_yields at_end = yields_nothing
    along_yields {ys = y ∷ ys} {w = w} (at_event {t = t} q f a) =
        subst (λ s. Yields (book_grammar W) fits (s ∷ map item_symbol ys) w) (sym (item_pattern y (omega arith) ∙ ap letter (omega arith)))
        (yields_event f (along_yields a))
    along_yields {ys = y ∷ ys} {w = w} (at_part l d a e) =
        let k = reads_by d in
        subst (λ s. Yields (book_grammar W) fits (s ∷ map item_symbol ys) w) (sym (item_head y l)) (yields_by k.is_one k.yields (along_yields a) e)

  yields_along : {α : List Symbol} {w : List E} → Yields (book_grammar W) fits α w → (ys : List ℕ) → α ≡ map item_symbol ys → (ps : Parts) × Along W fits ys ps w
  yields_along yields_nothing [] q = (no_part, at_end)
  yields_along yields_nothing (y ∷ ys) q = let z : ◌≡◌ {A = ℕ} 0 1 = cc in absurd (omega arith)
  yields_along (yields_event f d) [] q = let z : ◌≡◌ {A = ℕ} 0 1 = cc in absurd (omega arith)
  yields_along (yields_event {t = t} {α = α} f d) (y ∷ ys) q =
      let s : letter t ≡ item_symbol y = cc in
      let r : α ≡ map item_symbol ys = cc in
      let k = yields_along d ys r in (
        event k.0,
        at_event {y = y} {t = t} (elim (cases_lt y 32) [
          | inl l ↦ (let c = s ∙ item_head y l in let z : ◌≡◌ {A = ℕ} 0 1 = cc in absurd (omega arith))
          | inr l ↦ (let c = s ∙ item_pattern y l in let i : t ≡ y - 32 = cc in omega arith)
        ]) f k.1,
      )
  yields_along (yields_by m b a e) [] q = let z : ◌≡◌ {A = ℕ} 0 1 = cc in absurd (omega arith)
  yields_along {w = w} (yields_by {x = x} {β = β} {α = α} {u = u} {v = v} m b a e) (y ∷ ys) q =
      let s : nonterminal x ≡ item_symbol y = cc in
      let r : α ≡ map item_symbol ys = cc in
      let k = yields_along a ys r in
      let p = map_mem written_production (x, β) W.productions m in
      let n = production_index W p.0 p.1 in
      let j = yields_along b p.0.right (ap (λ c. c.1) p.2) in
      let h : (y < 32) × (x ≡ y) = elim (cases_lt y 32) [
        | inl l ↦ (let c = s ∙ item_head y l in let i : x ≡ y = cc in (l, i))
        | inr l ↦ (let c = s ∙ item_pattern y l in let z : ◌≡◌ {A = ℕ} 0 1 = cc in absurd (omega arith))
      ] in (
        part (node n.0 j.0) k.0,
        at_part h.0
            (by_rule n.1 (ap (λ (z : Production). z.head) n.2 ∙ sym (ap (λ c. c.0) p.2) ∙ h.1)
            (subst (λ zs. Along W fits zs j.0 u) (sym (ap (λ (z : Production). z.right) n.2)) j.1)) k.1 e,
      )

  by_reading : {x : ℕ} {w : List E} → ByProduction (book_grammar W) fits x w → (r : Reading) × Reads W fits x r w
  by_reading {x} {w} k =
      let p = map_mem written_production (x, k.side) W.productions k.is_one in
      let n = production_index W p.0 p.1 in
      let j = yields_along k.yields p.0.right (ap (λ c. c.1) p.2) in (
        node n.0 j.0,
        by_rule n.1 (ap (λ (z : Production). z.head) n.2 ∙ sym (ap (λ c. c.0) p.2))
            (subst (λ zs. Along W fits zs j.0 w) (sym (ap (λ (z : Production). z.right) n.2)) j.1),
      )

-- what a row of one nonterminal yields is by a production of it
sole : (G : Grammar) {E : Type 0} (fits : E → ℕ → Bool) {x : ℕ} {w : List E} → Yields G fits (nonterminal x ∷ []) w → ByProduction G fits x w
sole G fits (yields_by {β = β} {u = u} m b yields_nothing e) = record { side = β; is_one = m; yields = subst (Yields G fits β) (sym (append-nil u) ∙ e) b }

-- the book's productions rewrite a head to events exactly if it has a reading of them
pub generates_reads : (W : Book) {E : Type 0} (fits : E → ℕ → Bool) (x : ℕ) (w : List E) → Generates (book_grammar W) fits x w ↔ ((r : Reading) × Reads W fits x r w)
generates_reads W fits x w = (
  (λ g. by_reading W fits (sole (book_grammar W) fits ((generates_yields (book_grammar W) fits x w).0 g))),
  (λ r. (generates_yields (book_grammar W) fits x w).1 (alone (book_grammar W) fits (reads_by W fits r.1))),
)

-- rules

module _ (T : ℕ) (B : Binarised) {E : Type 0} (fits : E → ℕ → Bool) where
  rule_mem : (x n : ℕ) (b : Right) → Has B x n b → Mem (x, right_symbols b) (map rule_production B.rules)
  rule_mem x n b h = mem_map rule_production (rule x n b) B.rules h

  derives_by : {x : ℕ} {s : Tree} {w : List E} → Derives B fits x s w → ByProduction (rules_grammar T B) fits x w
  derives_by (by_empty {x = x} {n = n} h) = record { side = []; is_one = rule_mem x n empty h; yields = yields_nothing }
  derives_by (by_unit {x = x} {n = n} {y = y} h d) = record { side = nonterminal y ∷ []; is_one = rule_mem x n (unit y) h; yields = alone (rules_grammar T B) fits (derives_by d) }
  derives_by (by_binary {x = x} {n = n} {y = y} {z = z} h c d e) = let k = derives_by c in record {
    side = nonterminal y ∷ nonterminal z ∷ [];
    is_one = rule_mem x n (binary y z) h;
    yields = yields_by k.is_one k.yields (alone (rules_grammar T B) fits (derives_by d)) e;
  }
  derives_by (by_terminal {x = x} {n = n} {p = p} h f) = record { side = letter p ∷ []; is_one = rule_mem x n (terminal p) h; yields = yields_event f yields_nothing }

  -- trees for a row of symbols
  abbrev Row : List Symbol → List E → Type 0
  Row [] w = w ≡ []
  Row (letter t ∷ α) w = (e : E) × ((v : List E) × (w ≡ e ∷ v) × (fits e t ≡ true) × Row α v)
  Row (nonterminal x ∷ α) w = (u : List E) × ((v : List E) × (u ++ v ≡ w) × ((s : Tree) × Derives B fits x s u) × Row α v)

  rule_row : (x n : ℕ) (b : Right) {w : List E} → Has B x n b → Row (right_symbols b) w → (s : Tree) × Derives B fits x s w
  rule_row x n empty {w} h e = (null x n, subst (Derives B fits x (null x n)) (sym e) (by_empty h))
  rule_row x n (unit y) {w} h (u, (v, e, d, q)) = (over x n d.0, by_unit h (subst (Derives B fits y d.0) (sym (append-nil u) ∙ ap (λ z. u ++ z) (sym q) ∙ e) d.1))
  rule_row x n (binary y z) {w} h (u, (v, e, d, (u', (v', e', d', q)))) =
      (fork x n d.0 d'.0, by_binary h d.1 (subst (Derives B fits z d'.0) (sym (append-nil u') ∙ ap (λ a. u' ++ a) (sym q) ∙ e') d'.1) e)
  rule_row x n (terminal p) {w} h (e, (v, q, f, i)) = (leaf x n, subst (Derives B fits x (leaf x n)) (sym (q ∙ ap (λ z. e ∷ z) i)) (by_terminal h f))

  row : {α : List Symbol} {w : List E} → Yields (rules_grammar T B) fits α w → Row α w
  row yields_nothing = refl
  row (yields_event {e = e} {w = w} f d) = (e, (w, refl, f, row d))
  row (yields_by {x = x} {β = β} {u = u} {v = v} m b a e) =
      let k = map_mem rule_production (x, β) B.rules m in
      let r = k.0 in
      let d = rule_row r.left r.number r.right k.1 (subst (λ γ. Row γ u) (ap (λ c. c.1) k.2) (row b)) in
      (u, (v, e, subst (λ z. (s : Tree) × Derives B fits z s u) (sym (ap (λ c. c.0) k.2)) d, row a))

  row_alone : {x : ℕ} {w : List E} → Row (nonterminal x ∷ []) w → (s : Tree) × Derives B fits x s w
  row_alone {x} (u, (v, e, d, q)) = (d.0, subst (Derives B fits x d.0) (sym (append-nil u) ∙ ap (λ z. u ++ z) (sym q) ∙ e) d.1)

  -- rules rewrite a symbol to events exactly if a derivation tree derives them from it
  pub generates_derives : (x : ℕ) (w : List E) → Generates (rules_grammar T B) fits x w ↔ ((s : Tree) × Derives B fits x s w)
  generates_derives x w = (
    (λ g. row_alone (row ((generates_yields (rules_grammar T B) fits x w).0 g))),
    (λ d. (generates_yields (rules_grammar T B) fits x w).1 (alone (rules_grammar T B) fits (derives_by d.1))),
  )
