-- Nullable symbols and their chosen trees: a symbol is nullable exactly if a tree derives no events from it, and then its chosen tree does.
use Rattle.std.proofs.Common.{◌≡◌, ℕ, zero, suc, ◌<◌, ◌≤◌, Bool, true, false, cond, ◌||◌, eqb, List, [], ◌∷◌, ◌++◌, sym, refl, ap, ◌∙◌, inl, inr, true≢false, arith}
use Rattle.std.proofs.lemmas.Bool.{or_left, or_right, or_cases, and_parts, and_from, cases_eq, eqb-true, eq-eqb}
use Rattle.grammar.specs.Lists.{Mem, some_of}
use Rattle.grammar.specs.Binarised.{Right, empty, unit, binary, terminal, Rule, Binarised, rule, Has, OwnRule, rules_in, rules_of, Bounded, Tree, root, Derives, by_empty, by_unit, by_binary, by_terminal}
use Rattle.grammar.specs.Nullable.{ready, next_round, nullable_after, nullable, rule_tree, first_ready, nullable_tree_in, nullable_tree}
use Rattle.grammar.proofs.Lists.{some_from, some_gives, first_from}
use Rattle.grammar.proofs.Rounds.{at_rest, holds_on}

pub rules_in_mem : (x : ℕ) (o : OwnRule) (rs : List Rule) → Mem o (rules_in x rs) → Mem (rule x o.0 o.1) rs
rules_in_mem x o [] m = elim m [ ]
rules_in_mem x o (r ∷ rs) m =
    (elim (eqb r.left x) as (λ b. eqb r.left x ≡ b → Mem o (cond b ((r.number, r.right) ∷ rules_in x rs) (rules_in x rs)) → Mem (rule x o.0 o.1) (r ∷ rs)) [
      | true ↦ λ e m'. elim m' [
        | inl q ↦ inl (λ i. record { left = sym (eqb-true r.left x e) i; number = (q i).0; right = (q i).1 })
        | inr k ↦ inr (rules_in_mem x o rs k)
      ]
      | false ↦ λ e k. inr (rules_in_mem x o rs k)
    ]) refl m

mem_rules_in : (x n : ℕ) (b : Right) (rs : List Rule) → Mem (rule x n b) rs → Mem (n, b) (rules_in x rs)
mem_rules_in x n b [] m = elim m [ ]
mem_rules_in x n b (r ∷ rs) (inl q) = rw (eq-eqb r.left x (λ i. (sym q i).left)) (inl (λ i. ((q i).number, (q i).right)))
mem_rules_in x n b (r ∷ rs) (inr m) = (elim (eqb r.left x) as (λ c. Mem (n, b) (cond c ((r.number, r.right) ∷ rules_in x rs) (rules_in x rs)))
    [ true ↦ inr (mem_rules_in x n b rs m) | false ↦ mem_rules_in x n b rs m ])

pub rule_has : (B : Binarised) (x : ℕ) (o : OwnRule) → Mem o (rules_of B x) → Has B x o.0 o.1
unfolding rules_of
rule_has B x o m = rules_in_mem x o B.rules m

pub has_rule : (B : Binarised) (x n : ℕ) (b : Right) → Has B x n b → Mem (n, b) (rules_of B x)
unfolding rules_of
has_rule B x n b m = mem_rules_in x n b B.rules m

pub rule_tree_root : (f : ℕ → Tree) (x n : ℕ) (b : Right) → root (rule_tree f x n b) ≡ x
rule_tree_root f x n empty = refl
rule_tree_root f x n (unit y) = refl
rule_tree_root f x n (binary y z) = refl
rule_tree_root f x n (terminal p) = refl

nullable_in_root : (B : Binarised) (k x : ℕ) → root (nullable_tree_in B k x) ≡ x
unfolding nullable_tree_in
nullable_in_root B zero x = refl
nullable_in_root B (suc k) x =
    let o = first_ready B (nullable_after B k) x in
    (elim (nullable_after B k x) as (λ b. root (cond b (nullable_tree_in B k x) (rule_tree (nullable_tree_in B k) x o.0 o.1)) ≡ x)
    [ true ↦ nullable_in_root B k x | false ↦ rule_tree_root (nullable_tree_in B k) x o.0 o.1 ])

pub nullable_root : (B : Binarised) (x : ℕ) → root (nullable_tree B x) ≡ x
unfolding nullable_tree
nullable_root B x = nullable_in_root B B.symbols x

module _ (B : Binarised) (bounded : Bounded B) where
  pub rounds_next : (k : ℕ) → nullable_after B (suc k) ≡ next_round B (nullable_after B k)
  unfolding nullable_after
  rounds_next k = refl

  pub rounds_grow : (k x : ℕ) → nullable_after B k x ≡ true → nullable_after B (suc k) x ≡ true
  unfolding nullable_after
  rounds_grow k x t = or_left (nullable_after B k x) _ t

  pub rounds_small : (k x : ℕ) → nullable_after B k x ≡ true → x < B.symbols
  unfolding nullable_after
  rounds_small zero x t = absurd (true≢false (sym t))
  rounds_small (suc k) x t = elim (or_cases (nullable_after B k x) _ t) [
    | inl e ↦ rounds_small k x e
    | inr e ↦ let r = some_gives (λ (o : OwnRule). ready (nullable_after B k) o.1) (rules_of B x) e in bounded _ (rule_has B x r.0 r.1)
  ]

  -- a symbol with a rule of nullable symbols is nullable
  pub nullable_closed : (x n : ℕ) (b : Right) → Has B x n b → ready (nullable B) b ≡ true → nullable B x ≡ true
  unfolding nullable nullable_after
  nullable_closed x n b m t = ap (λ h. h x) (sym (at_rest (next_round B) (nullable_after B) B.symbols rounds_next rounds_grow rounds_small))
      ∙ or_right (nullable_after B B.symbols x) _ (some_from (λ (o : OwnRule). ready (nullable_after B B.symbols) o.1) (n, b) (rules_of B x) (has_rule B x n b m) t)

  -- a symbol that is nullable keeps its chosen tree
  pub nullable_kept : (k m x : ℕ) → k ≤ m → nullable_after B k x ≡ true → nullable_tree_in B m x ≡ nullable_tree_in B k x
  unfolding nullable_tree_in
  nullable_kept k zero x h t = let e : 0 ≡ k = omega arith in ap (λ i. nullable_tree_in B i x) e
  nullable_kept k (suc m) x h t = elim (cases_eq k (suc m)) [
    | inl e ↦ ap (λ i. nullable_tree_in B i x) (sym e)
    | inr n ↦ rw (holds_on (next_round B) (nullable_after B) B.symbols rounds_next rounds_grow rounds_small k m x (omega arith) t)
        (nullable_kept k m x (omega arith) t)
  ]

  module _ {E : Type 0} (fits : E → ℕ → Bool) where
    rule_tree_derives : (k x n : ℕ) (b : Right) → Has B x n b → ready (nullable_after B k) b ≡ true
        → ((y : ℕ) → nullable_after B k y ≡ true → Derives B fits y (nullable_tree_in B k y) []) → Derives B fits x (rule_tree (nullable_tree_in B k) x n b) []
    rule_tree_derives k x n empty m t ih = by_empty m
    rule_tree_derives k x n (unit y) m t ih = by_unit m (ih y t)
    rule_tree_derives k x n (binary y z) m t ih = let r = and_parts (nullable_after B k y) (nullable_after B k z) t in by_binary m (ih y r.0) (ih z r.1) refl
    rule_tree_derives k x n (terminal p) m t ih = absurd (true≢false (sym t))

    pub nullable_in_derives : (k x : ℕ) → nullable_after B k x ≡ true → Derives B fits x (nullable_tree_in B k x) []
    unfolding nullable_after nullable_tree_in
    nullable_in_derives zero x t = absurd (true≢false (sym t))
    nullable_in_derives (suc k) x t =
        let p : OwnRule → Bool = λ o. ready (nullable_after B k) o.1 in
        let o = first_ready B (nullable_after B k) x in
        (elim (nullable_after B k x) as (λ b. nullable_after B k x ≡ b → (b || some_of p (rules_of B x)) ≡ true → Derives B fits x (cond b (nullable_tree_in B k x) (rule_tree (nullable_tree_in B k) x o.0 o.1)) []) [
          | true ↦ λ e t'. nullable_in_derives k x e
          | false ↦ λ e t'. let r = first_from p (zero, empty) (rules_of B x) t' in
              rule_tree_derives k x o.0 o.1 (rule_has B x o r.0) r.1 (nullable_in_derives k)
        ]) refl t

    -- the chosen tree of a nullable symbol derives no events from it
    pub nullable_derives : (x : ℕ) → nullable B x ≡ true → Derives B fits x (nullable_tree B x) []
    unfolding nullable nullable_tree
    nullable_derives x t = nullable_in_derives B.symbols x t

    -- where a tree derives no events, the symbol is nullable
    pub derives_nullable : (x : ℕ) (s : Tree) (w : List E) → Derives B fits x s w → w ≡ [] → nullable B x ≡ true
    derives_nullable x s w (by_empty m) e = nullable_closed x _ empty m refl
    derives_nullable x s w (by_unit {y = y} {s = s'} m d) e = nullable_closed x _ (unit y) m (derives_nullable y s' w d e)
    derives_nullable x s w (by_binary {y = y} {z = z} {s = s'} {t = t'} {u = u} {v = v} m d d' q) e =
        let r = append_nil_parts u v (q ∙ e) in
        nullable_closed x _ (binary y z) m (and_from (nullable B y) (nullable B z) (derives_nullable y s' u d r.0) (derives_nullable z t' v d' r.1))
      where
        append_nil_parts : (u v : List E) → u ++ v ≡ [] → (u ≡ []) × (v ≡ [])
        append_nil_parts [] v e = (refl, e)
        append_nil_parts (x ∷ u) v e = absurd (let z : ◌≡◌ {A = ℕ} 0 1 = cc in omega arith)
    derives_nullable x s w (by_terminal {e = e'} m f) e = absurd (let z : ◌≡◌ {A = ℕ} 0 1 = cc in omega arith)
