-- Totals, the reading taken, and what the call for it answers.
use Rattle.std.proofs.Common.{◌≡◌, ℕ, suc, ◌+◌, ◌<◌, ◌≤◌, min, Bool, true, false, cond, ◌||◌, ltb, leb, ◌⊎◌, List, [], ◌∷◌, map, length, sym, refl, ap, ◌∙◌, subst, inl, inr, true≢false, arith, ◌↔◌}
use mathlib.Core.Path.{fun_ext}
use Rattle.grammar.specs.Lists.{cuts, Mem, Distinct}
use Rattle.grammar.specs.Binarised.{Binarised, Bounded, Tree, Derives}
use Rattle.grammar.specs.Nullable.{nullable_tree}
use Rattle.grammar.specs.Semiring.{Ops, Semiring, sum, product}
use Rattle.grammar.specs.Cells.{cell, total}
use Rattle.grammar.specs.Weighings.{Keeps, counts, costs, yes_no}
use Rattle.grammar.specs.Taken.{cut_fits, Takes, takes_terminal, takes_binary}
use Rattle.grammar.specs.Productions.{Book, cost_of, Sound, ProperBook}
use Rattle.grammar.specs.Readings.{Reading, Reads}
use Rattle.grammar.specs.Binarise.{binarise, binarised}
use Rattle.grammar.specs.Nodes.{Node, nodes}
use Rattle.grammar.specs.Weights.{reading_weight, binarised_weight, total_of, reading_cost}
use Rattle.grammar.specs.PlainReadings.{PlainReading, PlainList, Unread}
use Rattle.grammar.specs.Promises.{Counted, Least, Answered, Carried, PlainSum, TakesExactly, WholeSum}
use Rattle.grammar.specs.Answers.{Taken, of_nothing, of_events, filled, Answer, answer, Answers, is_none, is_read}
use Rattle.grammar.proofs.PlainTrees.{PlainByTree}
use Rattle.grammar.proofs.Weighings.{cell_kept, Upto, capped_counts, capped_counts_laws, capped_counts_kept, capped_costs, capped_costs_laws, capped_costs_kept, sum_kept, total_kept}
use Rattle.grammar.proofs.Lists.{mem_map, map_mem}
use Rattle.grammar.proofs.Nullable.{nullable_derives}
use Rattle.grammar.proofs.ChainOver.{derives_bare, derives_root}
use Rattle.grammar.proofs.Plain.{plain_to_tree, plain_from_tree}
use Rattle.grammar.proofs.Taken.{yes_no_laws, first_mem}
use Rattle.grammar.proofs.Theorems.{total_is_sum, plain_listed, all_some, all_sound, nullable_exact, yes_cell_exact, reading_exact, reading_plain, reading_one}
use Rattle.grammar.proofs.Proper.{all_plain}
use Rattle.grammar.proofs.BinarisedRules.{cost_small, binarised_bounded, binarised_numbered, binarised_proper}
use Rattle.grammar.proofs.Binarise.{binarised_derives, binarised_back, binarised_injective}
use Rattle.grammar.proofs.Readings.{matched, matched_once, binarised_sum}

module _ (W : Book) (S : Sound W) {E : Type 0} (fits : E → ℕ → Bool) where
  abbrev B : Binarised
  B = binarised W

  bd : Bounded B
  bd = binarised_bounded W S

  plain_of : (x : ℕ) (w : List E) (r : Reading) → Reads W fits x r w → PlainByTree B (binarise W r) → PlainReading W fits x w r
  plain_of x w r d p = record { reads = d; plain = plain_from_tree B bd fits x (binarise W r) w (binarised_derives W S fits d) p }

  of_plain : (x : ℕ) (w : List E) (r : Reading) → PlainReading W fits x w r → Derives B fits x (binarise W r) w × PlainByTree B (binarise W r)
  of_plain x w r p = (binarised_derives W S fits p.reads, plain_to_tree B bd (binarise W r) p.plain)

  pub listed : (x : ℕ) → x < 32 → (w : List E) → (rs : List Reading) × PlainList W fits x w rs
  listed x small w =
      let k = plain_listed B bd fits (binarised_numbered W S) x w in
      let m = matched W S fits x small w k.0 (λ s i. ((k.2 s).0 i).0) in (
        m.rs,
        record {
          once = matched_once W S fits x small w k.0 m k.1;
          exactly = λ r. (
            (λ i. let j = (m.hold r).0 i in plain_of x w r j.0 ((k.2 (binarise W r)).0 j.1).1),
            (λ p. (m.hold r).1 (p.reads, (k.2 (binarise W r)).1 (of_plain x w r p))),
          );
        },
      )

  binarised_distinct : (x : ℕ) (w : List E) (rs : List Reading) → ((r : Reading) → Mem r rs → Reads W fits x r w) → Distinct rs → Distinct (map (binarise W) rs)
  binarised_distinct x w [] h d = tt
  binarised_distinct x w (r ∷ rs) h d = (
    (λ m. let k = map_mem (binarise W) (binarise W r) rs m in
        d.0 (subst (λ q. Mem q rs) (sym (binarised_injective W fits (h r (inl refl)) (h k.0 (inr k.1)) k.2)) k.1)),
    binarised_distinct x w rs (λ q m. h q (inr m)) d.1,
  )

  pub summed : {V : Type 0} (M : Ops V) (L : Semiring M) (x : ℕ) → x < 32 → (w : List E) (rs : List Reading) → PlainList W fits x w rs
      → total B M (binarised_weight W M) fits x w ≡ sum M (reading_weight W M) rs
  summed M L x small w rs p = sym
      (binarised_sum W S fits M L rs (λ r m. (x, (w, ((p.exactly r).0 m).reads)))
      ∙ total_is_sum B bd fits (binarised_numbered W S) M L (binarised_weight W M) x w (map (binarise W) rs)
      (binarised_distinct x w rs (λ r m. ((p.exactly r).0 m).reads) p.once)
      (λ s. (
        (λ m. let k = map_mem (binarise W) s rs m in let g = of_plain x w k.0 ((p.exactly k.0).0 k.1) in
            (subst (λ t. Derives B fits x t w) (sym k.2) g.0, subst (PlainByTree B) (sym k.2) g.1)),
        (λ q. let k = binarised_back W S fits small q.0 in
            subst (λ t. Mem t (map (binarise W) rs)) k.2
            (mem_map (binarise W) k.0 rs ((p.exactly k.0).1 (plain_of x w k.0 k.1 (subst (PlainByTree B) (sym k.2) q.1))))),
      )))

  -- where there is a reading there is a plain one
  pub some_plain : (x : ℕ) → x < 32 → (w : List E) → (r : Reading) × Reads W fits x r w → (r : Reading) × PlainReading W fits x w r
  some_plain x small w q =
      let l = listed x small w in
      go w (binarised_derives W S fits q.1)
    where
      at : (w : List E) (s : Tree) → Derives B fits x s w → PlainByTree B s → (r : Reading) × PlainReading W fits x w r
      at w s d p = let k = binarised_back W S fits small d in (k.0, plain_of x w k.0 k.1 (subst (PlainByTree B) (sym k.2) p))

      go : (w : List E) {s : Tree} → Derives B fits x s w → (r : Reading) × PlainReading W fits x w r
      go [] {s} d =
          let t = (nullable_exact B bd fits x).1 (s, d) in
          let b = nullable_derives B bd fits x t in
          at [] (nullable_tree B x) b (rw (derives_bare B fits x (nullable_tree B x) [] b) (ap (nullable_tree B) (sym (derives_root B fits x (nullable_tree B x) [] b))))
      go (e ∷ w) {s} d = let k = all_some B bd fits x s (e ∷ w) (omega arith) d in let j = all_sound B bd fits x k.0 (e ∷ w) k.1 in at (e ∷ w) k.0 j.0 j.1

pub sums_plain : {V : Type 0} (M : Ops V) → Semiring M → (E : Type 0) → (W : Book) → Sound W → (fits : E → ℕ → Bool) (w : List E) → PlainSum W M fits w
sums_plain M L E W S fits w = record { listed = listed W S fits 0 (omega arith) w; is_sum = λ rs p. summed W S fits M L 0 (omega arith) w rs p }

pub sums_all : {V : Type 0} (M : Ops V) → Semiring M → (E : Type 0) → (W : Book) → Sound W → ProperBook W → (fits : E → ℕ → Bool) (w : List E) → WholeSum W M fits w
sums_all M L E W S P fits w = record {
  all_plain = plain;
  listed = (let k = listed W S fits 0 (omega arith) w in
      (k.0, record { once = k.1.once; exactly = λ r. ((λ m. ((k.1.exactly r).0 m).reads), (λ d. (k.1.exactly r).1 (plain r d))) }));
  is_sum = λ rs p. summed W S fits M L 0 (omega arith) w rs
      (record { once = p.once; exactly = λ r. ((λ m. plain r ((p.exactly r).0 m)), (λ q. (p.exactly r).1 q.reads)) });
}
  where
    plain : (r : Reading) → Reads W fits 0 r w → PlainReading W fits 0 w r
    plain r d = plain_of W S fits 0 w r d (all_plain (binarised W) (binarised_proper W P) fits 0 (binarise W r) w (binarised_derives W S fits d))

product_one : {A : Type 0} {V : Type 0} (M : Ops V) (L : Semiring M) (xs : List A) → product M (λ a. M.one) xs ≡ M.one
product_one M L [] = refl
product_one M L (x ∷ xs) = L.times_one (product M (λ a. M.one) xs) ∙ product_one M L xs

sum_ones : (C : ℕ) → 1 ≤ C → (l : List Reading) → sum (counts C) (λ r. 1) l ≡ min (length l) C
sum_ones C h [] = omega arith
sum_ones C h (r ∷ l) = ap (λ n. min (1 + n) C) (sum_ones C h l) ∙ omega arith

-- what is kept of the values is kept of the cells and totals
module _ {V U : Type 0} (M : Ops V) (N : Ops U) (f : V → U) (K : Keeps M N f) (W : Book) (S : Sound W) {E : Type 0} (fits : E → ℕ → Bool) where
  weights_kept : (λ x n. f (binarised_weight W M x n)) ≡ binarised_weight W N
  weights_kept = fun_ext (λ x. fun_ext (λ n. by (ltb x 32) n))
    where
      by : (b : Bool) (n : ℕ) → f (cond b (M.weight (cost_of W n)) M.one) ≡ cond b (N.weight (cost_of W n)) N.one
      by true n = K.weight_to (cost_of W n) (cost_small W S n)
      by false n = K.one_to

  pub carried : Carried M N f W fits
  carried = record {
    cells = λ x w. cell_kept M N f K (binarised_weight W M) (binarised W) fits x w ∙ ap (λ wt. cell (binarised W) N wt fits x w) weights_kept;
    totals = λ w. total_kept M N f K (binarised_weight W M) (binarised W) fits 0 w ∙ ap (λ wt. total (binarised W) N wt fits 0 w) weights_kept;
  }

pub carries : {V U : Type 0} (M : Ops V) (N : Ops U) (E : Type 0) → (f : V → U) → Keeps M N f → (W : Book) → Sound W → (fits : E → ℕ → Bool) → Carried M N f W fits
carries M N E f K W S fits = carried M N f K W S fits

-- as many plain readings, held at the limit
pub counted : (W : Book) (S : Sound W) {E : Type 0} (fits : E → ℕ → Bool) (C : ℕ) → 1 ≤ C → (w : List E) (rs : List Reading) → PlainList W fits 0 w rs
    → total_of W (counts C) fits w ≡ min (length rs) C
unfolding capped_counts
counted W S {E} fits C h w rs p =
    sym ((carried H (counts C) (λ a. a.0) K W S fits).totals w)
    ∙ ap (λ (a : Upto C). a.0) (summed W S fits H L 0 (omega arith) w rs p)
    ∙ sum_kept H (counts C) (λ a. a.0) K (reading_weight W H) (λ r. 1) rs (λ r. ap (λ (a : Upto C). a.0) (product_one H L (nodes 0 r)))
    ∙ sum_ones C h rs
  where
    H : Ops (Upto C)
    H = capped_counts C h

    L : Semiring H
    L = capped_counts_laws C h

    K : Keeps H (counts C) (λ a. a.0)
    K = capped_counts_kept C h

pub none_exact : (E : Type 0) (C : ℕ) → 1 ≤ C → (W : Book) → Sound W → (fits : E → ℕ → Bool) (w : List E) → Counted W fits C w
none_exact E C h W S fits w = let k = listed W S fits 0 (omega arith) w in by k.0 k.1
  where
    some : (r : Reading) × Reads W fits 0 r w → (r : Reading) × PlainReading W fits 0 w r
    some = some_plain W S fits 0 (omega arith) w

    by : (rs : List Reading) → PlainList W fits 0 w rs → Counted W fits C w
    by [] p =
        let t : total_of W yes_no fits w ≡ false = summed W S fits yes_no yes_no_laws 0 (omega arith) w [] p in
        let c = counted W S fits C h w [] p in
        let un : Unread W fits w = λ r d. let q = some (r, d) in absurd ((p.exactly q.0).1 q.1) in
        record {
          says_yes = ((λ e. absurd (true≢false (sym e ∙ t))), (λ q. absurd (un q.0 q.1)));
          says_no = ((λ e. un), (λ u. t));
          count = λ qs q. counted W S fits C h w qs q;
          count_none = ((λ e. un), (λ u. c ∙ omega arith));
          some_plain = some;
        }
    by (r ∷ rs) p =
        let f = reading_weight W yes_no in
        let t : total_of W yes_no fits w ≡ true = summed W S fits yes_no yes_no_laws 0 (omega arith) w (r ∷ rs) p ∙ ap (λ b. b || sum yes_no f rs) (product_one yes_no yes_no_laws (nodes 0 r)) in
        let c = counted W S fits C h w (r ∷ rs) p in
        let d = ((p.exactly r).0 (inl refl)).reads in
        record {
          says_yes = ((λ e. (r, d)), (λ q. t));
          says_no = ((λ e. absurd (true≢false (sym t ∙ e))), (λ u. absurd (u r d)));
          count = λ qs q. counted W S fits C h w qs q;
          count_none = ((λ e. absurd (more (length rs) (sym c ∙ e))), (λ u. absurd (u r d)));
          some_plain = some;
        }
      where
        more : (n : ℕ) → min (suc n) C ≡ 0 → ⊥
        more n e = omega arith

module _ (W : Book) (S : Sound W) {E : Type 0} (fits : E → ℕ → Bool) where
  taken_plain : (r : Reading) (w : List E) → Taken W fits r w → PlainReading W fits 0 w r
  taken_plain r w (of_nothing d e) =
      let t = (nullable_exact (binarised W) (binarised_bounded W S) fits 0).1 (binarise W r, binarised_derives W S fits d) in
      let b = nullable_derives (binarised W) (binarised_bounded W S) fits 0 t in
      plain_of W S fits 0 [] r d (subst (PlainByTree (binarised W)) (sym e)
      (rw (derives_bare (binarised W) fits 0 (nullable_tree (binarised W) 0) [] b) (ap (nullable_tree (binarised W)) (sym (derives_root (binarised W) fits 0 (nullable_tree (binarised W) 0) [] b)))))
  taken_plain r w (of_events d t) = plain_of W S fits 0 w r d (reading_plain (binarised W) (binarised_bounded W S) fits 0 (binarise W r) w t).1

  nothing_taken : {s : Tree} {w : List E} → Takes (binarised W) fits 0 s w → 0 < length w
  nothing_taken (takes_terminal r f q) = omega arith
  nothing_taken (takes_binary {w = w} r c f q g d d') =
      let n = first_mem (cut_fits (binarised W) fits _ _) (cuts w) c g in some w c n.0
    where
      some : (w : List E) (c : List E × List E) → Mem c (cuts w) → 0 < length w
      some [] c m = absurd m
      some (e ∷ w) c m = omega arith

  taken_one : (r q : Reading) (w : List E) → Taken W fits r w → Taken W fits q w → r ≡ q
  taken_one r q w (of_nothing d e) (of_nothing d' e') = binarised_injective W fits d d' (e ∙ sym e')
  taken_one r q w (of_nothing d e) (of_events d' t) = absurd (let l = nothing_taken t in omega arith)
  taken_one r q w (of_events d t) (of_nothing d' e) = absurd (let l = nothing_taken t in omega arith)
  taken_one r q w (of_events d t) (of_events d' t') = binarised_injective W fits d d' (reading_one (binarised W) (binarised_bounded W S) fits 0 (binarise W r) (binarise W q) w t t')

  takes : (w : List E) → (r : Reading) × Reads W fits 0 r w → (r : Reading) × Taken W fits r w
  takes [] q =
      let t = (nullable_exact (binarised W) (binarised_bounded W S) fits 0).1 (binarise W q.0, binarised_derives W S fits q.1) in
      let k = binarised_back W S fits (omega arith) (nullable_derives (binarised W) (binarised_bounded W S) fits 0 t) in
      (k.0, of_nothing k.1 k.2)
  takes (e ∷ w) q =
      let t = (yes_cell_exact (binarised W) (binarised_bounded W S) fits 0 (e ∷ w) (omega arith)).1 (binarise W q.0, binarised_derives W S fits q.1) in
      let r = (reading_exact (binarised W) (binarised_bounded W S) fits 0 (e ∷ w)).0 t in
      let k = binarised_back W S fits (omega arith) (reading_plain (binarised W) (binarised_bounded W S) fits 0 r.0 (e ∷ w) r.1).0 in
      (k.0, of_events k.1 (subst (λ s. Takes (binarised W) fits 0 s (e ∷ w)) (sym k.2) r.1))

pub takes_one : (E : Type 0) → (W : Book) → Sound W → (fits : E → ℕ → Bool) (w : List E) → TakesExactly W fits w
takes_one E W S fits w = record {
  one = ((λ t. (t.0, (taken_plain W S fits t.0 w t.1).reads)), takes W S fits w);
  is_plain = λ r t. taken_plain W S fits r w t;
  only = λ r q t t'. taken_one W S fits r q w t t';
}

pub answers_once : (E : Type 0) → (W : Book) → Sound W → (fits : E → ℕ → Bool) (w : List E) (t : List Node) → Answered W fits w t
answers_once E W S fits w t = there (total_of W yes_no fits w) refl
  where
    one : (a b : Answer) (t' t'' : List Node) → Answers W fits w t a t' → Answers W fits w t b t'' → (a ≡ b) × (t' ≡ t'')
    one a b t' t'' (is_none u) (is_none u') = (refl, refl)
    one a b t' t'' (is_none u) (is_read r k) = absurd (u r (taken_plain W S fits r w k).reads)
    one a b t' t'' (is_read r k) (is_none u) = absurd (u r (taken_plain W S fits r w k).reads)
    one a b t' t'' (is_read r k) (is_read q j) =
        let e = taken_one W S fits r q w k j in
        (ap (λ r. answer (nodes 0 r) (length t)) e, ap (λ r. filled (nodes 0 r) t) e)

    there : (b : Bool) → total_of W yes_no fits w ≡ b → Answered W fits w t
    there true e = let r = takes W S fits w ((none_exact E 1 (omega arith) W S fits w).says_yes.0 e) in
        record { answer = _; left = _; answers = is_read r.0 r.1; only = λ a t' b. one a _ t' _ b (is_read r.0 r.1) }
    there false e = let u = (none_exact E 1 (omega arith) W S fits w).says_no.0 e in
        record { answer = _; left = _; answers = is_none u; only = λ a t' b. one a _ t' _ b (is_none u) }

abbrev least : ℕ → List ℕ → ℕ
least C [] = C
least C (c ∷ cs) = min c (least C cs)

least_low : (C : ℕ) (cs : List ℕ) → least C cs ≤ C
least_low C [] = omega arith
least_low C (c ∷ cs) = omega (arith, least_low C cs)

least_all : (C : ℕ) (cs : List ℕ) (c : ℕ) → Mem c cs → least C cs ≤ c
least_all C [] c m = absurd m
least_all C (d ∷ cs) c (inl e) = omega arith
least_all C (d ∷ cs) c (inr m) = omega (arith, least_all C cs c m)

least_met : (C : ℕ) (cs : List ℕ) → (least C cs ≡ C) ⊎ Mem (least C cs) cs
least_met C [] = inl refl
least_met C (c ∷ cs) = elim (Rattle.std.proofs.lemmas.Bool.cases_Bool (leb c (least C cs))) [
  | inl t ↦ inr (inl (let l = Rattle.std.proofs.lemmas.Bool.leb-true c (least C cs) t in omega arith))
  | inr t ↦ let e : min c (least C cs) ≡ least C cs = let l = Rattle.std.proofs.lemmas.Bool.leb-false c (least C cs) t in omega arith in
      elim (least_met C cs) [ inl q ↦ inl (e ∙ q) | inr m ↦ inr (inr (subst (λ n. Mem n cs) (sym e) m)) ]
]

sum_least : (C : ℕ) (f : Reading → ℕ) (l : List Reading) → sum (costs C) (λ r. min (f r) C) l ≡ least C (map f l)
sum_least C f [] = refl
sum_least C f (r ∷ l) = ap (min (min (f r) C)) (sum_least C f l) ∙ omega (arith, least_low C (map f l))

pub costed : (W : Book) (S : Sound W) {E : Type 0} (fits : E → ℕ → Bool) (C : ℕ) → 65535 ≤ C → (w : List E) (rs : List Reading) → PlainList W fits 0 w rs
    → total_of W (costs C) fits w ≡ least C (map (λ r. reading_cost W (nodes 0 r)) rs)
unfolding capped_costs
costed W S {E} fits C small w rs p =
    sym ((carried H (costs C) (λ a. a.0) K W S fits).totals w)
    ∙ ap (λ (a : Upto C). a.0) (summed W S fits H (capped_costs_laws C) 0 (omega arith) w rs p)
    ∙ sum_kept H (costs C) (λ a. a.0) K (reading_weight W H) (λ r. min (reading_cost W (nodes 0 r)) C) rs (λ r. costs_capped (nodes 0 r))
    ∙ sum_least C (λ r. reading_cost W (nodes 0 r)) rs
  where
    H : Ops (Upto C)
    H = capped_costs C

    K : Keeps H (costs C) (λ a. a.0)
    K = capped_costs_kept C small

    costs_capped : (ks : List Node) → (product H (λ (k : Node). H.weight (cost_of W k.rule)) ks).0 ≡ min (reading_cost W ks) C
    costs_capped [] = omega arith
    costs_capped (k ∷ ks) = let a = costs_capped ks in omega arith

pub least_exact : (E : Type 0) (C : ℕ) → 65535 ≤ C → (W : Book) → Sound W → (fits : E → ℕ → Bool) (w : List E) (m : ℕ)
    → (total_of W (costs C) fits w ≡ m) ↔ Least W fits C w m
least_exact E C small W S fits w m = (
  (λ e. subst (Least W fits C w) (sym t ∙ e) holds),
  (λ q. t ∙ same q),
)
  where
    cost : Reading → ℕ
    cost r = reading_cost W (nodes 0 r)

    k : (rs : List Reading) × PlainList W fits 0 w rs
    k = listed W S fits 0 (omega arith) w

    n : ℕ
    n = least C (map cost k.0)

    t : total_of W (costs C) fits w ≡ n
    t = costed W S fits C small w k.0 k.1

    all : (r : Reading) → PlainReading W fits 0 w r → n ≤ cost r
    all r p = least_all C (map cost k.0) (cost r) (mem_map cost r k.0 ((k.1.exactly r).1 p))

    met : (n ≡ C) ⊎ ((r : Reading) × PlainReading W fits 0 w r × (cost r ≡ n))
    met = elim (least_met C (map cost k.0)) [
      | inl e ↦ inl e
      | inr i ↦ let j = map_mem cost n k.0 i in inr (j.0, (k.1.exactly j.0).0 j.1, sym j.2)
    ]

    holds : Least W fits C w n
    holds = record { held = least_low C (map cost k.0); below_all = all; met = met }

    same : Least W fits C w m → n ≡ m
    same q = low q.met met
      where
        low : (m ≡ C) ⊎ ((r : Reading) × PlainReading W fits 0 w r × (cost r ≡ m)) → (n ≡ C) ⊎ ((r : Reading) × PlainReading W fits 0 w r × (cost r ≡ n)) → n ≡ m
        low (inl e) (inl f) = f ∙ sym e
        low (inl e) (inr f) = let a = q.below_all f.0 f.1 in let b = least_low C (map cost k.0) in let c = f.2 in omega arith
        low (inr e) (inl f) = let a = all e.0 e.1 in let b = q.held in let c = e.2 in omega arith
        low (inr e) (inr f) = let a = all e.0 e.1 in let b = q.below_all f.0 f.1 in let c = e.2 in let d = f.2 in omega arith
