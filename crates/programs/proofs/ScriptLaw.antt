-- What it means that lines give a script or a fault.
use Rattle.std.specs.Prelude.{codes}
use Rattle.std.proofs.Common.{◌≡◌, ◌≢◌, ◌⊎◌, ℕ, suc, ◌+◌, true, false, ◌&&◌, List, [], ◌∷◌, ◌++◌, length, Some, None, Ok, Err, Option, Result, true≢false, sym, refl, ap, ◌∙◌, subst, inl, inr, append_assoc, append-nil, arith, length-append}
use Rattle.std.proofs.lemmas.Bool.{cases_Bool, cond-true, cond-false, eqb-true, eq-eqb}
use Rattle.grammar.specs.Lists.{same_numbers}
use Rattle.grammar.proofs.Lists.{mem_append}
use Rattle.book.specs.Runs.{a_load}
use Rattle.programs.specs.Scripts.{Script}
use Rattle.programs.specs.Spelling.{Spelling}
use Rattle.programs.specs.ScriptLines.{Item, patterns, a_book_call, rules_follow, weights, nodes, a_chart_line, line_said, may_come, with_item, rules_of, so_far, ReadSoFar, behind_said, is_end, go_on, read_on}
use Rattle.programs.specs.ScriptMeans.{Says, NoEndAmong, rules_text, ItemsAre, Follows, Wrong, ReadMeans}
use Rattle.programs.specs.ScriptMeans.ItemsAre.{none, blank, line, load}
use Rattle.programs.specs.declared.script.fault.Cause.{Cause}
use Rattle.programs.specs.declared.script.fault.Cause.TheVariants.{OutOfPlace}
use Rattle.programs.proofs.Printing.{both_true}

-- Texts that are the same

pub same_is : (w v : List ℕ) → same_numbers w v ≡ true → w ≡ v
same_is [] [] h = refl
same_is [] (c ∷ v) h = absurd (true≢false (sym h))
same_is (b ∷ w) [] h = absurd (true≢false (sym h))
same_is (b ∷ w) (c ∷ v) h =
    let p = both_true _ (same_numbers w v) h in
    let x : b ≡ c = eqb-true b c p.0 in
    let y : w ≡ v = same_is w v p.1 in
    cc

pub same_self : (w : List ℕ) → same_numbers w w ≡ true
same_self [] = refl
same_self (b ∷ w) = ap (λ t. t && same_numbers w w) (eq-eqb b b refl) ∙ same_self w

not_end : (w : List ℕ) → w ≢ codes "end" → is_end w ≡ false
not_end w n = elim (cases_Bool (is_end w)) [ inl t ↦ absurd (n (same_is w (codes "end") t)) | inr f ↦ f ]

other : (w : List ℕ) → is_end w ≡ false → w ≢ codes "end"
other w f e = true≢false (sym (same_self (codes "end")) ∙ ap is_end (sym e) ∙ f)

rules_text_more : (rs : List (List ℕ)) (v : List ℕ) → rules_text (rs ++ (v ∷ [])) ≡ rules_text rs ++ (v ++ (10 ∷ []))
rules_text_more [] v = append-nil (v ++ (10 ∷ []))
rules_text_more (r ∷ rs) v = ap (λ t. (r ++ (10 ∷ [])) ++ t) (rules_text_more rs v) ∙ sym (append_assoc (r ++ (10 ∷ [])) (rules_text rs) (v ++ (10 ∷ [])))

no_end_more : (rs : List (List ℕ)) (v : List ℕ) → NoEndAmong rs → v ≢ codes "end" → NoEndAmong (rs ++ (v ∷ []))
no_end_more rs v h n w m = elim (mem_append w rs (v ∷ []) m) [
  | inl k ↦ h w k
  | inr (inl e) ↦ λ q. n (sym e ∙ q)
  | inr (inr k) ↦ absurd k
]

-- an item of one line, or the beginning of a load
alone_or_not : {P E : Type 0} (i : Item P E) → (rules_of i ≡ None) ⊎ (i ≡ rules_follow)
alone_or_not (patterns ps) = inl refl
alone_or_not (a_book_call c) = inl refl
alone_or_not rules_follow = inr refl
alone_or_not (weights n) = inl refl
alone_or_not (nodes n) = inl refl
alone_or_not (a_chart_line l) = inl refl

module _ {P E : Type 0} (S : Spelling P E) where
  -- One line

  on_blank : (n : ℕ) (s : Script P E) (w : List ℕ) (ws : List (List ℕ)) → line_said S w ≡ Ok None → read_on S n (so_far s None) (w ∷ ws) ≡ read_on S (suc n) (so_far s None) ws
  unfolding read_on
  on_blank n s w ws e = ap (λ q. go_on n (behind_said s q) (λ then. read_on S (suc n) then ws)) e

  on_item : (n : ℕ) (s : Script P E) (w : List ℕ) (ws : List (List ℕ)) (i : Item P E) → Says S w i → may_come s i ≡ true
      → read_on S n (so_far s None) (w ∷ ws) ≡ read_on S (suc n) (so_far (with_item s i) (rules_of i)) ws
  unfolding read_on
  on_item n s w ws i e m =
      ap (λ q. go_on n (behind_said s q) (λ then. read_on S (suc n) then ws)) e
      ∙ ap (λ q. go_on n q (λ then. read_on S (suc n) then ws)) (cond-true (may_come s i) (Ok (so_far (with_item s i) (rules_of i))) (Err OutOfPlace) m)

  pub on_wrong : (n : ℕ) (s : Script P E) (w : List ℕ) (ws : List (List ℕ)) (c : Cause) → Wrong S s w c → read_on S n (so_far s None) (w ∷ ws) ≡ Err (n, c)
  unfolding read_on
  on_wrong n s w ws c (inl e) = ap (λ q. go_on n (behind_said s q) (λ then. read_on S (suc n) then ws)) e
  on_wrong n s w ws c (inr (o, (i, e, m))) =
      ap (λ q. go_on n (behind_said s q) (λ then. read_on S (suc n) then ws)) e
      ∙ ap (λ q. go_on n q (λ then. read_on S (suc n) then ws)) (cond-false (may_come s i) (Ok (so_far (with_item s i) (rules_of i))) (Err OutOfPlace) m)
      ∙ ap (λ d. Err (n, d)) (sym o)

  abbrev loaded : Script P E → List ℕ → Script P E
  loaded s rules = with_item s (a_book_call (a_load rules))

  on_rule : (n : ℕ) (s : Script P E) (rules w : List ℕ) (ws : List (List ℕ)) → is_end w ≡ false
      → read_on S n (so_far s (Some rules)) (w ∷ ws) ≡ read_on S (suc n) (so_far s (Some (rules ++ (w ++ (10 ∷ []))))) ws
  unfolding read_on
  on_rule n s rules w ws f = ap (λ (q : ReadSoFar P E). read_on S (suc n) q ws) (cond-false (is_end w) (so_far (loaded s rules) None) (so_far s (Some (rules ++ (w ++ (10 ∷ []))))) f)

  on_rules_end : (n : ℕ) (s : Script P E) (rules w : List ℕ) (ws : List (List ℕ)) → is_end w ≡ true
      → read_on S n (so_far s (Some rules)) (w ∷ ws) ≡ read_on S (suc n) (so_far (loaded s rules) None) ws
  unfolding read_on
  on_rules_end n s rules w ws t = ap (λ (q : ReadSoFar P E). read_on S (suc n) q ws) (cond-true (is_end w) (so_far (loaded s rules) None) (so_far s (Some (rules ++ (w ++ (10 ∷ []))))) t)

  -- Lines that say a script are read as it

  over_rules : (rs ws : List (List ℕ)) (n : ℕ) (s : Script P E) (r : List ℕ) → NoEndAmong rs
      → read_on S n (so_far s (Some r)) (rs ++ (codes "end" ∷ ws)) ≡ read_on S (suc (n + length rs)) (so_far (loaded s (r ++ rules_text rs)) None) ws
  over_rules [] ws n s r h =
      let z : suc n ≡ suc (n + 0) = omega arith in
      on_rules_end n s r (codes "end") ws (same_self (codes "end"))
      ∙ ap (λ t. read_on S (suc n) (so_far (loaded s t) None) ws) (sym (append-nil r)) ∙ ap (λ k. read_on S k (so_far (loaded s (r ++ [])) None) ws) z
  over_rules (v ∷ rs) ws n s r h =
      let z : suc (suc n + length rs) ≡ suc (n + suc (length rs)) = omega arith in
      on_rule n s r v (rs ++ (codes "end" ∷ ws)) (not_end v (h v (inl refl)))
      ∙ over_rules rs ws (suc n) s (r ++ (v ++ (10 ∷ []))) (λ w m. h w (inr m))
      ∙ ap (λ t. read_on S (suc (suc n + length rs)) (so_far (loaded s t) None) ws) (append_assoc r (v ++ (10 ∷ [])) (rules_text rs))
      ∙ ap (λ k. read_on S k (so_far (loaded s (r ++ rules_text (v ∷ rs))) None) ws) z

  pub over : {ws : List (List ℕ)} {is : List (Item P E)} → ItemsAre S ws is → (n : ℕ) (s t : Script P E) (vs : List (List ℕ)) → Follows s is t
      → read_on S n (so_far s None) (ws ++ vs) ≡ read_on S (n + length ws) (so_far t None) vs
  over none n s t vs f = let z : n ≡ n + 0 = omega arith in ap (λ q. read_on S n (so_far q None) vs) (sym f) ∙ ap (λ k. read_on S k (so_far t None) vs) z
  over (blank w ws is e a) n s t vs f =
      let z : suc n + length ws ≡ n + suc (length ws) = omega arith in
      on_blank n s w (ws ++ vs) e ∙ over a (suc n) s t vs f ∙ ap (λ k. read_on S k (so_far t None) vs) z
  over (line w ws i is e o a) n s t vs f =
      let z : suc n + length ws ≡ n + suc (length ws) = omega arith in
      on_item n s w (ws ++ vs) i e f.0 ∙ ap (λ q. read_on S (suc n) (so_far (with_item s i) q) (ws ++ vs)) o ∙ over a (suc n) (with_item s i) t vs f.1 ∙ ap (λ k. read_on S k (so_far t None) vs) z
  over (load w rs ws is e h a) n s t vs f =
      let z : suc (suc n + length rs) + length ws ≡ n + suc (length (rs ++ (codes "end" ∷ ws))) = omega (arith, length-append rs (codes "end" ∷ ws)) in
      on_item n s w ((rs ++ (codes "end" ∷ ws)) ++ vs) rules_follow e f.0
      ∙ ap (read_on S (suc n) (so_far s (Some []))) (append_assoc rs (codes "end" ∷ ws) vs)
      ∙ over_rules rs (ws ++ vs) (suc n) s [] h ∙ over a (suc (suc n + length rs)) (loaded s (rules_text rs)) t vs f.1 ∙ ap (λ k. read_on S k (so_far t None) vs) z

  -- What is read is what the lines say, or the first fault

  -- some lines that say items, before others
  ahead : (front : List (List ℕ)) (items : List (Item P E)) (n : ℕ) (s s' : Script P E) (ws : List (List ℕ)) (q : Result (Script P E) (ℕ × Cause))
      → ((vs : List (List ℕ)) (js : List (Item P E)) → ItemsAre S vs js → ItemsAre S (front ++ vs) (items ++ js))
      → ((js : List (Item P E)) (t : Script P E) → Follows s' js t → Follows s (items ++ js) t)
      → ReadMeans S (n + length front) s' ws q → ReadMeans S n s (front ++ ws) q
  ahead front items n s s' ws (Ok t) a f (is, are, follow) = (items ++ is, a ws is are, f is t follow)
  ahead front items n s s' ws (Err (m, c)) a f (inl r) = inl (record {
    before = front ++ r.before;
    line = r.line;
    after = r.after;
    are = ap (λ l. front ++ l) r.are ∙ sym (append_assoc front r.before (r.line ∷ r.after));
    number = omega (arith, r.number, length-append front r.before);
    said = r.said;
    say = (items ++ r.say.0, a r.before r.say.0 r.say.1, f r.say.0 r.said r.say.2);
    wrong = r.wrong;
  })
  ahead front items n s s' ws (Err (m, c)) a f (inr r) = inr (record {
    before = front ++ r.before;
    line = r.line;
    rules = r.rules;
    are = ap (λ l. front ++ l) r.are ∙ sym (append_assoc front r.before (r.line ∷ r.rules));
    number = omega (arith, r.number, length-append front ws);
    cause = r.cause;
    said = r.said;
    say = (items ++ r.say.0, a r.before r.say.0 r.say.1, f r.say.0 r.said r.say.2);
    begins = r.begins;
    may = r.may;
    no_end = r.no_end;
  })

  -- a line is wrong
  wrong_here : (n : ℕ) (s : Script P E) (w : List ℕ) (ws : List (List ℕ)) (c : Cause) → Wrong S s w c → ReadMeans S n s (w ∷ ws) (read_on S n (so_far s None) (w ∷ ws))
  wrong_here n s w ws c h = subst (ReadMeans S n s (w ∷ ws)) (sym (on_wrong n s w ws c h)) (inl (record {
    before = [];
    line = w;
    after = ws;
    are = refl;
    number = omega arith;
    said = s;
    say = ([], none, refl);
    wrong = h;
  }))

  -- lines where no rules follow, and lines behind a load alone and some of its rules
  abbrev Both : List (List ℕ) → Type 0
  Both ws = ((n : ℕ) (s : Script P E) → ReadMeans S n s ws (read_on S n (so_far s None) ws))
      × ((n : ℕ) (s : Script P E) (w : List ℕ) (rs : List (List ℕ)) → Says S w rules_follow → may_come s rules_follow ≡ true → NoEndAmong rs
      → ReadMeans S n s (w ∷ (rs ++ ws)) (read_on S (suc (n + length rs)) (so_far s (Some (rules_text rs))) ws))

  both_end : Both []
  unfolding read_on
  both_end = (
    (λ n s. ([], none, refl)),
    (λ n s w rs e m h. inr (record {
      before = [];
      line = w;
      rules = rs ++ [];
      are = refl;
      number = (let empty : List (List ℕ) = [] in omega (arith, length-append rs empty));
      cause = refl;
      said = s;
      say = ([], none, refl);
      begins = e;
      may = m;
      no_end = subst NoEndAmong (sym (append-nil rs)) h;
    })),
  )

  module _ (w : List ℕ) (ws : List (List ℕ)) (ih : Both ws) where
    -- the line says nothing
    nothing_here : (n : ℕ) (s : Script P E) → line_said S w ≡ Ok None → ReadMeans S n s (w ∷ ws) (read_on S n (so_far s None) (w ∷ ws))
    nothing_here n s e =
        let z : suc n ≡ n + 1 = omega arith in
        subst (ReadMeans S n s (w ∷ ws)) (sym (on_blank n s w ws e))
        (ahead (w ∷ []) [] n s s ws (read_on S (suc n) (so_far s None) ws) (λ vs js a. blank w vs js e a) (λ js t f. f) (subst (λ k. ReadMeans S k s ws (read_on S (suc n) (so_far s None) ws)) z (ih.0 (suc n) s)))

    -- it says an item by itself
    item_here : (n : ℕ) (s : Script P E) (i : Item P E) → Says S w i → may_come s i ≡ true → rules_of i ≡ None → ReadMeans S n s (w ∷ ws) (read_on S n (so_far s None) (w ∷ ws))
    item_here n s i e m o =
        let z : suc n ≡ n + 1 = omega arith in
        let q = read_on S (suc n) (so_far (with_item s i) None) ws in
        subst (ReadMeans S n s (w ∷ ws)) (sym (on_item n s w ws i e m ∙ ap (λ r. read_on S (suc n) (so_far (with_item s i) r) ws) o))
        (ahead (w ∷ []) (i ∷ []) n s (with_item s i) ws q (λ vs js a. line w vs i js e o a) (λ js t f. (m, f)) (subst (λ k. ReadMeans S k (with_item s i) ws q) z (ih.0 (suc n) (with_item s i))))

    -- it is load alone
    rules_here : (n : ℕ) (s : Script P E) → Says S w rules_follow → may_come s rules_follow ≡ true → ReadMeans S n s (w ∷ ws) (read_on S n (so_far s None) (w ∷ ws))
    rules_here n s e m =
        let z : suc n ≡ suc (n + 0) = omega arith in
        subst (ReadMeans S n s (w ∷ ws)) (sym (on_item n s w ws rules_follow e m ∙ ap (λ k. read_on S k (so_far s (Some [])) ws) z)) (ih.1 n s w [] e m (λ v k. absurd k))

    one_here : (n : ℕ) (s : Script P E) (i : Item P E) → Says S w i → may_come s i ≡ true → (rules_of i ≡ None) ⊎ (i ≡ rules_follow) → ReadMeans S n s (w ∷ ws) (read_on S n (so_far s None) (w ∷ ws))
    one_here n s i e m (inl o) = item_here n s i e m o
    one_here n s i e m (inr f) = rules_here n s (e ∙ ap (λ j. Ok (Some j)) f) (sym (ap (may_come s) f) ∙ m)

    by_said : (n : ℕ) (s : Script P E) (r : Result (Option (Item P E)) Cause) → line_said S w ≡ r → ReadMeans S n s (w ∷ ws) (read_on S n (so_far s None) (w ∷ ws))
    by_said n s (Ok None) e = nothing_here n s e
    by_said n s (Ok (Some i)) e = elim (cases_Bool (may_come s i)) [ inl m ↦ one_here n s i e m (alone_or_not i) | inr m ↦ wrong_here n s w ws OutOfPlace (inr (refl, (i, e, m))) ]
    by_said n s (Err c) e = wrong_here n s w ws c (inl e)

    -- among the rules of a load
    rule_here : (n : ℕ) (s : Script P E) (v : List ℕ) (rs : List (List ℕ)) → Says S v rules_follow → may_come s rules_follow ≡ true → NoEndAmong rs → is_end w ≡ false
        → ReadMeans S n s (v ∷ (rs ++ (w ∷ ws))) (read_on S (suc (n + length rs)) (so_far s (Some (rules_text rs))) (w ∷ ws))
    rule_here n s v rs e m h f =
        let z : suc (suc (n + length rs)) ≡ suc (n + length (rs ++ (w ∷ []))) = omega (arith, length-append rs (w ∷ [])) in
        let q = on_rule (suc (n + length rs)) s (rules_text rs) w ws f
        ∙ ap (λ t. read_on S (suc (suc (n + length rs))) (so_far s (Some t)) ws) (sym (rules_text_more rs w)) ∙ ap (λ k. read_on S k (so_far s (Some (rules_text (rs ++ (w ∷ []))))) ws) z in
        subst (ReadMeans S n s (v ∷ (rs ++ (w ∷ ws)))) (sym q)
        (subst (λ l. ReadMeans S n s (v ∷ l) (read_on S (suc (n + length (rs ++ (w ∷ [])))) (so_far s (Some (rules_text (rs ++ (w ∷ []))))) ws)) (append_assoc rs (w ∷ []) ws)
        (ih.1 n s v (rs ++ (w ∷ [])) e m (no_end_more rs w h (other w f))))

    end_here : (n : ℕ) (s : Script P E) (v : List ℕ) (rs : List (List ℕ)) → Says S v rules_follow → may_come s rules_follow ≡ true → NoEndAmong rs → is_end w ≡ true
        → ReadMeans S n s (v ∷ (rs ++ (w ∷ ws))) (read_on S (suc (n + length rs)) (so_far s (Some (rules_text rs))) (w ∷ ws))
    end_here n s v rs e m h t =
        let front = v ∷ (rs ++ (codes "end" ∷ [])) in
        let item : Item P E = a_book_call (a_load (rules_text rs)) in
        let z : suc (suc (n + length rs)) ≡ n + length front = omega (arith, length-append rs (codes "end" ∷ [])) in
        let ended : w ≡ codes "end" = same_is w (codes "end") t in
        let q = read_on S (suc (suc (n + length rs))) (so_far (loaded s (rules_text rs)) None) ws in
        subst (ReadMeans S n s (v ∷ (rs ++ (w ∷ ws)))) (sym (on_rules_end (suc (n + length rs)) s (rules_text rs) w ws t))
        (subst (λ x. ReadMeans S n s (v ∷ (rs ++ (x ∷ ws))) q) (sym ended)
        (subst (λ l. ReadMeans S n s (v ∷ l) q) (append_assoc rs (codes "end" ∷ []) ws)
        (ahead front (item ∷ []) n s (loaded s (rules_text rs)) ws q
        (λ vs js a. subst (λ l. ItemsAre S (v ∷ l) (item ∷ js)) (sym (append_assoc rs (codes "end" ∷ []) vs)) (load v rs vs js e h a))
        (λ js x f. (m, f))
        (subst (λ k. ReadMeans S k (loaded s (rules_text rs)) ws q) z (ih.0 (suc (suc (n + length rs))) (loaded s (rules_text rs)))))))

    both_here : Both (w ∷ ws)
    both_here = (
      (λ n s. by_said n s (line_said S w) refl),
      (λ n s v rs e m h. elim (cases_Bool (is_end w)) [ inl t ↦ end_here n s v rs e m h t | inr f ↦ rule_here n s v rs e m h f ]),
    )

  both : (ws : List (List ℕ)) → Both ws
  both [] = both_end
  both (w ∷ ws) = both_here w ws (both ws)

  pub read_means : (n : ℕ) (s : Script P E) (ws : List (List ℕ)) → ReadMeans S n s ws (read_on S n (so_far s None) ws)
  read_means n s ws = (both ws).0 n s
