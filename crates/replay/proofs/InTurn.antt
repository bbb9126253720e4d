-- Answers of calls in turn.
use Rattle.std.proofs.Common.{◌≡◌, ℕ, ◌+◌, ◌<◌, ◌≤◌, List, [], ◌∷◌, ◌++◌, map, take, set, length, get_or, sym, refl, ap, ◌∙◌}
use Rattle.std.specs.List.{fold}
use Rattle.std.proofs.lemmas.List.{take_more, take_more_set, take_all, map-append}
use Rattle.std.proofs.lemmas.List.Sums.{fold_push}
use Rattle.replay.specs.declared.answer.Answer.{Answer}
use Rattle.replay.specs.Answers.{Saying, said, in_turn, Kind, answer_kind}

module _ {S C : Type 0} (after : S → C → S) (answer : S → C → Saying) (kind : C → Kind) where
  -- one call more
  turn_more : (s : S) (cs : List C) (c : C) → in_turn after answer s (cs ++ (c ∷ [])) ≡ in_turn after answer s cs ++ (answer (fold after s cs) c ∷ [])
  turn_more s [] c = refl
  turn_more s (d ∷ cs) c = ap (λ l. answer s d ∷ l) (turn_more (after s d) cs c)

  module _ {X : Type 0} (view : X → C) where
    -- the first k of the calls were made from the state s on, and led to `now`; each answer is in its place
    pub record Made (s : S) (calls : List X) (k : ℕ) (answers : List Answer) (now : S) : Type 0 where
      pub says : map said (take k answers) ≡ in_turn after answer s (map view (take k calls))
      pub kinds : map answer_kind (take k answers) ≡ map kind (map view (take k calls))
      pub leads : fold after s (map view (take k calls)) ≡ now

    more_views : (calls : List X) (k : ℕ) (d x : X) → k < length calls → get_or calls k d ≡ x → map view (take (k + 1) calls) ≡ map view (take k calls) ++ (view x ∷ [])
    more_views calls k d x h e = ap (map view) (take_more calls k d h ∙ ap (λ y. take k calls ++ (y ∷ [])) e) ∙ map-append view (take k calls) (x ∷ [])

    pub made_more : (s : S) (calls : List X) (k : ℕ) (answers : List Answer) (now is : S) (d x : X) (r : Answer) → Made s calls k answers now → k < length calls → k < length answers
        → get_or calls k d ≡ x → said r ≡ answer now (view x) → answer_kind r ≡ kind (view x) → is ≡ after now (view x) → Made s calls (k + 1) (set answers k r) is
    made_more s calls k answers now is d x r m h l e says of_kind leads =
        let views = more_views calls k d x h e in
        let front = map view (take k calls) in
        record {
          says = ap (map said) (take_more_set answers k r l) ∙ map-append said (take k answers) (r ∷ [])
              ∙ ap (λ l. l ++ (said r ∷ [])) m.says ∙ ap (λ a. in_turn after answer s front ++ (a ∷ [])) (says ∙ ap (λ t. answer t (view x)) (sym m.leads))
              ∙ sym (turn_more s front (view x)) ∙ ap (in_turn after answer s) (sym views);
          kinds = ap (map answer_kind) (take_more_set answers k r l) ∙ map-append answer_kind (take k answers) (r ∷ [])
              ∙ ap (λ l. l ++ (answer_kind r ∷ [])) m.kinds ∙ ap (λ t. map kind front ++ (t ∷ [])) of_kind ∙ sym (map-append kind front (view x ∷ [])) ∙ ap (map kind) (sym views);
          leads = ap (fold after s) views ∙ fold_push after s front (view x) ∙ ap (λ t. after t (view x)) m.leads ∙ sym leads;
        }

    pub all_said : (s : S) (calls : List X) (k : ℕ) (answers : List Answer) (now : S) → Made s calls k answers now → length calls ≤ k → length answers ≤ k
        → map said answers ≡ in_turn after answer s (map view calls)
    all_said s calls k answers now m h l = ap (map said) (sym (take_all k answers l)) ∙ m.says ∙ ap (λ c. in_turn after answer s (map view c)) (take_all k calls h)

    pub all_kinds : (s : S) (calls : List X) (k : ℕ) (answers : List Answer) (now : S) → Made s calls k answers now → length calls ≤ k → length answers ≤ k
        → map answer_kind answers ≡ map kind (map view calls)
    all_kinds s calls k answers now m h l = ap (map answer_kind) (sym (take_all k answers l)) ∙ m.kinds ∙ ap (λ c. map kind (map view c)) (take_all k calls h)

    pub all_led : (s : S) (calls : List X) (k : ℕ) (answers : List Answer) (now : S) → Made s calls k answers now → length calls ≤ k → now ≡ fold after s (map view calls)
    all_led s calls k answers now m h = sym m.leads ∙ ap (λ c. fold after s (map view c)) (take_all k calls h)
