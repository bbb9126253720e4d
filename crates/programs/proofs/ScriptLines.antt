-- The lines of a script, one after the other.
use Rattle.std.proofs.Common.{◌≡◌, ℕ, zero, suc, ◌+◌, ◌<◌, ◌≤◌, Bool, List, [], ◌∷◌, ◌++◌, map, length, get_or, take, drop, sym, refl, ap, ◌∙◌, subst, inl, inr, append_assoc, append-nil, add-one, arith, length-append, drop-cons}
use Rattle.std.specs.List.{fold}
use Rattle.std.proofs.Math.Seq.{drop-nil, take-append_seam, drop-append_seam}
use Rattle.std.proofs.lemmas.List.{length-map, take_more, take-map, drop-map, map-append}
use Rattle.std.proofs.lemmas.List.Sums.{fold_push}
use Rattle.grammar.specs.Productions.{Book}
use Rattle.grammar.specs.Binarise.{binarised}
use Rattle.book.specs.Runs.{Call as BookCall}
use Rattle.chart.specs.Runs.{ChartCall, after, held_events}
use Rattle.replay.specs.Answers.{Saying, in_turn, chart_answers}
use Rattle.replay.specs.Calls.{chart_call_of}
use Rattle.replay.specs.declared.call.ChartCall.{ChartCall as Called}
use Rattle.programs.specs.declared.script.lines.ChartLine.{ChartLine as Line}
use Rattle.programs.specs.declared.script.lines.ChartLine.TheVariants.{Call, Ask}
use Rattle.programs.specs.declared.script.lines.Question.{Question}
use Rattle.programs.specs.declared.script.lines.Question.TheVariants.{Total, Reading}
use Rattle.programs.specs.Said.{asked, chart_line}
use Rattle.programs.specs.Scripts.{ChartLine, a_call, a_total, a_reading}
use Rattle.programs.specs.Printed.{answer_text, line_text, held_then, lines_text, calls_in, Cheap, AllCheap}

-- one more of a list, by what is seen of it
pub seen_more : {X Y Z : Type 0} (f : X → Z) (g : Y → Z) (xs : List X) (x : X) (ys : List Y) (i : ℕ) (d : Y) → i < length ys → map f xs ≡ map g (take i ys) → f x ≡ g (get_or ys i d)
    → map f (xs ++ (x ∷ [])) ≡ map g (take (i + 1) ys)
seen_more f g xs x ys i d h e at =
    map-append f xs (x ∷ []) ∙ ap (λ l. l ++ (f x ∷ [])) e ∙ ap (λ z. map g (take i ys) ++ (z ∷ [])) at
    ∙ sym (ap (map g) (take_more ys i d h) ∙ map-append g (take i ys) (get_or ys i d ∷ []))

-- a list that is seen as two, parted between them
pub seen_parts : {X Y : Type 0} (f : X → Y) (xs : List X) (ys zs : List Y) (k : ℕ) → length ys ≡ k → map f xs ≡ ys ++ zs → (k ≤ length xs) × (map f (take k xs) ≡ ys) × (map f (drop k xs) ≡ zs)
seen_parts f xs ys zs k n e = (
  omega (arith, length-map xs f, ap length e, length-append ys zs),
  sym (take-map f k xs) ∙ ap (take k) e ∙ ap (λ j. take j (ys ++ zs)) (sym n) ∙ take-append_seam ys zs,
  sym (drop-map f k xs) ∙ ap (drop k) e ∙ ap (λ j. drop j (ys ++ zs)) (sym n) ∙ drop-append_seam ys zs,
)

-- each call has an answer
pub many_answers : {S C : Type 0} (after : S → C → S) (answer : S → C → Saying) (s : S) (cs : List C) → length (in_turn after answer s cs) ≡ length cs
many_answers after answer s [] = refl
many_answers after answer s (c ∷ cs) = ap suc (many_answers after answer (after s c) cs)

-- two texts one after the other, from none on
pub after_none : (none was first then is rest : List ℕ) → none ≡ [] → was ≡ none ++ first → first ≡ then → is ≡ was ++ rest → is ≡ then ++ rest
after_none none was first then is rest e f h p = p ∙ ap (λ l. l ++ rest) (f ∙ ap (λ l. l ++ first) e ∙ h)

-- one more call of the book
pub cheap_more : (cs : List BookCall) (c : BookCall) → AllCheap cs → Cheap c → AllCheap (cs ++ (c ∷ []))
cheap_more [] c all low d (inl e) = subst Cheap (sym e) low
cheap_more [] c all low d (inr m) = absurd m
cheap_more (b ∷ cs) c all low d (inl e) = all d (inl e)
cheap_more (b ∷ cs) c all low d (inr m) = cheap_more cs c (λ a n. all a (inr n)) low d m

calls_append : {E : Type 0} (ls ms : List (ChartLine E)) → calls_in (ls ++ ms) ≡ calls_in ls ++ calls_in ms
calls_append [] ms = refl
calls_append (a_call c ∷ ls) ms = ap (λ l. c ∷ l) (calls_append ls ms)
calls_append (a_total ∷ ls) ms = calls_append ls ms
calls_append (a_reading ∷ ls) ms = calls_append ls ms

-- the calls among one line more
pub calls_more : {Y E : Type 0} (g : Y → ChartLine E) (ys : List Y) (i : ℕ) (d : Y) → i < length ys
    → calls_in (map g (take (i + 1) ys)) ≡ calls_in (map g (take i ys)) ++ calls_in (g (get_or ys i d) ∷ [])
calls_more g ys i d h =
    ap calls_in (ap (map g) (take_more ys i d h) ∙ map-append g (take i ys) (get_or ys i d ∷ []))
    ∙ calls_append (map g (take i ys)) (g (get_or ys i d) ∷ [])

-- what is asked is no call, and leaves the events
pub asked_calls : {E : Type 0} (q : Question) (ls : List (ChartLine E)) → calls_in (asked q ∷ ls) ≡ calls_in ls
asked_calls Total ls = refl
asked_calls Reading ls = refl

pub asked_held : {E : Type 0} (W : Book) (m : ℕ) (es : List E) (q : Question) → held_then W m es (asked q) ≡ es
asked_held W m es Total = refl
asked_held W m es Reading = refl

module _ {E : Type 0} (lines : List (Line E)) (i : ℕ) (d : Line E) (calls : List (Called E)) where
  -- one line more, which is a call
  pub call_seen : (c : Called E) → i < length lines → map chart_call_of calls ≡ calls_in (map chart_line (take i lines)) → get_or lines i d ≡ Call c
      → map chart_call_of (calls ++ (c ∷ [])) ≡ calls_in (map chart_line (take (i + 1) lines))
  call_seen c h e at =
      map-append chart_call_of calls (c ∷ []) ∙ ap (λ l. l ++ (chart_call_of c ∷ [])) e
      ∙ sym (calls_more chart_line lines i d h ∙ ap (λ l. calls_in (map chart_line (take i lines)) ++ calls_in (chart_line l ∷ [])) at)

  -- or a question
  pub ask_seen : (q : Question) → i < length lines → map chart_call_of calls ≡ calls_in (map chart_line (take i lines)) → get_or lines i d ≡ Ask q
      → map chart_call_of calls ≡ calls_in (map chart_line (take (i + 1) lines))
  ask_seen q h e at =
      e ∙ sym (calls_more chart_line lines i d h ∙ ap (λ l. calls_in (map chart_line (take i lines)) ++ calls_in (chart_line l ∷ [])) at
      ∙ ap (λ l. calls_in (map chart_line (take i lines)) ++ l) (asked_calls q []) ∙ append-nil (calls_in (map chart_line (take i lines))))

-- lines after others are printed with the events that these lead to
pub lines_append : {E : Type 0} (W : Book) (fits : E → ℕ → Bool) (m n : ℕ) (es : List E) (ls ms : List (ChartLine E))
    → lines_text W fits m n es (ls ++ ms) ≡ lines_text W fits m n es ls ++ lines_text W fits m n (fold (after (binarised W).symbols m) es (calls_in ls)) ms
lines_append W fits m n es [] ms = refl
lines_append W fits m n es (a_call c ∷ ls) ms =
    let first = line_text W fits m n es (a_call c) in
    let then = after (binarised W).symbols m es c in
    ap (λ t. first ++ t) (lines_append W fits m n then ls ms) ∙ sym (append_assoc first (lines_text W fits m n then ls) _)
lines_append W fits m n es (a_total ∷ ls) ms =
    let first = line_text W fits m n es a_total in
    ap (λ t. first ++ t) (lines_append W fits m n es ls ms) ∙ sym (append_assoc first (lines_text W fits m n es ls) _)
lines_append W fits m n es (a_reading ∷ ls) ms =
    let first = line_text W fits m n es a_reading in
    ap (λ t. first ++ t) (lines_append W fits m n es ls ms) ∙ sym (append_assoc first (lines_text W fits m n es ls) _)

-- what stands in a place where a list is known from there on
drop_head : {A : Type 0} (xs : List A) (k : ℕ) (y : A) (ys : List A) → drop k xs ≡ y ∷ ys → (k < length xs) × ((d : A) → get_or xs k d ≡ y) × (drop (suc k) xs ≡ ys)
drop_head [] k y ys e = absurd (omega (arith, ap length (sym (drop-nil k) ∙ e)))
drop_head (x ∷ xs) zero y ys e = (omega arith, (λ d. cc), cc)
drop_head (x ∷ xs) (suc k) y ys e = let r = drop_head xs k y ys e in (omega (arith, r.0), r.1, r.2)

module _ {E : Type 0} (W : Book) (fits : E → ℕ → Bool) (m n : ℕ) (cs : List (ChartCall E)) (ls : List (ChartLine E)) (answers : List Saying) where
  abbrev S : ℕ
  S = (binarised W).symbols

  -- the events held after the first k calls
  abbrev pub held : ℕ → List E
  held k = held_events S m (take k cs)

  -- the first i lines were printed, with the answers of the first calls among them
  pub record Sofar (i made : ℕ) (was out : List ℕ) : Type 0 where
    pub whole : was ++ lines_text W fits m n [] ls ≡ out ++ lines_text W fits m n (held made) (drop i ls)
    pub calls : drop made cs ≡ calls_in (drop i ls)
    pub said : drop made answers ≡ chart_answers S m (held made) (drop made cs)
    pub inside : made ≤ length cs

  pub no_line : (was : List ℕ) → cs ≡ calls_in ls → answers ≡ chart_answers S m [] cs → Sofar 0 0 was was
  unfolding held_events
  no_line was e f = record { whole = refl; calls = e; said = f; inside = omega arith }

  held_more : (k : ℕ) (d : ChartCall E) → k < length cs → held (k + 1) ≡ after S m (held k) (get_or cs k d)
  unfolding held_events
  held_more k d h = ap (held_events S m) (take_more cs k d h) ∙ fold_push (after S m) [] (take k cs) (get_or cs k d)

  module _ (i made : ℕ) (was out : List ℕ) (s : Sofar i made was out) (d l : ChartLine E) (h : i < length ls) (e : get_or ls i d ≡ l) where
    this_line : drop i ls ≡ l ∷ drop (i + 1) ls
    this_line = drop-cons ls i d h ∙ ap (λ x. x ∷ drop (suc i) ls) e ∙ ap (λ j. l ∷ drop j ls) (sym (add-one i))

    printed_then : (out' : List ℕ) → out' ≡ out ++ line_text W fits m n (held made) l
        → was ++ lines_text W fits m n [] ls ≡ out' ++ lines_text W fits m n (held_then W m (held made) l) (drop (i + 1) ls)
    printed_then out' p =
        let rest = lines_text W fits m n (held_then W m (held made) l) (drop (i + 1) ls) in
        s.whole ∙ ap (λ x. out ++ lines_text W fits m n (held made) x) this_line
        ∙ sym (append_assoc out (line_text W fits m n (held made) l) rest) ∙ ap (λ o. o ++ rest) (sym p)

  -- the next line is a call
  module _ (i made : ℕ) (was out : List ℕ) (s : Sofar i made was out) (d : ChartLine E) (c : ChartCall E) (h : i < length ls) (e : get_or ls i d ≡ a_call c) where
    this_call : drop made cs ≡ c ∷ calls_in (drop (i + 1) ls)
    this_call = s.calls ∙ ap calls_in (this_line i made was out s d (a_call c) h e)

    at_call : (made < length cs) × ((d : ChartCall E) → get_or cs made d ≡ c) × (drop (suc made) cs ≡ calls_in (drop (i + 1) ls))
    at_call = drop_head cs made c (calls_in (drop (i + 1) ls)) this_call

    answers_then : drop made answers ≡ chart_answers S m (held made) (c ∷ calls_in (drop (i + 1) ls))
    answers_then = s.said ∙ ap (chart_answers S m (held made)) this_call

    -- it has an answer
    pub answered : made < length answers
    answered = (drop_head answers made _ _ answers_then).0

    -- which is printed
    pub call_printed : (x : Saying) (out' : List ℕ) → out' ≡ out ++ answer_text (get_or answers made x) → Sofar (i + 1) (made + 1) was out'
    call_printed x out' p =
        let a = drop_head answers made _ _ answers_then in
        let next : held (made + 1) ≡ after S m (held made) c = held_more made c at_call.0 ∙ ap (after S m (held made)) (at_call.1 c) in
        let rest : drop (made + 1) cs ≡ calls_in (drop (i + 1) ls) = ap (λ j. drop j cs) (add-one made) ∙ at_call.2 in
        record {
          whole = printed_then i made was out s d (a_call c) h e out' (p ∙ ap (λ y. out ++ answer_text y) (a.1 x))
              ∙ ap (λ w. out' ++ lines_text W fits m n w (drop (i + 1) ls)) (sym next);
          calls = rest;
          said = ap (λ j. drop j answers) (add-one made) ∙ a.2 ∙ ap (λ w. chart_answers S m w (calls_in (drop (i + 1) ls))) (sym next) ∙ ap (chart_answers S m (held (made + 1))) (sym rest);
          inside = omega (arith, at_call.0);
        }

  -- the next line is no call
  pub asked_printed : (i made : ℕ) (was out : List ℕ) (s : Sofar i made was out) (d l : ChartLine E) → i < length ls → get_or ls i d ≡ l
      → calls_in (l ∷ drop (i + 1) ls) ≡ calls_in (drop (i + 1) ls) → held_then W m (held made) l ≡ held made
      → (out' : List ℕ) → out' ≡ out ++ line_text W fits m n (held made) l → Sofar (i + 1) made was out'
  asked_printed i made was out s d l h e none same out' p = record {
    whole = printed_then i made was out s d l h e out' p ∙ ap (λ w. out' ++ lines_text W fits m n w (drop (i + 1) ls)) same;
    calls = s.calls ∙ ap calls_in (this_line i made was out s d l h e) ∙ none;
    said = s.said;
    inside = s.inside;
  }

  -- the same numbers and text
  pub sofar_same : (i made made' : ℕ) (was out out' : List ℕ) → made' ≡ made → out' ≡ out → Sofar i made was out → Sofar i made' was out'
  sofar_same i made made' was out out' e f s = subst (λ k. Sofar i k was out') (sym e) (subst (Sofar i made was) (sym f) s)

  -- all lines were printed
  pub all_printed : (i made : ℕ) (was out : List ℕ) → Sofar i made was out → drop i ls ≡ [] → out ≡ was ++ lines_text W fits m n [] ls
  all_printed i made was out s e = sym (append-nil out) ∙ sym (s.whole ∙ ap (λ x. out ++ lines_text W fits m n (held made) x) e)
