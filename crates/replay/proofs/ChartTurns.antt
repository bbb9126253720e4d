-- The calls of a chart in turn.
use Rattle.std.proofs.Common.{◌≡◌, ℕ, ◌+◌, ◌<◌, Bool, List, [], ◌∷◌, ◌++◌, map, take, set, length, get_or, ap, subst, sym, ◌∙◌}
use Rattle.std.proofs.lemmas.List.{take_more, map-append}
use Rattle.std.proofs.lemmas.List.Sums.{fold_push}
use Rattle.grammar.specs.Semiring.{Ops}
use Rattle.book.specs.declared.alphabet.Alphabet.{Ghosts}
use Rattle.weighing.specs.declared.weighing.Weighing.{Ghosts as Weighings}
use Rattle.weighing.specs.declared.bank.Bank.{Ghosts as Banks}
use Rattle.chart.specs.declared.chart.Chart.{Chart}
use Rattle.chart.specs.Events.{chart_symbols}
use Rattle.chart.specs.Runs.{ChartCall as Called, after, held_events, HoldsAfter, RunsOn}
use Rattle.replay.specs.declared.answer.Answer.{Answer}
use Rattle.replay.specs.declared.call.ChartCall.{ChartCall}
use Rattle.replay.specs.Calls.{chart_call_of}
use Rattle.replay.specs.Answers.{said, chart_answer, answer_kind, chart_kind}
use Rattle.replay.proofs.InTurn.{Made, made_more}

-- one call more
held_more : {E : Type 0} (S m : ℕ) (calls : List (Called E)) (c : Called E) → held_events S m (calls ++ (c ∷ [])) ≡ after S m (held_events S m calls) c
unfolding held_events
held_more S m calls c = fold_push (after S m) [] calls c

-- the first k calls
abbrev pub views : {E : Type 0} → List (ChartCall E) → ℕ → List (Called E)
views calls k = map chart_call_of (take k calls)

-- and one more
pub next_views : {E : Type 0} (calls : List (ChartCall E)) (k : ℕ) (d x : ChartCall E) → k < length calls → get_or calls k d ≡ x → views calls (k + 1) ≡ views calls k ++ (chart_call_of x ∷ [])
next_views calls k d x lt e = ap (map chart_call_of) (take_more calls k d lt ∙ ap (λ y. take k calls ++ (y ∷ [])) e) ∙ map-append chart_call_of (take k calls) (x ∷ [])

-- the first k calls were made on a chart that was cut over a table of m weights, S to a cell
pub record ChartMade {A K E P V U : Type 0} {G : Ghosts A E P} {H : Weighings K V U} {B : Banks U V} (M : Ops V) (test : P → E → Bool) (S m : ℕ) (calls : List (ChartCall E)) (k : ℕ) (answers : List Answer) (c : Chart A K E P V U G H B) : Type 0 where
  pub made : Made (after S m) (λ held. chart_answer S m (length held)) chart_kind chart_call_of [] calls k answers (held_events S m (views calls k))
  pub holds : HoldsAfter M test c (views calls k)
  pub symbols : chart_symbols c ≡ S
  pub long : length c.weights.now ≡ m

module _ {A K E P V U : Type 0} {G : Ghosts A E P} {H : Weighings K V U} {B : Banks U V} (M : Ops V) (test : P → E → Bool) where
  pub chart_more : (S m : ℕ) (calls : List (ChartCall E)) (k : ℕ) (answers : List Answer) (was is : Chart A K E P V U G H B) (d x : ChartCall E) (r : Answer)
      → ChartMade M test S m calls k answers was → k < length calls → k < length answers → get_or calls k d ≡ x
      → said r ≡ chart_answer (chart_symbols was) (length was.weights.now) was.events (chart_call_of x) → answer_kind r ≡ chart_kind (chart_call_of x) → RunsOn M test (chart_call_of x) was is
      → length is.weights.now ≡ length was.weights.now → is.book ≡ was.book → ChartMade M test S m calls (k + 1) (set answers k r) is
  chart_more S m calls k answers was is d x r h lt room e says of_kind runs long book =
      let c = chart_call_of x in
      let more = next_views calls k d x lt e in
      let many : length (held_events S m (views calls k)) ≡ was.events =
      sym (ap (λ s. length (held_events s m (views calls k))) h.symbols) ∙ sym (ap (λ n. length (held_events (chart_symbols was) n (views calls k))) h.long) ∙ h.holds.many in
      record {
        made = made_more (after S m) (λ held. chart_answer S m (length held)) chart_kind chart_call_of [] calls k answers (held_events S m (views calls k)) (held_events S m (views calls (k + 1))) d x r h.made lt room e
            (says ∙ ap (λ s. chart_answer s (length was.weights.now) was.events c) h.symbols ∙ ap (λ n. chart_answer S n was.events c) h.long ∙ ap (λ n. chart_answer S m n c) (sym many)) of_kind
            (ap (held_events S m) more ∙ held_more S m (views calls k) c);
        holds = subst (HoldsAfter M test is) (sym more) (runs (views calls k) h.holds);
        symbols = ap (λ b. chart_symbols (record is { book = b })) book ∙ h.symbols;
        long = long ∙ h.long;
      }
