-- A trace is fed to a chart, event by event.
use Rattle.std.proofs.Common.{◌≡◌, ℕ, ◌+◌, ◌-◌, ◌<◌, ◌≤◌, Bool, List, [], ◌∷◌, ◌++◌, length, get_or, take, Ok, Err, Result, IsErr, sym, refl, ap, ap₂, ◌∙◌, subst, inl, inr, append_assoc, append-nil, true≢false, arith}
use Rattle.std.proofs.lemmas.Bool.Decides.{nat_tests}
use Rattle.std.proofs.lemmas.List.{take_all, take_more}
use Rattle.grammar.specs.Cells.{column_place, feed_refusal}
use Rattle.grammar.specs.Semiring.{Ops}
use Rattle.grammar.specs.Binarise.{binarised}
use Rattle.book.specs.declared.alphabet.Alphabet.{Ghosts}
use Rattle.book.specs.Books.{closed_book}
use Rattle.weighing.specs.declared.weighing.Weighing.{Ghosts as Weighings}
use Rattle.weighing.specs.declared.bank.Bank.{Ghosts as Banks}
use Rattle.chart.specs.declared.chart.Chart.{Chart}
use Rattle.chart.specs.declared.fault.FeedFault.{FeedFault}
use Rattle.chart.specs.declared.fault.FeedFault.TheVariants.{NoRoom}
use Rattle.chart.specs.Events.{chart_symbols, Holds}
use Rattle.chart.specs.Feeds.{chart_refusal, FedEvent}
use Rattle.chart.proofs.Places.{start_mono}
use Rattle.chart.proofs.Totalling.{no_refusal}
use Rattle.programs.specs.Answers.{RoomFor, FedAll}

-- where a feed is not refused there is room for one event more
pub room_more : (S m n i e : ℕ) → e ≡ n + i → e ≤ 256 → feed_refusal S m e ≡ 0 → RoomFor S m n (i + 1)
room_more S m n i e h few none =
    let full : e < 256 = grind (arith, nat_tests) in
    let long : column_place S (e + 2) ≤ m = grind (arith, nat_tests) in
    let next : e + 2 ≡ n + (i + 1) + 1 = omega arith in
    inr (omega arith, subst (λ j. column_place S j ≤ m) next long)

-- where one is refused before all events are fed there was no room for them
room_none : (S m n i k e : ℕ) → e ≡ n + i → i < k → feed_refusal S m e ≡ 11 → RoomFor S m n k → ⊥
room_none S m n i k e h less some (inl none) = omega arith
room_none S m n i k e h less some (inr room) =
    let none = no_refusal S m e (omega (arith, room.0)) (omega (arith, room.1, start_mono S (e + 2) (n + k + 1) (omega arith))) in
    omega (arith, none, some)

module _ {A K E P V U : Type 0} {G : Ghosts A E P} {H : Weighings K V U} {B : Banks U V} (M : Ops V) (test : P → E → Bool) where
  -- the first i events of a trace were fed
  pub record Sofar (trace : List E) (i : ℕ) (was is : Chart A K E P V U G H B) : Type 0 where
    pub many : is.events ≡ was.events + i
    pub room : RoomFor (chart_symbols was) (length was.weights.now) was.events i
    pub book : is.book ≡ was.book
    pub long : length is.weights.now ≡ length was.weights.now
    pub same : is.weights.ghost_name ≡ was.weights.ghost_name
    pub holds : (es : List E) → Holds M test was es → Holds M test is (es ++ take i trace)

  -- a refusal by the book and the table of before
  refusal_before : (was is : Chart A K E P V U G H B) → is.book ≡ was.book → length is.weights.now ≡ length was.weights.now → chart_refusal is ≡ feed_refusal (chart_symbols was) (length was.weights.now) is.events
  refusal_before was is book long = ap₂ (λ s l. feed_refusal s l is.events) (ap (λ b. (binarised (closed_book b.now)).symbols) book) long

  pub no_event : (trace : List E) (was : Chart A K E P V U G H B) → Sofar trace 0 was was
  no_event trace was = record {
    many = omega arith;
    room = inl refl;
    book = refl;
    long = refl;
    same = refl;
    holds = λ es h. subst (Holds M test was) (sym (append-nil es)) h;
  }

  pub one_event : (trace : List E) (i : ℕ) (e : E) (was mid is : Chart A K E P V U G H B) (r : ℕ) → i < length trace → e ≡ get_or trace i e → Sofar trace i was mid
      → FedEvent M test e mid is (Ok r) → is.book ≡ mid.book → length is.weights.now ≡ length mid.weights.now → is.weights.ghost_name ≡ mid.weights.ghost_name → Sofar trace (i + 1) was is
  one_event trace i e was mid is r less at sofar fed book long same =
      let more : take (i + 1) trace ≡ take i trace ++ (e ∷ []) = take_more trace i e less ∙ sym (ap (λ x. take i trace ++ (x ∷ [])) at) in
      record {
        many = omega (arith, fed.2, sofar.many);
        room = room_more _ _ was.events i mid.events sofar.many mid.few (sym (refusal_before was mid sofar.book sofar.long) ∙ fed.0);
        book = book ∙ sofar.book;
        long = long ∙ sofar.long;
        same = same ∙ sofar.same;
        holds = λ es h. subst (Holds M test is) (append_assoc es (take i trace) (e ∷ []) ∙ ap (λ l. es ++ l) (sym more)) (fed.3 (es ++ take i trace) (sofar.holds es h));
      }

  pub all_events : {X : Type 0} (trace : List E) (i : ℕ) (was is : Chart A K E P V U G H B) (x : X) → i ≡ length trace → Sofar trace i was is → FedAll M test trace was is (Ok x)
  all_events trace i was is x all sofar = (
    subst (RoomFor (chart_symbols was) (length was.weights.now) was.events) all sofar.room,
    omega (arith, sofar.many, all),
    λ es h. subst (λ l. Holds M test is (es ++ l)) (take_all i trace (omega (arith, all))) (sofar.holds es h),
  )

  -- a feed was refused, whatever error stands for it
  pub stopped : (X : Type 0) (trace : List E) (i : ℕ) (e : E) (was mid is : Chart A K E P V U G H B) (r : Result X FeedFault) (f : FeedFault) → IsErr r → i < length trace → Sofar trace i was mid
      → FedEvent M test e mid is (Err f) → FedAll M test trace was is r
  stopped X trace i e was mid is (Ok x) f err less sofar fed = absurd (true≢false (sym err))
  stopped X trace i e was mid is (Err NoRoom) NoRoom err less sofar fed =
      let last : i ≡ mid.events - was.events = omega (arith, sofar.many) in
      subst (λ c. FedAll {X = X} M test trace was c (Err NoRoom)) (sym fed.1) (
        room_none _ _ was.events i (length trace) mid.events sofar.many less (sym (refusal_before was mid sofar.book sofar.long) ∙ fed.0),
        (omega (arith, sofar.many), omega (arith, sofar.many, less)),
        (λ es h. subst (λ j. Holds M test mid (es ++ take j trace)) last (sofar.holds es h)),
        fed.0,
      )
