-- What is meant by what is printed for a script.
use Rattle.std.proofs.Common.{◌≡◌, ℕ, ◌<◌, ◌≤◌, Bool, cond, ltb, List, [], ◌∷◌, ◌++◌, length, refl, sym, ap, ◌∙◌, subst, append_assoc, arith}
use Rattle.std.specs.Prelude.{codes, decimal}
use Rattle.std.specs.Fmt.{digits}
use Rattle.std.proofs.lemmas.Bool.{cond-true, cond-false, lt-ltb, le-ltb}
use Rattle.std.proofs.lemmas.Bool.Decides.{nat_tests}
use Rattle.grammar.specs.Lists.{each}
use Rattle.grammar.specs.Productions.{Sound}
use Rattle.book.specs.declared.fault.TableFault.{TableFault}
use Rattle.book.specs.declared.fault.TableFault.TheVariants.{TooManyPatterns}
use Rattle.book.specs.Faults.{table_number}
use Rattle.book.specs.Tables.{table_refusal}
use Rattle.book.specs.Offers.{book}
use Rattle.book.specs.Runs.{Call, held_after}
use Rattle.book.specs.Fits.{table_fits, Tests}
use Rattle.book.proofs.FitsAt.{tests_table}
use Rattle.book.proofs.Loading.{load_means}
use Rattle.chart.specs.Runs.{held_events}
use Rattle.replay.specs.Answers.{book_answers}
use Rattle.programs.specs.Scripts.{ChartLine, Script}
use Rattle.programs.specs.Printed.{answer_text, line_text, held_then, lines_text, script_answers, script_lines, script_held, script_book, script_fits, script_print, AllCheap, PrintMeans}
use Rattle.programs.proofs.Admitting.{held_admitted}
use Rattle.programs.proofs.Meaning.{totals_mean}
use Rattle.programs.proofs.ScriptLines.{lines_append}
use Rattle.programs.proofs.TakenNodes.{reading_means}

-- a refused table of patterns
eight : (n : ℕ) → n ≡ 8 → codes "refused " ++ (decimal n ++ (10 ∷ [])) ≡ codes "refused 8\n"
unfolding digits
eight n e = ap (λ k. codes "refused " ++ (decimal k ++ (10 ∷ []))) e

too_many : (n : ℕ) → ◌≡◌ {A = ℕ} (cond (ltb 32 n) 8 0) 8 → 32 < n
too_many n e = grind (arith, nat_tests)

its_number : (f : TableFault) → table_number f ≡ 8
its_number TooManyPatterns = refl

module _ {P E : Type 0} (test : P → E → Bool) (s : Script P E) where
  -- what is printed where the table of patterns is refused
  pub table_refused : (patterns : List P) (f : TableFault) (n : ℕ) → patterns ≡ s.patterns → table_refusal patterns ≡ table_number f → n ≡ table_number f
      → codes "refused " ++ (decimal n ++ (10 ∷ [])) ≡ script_print test s
  unfolding script_print
  table_refused patterns f n e h k =
      let many : 32 < length s.patterns = subst (λ ps. 32 < length ps) e (too_many (length patterns) (h ∙ its_number f)) in
      eight n (k ∙ its_number f) ∙ sym (cond-true (ltb 32 (length s.patterns)) _ _ (lt-ltb 32 (length s.patterns) many))

  -- and where it is not, by the lists that the calls and lines stand in
  pub table_taken : (patterns : List P) (calls : List Call) (lines : List (ChartLine E)) → length s.patterns ≤ 32 → patterns ≡ s.patterns → calls ≡ s.book → lines ≡ s.chart
      → each answer_text (book_answers (length patterns) [] calls) ++ lines_text (book (length patterns) (held_after (length patterns) calls)) (table_fits test patterns) s.weights s.nodes [] lines ≡ script_print test s
  unfolding script_print
  table_taken patterns calls lines few e f h =
      let text = λ (ps : List P) (cs : List Call) (ls : List (ChartLine E)).
      each answer_text (book_answers (length ps) [] cs) ++ lines_text (book (length ps) (held_after (length ps) cs)) (table_fits test ps) s.weights s.nodes [] ls in
      ap (λ ps. text ps calls lines) e ∙ ap (λ cs. text s.patterns cs lines) f ∙ ap (text s.patterns s.book) h
      ∙ sym (cond-false (ltb 32 (length s.patterns)) _ _ (le-ltb 32 (length s.patterns) few))

  -- where a line stands, it is printed by the events held after the calls before it
  line_printed : length s.patterns ≤ 32 → (front back : List (ChartLine E)) (l : ChartLine E) → s.chart ≡ front ++ (l ∷ back)
      → script_print test s ≡ (script_answers s ++ script_lines test s [] front) ++ (line_text (script_book s) (script_fits test s) s.weights s.nodes (script_held s front) l
      ++ script_lines test s (held_then (script_book s) s.weights (script_held s front) l) back)
  unfolding script_print held_events
  line_printed few front back l e =
      cond-false (ltb 32 (length s.patterns)) _ _ (le-ltb 32 (length s.patterns) few) ∙ ap (λ ls. script_answers s ++ script_lines test s [] ls) e
      ∙ ap (λ t. script_answers s ++ t) (lines_append (script_book s) (script_fits test s) s.weights s.nodes [] front (l ∷ back))
      ∙ sym (append_assoc (script_answers s) (script_lines test s [] front) _)

module _ {P E : Type 0} (s : Script P E) (cheap : AllCheap s.book) where
  -- its book keeps to the bounds
  pub script_sound : length s.patterns ≤ 32 → Sound (script_book s)
  script_sound few = (held_admitted (length s.patterns) s.book few cheap).sound

  pub print_means : (fits : P → E → Type 0) (test : P → E → Bool) → Tests fits test → PrintMeans fits test s
  unfolding script_print
  print_means fits test tested = record {
    table = λ h. cond-true (ltb 32 (length s.patterns)) _ _ (lt-ltb 32 (length s.patterns) h);
    tests = tests_table fits test tested s.patterns;
    loads = λ few rules text. load_means (length s.patterns) rules text few;
    lines = line_printed test s;
    totals = λ few. totals_mean (script_book s) (script_sound few) (script_fits test s);
    readings = λ few es t. reading_means (script_book s) (script_sound few) (script_fits test s) es t;
  }
