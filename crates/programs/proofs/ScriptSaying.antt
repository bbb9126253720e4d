-- What one line of a script says, wherever it stands in the text.
use Rattle.std.proofs.Common.{◌≡◌, ℕ, ◌+◌, List, [], ◌∷◌, drop, map, Some, None, Ok, Err, Option, sym, refl, ap, ◌∙◌, arith}
use Rattle.std.specs.Prelude.{option_map, ok_or}
use Rattle.std.proofs.lemmas.List.{drop-drop}
use Rattle.text.specs.Words.{Piece, words}
use Rattle.text.specs.Turns.{words_left}
use Rattle.text.specs.declared.words.Words.{Words}
use Rattle.text.proofs.Later.{shift, words_later}
use Rattle.book.specs.Runs.{a_load, a_strike}
use Rattle.chart.specs.Runs.{a_feed, a_withdraw}
use Rattle.programs.specs.Scripts.{a_call, a_total, a_reading}
use Rattle.programs.specs.Spelling.{Spelling, word_texts, only}
use Rattle.programs.specs.ScriptLines.{patterns, a_book_call, weights, nodes, a_chart_line, one_number, offer_said, load_said, item_said, kind_said, words_say, line_said, first_of}
use Rattle.programs.specs.ScriptSaid.{LineGives}
use Rattle.programs.specs.declared.script.fault.Cause.{Cause}
use Rattle.programs.specs.declared.script.fault.Cause.TheVariants.{OtherWords}
use Rattle.programs.specs.declared.script.fault.ScriptFault.{ScriptFault}
use Rattle.programs.specs.declared.script.fault.ScriptFault.TheVariants.{Line, NoMemory}
use Rattle.programs.specs.declared.script.said.First.{First}
use Rattle.programs.specs.declared.script.said.First.TheVariants.{Patterns, Offer, Load, Strike, Weights, Nodes, Feed, Withdraw, Total, Reading}

texts_later : (k : ℕ) (ws : List Piece) → word_texts (map (shift k) ws) ≡ word_texts ws
texts_later k [] = refl
texts_later k (w ∷ ws) = ap (λ l. w.bytes ∷ l) (texts_later k ws)

module _ {P E : Type 0} (S : Spelling P E) (text : List ℕ) (from : ℕ) where
  load_later : (vs : List Piece) → load_said {P = P} {E = E} text (map (shift from) vs) ≡ load_said (drop from text) vs
  load_later [] = refl
  load_later (v ∷ vs) = ap (λ t. a_book_call (a_load t)) (sym (drop-drop v.place from text))

  item_later : (first : First) (vs : List Piece) → item_said S first text (map (shift from) vs) ≡ item_said S first (drop from text) vs
  item_later Patterns vs = ap (λ ws. option_map patterns (S.patterns ws)) (texts_later from vs)
  item_later Offer vs = ap (λ ws. option_map a_book_call (offer_said ws)) (texts_later from vs)
  item_later Load vs = ap Some (load_later vs)
  item_later Strike vs = ap (only (a_book_call a_strike)) (texts_later from vs)
  item_later Weights vs = ap (λ ws. option_map weights (one_number 4210688 ws)) (texts_later from vs)
  item_later Nodes vs = ap (λ ws. option_map nodes (one_number 65536 ws)) (texts_later from vs)
  item_later Feed vs = ap (λ ws. option_map (λ e. a_chart_line (a_call (a_feed e))) (S.event ws)) (texts_later from vs)
  item_later Withdraw vs = ap (λ ws. option_map (λ k. a_chart_line (a_call (a_withdraw k))) (one_number 4294967295 ws)) (texts_later from vs)
  item_later Total vs = ap (only (a_chart_line a_total)) (texts_later from vs)
  item_later Reading vs = ap (only (a_chart_line a_reading)) (texts_later from vs)

  kind_later : (k : Option First) (vs : List Piece) → kind_said S k text (map (shift from) vs) ≡ kind_said S k (drop from text) vs
  kind_later None vs = refl
  kind_later (Some first) vs = ap (λ o. ok_or (option_map Some o) OtherWords) (item_later first vs)

  words_say_later : (ws : List Piece) → words_say S text (map (shift from) ws) ≡ words_say S (drop from text) ws
  words_say_later [] = refl
  words_say_later (v ∷ vs) = kind_later (first_of S.name v.bytes) vs

  -- the words of the line that ends the text
  words_there : words_say S text (words from (drop from text)) ≡ line_said S (drop from text)
  unfolding line_said
  words_there =
      let e : from ≡ from + 0 = omega arith in
      ap (λ n. words_say S text (words n (drop from text))) e ∙ ap (words_say S text) (words_later from 0 (drop from text)) ∙ words_say_later (words 0 (drop from text))

  -- no word
  pub says_nothing : words from (drop from text) ≡ [] → line_said S (drop from text) ≡ Ok None
  says_nothing e = sym words_there ∙ ap (words_say S text) e

  -- a first word, and others
  pub says_by : (v : Piece) (vs : List Piece) (k : Option First) → words from (drop from text) ≡ v ∷ vs → k ≡ first_of S.name v.bytes → line_said S (drop from text) ≡ kind_said S k text vs
  says_by v vs k e f = sym words_there ∙ ap (words_say S text) e ∙ ap (λ j. kind_said S j text vs) (sym f)

-- what the words behind the first give, the line gives
module _ {A B : Type 0} (n : ℕ) (f : A → B) where
  pub line_ok : (o : Option B) (x : A) → ok_or o OtherWords ≡ Ok (f x) → ok_or (option_map Some o) OtherWords ≡ Ok (Some (f x))
  line_ok None x e = absurd cc
  line_ok (Some y) x e = let s : y ≡ f x = cc in ap (λ z. Ok (Some z)) s

  line_wrong : (o : Option B) (c : Cause) → ok_or o OtherWords ≡ Err c → ok_or (option_map Some o) OtherWords ≡ Err c
  line_wrong None c e = let s : OtherWords ≡ c = cc in ap Err s
  line_wrong (Some y) c e = absurd cc

  pub line_err : (o : Option B) (e : ScriptFault) → LineGives n f (Err e) (ok_or o OtherWords) → LineGives n (option_map f) (Err e) (ok_or (option_map Some o) OtherWords)
  line_err o (Line m c) (s, e) = (s, line_wrong o c e)
  line_err o (NoMemory a) h = tt

-- the words of a line from its beginning on
pub words_at : (s : Words) (text : List ℕ) (from : ℕ) → s.text.now ≡ text → s.from ≡ from → words from (drop from text) ≡ words_left s
words_at s text from e f = sym (ap (λ n. words n (drop n s.text.now)) f ∙ ap (λ t. words from (drop from t)) e)
