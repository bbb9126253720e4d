-- What the definition of the script program's output means.
use Rattle.std.specs.Prelude.{◌≡◌, ◌≢◌, ◌↔◌, ◌⊎◌, ℕ, suc, ◌+◌, Bool, true, false, List, [], ◌∷◌, ◌++◌, length, Some, None, Ok, Err, Result, nat_eq, codes, ◌≤◌, drop}
use Rattle.grammar.specs.Lists.{Mem, each}
use Rattle.text.specs.Numbers.{all_digits, said_number}
use Rattle.text.specs.Words.{Piece, words}
use Rattle.book.specs.Runs.{an_offer, a_load, a_strike}
use Rattle.chart.specs.Runs.{a_feed, a_withdraw}
use Rattle.book.specs.Fits.{CardFits, card_test}
use Rattle.programs.specs.Output.{line_texts, LinesAre}
use Rattle.programs.specs.Scripts.{a_call, a_total, a_reading, Script}
use Rattle.programs.specs.Spelling.{Spelling, word_texts, bytes_spelling, cards_spelling}
use Rattle.programs.specs.ScriptLines.{Item, patterns, a_book_call, rules_follow, weights, nodes, a_chart_line, line_said, nothing_said, may_come, with_item, rules_of, read}
use Rattle.programs.specs.ScriptOutput.{Part, part, parts}
use Rattle.programs.specs.Printed.{PrintMeans}
use Rattle.programs.specs.declared.script.fault.Cause.{Cause}
use Rattle.programs.specs.declared.script.fault.Cause.TheVariants.{UnknownLine, OutOfPlace, NoEnd}

-- Scripts

-- none of these lines is % alone
abbrev pub NoBar : List (List ℕ) → Type 0
NoBar ls = (w : List ℕ) → Mem w ls → w ≢ 37 ∷ []

-- the lines from the one of a number on are those of these scripts, with a line % alone between each two
pub data Parted : ℕ → List (List ℕ) → List Part → Type 0 where
  last : (n : ℕ) (ls : List (List ℕ)) → NoBar ls → Parted n ls (part n ls ∷ [])
  next : (n : ℕ) (ls ws : List (List ℕ)) (ps : List Part) → NoBar ls → Parted (suc (n + length ls)) ws ps → Parted n (ls ++ ((37 ∷ []) ∷ ws)) (part n ls ∷ ps)

-- What lines say

-- the line says this
abbrev pub Says : {P E : Type 0} → Spelling P E → List ℕ → Item P E → Type 0
Says S w i = line_said S w ≡ Ok (Some i)

-- a word says this number, within a limit: its bytes are digits, in base ten
abbrev pub SaysNumber : ℕ → List ℕ → ℕ → Type 0
SaysNumber limit w n = (all_digits w ≡ true) × (said_number w ≡ n) × (n ≤ limit)

-- words say these numbers, each its own
abbrev pub SayNumbers : ℕ → List (List ℕ) → List ℕ → Type 0
SayNumbers limit [] [] = Unit {0}
SayNumbers limit (w ∷ ws) (n ∷ ns) = SaysNumber limit w n × SayNumbers limit ws ns
SayNumbers limit _ _ = ⊥

-- one word, which says this number
abbrev pub OneNumber : ℕ → List (List ℕ) → ℕ → Type 0
OneNumber limit ws n = (w : List ℕ) × (ws ≡ w ∷ []) × SaysNumber limit w n

-- the words ws of a line w say this
abbrev pub WordsSay : {P E : Type 0} → Spelling P E → List ℕ → List Piece → Item P E → Type 0
WordsSay S w ws (patterns ps) = (vs : List (List ℕ)) × (word_texts ws ≡ S.name ∷ vs) × (S.patterns vs ≡ Some ps)
WordsSay S w ws (a_book_call (an_offer head items cost)) =
    (h : List ℕ) × ((c : List ℕ) × ((is : List (List ℕ)) × (word_texts ws ≡ codes "offer" ∷ (h ∷ (c ∷ is))) × SaysNumber 255 h head × SaysNumber 65535 c cost × SayNumbers 255 is items))
WordsSay S w ws (a_book_call (a_load text)) = (v : Piece) × ((u : Piece) × ((us : List Piece) × (ws ≡ v ∷ (u ∷ us)) × (v.bytes ≡ codes "load") × (text ≡ drop u.place w)))
WordsSay S w ws (a_book_call a_strike) = word_texts ws ≡ codes "strike" ∷ []
WordsSay S w ws rules_follow = word_texts ws ≡ codes "load" ∷ []
WordsSay S w ws (weights n) = (vs : List (List ℕ)) × (word_texts ws ≡ codes "weights" ∷ vs) × OneNumber 4210688 vs n
WordsSay S w ws (nodes n) = (vs : List (List ℕ)) × (word_texts ws ≡ codes "nodes" ∷ vs) × OneNumber 65536 vs n
WordsSay S w ws (a_chart_line (a_call (a_feed e))) = (vs : List (List ℕ)) × (word_texts ws ≡ codes "feed" ∷ vs) × (S.event vs ≡ Some e)
WordsSay S w ws (a_chart_line (a_call (a_withdraw k))) = (vs : List (List ℕ)) × (word_texts ws ≡ codes "withdraw" ∷ vs) × OneNumber 4294967295 vs k
WordsSay S w ws (a_chart_line a_total) = word_texts ws ≡ codes "total" ∷ []
WordsSay S w ws (a_chart_line a_reading) = word_texts ws ≡ codes "reading" ∷ []

-- the words that a line can begin with
abbrev pub first_words : List ℕ → List (List ℕ)
first_words name = name ∷ (codes "offer" ∷ (codes "load" ∷ (codes "strike" ∷ (codes "weights" ∷ (codes "nodes" ∷ (codes "feed" ∷ (codes "withdraw" ∷ (codes "total" ∷ (codes "reading" ∷ [])))))))))

-- a first word is there, and no line can begin with it
abbrev pub BeginsUnknown : List ℕ → List Piece → Type 0
BeginsUnknown name ws = (v : Piece) × ((vs : List Piece) × (ws ≡ v ∷ vs) × (Mem v.bytes (first_words name) → ⊥))

-- none of these lines is end alone
abbrev pub NoEndAmong : List (List ℕ) → Type 0
NoEndAmong rs = (w : List ℕ) → Mem w rs → w ≢ codes "end"

-- lines as a text, with a line feed behind each
abbrev pub rules_text : List (List ℕ) → List ℕ
rules_text rs = each (λ (w : List ℕ). w ++ (10 ∷ [])) rs

-- the lines say these items in turn: each but those without words says one by itself, or is load alone and has its rules in the lines up to the first that is end alone
pub data ItemsAre {P E : Type 0} (S : Spelling P E) : List (List ℕ) → List (Item P E) → Type 0 where
  none : ItemsAre S [] []
  blank : (w : List ℕ) (ws : List (List ℕ)) (is : List (Item P E)) → line_said S w ≡ Ok None → ItemsAre S ws is → ItemsAre S (w ∷ ws) is
  line : (w : List ℕ) (ws : List (List ℕ)) (i : Item P E) (is : List (Item P E)) → Says S w i → rules_of i ≡ None → ItemsAre S ws is → ItemsAre S (w ∷ ws) (i ∷ is)
  load : (w : List ℕ) (rs ws : List (List ℕ)) (is : List (Item P E)) → Says S w rules_follow → NoEndAmong rs → ItemsAre S ws is
      → ItemsAre S (w ∷ (rs ++ (codes "end" ∷ ws))) (a_book_call (a_load (rules_text rs)) ∷ is)

-- each item may come behind those before it, and with all of them the script s is the script t
abbrev pub Follows : {P E : Type 0} → Script P E → List (Item P E) → Script P E → Type 0
Follows s [] t = t ≡ s
Follows s (i ∷ is) t = (may_come s i ≡ true) × Follows (with_item s i) is t

-- the lines say the script t behind the script s
abbrev pub SayBehind : {P E : Type 0} → Spelling P E → Script P E → List (List ℕ) → Script P E → Type 0
SayBehind {P} {E} S s ws t = (is : List (Item P E)) × ItemsAre S ws is × Follows s is t

-- the lines say a script
abbrev pub SayScript : {P E : Type 0} → Spelling P E → List (List ℕ) → Script P E → Type 0
SayScript S ws t = SayBehind S nothing_said ws t

-- some lines that begin with these say a script
abbrev pub BeginScript : {P E : Type 0} → Spelling P E → List (List ℕ) → Type 0
BeginScript {P} {E} S ws = (more : List (List ℕ)) × ((t : Script P E) × SayScript S (ws ++ more) t)

-- the line is wrong behind the script t, for this cause: it says nothing that a line can say, or it may not come any more
abbrev pub Wrong : {P E : Type 0} → Spelling P E → Script P E → List ℕ → Cause → Type 0
Wrong {P} {E} S t w c = (line_said S w ≡ Err c) ⊎ ((c ≡ OutOfPlace) × ((i : Item P E) × Says S w i × (may_come t i ≡ false)))

-- a line is refused by its number, counted from n: the lines before it say a script, and behind that it is wrong
pub record LineRefused {P E : Type 0} (S : Spelling P E) (n : ℕ) (s : Script P E) (ws : List (List ℕ)) (m : ℕ) (c : Cause) : Type 0 where
  pub before : List (List ℕ)
  pub line : List ℕ
  pub after : List (List ℕ)
  pub are : ws ≡ before ++ (line ∷ after)
  pub number : m ≡ n + length before
  pub said : Script P E
  pub say : SayBehind S s before said
  pub wrong : Wrong S said line c

-- a load has no end: the lines before it say a script, behind which it may come, and no line after it is end alone; the number is that behind the last line
pub record EndMissed {P E : Type 0} (S : Spelling P E) (n : ℕ) (s : Script P E) (ws : List (List ℕ)) (m : ℕ) (c : Cause) : Type 0 where
  pub before : List (List ℕ)
  pub line : List ℕ
  pub rules : List (List ℕ)
  pub are : ws ≡ before ++ (line ∷ rules)
  pub number : m ≡ n + length ws
  pub cause : c ≡ NoEnd
  pub said : Script P E
  pub say : SayBehind S s before said
  pub begins : Says S line rules_follow
  pub may : may_come said rules_follow ≡ true
  pub no_end : NoEndAmong rules

-- what it means that lines give a script or a fault
abbrev pub ReadMeans : {P E : Type 0} → Spelling P E → ℕ → Script P E → List (List ℕ) → Result (Script P E) (ℕ × Cause) → Type 0
ReadMeans S n s ws (Ok t) = SayBehind S s ws t
ReadMeans S n s ws (Err (m, c)) = LineRefused S n s ws m c ⊎ EndMissed S n s ws m c

-- Laws

-- what is meant by what is read of the lines of a script, the first of number n, and by what is printed for it
pub record PartMeans {P E : Type 0} (S : Spelling P E) (fits : P → E → Type 0) (test : P → E → Bool) (n : ℕ) (ls : List (List ℕ)) : Type 0 where
  -- a line says just what its words say, and nothing exactly if it has none
  pub each_line : (w : List ℕ) (i : Item P E) → WordsSay S w (words 0 w) i ↔ Says S w i
  pub no_words : (w : List ℕ) → (words 0 w ≡ []) ↔ (line_said S w ≡ Ok None)
  -- its first word is unknown exactly if no line can begin with it; any other line that says nothing has other words than it wants
  pub unknown : (w : List ℕ) → BeginsUnknown S.name (words 0 w) ↔ (line_said S w ≡ Err UnknownLine)
  -- the script that is read is the one that the lines say, and they say no other
  pub script : (t : Script P E) → SayScript S ls t ↔ (read S n ls ≡ Ok t)
  -- a fault is that of a line that is wrong behind those before it, which say a script; or of a load without end
  pub fault : (m : ℕ) (c : Cause) → read S n ls ≡ Err (m, c) → LineRefused S n nothing_said ls m c ⊎ EndMissed S n nothing_said ls m c
  -- no script begins with the lines before such a line and with it
  pub no_longer : (m : ℕ) (c : Cause) (r : LineRefused S n nothing_said ls m c) → BeginScript S (r.before ++ (r.line ∷ [])) → ⊥
  -- what the text printed for a script means
  pub prints : (t : Script P E) → read S n ls ≡ Ok t → PrintMeans fits test t

-- what the definition means for an input
pub record ScriptMeans (input : List ℕ) : Type 0 where
  -- its lines, and no others
  pub lines : (ws : List (List ℕ)) → LinesAre input ws ↔ (ws ≡ line_texts input)
  -- they are those of its scripts
  pub parted : Parted 1 (line_texts input) (parts 1 (line_texts input))
  -- a script over bytes
  pub bytes : (p : Part) → PartMeans bytes_spelling (λ (b e : ℕ). b ≡ e) nat_eq p.first p.lines
  -- a script over card events
  pub cards : (p : Part) → PartMeans cards_spelling CardFits card_test p.first p.lines
