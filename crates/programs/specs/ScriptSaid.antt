-- Words of private contracts: no promise to a caller rests on these. What was read of a script, as its lines say it.
use Rattle.std.specs.Prelude.{◌≡◌, ℕ, List, drop, Ok, Err, Result, option_map}
use Rattle.programs.specs.ScriptLines.{Item, patterns, a_book_call, rules_follow, weights, nodes, a_chart_line, ReadSoFar, so_far}
use Rattle.programs.specs.ScriptOutput.{malformed_line}
use Rattle.programs.specs.Said.{book_line, chart_line, script_said}
use Rattle.programs.specs.declared.script.fault.Cause.{Cause}
use Rattle.programs.specs.declared.script.fault.ScriptFault.{ScriptFault}
use Rattle.programs.specs.declared.script.fault.ScriptFault.TheVariants.{Line, NoMemory}
use Rattle.programs.specs.declared.script.read.Reader.{Reader}
use Rattle.programs.specs.declared.script.said.Said.{Said}
use Rattle.programs.specs.declared.script.said.Said.TheVariants.{Patterns, Call, Rules, Weights, Nodes, Chart}

-- what a line says
abbrev pub item_of : {P E : Type 0} → Said P E → Item P E
item_of (Patterns ps) = patterns ps.items
item_of (Call c) = a_book_call (book_line c)
item_of Rules = rules_follow
item_of (Weights n) = weights n
item_of (Nodes n) = nodes n
item_of (Chart l) = a_chart_line (chart_line l)

-- what the line of a number gives, or its fault; nothing is said of where memory fails
abbrev pub LineGives : {A B : Type 0} → ℕ → (A → B) → Result A ScriptFault → Result B Cause → Type 0
LineGives n f (Ok x) r = r ≡ Ok (f x)
LineGives n f (Err (Line m c)) r = (m ≡ n) × (r ≡ Err c)
LineGives n f (Err (NoMemory e)) r = Unit {0}

-- what was read, where this is the text before the line that comes next
abbrev pub read_so_far : {P E : Type 0} → List ℕ → Reader P E → ReadSoFar P E
read_so_far text r = so_far (script_said r.script) (option_map (λ from. drop from text) r.rules)

-- the script that is given, or the number and the cause of a fault
abbrev pub ScriptGives : {A B : Type 0} → (A → B) → Result A ScriptFault → Result B (ℕ × Cause) → Type 0
ScriptGives f (Ok x) r = r ≡ Ok (f x)
ScriptGives f (Err (Line n c)) r = r ≡ Err (n, c)
ScriptGives f (Err (NoMemory e)) r = Unit {0}

-- the text that is given, or the line for a malformed script; nothing is said of where memory fails
abbrev pub TextGives : {A : Type 0} → (A → List ℕ) → Result A ScriptFault → List ℕ → Type 0
TextGives f (Ok x) t = f x ≡ t
TextGives f (Err (Line n c)) t = malformed_line n c ≡ t
TextGives f (Err (NoMemory e)) t = Unit {0}
