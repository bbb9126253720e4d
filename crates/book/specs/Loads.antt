-- What a load does: the lines of its text are offered in turn, up to the first that meets a number.
use Rattle.std.specs.Prelude.{◌≡◌, ℕ, suc, ◌+◌, ◌≤◌, Bool, true, false, cond, List, [], ◌∷◌, ◌++◌, length, Ok, Err, Result, ◌==◌}
use Rattle.text.specs.declared.fault.LineFault.{LineFault}
use Rattle.text.specs.{Kinds.OfKind, Words.Piece, Words.lines, Words.line_words, Words.CutInto}
use Rattle.text.specs.Outcomes.{Outcome, nothing, rule, fault, line, line_text, kinds, Says, Means, OfDigits}
use Rattle.grammar.specs.{Lists.Mem, Productions.Production}
use Rattle.book.specs.{Faults.load_number, Faults.load_place, Offers.refusal}
use Rattle.book.specs.declared.{fault.LoadFault.LoadFault, fault.LoadFault.TheVariants.Line}

-- the fault of a line, as the load's
abbrev pub line_fault : LineFault → LoadFault
line_fault f = Line f

-- what a load comes to: the rules then held, and how many lines were offered, or the number and the byte place of the refusal
pub data Load : Type 0 where
  taken : List Production → ℕ → Load
  stopped : List Production → ℕ → ℕ → Load

-- the rules held after a call, with its answer
abbrev pub load_is : List Production → Result ℕ LoadFault → Load
load_is rules (Ok n) = taken rules n
load_is rules (Err f) = stopped rules (load_number f) (load_place f)

-- what a load goes on with, unless it was refused
abbrev pub and_then : Load → (List Production → ℕ → Load) → Load
and_then (taken rules n) f = f rules n
and_then (stopped rules number at) f = stopped rules number at

-- a line that gives this and has its first word at a place is offered to a book of T patterns that holds these rules, after n others
abbrev pub offer_line : ℕ → List Production → ℕ → ℕ → Outcome → Load
offer_line T rules n at nothing = taken rules n
offer_line T rules n at (rule p) = cond (refusal T rules p == 0) (taken (rules ++ (p ∷ [])) (suc n)) (stopped rules 24 at)
offer_line T rules n at (fault number place) = stopped rules number place

abbrev pub end_of : Piece → ℕ
end_of l = l.place + length l.bytes

-- where the first word stands; 0 where there is none
abbrev pub first_place : List Piece → ℕ
first_place [] = 0
first_place (w ∷ ws) = w.place

-- the lines in turn, n lines offered before them
unfoldable pub load_lines : ℕ → List Production → ℕ → List Piece → Load
load_lines T rules n [] = taken rules n
load_lines T rules n (l ∷ ls) = and_then (offer_line T rules n (first_place (line_words l)) (line (end_of l) (line_words l))) (λ held m. load_lines T held m ls)

-- the load of a text into a book of T patterns that holds these rules
abbrev pub load : ℕ → List Production → List ℕ → Load
load T rules text = load_lines T rules 0 (lines 0 text)

-- a load with n lines offered and k bytes before it
abbrev pub later : ℕ → ℕ → Load → Load
later n k (taken rules m) = taken rules (n + m)
later n k (stopped rules number at) = stopped rules number (k + at)

-- the rules held before stand, then those of the lines offered: as many as the answer says, or up to a number 20 to 24 at a place in the text
abbrev pub Stands : ℕ → List Production → Load → Type 0
Stands size was (taken is n) = (more : List Production) × (is ≡ was ++ more) × (n ≡ length more)
Stands size was (stopped is number at) = (more : List Production) × (is ≡ was ++ more) × (20 ≤ number) × (number ≤ 24) × (at ≤ size)

pub record LoadMeans (T : ℕ) (rules : List Production) (text : List ℕ) : Type 0 where
  -- lines and words are longest stretches between the bytes that part them, with their places
  pub cut : CutInto 0 text
  pub spelled : (w : List ℕ) → OfKind w
  pub digits : (d : List ℕ) → OfDigits d
  -- what a line gives is what its words say, or the refusal of the first word with which no sound line can begin, or of its end
  pub each_line : (l : Piece) → Mem l (lines 0 text) → Means (end_of l) (line_words l) (line (end_of l) (line_words l))
  pub sound_line : (l : Piece) (p : Production) → Mem l (lines 0 text) → Says (kinds (line_words l)) p → line (end_of l) (line_words l) ≡ rule p
  pub stands : Stands (length text) rules (load T rules text)
  -- two texts with a line feed between them are loaded one after the other; so a load is its lines, one by one
  pub one_by_one : (a b : List ℕ) → text ≡ a ++ (10 ∷ b) → load T rules text ≡ and_then (load T rules a) (λ held m. later m (suc (length a)) (load T held b))
  -- the line of a production that the book admits adds just that production
  pub round_trip : (p : Production) → text ≡ line_text p → p.cost ≤ 65535 → refusal T rules p ≡ 0 → load T rules text ≡ taken (rules ++ (p ∷ [])) 1

-- what one line comes to, n lines offered before it
abbrev pub line_is : ℕ → List Production → Result Bool LoadFault → Load
line_is n rules (Ok true) = taken rules (suc n)
line_is n rules (Ok false) = taken rules n
line_is n rules (Err f) = stopped rules (load_number f) (load_place f)
