-- The numbers of the refusals, the places of those of a load, and the refusals in plain words.
use Rattle.std.specs.Prelude.{ℕ, List, ◌++◌, codes, decimal}
use Rattle.text.specs.Faults.{line_fault_number, line_fault_place, line_fault_text}
use Rattle.book.specs.declared.{fault.TableFault.TableFault, fault.TableFault.TheVariants.TooManyPatterns, fault.OfferFault.OfferFault}
use Rattle.book.specs.declared.fault.OfferFault.TheVariants.{HeadTooLarge, TooManyItems, UnknownItem, Repeated, BookFull, TooManyTails, TooManyStrictRules}
use Rattle.book.specs.declared.{fault.StrikeFault.StrikeFault, fault.StrikeFault.TheVariants.NoRule, fault.LoadFault.LoadFault}
use Rattle.book.specs.declared.fault.LoadFault.TheVariants.{Line, Refused}

abbrev pub table_number : TableFault → ℕ
table_number TooManyPatterns = 8

abbrev pub offer_number : OfferFault → ℕ
offer_number HeadTooLarge = 1
offer_number TooManyItems = 2
offer_number UnknownItem = 3
offer_number Repeated = 4
offer_number BookFull = 5
offer_number TooManyTails = 6
offer_number TooManyStrictRules = 7

abbrev pub strike_number : StrikeFault → ℕ
strike_number NoRule = 10

abbrev pub load_number : LoadFault → ℕ
load_number (Line f) = line_fault_number f
load_number (Refused at) = 24

-- the byte place of a load's refusal
abbrev pub load_place : LoadFault → ℕ
load_place (Line f) = line_fault_place f
load_place (Refused at) = at

-- a cause in plain words, with the number of a refusal; so each refusal is printed
abbrev pub with_number : List ℕ → ℕ → List ℕ
with_number cause n = cause ++ (codes " (refusal " ++ (decimal n ++ codes ")"))

abbrev pub table_text : TableFault → List ℕ
table_text f = with_number (codes "more than 32 patterns") (table_number f)

abbrev pub offer_text : OfferFault → List ℕ
offer_text HeadTooLarge = with_number (codes "a head over 31") 1
offer_text TooManyItems = with_number (codes "more than 8 items") 2
offer_text UnknownItem = with_number (codes "an item that is neither a head nor a pattern") 3
offer_text Repeated = with_number (codes "a rule that is held already") 4
offer_text BookFull = with_number (codes "more than 64 rules") 5
offer_text TooManyTails = with_number (codes "more than 64 tails") 6
offer_text TooManyStrictRules = with_number (codes "more than 1024 strict rules") 7

abbrev pub strike_text : StrikeFault → List ℕ
strike_text f = with_number (codes "no rule to strike") (strike_number f)

abbrev pub load_text : LoadFault → List ℕ
load_text (Line f) = line_fault_text f
load_text (Refused at) = with_number (codes "a rule that the book refuses in the line at byte " ++ decimal at) (load_number (Refused at))
