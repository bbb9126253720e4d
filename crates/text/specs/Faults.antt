use Rattle.std.specs.Prelude.{ℕ, List, ◌++◌, codes, decimal}
use Rattle.text.specs.declared.fault.LineFault.{LineFault}
use Rattle.text.specs.declared.fault.LineFault.TheVariants.{Unknown, OverLimit, OutOfPlace, TooShort}

-- the number of a refusal
abbrev pub line_fault_number : LineFault → ℕ
line_fault_number (Unknown at) = 20
line_fault_number (OverLimit at) = 21
line_fault_number (OutOfPlace at) = 22
line_fault_number (TooShort at) = 23

abbrev pub line_fault_place : LineFault → ℕ
line_fault_place (Unknown at) = at
line_fault_place (OverLimit at) = at
line_fault_place (OutOfPlace at) = at
line_fault_place (TooShort at) = at

abbrev pub line_fault_cause : LineFault → List ℕ
line_fault_cause (Unknown at) = codes "an unknown word"
line_fault_cause (OverLimit at) = codes "a number over its limit"
line_fault_cause (OutOfPlace at) = codes "a word out of place"
line_fault_cause (TooShort at) = codes "a line too short"

-- its text: its cause, its byte place and its number
abbrev pub line_fault_text : LineFault → List ℕ
line_fault_text f = line_fault_cause f ++ (codes " at byte " ++ (decimal (line_fault_place f) ++ (codes " (refusal " ++ (decimal (line_fault_number f) ++ codes ")"))))
