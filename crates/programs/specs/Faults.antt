-- What is printed for a script that is not run.
use Rattle.std.specs.Prelude.{ℕ, List, ◌++◌, Option, Some, None, codes, decimal}
use Rattle.std.specs.declared.alloc.AllocError.{AllocError}
use Rattle.programs.specs.declared.script.fault.Cause.{Cause}
use Rattle.programs.specs.declared.script.fault.Cause.TheVariants.{NoAlphabet, UnknownLine, OtherWords, OutOfPlace, NoEnd}
use Rattle.programs.specs.declared.script.fault.ScriptFault.{ScriptFault}
use Rattle.programs.specs.declared.script.fault.ScriptFault.TheVariants.{Line, NoMemory}

-- the cause in plain words
abbrev pub cause_text : Cause → List ℕ
cause_text NoAlphabet = codes "no alphabet at the beginning"
cause_text UnknownLine = codes "an unknown first word"
cause_text OtherWords = codes "other words than the line wants"
cause_text OutOfPlace = codes "a line out of place"
cause_text NoEnd = codes "rules without their end"

-- the malformed line of this number
abbrev pub malformed_text : ℕ → Cause → List ℕ
malformed_text number cause = codes "line " ++ (decimal number ++ (codes ": " ++ cause_text cause))

-- the fault; nothing is said of the words for the allocator's
abbrev pub script_fault_text : ScriptFault → Option (List ℕ)
script_fault_text (Line number cause) = Some (malformed_text number cause)
script_fault_text (NoMemory e) = None

-- the allocator's error, as the script's
abbrev pub no_memory : AllocError → ScriptFault
no_memory e = NoMemory e
