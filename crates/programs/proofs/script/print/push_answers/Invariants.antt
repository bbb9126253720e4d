use Rattle.std.proofs.Common.{◌≡◌, ◌++◌, map, take, string_bytes}
use Rattle.grammar.specs.Lists.{each}
use Rattle.replay.specs.Answers.{said}
use Rattle.programs.specs.Printed.{answer_text}
use Rattle.programs.proofs.script.print.push_answers.Given as goal

-- the answers so far
abbrev pub invariant-loop-answer : goal.invariant-loop-answer
invariant-loop-answer l = string_bytes l.out ≡ string_bytes l.fn.out ++ each answer_text (map said (take l.answer-index l.answers))
