use Rattle.std.proofs.Common.{ap, ◌∙◌}
use Rattle.programs.specs.Spelling.{texts_left}
use Rattle.programs.proofs.ScriptWords.{numbers_behind, numbers_stop, numbers_more, numbers_end, numbers_none}
use Rattle.programs.proofs.script.words.bytes.Goals as goal

pub loop-word-init : goal.loop-word-init
loop-word-init c = ap (λ ns. numbers_behind 255 ns (texts_left c.args.words)) c.new-bytes.ensures.items ∙ numbers_none 255 (texts_left c.args.words)

pub loop-word-preserved : goal.loop-word-preserved
loop-word-preserved c =
    ap (λ ns. numbers_behind 255 ns (texts_left c.next_word.new.words)) c.in_ok-push.ensures.items
    ∙ numbers_more 255 c.loop-word.bytes.items (texts_left c.loop-word.words) c.in-Some.word.now (texts_left c.next_word.new.words) c.in-Some-number.byte c.in-Some.ensures c.in-Some-number.ensures.said
    ∙ c.loop-word.invariant

pub returns-in_default-number : goal.returns-in_default-number
returns-in_default-number c =
    numbers_stop 255 c.loop-word.bytes.items (texts_left c.loop-word.words) c.in-Some.word.now (texts_left c.next_word.new.words) c.in-Some.ensures c.in_default-number.ensures.said ∙ c.loop-word.invariant

pub returns : goal.returns
returns c = numbers_end 255 c.loop-word.bytes.items (texts_left c.loop-word.words) c.in_default.ensures ∙ c.loop-word.invariant
