use Rattle.std.proofs.Common.{◌≡◌, length, drop, rules}
use Rattle.text.specs.Outcomes.{line, line_said, in_nine}
use Rattle.text.specs.Words.{words}
use Rattle.text.proofs.Within.{line_limits}
use Rattle.text.proofs.reader.rule_line.Goals as goal

pub returns-in_err-head-clause-limits : goal.returns-in_err-head-clause-limits
returns-in_err-head-clause-limits c =
    let means : line_said c.from_residual.result ≡ in_nine (line (length c.args.text.now) (words c.args.from (drop c.args.from c.args.text.now))) = search rules in
    line_limits c.args.text.now c.args.from c.from_residual.result means

pub returns-in_err-line-clause-limits : goal.returns-in_err-line-clause-limits
returns-in_err-line-clause-limits c =
    let means : line_said c.from_residual-in_err-line.result ≡ in_nine (line (length c.args.text.now) (words c.args.from (drop c.args.from c.args.text.now))) = search rules in
    line_limits c.args.text.now c.args.from c.from_residual-in_err-line.result means
