use Rattle.std.proofs.Common.{refl}
use Rattle.text.proofs.Spelled.{token_digits}
use Rattle.text.proofs.tokens.misplaced.Goals as goal

pub lettered_refusal-requires : goal.lettered_refusal-requires
lettered_refusal-requires c = token_digits c.args.token _ c.requires c.in-Head.is refl

pub lettered_refusal-requires-in-Pattern : goal.lettered_refusal-requires-in-Pattern
lettered_refusal-requires-in-Pattern c = token_digits c.args.token _ c.requires c.in-Pattern.is refl

pub lettered_refusal-requires-in-Cost : goal.lettered_refusal-requires-in-Cost
lettered_refusal-requires-in-Cost c = token_digits c.args.token _ c.requires c.in-Cost.is refl
