use Rattle.std.proofs.Common.{refl}
use Rattle.text.proofs.Spelled.{token_digits}
use Rattle.text.proofs.tokens.cost_of.Goals as goal

pub lettered_number-requires : goal.lettered_number-requires
lettered_number-requires c = token_digits c.args.token _ c.requires c.in-Cost.is refl
