use Rattle.std.proofs.Common.{rules}
use Rattle.std.proofs.lemmas.List.Sorted.{answers_always}
use Rattle.std.specs.Ordering.{partial_lt}
use Rattle.vectors.proofs.order.ascending.Goals as goal

pub returns : goal.returns
returns g c =
    let answer = c.is_sorted_by.ensures.cases (partial_lt g.T.PartialOrd.partial_cmp) (answers_always _ _ _ (λ f a r f' k. search rules)) in
    search answer
