use Rattle.std.proofs.Common.{rules, tests, ◌≡◌, ◌∙◌, sym, subst, ap, map}
use Rattle.std.proofs.lemmas.Result.{IfOk-at_ok}
use Rattle.std.proofs.lemmas.Iterator.Consumers.{map_from_collect}
use Rattle.std.proofs.lemmas.Iterator.Splits.{YieldsList-from_slice_split}
use Rattle.std.specs.List.{slice_split}
use Rattle.cases.specs.Blocks.{texts, with_ends, NoEnds}
use Rattle.cases.proofs.Parting.{is_end, refused, other_last, this_last, parts_end, parts_none}
use Rattle.cases.proofs.blocks.blocks.Goals as goal

pub returns-in_err-inner-clause-parted : goal.returns-in_err-inner-clause-parted
returns-in_err-inner-clause-parted c =
    let none = c.in_err-inner.ensures.ok_part in
    let cases = c.strip_suffix.ensures.cases in
    refused (texts c.args.lines.now) c.from_residual.result c.from_residual.ensures.0 (other_last c.args.lines.now _ (rw none at cases))

pub returns-clause-parted : goal.returns-clause-parted
returns-clause-parted c =
    let inner = c.in_ok-inner.inner in
    let cases = rw c.in_ok-inner.ensures.ok_part at c.strip_suffix.ensures.cases in
    let cut : map (λ b. b.now) c.in_ok-collect.field-0.items ≡ slice_split is_end inner.now =
    IfOk-at_ok _ c.in_ok-collect.was (map_from_collect _ c.collect.ensures.ran
    (YieldsList-from_slice_split _ is_end inner.now c.split.ensures.rest c.split.ensures.done c.split.ensures.closure (λ x r q k. search (rules, tests)))) in
    let kept = ap (map texts) cut in (
      this_last c.args.lines.now inner.now _ cases.0 cases.1 ∙ sym (parts_end inner.now) ∙ sym (ap with_ends kept),
      subst NoEnds (sym kept) (parts_none inner.now),
    )
