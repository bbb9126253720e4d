use Rattle.std.proofs.Common.{◌-◌, Ok, Err, length, refl, arith}
use Rattle.std.proofs.lemmas.List.{length-take-le}
use Rattle.chart.specs.declared.fault.WithdrawFault.TheVariants.{TooMany}
use Rattle.chart.specs.Events.{chart_book, chart_fits}
use Rattle.chart.proofs.Running.{too_many, not_too_many, front_held, withdraw_runs}
use Rattle.chart.proofs.chart.Chart.withdraw.Goals as goal

pub returns-clause-withdrawn : goal.returns-clause-withdrawn
returns-clause-withdrawn g c =
    let was = c.args.self.now in
    let k = c.args.k in (
      not_too_many was.events k c.if-k-self.false,
      omega arith,
      omega arith,
      (λ es h. record {
        many = omega (arith, length-take-le (length es - k) es (omega arith), h.many);
        chart = front_held (chart_book was) g.W.Weighing.ops (chart_fits g.A.Alphabet.test was) es (length es - k) was.weights.now (omega arith) h.chart;
      }),
    )

pub returns-clause-runs : goal.returns-clause-runs
returns-clause-runs g c = withdraw_runs g.W.Weighing.ops g.A.Alphabet.test c.args.k c.args.self.now _ (Ok _) (returns-clause-withdrawn g c) refl refl

pub returns-then-k-self-clause-runs : goal.returns-then-k-self-clause-runs
returns-then-k-self-clause-runs g c =
    let was = c.args.self.now in
    withdraw_runs g.W.Weighing.ops g.A.Alphabet.test c.args.k was was (Err TooMany) (too_many was.events c.args.k (omega (arith, c.if-k-self.true)), refl) refl refl
