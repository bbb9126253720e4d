use Rattle.grammar.proofs.Nodes.{events_length, told_by_nodes}
use Rattle.grammar.proofs.NodeSpans.{spans, within}
use Rattle.grammar.proofs.told.Goals as goal

pub returns : goal.returns
returns g c = λ W fits x r w d. record {
  many = events_length W fits d;
  spans = λ k m. (spans W fits d 0 k m, within W fits d k m);
  tells = λ q e i. told_by_nodes W fits 0 d e i;
}
