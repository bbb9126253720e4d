-- What a node table holds after nodes were written into it.
use Rattle.std.proofs.Common.{◌≡◌, ℕ, ◌+◌, ◌-◌, ◌<◌, ◌≤◌, min, cond, List, length, get_or, take, drop, ap, ◌∙◌, inl, inr, arith, length-append, length-drop, length-take, get_or-drop, get_or-take}
use lib.ListN.{get_or-append}
use Rattle.std.proofs.lemmas.List.{get_or-append_right}
use Rattle.std.proofs.lemmas.Bool.{le-leb, lt-leb}
use Rattle.grammar.specs.Nodes.{Node}
use Rattle.grammar.specs.Answers.{limit, filled, number, refused}
use Rattle.grammar.specs.Promises.{TableAfter}

module _ (ks t : List Node) where
  abbrev most : ℕ
  most = limit (length t)

  front : length (take most ks) ≡ min most (length ks)
  front = length-take most ks

  same_length : length (filled ks t) ≡ length t
  same_length =
      length-append (take most ks) (drop (min most (length ks)) t)
      ∙ (let a = front in let b = length-drop (min most (length ks)) t in omega arith)

  written : (k : ℕ) (d : Node) → k < length ks → k < 65535 → k < length t → get_or (filled ks t) k d ≡ get_or ks k d
  written k d h i j =
      get_or-append (take most ks) (drop (min most (length ks)) t) d k (let a = front in omega arith) ∙ get_or-take most ks k d (omega arith)

  as_before : (k : ℕ) (d : Node) → min most (length ks) ≤ k → get_or (filled ks t) k d ≡ get_or t k d
  as_before k d h =
      get_or-append_right (take most ks) (drop (min most (length ks)) t) (min most (length ks)) k d front h
      ∙ get_or-drop (min most (length ks)) t (k - min most (length ks)) d
      ∙ ap (λ n. get_or t n d) (let e : min most (length ks) + (k - min most (length ks)) ≡ k = omega arith in e)

pub tables : (ks t : List Node) → TableAfter ks t
tables ks t = record {
  same_length = same_length ks t;
  written = written ks t;
  as_before = λ k d h. as_before ks t k d (elim h [ inl a ↦ omega arith | inr b ↦ omega arith ]);
  is_number = λ h i. ap (λ b. cond b (number (length ks)) (refused 13)) (le-leb (length ks) (limit (length t)) (omega arith));
  is_refused = λ h. ap (λ b. cond b (number (length ks)) (refused 13))
      (lt-leb (length ks) (limit (length t)) (elim h [ inl a ↦ omega arith | inr b ↦ omega arith ]));
}
